-- Tell as a host call (01, Tell; Host calls): the 25 bytes, the entry that they are put into, and the reply.
-- Assumes nothing.
use Prim.Native.Nat.{ℕ, ◌/◌, ◌%◌, ◌≤◌, ◌<◌}
use native.Mathlib.Nat.{zero-add}
use mathlib.Core.Path.{◌≡◌, ap, ap₂, sym, ◌∙◌}
use mathlib.Core.List.{[], ◌∷◌, ◌++◌, map}
use borrow.Rule.Slice.PartMut.{put_mid}
use lib.ListN.{length, drop, get_or, set}
use lib.Seq.{ext_get_or}
use lib.Dec.{leb}
use borrow.Author.Tests.{le-leb, lt-leb}
use Rattle.d64spec.specs.Lists.{Bytes, range, splice, zeros}
use Rattle.d64spec.specs.Answers.{wrong_buffer, Result, done, ◌>>=◌, ◌>>◌, need}
use Rattle.d64spec.specs.Geometry.{Geometry}
use Rattle.d64spec.specs.Reply.{Change, reply}
use Rattle.d64spec.specs.Read.{FileInformation as Information, call_tell}
use Rattle.d64spec.specs.Host.{little_endian}
use Rattle.d64spec.proofs.ListLaws.{get_or-map-range}
use Rattle.std.specs.Prelude.{Err, Ok, IsErrAnd, Result as CodeResult}
use Rattle.answers.specs.Faults.{fault_of, result_of, called_answer, reported, reply_of}
use Rattle.answers.specs.declared.Done.{Done}
use Rattle.answers.specs.declared.Fault.{Fault}
use Rattle.answers.specs.declared.Fault.TheVariants.{WrongBuffer}
use Rattle.answers.proofs.AnswerLaws.{four-low-first}
use Rattle.reading.specs.Replies.{information_of}
use Rattle.reading.specs.declared.FileInformation.{FileInformation}
use Rattle.d64.specs.HostForms.{entry_bytes, tell_into}
use Rattle.d64.proofs.HostLaws.{refused-replied}

-- ---- the 25 bytes

-- sixteen bytes, one by one
sixteen : (l : Bytes) → length l ≡ 16 → map (λ i. get_or l i 0) (range 0 16) ≡ l
sixteen l full = ext_get_or 0 (map (λ i. get_or l i 0) (range 0 16)) l (sym full)
    (λ i h. get_or-map-range (λ i. get_or l i 0) 0 16 i 0 h ∙ ap (λ k. get_or l k 0) (zero-add i))

-- the 25 bytes as the code has them: the name byte by byte, each byte of a number from the whole number
pub entry-bytes-of : (i : Information) → length i.name_bytes ≡ 16 → ◌≡◌ {A = Bytes}
    (i.type_byte ∷ (map (λ j. get_or i.name_bytes j 0) (range 0 16) ++ (i.first_track ∷ i.first_sector ∷ i.sector_count % 256 ∷ i.sector_count / 256 % 256
    ∷ i.byte_length % 256 ∷ i.byte_length / 256 % 256 ∷ i.byte_length / 65536 % 256 ∷ i.byte_length / 16777216 % 256 ∷ [])))
    (entry_bytes i)
unfolding entry_bytes
entry-bytes-of i full =
    ap₂ (λ name n. i.type_byte ∷ (name ++ (i.first_track ∷ i.first_sector ∷ (little_endian 2 i.sector_count ++ n))))
    (sixteen i.name_bytes full)
    (four-low-first i.byte_length)

-- the same put together: the name, the count and the length copied into 25 zeros
module _ (i : Information) (full : length i.name_bytes ≡ 16) where
  pub entry-copied : {name count size : Bytes} → name ≡ i.name_bytes → count ≡ (i.sector_count % 256 ∷ i.sector_count / 256 % 256 ∷ [])
      → size ≡ (i.byte_length % 256 ∷ i.byte_length / 256 % 256 ∷ i.byte_length / 65536 % 256 ∷ i.byte_length / 16777216 % 256 ∷ [])
      → put_mid 21 4 (put_mid 19 2 (set (set (put_mid 1 16 (set (zeros 25) 0 i.type_byte) name) 17 i.first_track) 18 i.first_sector) count) size
      ≡ entry_bytes i
  entry-copied {name} {count} {size} named counted sized = rw (counted, sized, named ∙ sym (sixteen i.name_bytes full)) (entry-bytes-of i full)

-- ---- the reply

module _ (g : Geometry) (img entry : Bytes) (position : ℕ) where
  -- what was refused leaves the entry
  pub tell-refused : (f : Fault) (outcome : CodeResult Done Fault) → result_of information_of (Err f) ≡ call_tell g img position
      → IsErrAnd outcome (λ e. e ≡ f) → reply_of outcome img entry ≡ reply img entry (tell_into g img position entry)
  unfolding result_of tell_into
  tell-refused f outcome e passed = refused-replied f outcome passed img entry ∙ ap (λ (x : Result Information). reply img entry (x >>= put)) e
    where
      put : Information → Result Change
      put i = need (leb 25 (length entry)) wrong_buffer >>
          done (record { image_after = img; output_after = splice entry 0 (entry_bytes i); reported_length = 0; reported_sectors = 0 })

  module _ (i : FileInformation) (told : result_of information_of (Ok i) ≡ call_tell g img position) where
    -- so does an entry that is too short
    pub tell-short : length entry < 25 → reply_of (Err WrongBuffer) img entry ≡ reply img entry (tell_into g img position entry)
    unfolding result_of tell_into reply called_answer reported fault_of
    tell-short short = rw (← told, lt-leb 25 (length entry) short)

    -- the bytes copied to the start of the entry, and a report of 0 and 0
    pub tell-filled : 25 ≤ length entry → {bs front : Bytes} {d : Done} → bs ≡ entry_bytes (information_of i) → front ≡ bs → length bs ≡ 25
        → (d.length ≡ 0) × (d.sectors ≡ 0)
        → reply_of (Ok d) img (front ++ drop 25 entry) ≡ reply img entry (tell_into g img position entry)
    unfolding result_of tell_into reply called_answer reported
    tell-filled fits built copied size none = rw (← told, le-leb 25 (length entry) fits, none.0, none.1, copied, ← built, size, zero-add)
