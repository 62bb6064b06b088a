-- Replies (01, Answer numbers; Read; Tell): what each call of the definitions answers, refusal by refusal, and that the code's report says the same.
-- In order: the reading of a chain; read; tell. What all calls share: answers RefusedLaws.
use Prim.Native.Nat.{ℕ, ◌*◌, ◌≤◌, ◌<◌}
use mathlib.Core.Path.{◌≡◌, refl, sym, ap, ◌∙◌}
use mathlib.Core.Bool.{Bool, true, false}
use lib.ListN.{length, drop}
use Rattle.std.specs.Prelude.{Result, Ok, Err}
use borrow.Author.Tests.{le-leb, lt-leb}
use Rattle.d64spec.specs.Lists.{Bytes, byte}
use Rattle.d64spec.specs.Answers.{Address, Fault, refused, done, wrong_size, bad_name_argument, not_found, wrong_buffer, ◌>>◌, need, first}
use Rattle.d64spec.specs.Geometry.{Geometry, total}
use Rattle.d64spec.specs.Image.{disk}
use Rattle.d64spec.specs.Directory.{File, files, name_field, count_of}
use Rattle.d64spec.specs.Check.{DirectoryContents, right_size, check_disk, check_image}
use Rattle.d64spec.specs.Reply.{Reply, reply, valid_name_argument, files_named}
use Rattle.d64spec.specs.Read.{call_read, FileInformation as Information, call_tell, tell_reply, no_information}
use Rattle.d64spec.specs.Call.{read, perform, attempt, output_buffer}
use Rattle.d64spec.proofs.ResultLaws.{need-done}
use Rattle.answers.specs.declared.Fault as code
use Rattle.answers.specs.declared.Done.{Done}
use Rattle.answers.specs.Faults.{fault_of, result_of, verdict_of, answer_to, called_answer, reported, reply_of}
use Rattle.answers.proofs.RefusedLaws.{refused-reply, call-refused, size-true, size-false, check-sized}
use Rattle.reading.specs.declared.FileInformation.{FileInformation}
use Rattle.reading.specs.declared.Told.{Told}
use Rattle.reading.specs.declared.TheConstants.{NOTHING}
use Rattle.reading.specs.FileSlots.{first_of}
use Rattle.reading.specs.ChainReads.{sectors_from, data_from, ChainCopied}
use Rattle.reading.specs.Replies.{read_from, told_of, information_of, tell_reply_of}

-- ---- the reading of a chain

module _ (g : Geometry) (img out : Bytes) (r : Address) where
  read_short : length out < length (data_from g img r) → read_from g img out r ≡ refused wrong_buffer
  unfolding read_from
  read_short h = rw (lt-leb (length (data_from g img r)) (length out) h)

  -- an output too short for the data
  pub short-reply : length out < length (data_from g img r) → reply_of (Err code.TheVariants.WrongBuffer) img out ≡ reply img out (read_from g img out r)
  unfolding fault_of
  short-reply h = refused-reply code.TheVariants.WrongBuffer refl (read_short h)

  -- an output with room for them
  pub whole-reply : {size k : ℕ} {out' : Bytes} → length (data_from g img r) ≤ length out → ChainCopied g img out r k out' → size ≡ length (data_from g img r)
      → reply_of (Ok (record { length = size; sectors = k })) img out' ≡ reply img out (read_from g img out r)
  unfolding read_from reply called_answer reported
  whole-reply h copied long = rw (le-leb (length (data_from g img r)) (length out) h) (rw (copied.output, copied.sectors, long))

-- ---- the telling of an entry

module _ (b : Bytes) where
  pub told_of_lem : (g : Geometry) (img : Bytes) {n : Bytes} {count size : ℕ} → n ≡ name_field b → count ≡ count_of b → size ≡ length (data_from g img (first_of b))
      → information_of (record { type_byte = byte b 0; name = n; track = byte b 1; sector = byte b 2; count = count; length = size }) ≡ told_of g img b
  unfolding told_of
  told_of_lem g img named counted long = rw (named, counted, long)

-- ---- read

module _ (g : Geometry) (img name out : Bytes) where
  pub read-size : (length img ≡ 256 * total g → ⊥) → call_read g img name out ≡ refused wrong_size
  unfolding call_read
  read-size h = rw (size-false g img h)

  module _ (size : length img ≡ 256 * total g) where
    pub read_name : valid_name_argument name ≡ false → call_read g img name out ≡ refused bad_name_argument
    unfolding call_read
    read_name asked = rw (size-true g img size, asked)

    module _ (asked : valid_name_argument name ≡ true) where
      pub read-fault : {f : Fault} → check_image g img ≡ refused f → call_read g img name out ≡ refused f
      unfolding call_read
      read-fault e = rw (size-true g img size, asked, check-sized g img (size-true g img size) e)

      module _ {c : DirectoryContents} (checked : check_image g img ≡ done c) where
        pub read_none : first not_found (files_named name (files g (disk img))) ≡ refused not_found → call_read g img name out ≡ refused not_found
        unfolding call_read
        read_none e = rw (size-true g img size, asked, check-sized g img (size-true g img size) checked, e)

        pub read_some : {f : File} (r : Address) → first not_found (files_named name (files g (disk img))) ≡ done f → f.sectors ≡ sectors_from g img r
            → call_read g img name out ≡ read_from g img out r
        unfolding call_read read_from data_from
        read_some r e sectors = rw (size-true g img size, asked, check-sized g img (size-true g img size) checked, e, sectors)

  -- THE REPLY TO A READ that is refused
  pub read-refused : {r : Result Done code.Fault} (f : code.Fault) → r ≡ Err f → call_read g img name out ≡ refused (fault_of f)
      → reply_of r img out ≡ perform g img (read name out)
  unfolding attempt output_buffer
  read-refused f e k = call-refused g img (read name out) f e k

  -- THE REPLY TO A READ of the chain that starts at r
  pub read-replied : {x : Reply} (r : Address) → call_read g img name out ≡ read_from g img out r → x ≡ reply img out (read_from g img out r)
      → x ≡ perform g img (read name out)
  unfolding perform attempt output_buffer
  read-replied r e k = k ∙ ap (reply img out) (sym e)

-- ---- tell

module _ (g : Geometry) (img : Bytes) (position : ℕ) where
  pub tell-fault : {f : Fault} → check_image g img ≡ refused f → call_tell g img position ≡ refused f
  unfolding call_tell check_image
  tell-fault {f} e = go (right_size g img) refl e
    where
      go : (b : Bool) → right_size g img ≡ b → (need b wrong_size >> check_disk g (disk img)) ≡ refused f
          → call_tell g img position ≡ refused f
      go true size c = rw (size, c)
      go false size c = let same : wrong_size ≡ f = cc in rw (size, same)

  module _ {c : DirectoryContents} (checked : check_image g img ≡ done c) where
    sound : (right_size g img ≡ true) × (check_disk g (disk img) ≡ done c)
    unfolding check_image
    sound = need-done (right_size g img) wrong_size (check_disk g (disk img)) c checked

    pub tell_none : first not_found (drop position (files g (disk img))) ≡ refused not_found → call_tell g img position ≡ refused not_found
    unfolding call_tell
    tell_none e = rw (sound.0, sound.1, e)

    pub tell_some : {f : File} → first not_found (drop position (files g (disk img))) ≡ done f → f.sectors ≡ sectors_from g img (first_of f.slot.bytes)
        → call_tell g img position ≡ done (told_of g img f.slot.bytes)
    unfolding call_tell told_of data_from
    tell_some e sectors = rw (sound.0, sound.1, e, sectors)

  -- A TELL that is refused
  pub tell-refused : {r : Result FileInformation code.Fault} (f : code.Fault) → r ≡ Err f → call_tell g img position ≡ refused (fault_of f)
      → result_of information_of r ≡ call_tell g img position
  unfolding result_of
  tell-refused f e k = rw e (sym k)

  -- A TELL that is done
  pub tell-done : (i : FileInformation) {x : Information} → call_tell g img position ≡ done x → information_of i ≡ x
      → result_of information_of (Ok i) ≡ call_tell g img position
  unfolding result_of
  tell-done i e k = ap done k ∙ sym e

  -- THE REPLY TO A TELL, answered by its result: all zero if refused
  pub tell-replied : (r : Result FileInformation code.Fault) (t : Told) → tell_reply_of t ≡ tell_reply (result_of information_of r)
      → result_of information_of r ≡ call_tell g img position
      → tell_reply_of t ≡ tell_reply (call_tell g img position)
  tell-replied r t is e = is ∙ ap tell_reply e

-- what is told of a result: the information, or zeros beside the fault
pub told-done : (i : FileInformation) → tell_reply_of (record { verdict = Ok tt; information = i }) ≡ tell_reply (result_of information_of (Ok i))
unfolding tell_reply result_of answer_to verdict_of
told-done i = refl

pub told-refused : (f : code.Fault) → tell_reply_of (record { verdict = Err f; information = NOTHING }) ≡ tell_reply (result_of information_of (Err f))
unfolding tell_reply no_information result_of answer_to verdict_of
told-refused f = refl

pub ruleset told = (told-done, told-refused)
