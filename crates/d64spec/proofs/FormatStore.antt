-- The longest file: on a formatted disk of 35 tracks a store of 168,656 bytes is done, and one of 168,657 gives 15 (01, Examples); of 40 tracks 190,246 bytes
-- are stored, and one more gives 15 (02, §8: 749 free off track 18).
use Prim.Native.Nat.{ℕ, zero, suc}
use native.Mathlib.Omega.{arith}
use mathlib.Core.Path.{◌≡◌, refl, ap, ◌∙◌}
use mathlib.Core.Logic.{∥∥₁_elim}
use mathlib.Core.List.{List, [], ◌∷◌, map, Memᴰ}
use lib.ListN.{length}
use Rattle.d64spec.specs.Lists.{Bytes}
use Rattle.d64spec.specs.Answers.{done}
use Rattle.d64spec.specs.Geometry.{Geometry, Valid}
use Rattle.d64spec.specs.Layouts.{layout_numbered, sizes_of}
use Rattle.d64spec.specs.Image.{disk}
use Rattle.d64spec.specs.Directory.{File, files, plain_entry_of, plain_list}
use Rattle.d64spec.specs.Rules.{IsStorableKind, IsName}
use Rattle.d64spec.specs.Owner.{free_for_files}
use Rattle.d64spec.specs.Format.{call_format}
use Rattle.d64spec.specs.Store.{sectors_needed}
use Rattle.d64spec.specs.Call.{attempt, format, output_buffer, perform, store}
use Rattle.d64spec.specs.Exact.{Admitted, HasFile, NoSlot}
use Rattle.d64spec.proofs.RefusalLaws.{zero-change}
use Rattle.d64spec.proofs.RuleLaws.{version-exact}
use Rattle.d64spec.proofs.LayoutLaws.{known}
use Rattle.d64spec.proofs.FormatTheorem.{format-answered, format-free, format-free17}
use Rattle.d64spec.proofs.RoomLaws.{some-slot}
use Rattle.d64spec.proofs.ExactTheorem.{store-exact, store-15}

-- 254 bytes for each of the free sectors need all of them, and one byte more needs one more
needed-all : (n : ℕ) → sectors_needed (sizes_of n).longest_file ≡ (sizes_of n).free_sectors
unfolding sectors_needed
needed-all zero = refl
needed-all (suc n) = refl

needed-more : (n : ℕ) → sectors_needed (suc (sizes_of n).longest_file) ≡ suc (sizes_of n).free_sectors
unfolding sectors_needed
needed-more zero = refl
needed-more (suc n) = refl

-- no file stands in an empty plain list
no-file : (g : Geometry) (img name : Bytes) → plain_list g (disk img) ≡ [] → HasFile g img name → ⊥
unfolding plain_list
no-file g img name e h = ∥∥₁_elim h.there (λ a b. absurd a) (λ m. none (files g (disk img)) m e)
  where
    none : (l : List File) → Memᴰ h.file l → map (plain_entry_of g (disk img)) l ≡ [] → ⊥
    none [] m z = elim m [ ]
    none (f ∷ l) m z = let y : ◌≡◌ {A = ℕ} 0 1 = cc in omega arith

module _ (n : ℕ) (g : Geometry) (named : layout_numbered n ≡ done g) (img name : Bytes) (id1 id2 : ℕ)
    (formatted : (perform g img (format name id1 id2)).answer.number ≡ 0)
    (file : Bytes) (kind : ℕ) (bytes : Bytes) (is_name : IsName file) (is-kind : IsStorableKind kind) where
  -- the formatted image
  abbrev after : Bytes
  after = (perform g img (format name id1 id2)).change.image_after

  format-is : call_format g img name id1 id2 ≡ done (perform g img (format name id1 id2)).change
  unfolding perform attempt output_buffer
  format-is = zero-change img [] (call_format g img name id1 id2) formatted

  valid : Valid g
  valid = (known n g named).valid

  admitted : Admitted g after file kind
  admitted =
      let r = (format-answered g valid img name id1 id2 formatted).ready in
      record {
        accepted = r.accepted;
        name_valid = is_name;
        kind_valid = is-kind;
        may_write = (version-exact g (disk after)).0 r.writable;
        absent = no-file g after file r.bare;
      }

  slots : NoSlot g (disk after) → ⊥
  slots = (some-slot g (disk after)).1 (omega (arith, format-free17 n g named img name id1 id2 (perform g img (format name id1 id2)).change format-is))

  sectors : length (free_for_files g (disk after)) ≡ (sizes_of n).free_sectors
  sectors = format-free n g named img name id1 id2 (perform g img (format name id1 id2)).change format-is

  -- 168,656 OR 190,246 BYTES ARE STORED
  pub longest-file : length bytes ≡ (sizes_of n).longest_file → (perform g after (store file kind bytes)).answer.number ≡ 0
  longest-file e =
      let k : sectors_needed (length bytes) ≡ (sizes_of n).free_sectors = ap sectors_needed e ∙ needed-all n in
      (store-exact g valid after file kind bytes).1 (record { admitted = admitted; slot = slots; sectors = omega (arith, sectors) })

  -- ONE BYTE MORE GIVES 15
  pub one-byte-more : length bytes ≡ suc (sizes_of n).longest_file → (perform g after (store file kind bytes)).answer.number ≡ 15
  one-byte-more e =
      let k : sectors_needed (length bytes) ≡ suc (sizes_of n).free_sectors = ap sectors_needed e ∙ needed-more n in
      (store-15 g valid after file kind bytes).1 (admitted, slots, omega (arith, sectors))
