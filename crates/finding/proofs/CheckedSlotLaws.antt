-- The slots of a checked image (01, Order of the check; Read; Tell): where the search for a slot ends, the definitions find this file.
-- In order: track 18; the checked image; its files; the file of a name; the file at a position.
use Prim.Native.Nat.{ℕ, ◌*◌}
use native.Mathlib.Omega.{arith}
use mathlib.Core.Path.{◌≡◌, refl, sym, ap, ◌∙◌}
use mathlib.Core.Bool.{true, false}
use mathlib.Core.List.{List, [], ◌∷◌, map}
use lib.ListN.{length, take, drop}
use lib.Dec.{eqb}
use borrow.Author.Tests.{ne_eqb}
use Rattle.std.specs.Prelude.{Option, Some, None, is_none}
use Rattle.d64spec.specs.Lists.{Bytes, All}
use Rattle.d64spec.specs.Answers.{Fault, not_found, refused, done, first}
use Rattle.d64spec.specs.Geometry.{Geometry}
use Rattle.d64spec.specs.Image.{disk}
use Rattle.d64spec.specs.Directory.{File, valid_name, file_of, files}
use Rattle.d64spec.specs.Accepted.{ValidEntry}
use Rattle.d64spec.specs.Reply.{valid_name_argument, files_named}
use Rattle.d64spec.proofs.ResultLaws.{refused≢done}
use Rattle.d64spec.specs.Layouts.{Known}
use Rattle.directory.specs.Directories.{found}
use Rattle.diskcheck.specs.declared.Checked.{Checked}
use Rattle.diskcheck.specs.SlotChecks.{image_occupied}
use Rattle.diskcheck.specs.ImageChecks.{IsChecked}
use Rattle.diskcheck.proofs.TrackLaws.{track18-lent}
use Rattle.diskcheck.proofs.CheckedLaws.{fine-image}
use Rattle.finding.specs.FileSlots.{slot_named, slot_placed, CheckedSlots}
use Rattle.finding.proofs.FindLaws.{file_found, files_from, named-found, placed-found}

-- track 18 as the code lends it
abbrev pub lent_track18 : Bytes → Bytes
lent_track18 img = take 4864 (drop 91392 img)

all_of_map : {A B : Type 0} (P : B → Type 0) (Q : A → Type 0) (f : A → B) → ((x : A) → P (f x) → Q x) → (l : List A) → All P (map f l) → All Q l
all_of_map P Q f h [] a = tt
all_of_map P Q f h (x ∷ l) a = (h x a.0, all_of_map P Q f h l a.1)

-- a list without a first element, and one with
none_first : {A : Type 0} (f : Fault) (l : List A) → first f l ≡ refused f → eqb (length l) 0 ≡ true
unfolding first
none_first f [] e = refl
none_first f (x ∷ l) e = refused≢done f x (sym e)

some_first : {A : Type 0} (f : Fault) (l : List A) {x : A} → first f l ≡ done x → eqb (length l) 0 ≡ false
unfolding first
some_first f [] {x} e = refused≢done f x e
some_first f (y ∷ l) e = ne_eqb (length (y ∷ l)) 0 (omega arith)

module _ (g : Geometry) (kn : Known g) where
  -- A CHECKED IMAGE without a fault, as the check hands it back
  pub checked-slots : {img : Bytes} {r : Checked} → IsChecked g img r → CheckedSlots g img r.sectors (8 * r.count)
  checked-slots checked =
      let fine = fine-image g kn checked in
      record {
        size = fine.accepted.size;
        accepted = fine.accepted;
        contents = fine.contents;
        occupied = fine.occupied;
        inside = checked.inside;
        few = omega (arith, checked.few);
      }

  module _ {img : Bytes} {ss : List ℕ} {end : ℕ} (there : CheckedSlots g img ss end) where
    pub files-found : files g (disk img) ≡ files_from g img ss 0 end
    unfolding files
    files-found = ap (map (file_of g (disk img))) there.occupied

    pub names-valid : All (λ s. valid_name s.bytes ≡ true) (image_occupied g img ss 0 end)
    unfolding file_of
    names-valid =
        all_of_map (ValidEntry g (disk img)) (λ s. valid_name s.bytes ≡ true) (file_of g (disk img)) (λ s v. v.name) (image_occupied g img ss 0 end)
        (rw files-found at there.accepted.content.entry)

    -- THE FILE OF A NAME
    pub by_name : (name : Bytes) → valid_name_argument name ≡ true → {r : Option ℕ} → r ≡ found end (slot_named (lent_track18 img) ss name 0 end)
        → first not_found (files_named name (files g (disk img))) ≡ file_found g img ss r
    by_name name asked is =
        ap (λ (l : List File). first not_found (files_named name l)) files-found
        ∙ named-found g img ss name asked end end 0 (omega arith) names-valid
        ∙ ap (file_found g img ss) (sym (is ∙ ap (λ (b : Bytes). found end (slot_named b ss name 0 end)) (track18-lent g kn img)))

    -- whether a file has the name
    pub name_free : (name : Bytes) → valid_name_argument name ≡ true → (r : Option ℕ) → r ≡ found end (slot_named (lent_track18 img) ss name 0 end)
        → is_none r ≡ eqb (length (files_named name (files g (disk img)))) 0
    name_free name asked None is = sym (none_first not_found (files_named name (files g (disk img))) (by_name name asked is))
    name_free name asked (Some k) is = sym (some_first not_found (files_named name (files g (disk img))) (by_name name asked is))

    -- THE FILE AT A POSITION
    pub by-position : (position : ℕ) → {r : Option ℕ} → r ≡ found end (slot_placed (lent_track18 img) ss position 0 end)
        → first not_found (drop position (files g (disk img))) ≡ file_found g img ss r
    by-position position is =
        ap (λ (l : List File). first not_found (drop position l)) files-found
        ∙ placed-found g img ss end end position 0 (omega arith)
        ∙ ap (file_found g img ss) (sym (is ∙ ap (λ (b : Bytes). found end (slot_placed b ss position 0 end)) (track18-lent g kn img)))
