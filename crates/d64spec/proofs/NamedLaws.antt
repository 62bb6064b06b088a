-- The files of a name: on an accepted disk a name finds its one file.
use Prim.Native.Nat.{◌≤◌}
use native.Mathlib.Omega.{arith}
use mathlib.Core.Path.{◌≡◌, refl, sym, ap, ◌∙◌}
use mathlib.Core.Bool.{Bool, true, false}
use mathlib.Core.List.{List, [], ◌∷◌, map, Memᴰ}
use lib.ListN.{length}
use Rattle.d64spec.specs.Lists.{Bytes, equal, indicator, name_count}
use Rattle.d64spec.specs.Answers.{Fault, done, first, not_found}
use Rattle.d64spec.specs.Geometry.{Geometry}
use Rattle.d64spec.specs.Image.{Disk}
use Rattle.d64spec.specs.Directory.{File, files}
use Rattle.d64spec.specs.Accepted.{AcceptedDisk}
use Rattle.d64spec.specs.Reply.{files_named}
use Rattle.d64spec.proofs.ListLaws.{equal-refl}
use Rattle.d64spec.proofs.ResultLaws.{refused≢done}
use Rattle.d64spec.proofs.CheckLaws.{slot_name}

-- a file of a name is counted among the names
pub name-met : (n : Bytes) (fs : List File) (f : File) → Memᴰ f fs → slot_name f ≡ n → 1 ≤ name_count n (map slot_name fs)
name-met n [] f m e = elim m [ ]
name-met n (y ∷ l) f (Memᴰ.head h) e =
    let z : slot_name y ≡ n = ap slot_name (sym h) ∙ e in
    rw z (rw (equal-refl n) (omega arith))
name-met n (y ∷ l) f (Memᴰ.tail m) e = omega (arith, name-met n l f m e)

-- where no two files share the name, the file is the first that the name finds
pub files_named-one : (n : Bytes) (fs : List File) (f : File) → Memᴰ f fs → slot_name f ≡ n → name_count n (map slot_name fs) ≤ 1
    → first not_found (files_named n fs) ≡ done f
unfolding first files_named
files_named-one n [] f m e u = elim m [ ]
files_named-one n (y ∷ l) f (Memᴰ.head h) e u =
    let z : equal n (slot_name y) ≡ true = rw (ap slot_name (sym h) ∙ e) (equal-refl n) in
    rw z (ap (λ (x : File). done x) (sym h))
files_named-one n (y ∷ l) f (Memᴰ.tail m) e u = go (equal n (slot_name y)) refl (λ h. files_named-one n l f m e h) (name-met n l f m e)
  where
    go : (b : Bool) → equal n (slot_name y) ≡ b → (name_count n (map slot_name l) ≤ 1 → first not_found (files_named n l) ≡ done f) → 1 ≤ name_count n (map slot_name l)
        → first not_found (files_named n (y ∷ l)) ≡ done f
    go true t ih met = absurd (let w : indicator (equal n (slot_name y)) ≡ 1 = rw t in omega arith)
    go false t ih met = rw t (ih (let w : indicator (equal n (slot_name y)) ≡ 0 = rw t in omega arith))

-- as many files have a name as names equal it
pub length-files_named : (n : Bytes) (fs : List File) → length (files_named n fs) ≡ name_count n (map slot_name fs)
unfolding files_named
length-files_named n [] = refl
length-files_named n (f ∷ fs) = go (equal n (slot_name f)) refl (length-files_named n fs)
  where
    go : (b : Bool) → equal n (slot_name f) ≡ b → length (files_named n fs) ≡ name_count n (map slot_name fs) → length (files_named n (f ∷ fs)) ≡ name_count n (map slot_name (f ∷ fs))
    go true t h = rw t (omega arith)
    go false t h = rw t (omega arith)

-- a list of at most one element that has a first
single : {A : Type 0} (f : Fault) (l : List A) (x : A) → length l ≤ 1 → first f l ≡ done x → l ≡ x ∷ []
unfolding first
single f [] x h e = refused≢done f x e
single f (y ∷ []) x h e = cc
single f (y ∷ z ∷ l) x h e = absurd (omega arith)

-- on an accepted disk, the file that a name finds is the only one of that name
pub files_named-single : (g : Geometry) (d : Disk) → AcceptedDisk g d → (n : Bytes) (f : File) → first not_found (files_named n (files g d)) ≡ done f → files_named n (files g d) ≡ f ∷ []
files_named-single g d a n f e = single not_found (files_named n (files g d)) f (omega (arith, a.names n, length-files_named n (files g d))) e
