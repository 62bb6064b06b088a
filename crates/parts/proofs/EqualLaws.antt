-- Whether two lists of numbers are equal, by the test `equal`: against equality, and by their lengths.
-- Not here: equal-refl, eq-of-equal (d64spec, ListLaws). Assumes nothing.
use mathlib.Core.Path.{◌≡◌, refl}
use mathlib.Core.Bool.{Bool, true, false, ◌&&◌}
use mathlib.Core.List.{List, [], ◌∷◌}
use Prim.Native.Nat.{ℕ}
use native.Mathlib.Omega.{arith}
use lib.ListN.{length}
use lib.Dec.{eqb}
use Rattle.d64spec.specs.Lists.{equal}
use Rattle.d64spec.proofs.ListLaws.{equal-refl, eq-of-equal}

-- ---- against equality

-- two tests agree where each equality follows from the other
pub equal-iff : (a b c d : List ℕ) → (a ≡ b → c ≡ d) → (c ≡ d → a ≡ b) → equal a b ≡ equal c d
equal-iff a b c d there back = go (equal a b) refl (equal c d) refl
  where
    go : (x : Bool) → equal a b ≡ x → (y : Bool) → equal c d ≡ y → x ≡ y
    go true e true h = refl
    go false e false h = refl
    go true e false h =
        let z : equal c d ≡ true = rw (there (eq-of-equal a b e)) (equal-refl d) in
        absurd (let w : ◌≡◌ {A = ℕ} 0 1 = cc in omega arith)
    go false e true h =
        let z : equal a b ≡ true = rw (back (eq-of-equal c d h)) (equal-refl b) in
        absurd (let w : ◌≡◌ {A = ℕ} 0 1 = cc in omega arith)

-- ---- by length

pub equal-lengths-differ : (a b : List ℕ) → (length a ≡ length b → ⊥) → equal a b ≡ false
equal-lengths-differ [] [] h = absurd (h refl)
equal-lengths-differ [] (y ∷ m) h = refl
equal-lengths-differ (x ∷ l) [] h = refl
equal-lengths-differ (x ∷ l) (y ∷ m) h = go (eqb x y) (equal-lengths-differ l m (λ e. h (omega arith)))
  where
    go : (t : Bool) → equal l m ≡ false → (t && equal l m) ≡ false
    go true e = e
    go false e = refl
