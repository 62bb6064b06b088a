-- A rule of a table, proved at all of its entries by one test that antt computes, one entry after the other.
use Prim.Native.Nat.{ℕ, zero, suc, ◌+◌, ◌<◌}
use native.Mathlib.Omega.{arith}
use native.Mathlib.Nat.{add-zero, zero-add, add-suc, suc-add}
use mathlib.Core.Path.{◌≡◌}
use mathlib.Core.Bool.{Bool, true, ◌&&◌}
use mathlib.Core.List.{List, [], ◌∷◌}
use lib.ListN.{length, get_or}
use Rattle.d64spec.proofs.MapLaws.{and-true}

-- the test p holds at each place of the table, counted from i, and the entry there
abbrev pub every : (ℕ → ℕ → Bool) → ℕ → List ℕ → Bool
every p i [] = true
every p i (x ∷ l) = p i x && every p (suc i) l

every-from : (p : ℕ → ℕ → Bool) (l : List ℕ) (i : ℕ) → every p i l ≡ true → (k : ℕ) → k < length l → p (i + k) (get_or l k 0) ≡ true
every-from p [] i e k h = absurd (omega arith)
every-from p (x ∷ l) i e zero h = simp add-zero (and-true (p i x) (every p (suc i) l) e).0
every-from p (x ∷ l) i e (suc k) h =
    rw (add-suc, ← suc-add) (every-from p l (suc i) (and-true (p i x) (every p (suc i) l) e).1 k (omega arith))

-- a test that holds everywhere holds at an entry
pub every-at : (p : ℕ → ℕ → Bool) (l : List ℕ) → every p 0 l ≡ true → (k : ℕ) → k < length l → p k (get_or l k 0) ≡ true
every-at p l e k h = rw zero-add at (every-from p l 0 e k h)
