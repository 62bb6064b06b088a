-- As many different numbers below N as there are: N at most.
use Prim.Native.Nat.{ℕ, zero, suc, ◌+◌, ◌≤◌, ◌<◌}
use native.Mathlib.Omega.{arith}
use native.Mathlib.Decide.{dec_le}
use mathlib.Core.Path.{◌≡◌, refl}
use mathlib.Core.List.{List, [], ◌∷◌}
use lib.ListN.{length}
use lib.Dec.{eqb}
use borrow.Author.Tests.{eq-eqb, ne_eqb}
use Rattle.d64spec.specs.Lists.{All, count, indicator}

-- f summed below n
below : ℕ → (ℕ → ℕ) → ℕ
below zero f = 0
below (suc n) f = f n + below n f

below-add : (n : ℕ) (f h : ℕ → ℕ) → below n (λ i. f i + h i) ≡ below n f + below n h
unfolding below
below-add zero f h = refl
below-add (suc n) f h = omega (arith, below-add n f h)

below_none : (n x : ℕ) → n ≤ x → below n (λ i. indicator (eqb i x)) ≡ 0
unfolding below
below_none zero x h = refl
below_none (suc n) x h = rw (ne_eqb n x (λ e. omega arith)) (omega (arith, below_none n x (omega arith)))

below_one : (n x : ℕ) → x < n → below n (λ i. indicator (eqb i x)) ≡ 1
unfolding below
below_one zero x h = absurd (omega arith)
below_one (suc n) x h = elim (dec_le n x) [
  | yes l ↦ rw (eq-eqb n x (omega arith)) (omega (arith, below_none n x l))
  | no l ↦ rw (ne_eqb n x (λ e. omega arith)) (omega (arith, below_one n x (omega arith)))
]

below-le : (n : ℕ) (f : ℕ → ℕ) → ((i : ℕ) → f i ≤ 1) → below n f ≤ n
unfolding below
below-le zero f h = omega arith
below-le (suc n) f h = omega (arith, h n, below-le n f h)

below-zero : (n : ℕ) → below n (λ i. 0) ≡ 0
unfolding below
below-zero zero = refl
below-zero (suc n) = omega (arith, below-zero n)

below-count : (n : ℕ) (l : List ℕ) → All (λ x. x < n) l → below n (λ i. count i l) ≡ length l
below-count n [] a = below-zero n
below-count n (x ∷ l) a = omega (arith, below-add n (λ i. indicator (eqb i x)) (λ i. count i l), below_one n x a.0, below-count n l a.1)

pub pigeon : (n : ℕ) (l : List ℕ) → All (λ x. x < n) l → ((i : ℕ) → count i l ≤ 1) → length l ≤ n
pigeon n l a h = omega (arith, below-count n l a, below-le n (λ i. count i l) h)
