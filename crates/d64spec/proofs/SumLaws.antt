-- Sums along a range. In order: terms alike; the last term; terms of at most 1; one term larger. Assumes nothing.
use Prim.Native.Nat.{ℕ, zero, suc, ◌+◌, ◌≤◌, ◌<◌}
use native.Mathlib.Omega.{arith}
use native.Mathlib.Decide.{ℕ_discrete}
use mathlib.Core.Path.{◌≡◌, refl, ap}
use mathlib.Core.Bool.{Bool, true, false}
use mathlib.Core.List.{map}
use Rattle.d64spec.specs.Lists.{indicator, sum, range}

pub sum_same : (f h : ℕ → ℕ) (a n : ℕ) → ((i : ℕ) → a ≤ i → i < a + n → f i ≡ h i) → sum (map f (range a n)) ≡ sum (map h (range a n))
sum_same f h a zero e = refl
sum_same f h a (suc n) e = omega (arith, e a (omega arith) (omega arith), sum_same f h (suc a) n (λ i l u. e i (omega arith) (omega arith)))

pub sum-map-last : (f : ℕ → ℕ) (a n : ℕ) → sum (map f (range a (suc n))) ≡ sum (map f (range a n)) + f (a + n)
sum-map-last f a zero = let e : f a ≡ f (a + 0) = ap f (let z : a ≡ a + 0 = omega arith in z) in omega arith
sum-map-last f a (suc n) =
    let e : f (suc a + n) ≡ f (a + suc n) = ap f (let z : suc a + n ≡ a + suc n = omega arith in z) in
    omega (arith, sum-map-last f (suc a) n)

pub indicator-le : (b : Bool) → indicator b ≤ 1
indicator-le true = omega arith
indicator-le false = omega arith

pub sum-map-le : (f : ℕ → ℕ) → ((i : ℕ) → f i ≤ 1) → (a n : ℕ) → sum (map f (range a n)) ≤ n
sum-map-le f small a zero = omega arith
sum-map-le f small a (suc n) = omega (arith, small a, sum-map-le f small (suc a) n)

module _ (f h : ℕ → ℕ) (s p : ℕ) (more : h s ≡ f s + p) (other : (i : ℕ) → (i ≡ s → ⊥) → f i ≡ h i) where
  pub sum-map-more : (a n : ℕ) → a ≤ s → s < a + n → sum (map h (range a n)) ≡ sum (map f (range a n)) + p
  sum-map-more a zero low high = absurd (omega arith)
  sum-map-more a (suc n) low high = elim (ℕ_discrete a s) [
    | yes q ↦
        let here : h a ≡ f a + p = rw q more in
        omega (arith, sum_same f h (suc a) n (λ i l u. other i (λ z. omega arith)))
    | no q ↦ omega (arith, other a q, sum-map-more (suc a) n (omega arith) (omega arith))
  ]
