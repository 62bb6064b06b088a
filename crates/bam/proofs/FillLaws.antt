-- A list filled from the front with a function along a range. Assumes nothing.
use Prim.Native.Nat.{ℕ, zero, suc, ◌+◌, ◌≤◌, ◌<◌}
use native.Mathlib.Omega.{arith}
use mathlib.Core.Path.{◌≡◌, refl, sym, ap, ◌∙◌}
use mathlib.Core.List.{List, map}
use lib.ListN.{length, get_or, set, length-set}
use lib.Seq.{get_or-set_same, get_or-set_other, ext_get_or}
use borrow.Author.Count.{below_more}
use Rattle.d64spec.specs.Lists.{range}
use Rattle.d64spec.proofs.ListLaws.{get_or-map-range}

pub length-map-range : {A : Type 0} (f : ℕ → A) (a n : ℕ) → length (map f (range a n)) ≡ n
length-map-range f a zero = refl
length-map-range f a (suc n) = ap suc (length-map-range f (suc a) n)

-- the first i of n elements are f's from a on
pub record Filling {A : Type 0} (z : A) (f : ℕ → A) (a n : ℕ) (l : List A) (i : ℕ) : Type 0 where
  pub passed : i ≤ n
  pub size : length l ≡ n
  pub filled : (k : ℕ) → k < i → get_or l k z ≡ f (a + k)

module _ {A : Type 0} {z : A} {f : ℕ → A} {a n : ℕ} where
  pub filling-start : (l : List A) → length l ≡ n → Filling z f a n l 0
  filling-start l size = record { passed = omega arith; size = size; filled = λ k h. absurd (omega arith) }

  pub filling-moved : {l : List A} {i : ℕ} → Filling z f a n l i → i < n → (x : A) → x ≡ f (a + i) → Filling z f a n (set l i x) (i + 1)
  filling-moved {l} {i} c h x e = record {
    passed = omega arith;
    size = length-set l i x ∙ c.size;
    filled = below_more _ i
        (λ k b. get_or-set_other l i k x z (λ q. omega arith) ∙ c.filled k b)
        (get_or-set_same l i x z (omega (arith, c.size)) ∙ e);
  }

  pub filling-finished : {l : List A} {i : ℕ} → Filling z f a n l i → n ≤ i → l ≡ map f (range a n)
  filling-finished {l} {i} c h =
      let size : length l ≡ n = c.size in
      ext_get_or z l (map f (range a n)) (size ∙ sym (length-map-range f a n)) (λ k b.
      c.filled k (omega arith) ∙ sym (get_or-map-range f a n k z (omega arith)))
