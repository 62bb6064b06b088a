-- The lowest bit in which two numbers differ: the zeros below the lowest one of their exclusive or (`count_trailing_zeros`, `bit_xor` of the kit), over any width.
-- In order: the exclusive or, digit by digit; the law; as the code finds it. Assumes nothing.
use Prim.Native.Nat.{ℕ, zero, suc, ◌+◌, ◌*◌, ◌/◌, ◌%◌, ◌^◌, ◌≤◌, ◌<◌}
use native.Mathlib.Omega.{arith}
use native.Mathlib.Decide.{ℕ_discrete}
use native.Mathlib.Nat.{pow-succ'}
use mathlib.Core.Path.{◌≡◌, refl, sym, ap, ap₂, ◌∙◌}
use lib.Bits.{bit_xor, differ, xor_step}
use lib.Count.{count_trailing_zeros, under}
use borrow.Author.Tests.{eq-eqb, ne_eqb}
use Rattle.d64spec.specs.Bits.{bit_of}
use Rattle.d64spec.proofs.BitLaws.{bit-half}
use Rattle.mapcheck.specs.MapChecks.{lowest_difference}

-- ---- the exclusive or, digit by digit

digit-differs : (x y : ℕ) → x < 2 → y < 2 → (x ≡ y → ⊥) → differ x y ≡ 1
digit-differs zero zero h k e = absurd (e refl)
digit-differs zero (suc zero) h k e = refl
digit-differs zero (suc (suc y)) h k e = absurd (omega arith)
digit-differs (suc zero) zero h k e = refl
digit-differs (suc zero) (suc zero) h k e = absurd (e refl)
digit-differs (suc zero) (suc (suc y)) h k e = absurd (omega arith)
digit-differs (suc (suc x)) y h k e = absurd (omega arith)

digit-same : (x : ℕ) → differ x x ≡ 0
digit-same zero = refl
digit-same (suc x) = digit-same x

module _ (a b : ℕ) where
  -- with its lowest digit v, it is half of it doubled, and v
  xor-digits : (v : ℕ) → v < 2 → differ (a % 2) (b % 2) ≡ v → (bit_xor a b % 2 ≡ v) × (bit_xor a b / 2 ≡ bit_xor (a / 2) (b / 2))
  xor-digits v h e =
      let step : bit_xor a b ≡ bit_xor (a / 2) (b / 2) * 2 + v = xor_step a b ∙ ap (λ (x : ℕ). bit_xor (a / 2) (b / 2) * 2 + x) e in
      (omega arith, omega arith)

  -- the zeros below its lowest one: none where the lowest digits differ, else one more than for the halves
  trailing-other : (w : ℕ) → (a % 2 ≡ b % 2 → ⊥) → count_trailing_zeros (suc w) (bit_xor a b) ≡ 0
  unfolding count_trailing_zeros
  trailing-other w other =
      let d = xor-digits 1 (omega arith) (digit-differs (a % 2) (b % 2) (omega arith) (omega arith) other) in
      ap (λ (x : ℕ). under x (count_trailing_zeros w (bit_xor a b / 2))) d.0

  trailing-same : (w : ℕ) → a % 2 ≡ b % 2 → count_trailing_zeros (suc w) (bit_xor a b) ≡ suc (count_trailing_zeros w (bit_xor (a / 2) (b / 2)))
  unfolding count_trailing_zeros
  trailing-same w same =
      let d = xor-digits 0 (omega arith) (ap (λ (x : ℕ). differ x (b % 2)) same ∙ digit-same (b % 2)) in
      ap₂ (λ (x y : ℕ). under x (count_trailing_zeros w y)) d.0 d.1

-- ---- the law

-- s is the lowest of n bits in which a and b differ
pub record LowestDifferent (a b n s : ℕ) : Type 0 where
  pub below : s < n
  pub other : bit_of a s ≡ bit_of b s → ⊥
  pub lower : (i : ℕ) → i < s → bit_of a i ≡ bit_of b i

-- THE LOWEST BIT THAT DIFFERS, of two numbers of n bits, n being at most the width w
pub lowest-different : (w n a b : ℕ) → n ≤ w → a < 2 ^ n → b < 2 ^ n → (a ≡ b → ⊥) → LowestDifferent a b n (count_trailing_zeros w (bit_xor a b))
unfolding bit_of
lowest-different w zero a b h la lb other = absurd (other (omega arith))
lowest-different zero (suc n) a b h la lb other = absurd (omega arith)
lowest-different (suc w) (suc n) a b h la lb other = elim (ℕ_discrete (a % 2) (b % 2)) [
  | no differs ↦ rw (trailing-other a b w differs) (record { below = omega arith; other = λ e. differs (omega arith); lower = λ i k. absurd (omega arith) })
  | yes same ↦
      let twice : 2 ^ suc n ≡ 2 * 2 ^ n = pow-succ' 2 n in
      let rest = lowest-different w n (a / 2) (b / 2) (omega arith) (omega arith) (omega arith) (λ e. other (omega arith)) in
      rw (trailing-same a b w same) (record {
        below = omega (arith, rest.below);
        other = λ e. rest.other (sym (bit-half a _) ∙ e ∙ bit-half b _);
        lower = low rest same;
      })
]
  where
    low : {s : ℕ} → LowestDifferent (a / 2) (b / 2) n s → a % 2 ≡ b % 2 → (i : ℕ) → i < suc s → bit_of a i ≡ bit_of b i
    low rest same zero k = omega arith
    low rest same (suc i) k = bit-half a i ∙ rest.lower i (omega arith) ∙ sym (bit-half b i)

-- ---- as the code finds it

module _ (a b : ℕ) where
  pub difference-none : a ≡ b → 255 ≡ lowest_difference a b
  unfolding lowest_difference
  difference-none e = rw (eq-eqb a b e)

  pub difference-some : {s : ℕ} → (a ≡ b → ⊥) → s ≡ count_trailing_zeros 32 (bit_xor a b) → s ≡ lowest_difference a b
  unfolding lowest_difference
  difference-some other e = rw (ne_eqb a b other) e
