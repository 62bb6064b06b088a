-- Numbers and their bits (`bit_of`, `binary`), over any width. In order: powers of two; one bit more; the size; the bits of a number made of bits are
-- these; the number made of a number's lowest bits is its remainder, so that numbers are known by their bits; one bit changed. Assumes nothing.
use Prim.Native.Nat.{ℕ, zero, suc, ◌+◌, ◌*◌, ◌/◌, ◌%◌, ◌^◌, ◌≤◌, ◌<◌}
use native.Mathlib.Omega.{arith}
use native.Mathlib.Nat.{pow-succ', pow-le-pow_right, mul-le-mul_right, mul-add, mul_assoc, mul_comm, mul_left_comm}
use native.Mathlib.Nat.{zero-div, div-div-eq-div-mul, mod-add-div, mod-eq_of_lt, mod-lt, add-mul-mod_self_left}
use mathlib.Core.Path.{◌≡◌, refl, sym, ap, ◌∙◌}
use mathlib.Core.List.{map}
use lib.Pow.{pow_pos}
use Rattle.d64spec.specs.Lists.{range, sum}
use Rattle.d64spec.specs.Bits.{bit_of, binary}
use Rattle.d64spec.proofs.SumLaws.{sum_same, sum-map-last, sum-map-more}

-- ---- powers of two up to a bitmap's, which has 24 bits

pub power_le : (s : ℕ) → s ≤ 24 → 2 ^ s ≤ 16777216
power_le s h = pow-le-pow_right {n = 2} (omega arith) h

-- a bit up to 24 is not shifted out of 32
pub shifted : (s : ℕ) → s ≤ 24 → 1 * 2 ^ s % 4294967296 ≡ 2 ^ s
shifted s h = omega (arith, power_le s h)

-- and is not 0 then, whichever small number is shifted
pub shifted-some : {x s : ℕ} → s ≤ 24 → 1 ≤ x → x ≤ 128 → 0 < x * 2 ^ s % 4294967296
shifted-some {x} {s} h low high =
    let least : 1 * 2 ^ s ≤ x * 2 ^ s = mul-le-mul_right (2 ^ s) low in
    let most : x * 2 ^ s ≤ 128 * 2 ^ s = mul-le-mul_right (2 ^ s) high in
    let whole : x * 2 ^ s % 4294967296 ≡ x * 2 ^ s = mod-eq_of_lt (omega (arith, power_le s h)) in
    omega (arith, pow_pos s)

-- ---- bits

pub bit_le : (b k : ℕ) → bit_of b k ≤ 1
unfolding bit_of
bit_le b k = omega arith

pub zero_bit_lem : (k : ℕ) → bit_of 0 k ≡ 0
unfolding bit_of
zero_bit_lem k = ap (λ (x : ℕ). x % 2) (zero-div (2 ^ k))

module _ (f : ℕ → ℕ) where
  pub binary-more : (n : ℕ) → binary f (suc n) ≡ binary f n + f n * 2 ^ n
  unfolding binary
  binary-more n =
      let last : 0 + n ≡ n = omega arith in
      sum-map-last (λ s. f s * 2 ^ s) 0 n ∙ ap (λ (k : ℕ). sum (map (λ s. f s * 2 ^ s) (range 0 n)) + f k * 2 ^ k) last

-- one digit before a smaller number
digit_lt : (b v p : ℕ) → v ≤ 1 → b < p → b + v * p < p + p
digit_lt b zero p h l = omega arith
digit_lt b (suc zero) p h l = omega arith
digit_lt b (suc (suc v)) p h l = absurd (omega arith)

pub binary-lt : (f : ℕ → ℕ) → ((s : ℕ) → f s ≤ 1) → (n : ℕ) → binary f n < 2 ^ n
unfolding binary
binary-lt f bit zero = omega arith
binary-lt f bit (suc n) =
    omega (arith, binary-more f n, digit_lt (binary f n) (f n) (2 ^ n) (bit n) (binary-lt f bit n))

-- alike in all bits, alike as numbers
pub binary-same : (f h : ℕ → ℕ) (n : ℕ) → ((s : ℕ) → s < n → f s ≡ h s) → binary f n ≡ binary h n
unfolding binary
binary-same f h n e = sum_same (λ s. f s * 2 ^ s) (λ s. h s * 2 ^ s) 0 n (λ s l u. ap (λ (x : ℕ). x * 2 ^ s) (e s (omega arith)))

-- ---- the bits of a number made of bits

doubled : (x n : ℕ) → x * 2 ^ suc n ≡ 2 * (x * 2 ^ n)
doubled x n = ap (λ (p : ℕ). x * p) (pow-succ' 2 n) ∙ mul_left_comm x 2 (2 ^ n)

-- the lowest bit, and the rest doubled
binary-first : (f : ℕ → ℕ) (n : ℕ) → binary f (suc n) ≡ f 0 + 2 * binary (λ s. f (suc s)) n
unfolding binary
binary-first f n = omega (arith, rest 0 n)
  where
    rest : (a n : ℕ) → sum (map (λ s. f s * 2 ^ s) (range (suc a) n)) ≡ 2 * sum (map (λ s. f (suc s) * 2 ^ s) (range a n))
    rest a zero = refl
    rest a (suc n) = omega (arith, doubled (f (suc a)) a, rest (suc a) n)

-- half of a number has its bits but the lowest
pub bit-half : (b k : ℕ) → bit_of b (suc k) ≡ bit_of (b / 2) k
unfolding bit_of
bit-half b k = ap (λ (x : ℕ). x % 2) (ap (λ (p : ℕ). b / p) (pow-succ' 2 k) ∙ sym (div-div-eq-div-mul b 2 (2 ^ k)))

-- THE BITS OF A NUMBER MADE OF BITS are these
pub binary-bit : (f : ℕ → ℕ) → ((s : ℕ) → f s ≤ 1) → (n s : ℕ) → s < n → bit_of (binary f n) s ≡ f s
unfolding bit_of
binary-bit f bit zero s h = absurd (omega arith)
binary-bit f bit (suc n) zero h = omega (arith, binary-first f n, bit 0)
binary-bit f bit (suc n) (suc s) h =
    let half : binary f (suc n) / 2 ≡ binary (λ i. f (suc i)) n = omega (arith, binary-first f n, bit 0) in
    bit-half (binary f (suc n)) s ∙ ap (λ (x : ℕ). bit_of x s) half ∙ binary-bit (λ i. f (suc i)) (λ i. bit (suc i)) n s (omega arith)

-- ---- a number by its bits

-- one bit more of a remainder by a power of two
remainder-more : (b n : ℕ) → b % 2 ^ suc n ≡ b % 2 ^ n + bit_of b n * 2 ^ n
unfolding bit_of
remainder-more b n =
    let p : ℕ = 2 ^ n in
    let q : ℕ = b / p in
    let bit : ℕ = q % 2 in
    let split : p * q ≡ p * (bit + 2 * (q / 2)) = ap (λ (x : ℕ). p * x) (omega arith) in
    let whole : 2 ^ suc n * (q / 2) ≡ 2 * (p * (q / 2)) = ap (λ (x : ℕ). x * (q / 2)) (pow-succ' 2 n) ∙ mul_assoc 2 p (q / 2) in
    let digits : b ≡ b % p + bit * p + 2 ^ suc n * (q / 2)
    = omega (arith, mod-add-div b p, mul-add p bit (2 * (q / 2)), mul_comm p bit, mul_left_comm p 2 (q / 2)) in
    ap (λ (x : ℕ). x % 2 ^ suc n) digits ∙ add-mul-mod_self_left (b % p + bit * p) (2 ^ suc n) (q / 2)
    ∙ mod-eq_of_lt (omega (arith, digit_lt (b % p) bit p (omega arith) (mod-lt b (pow_pos n))))

-- THE NUMBER MADE OF A NUMBER'S LOWEST n BITS is its remainder by 2^n
pub binary-remainder : (b n : ℕ) → binary (bit_of b) n ≡ b % 2 ^ n
unfolding binary
binary-remainder b zero = omega arith
binary-remainder b (suc n) = binary-more (bit_of b) n ∙ ap (λ (x : ℕ). x + bit_of b n * 2 ^ n) (binary-remainder b n) ∙ sym (remainder-more b n)

-- numbers of n bits that are alike in all of them are equal
pub number-known : (b c n : ℕ) → b < 2 ^ n → c < 2 ^ n → ((i : ℕ) → i < n → bit_of b i ≡ bit_of c i) → b ≡ c
number-known b c n h k same =
    sym (mod-eq_of_lt h) ∙ sym (binary-remainder b n) ∙ binary-same (bit_of b) (bit_of c) n same ∙ binary-remainder c n ∙ mod-eq_of_lt k

-- ---- one bit changed

-- one bit made 1: the number is larger by that bit
pub binary-set : (f h : ℕ → ℕ) (s : ℕ) → f s ≡ 0 → h s ≡ 1 → ((i : ℕ) → (i ≡ s → ⊥) → f i ≡ h i) → (n : ℕ) → s < n → binary h n ≡ binary f n + 2 ^ s
unfolding binary
binary-set f h s was is other n below =
    let more : h s * 2 ^ s ≡ f s * 2 ^ s + 2 ^ s = rw (was, is) (omega arith) in
    sum-map-more (λ i. f i * 2 ^ i) (λ i. h i * 2 ^ i) s (2 ^ s) more (λ i q. ap (λ (x : ℕ). x * 2 ^ i) (other i q)) 0 n (omega arith) (omega arith)
