-- Four bytes and eight bytes as one number (`four_of`, `eight_of`): their digits to the base 256.
-- In order: one digit; a fact of four places; equal numbers are equal bytes: four, and sixteen by two numbers of eight; a part read as a number.
-- Assumes nothing.
use mathlib.Core.Path.{◌≡◌, sym, ap, ◌∙◌}
use mathlib.Core.Bool.{Bool, ◌&&◌, and-true}
use mathlib.Core.List.{List, [], ◌∷◌}
use Prim.Native.Nat.{ℕ, zero, suc, ◌+◌, ◌*◌, ◌-◌, ◌≤◌, ◌<◌}
use native.Mathlib.Omega.{arith}
use native.Mathlib.Decide.{dec_le}
use lib.ListN.{length, take, drop, length-take, length-drop}
use lib.Seq.{ext_get_or, get_or-take, get_or-drop}
use lib.Dec.{eqb}
use Rattle.d64spec.specs.Lists.{Bytes, byte, equal}
use Rattle.std.specs.Int.{w32, w64, from_le_bytes}
use Rattle.parts.specs.Numbers.{four_of, eight_of, IsFour, IsEight}
use Rattle.parts.proofs.EqualLaws.{equal-iff}

-- a lowest digit, and the rest
digit-eq : (a x c y : ℕ) → a < 256 → c < 256 → a + 256 * x ≡ c + 256 * y → (a ≡ c) × (x ≡ y)
digit-eq a x c y low high e = (omega arith, omega arith)

-- a lower half, and the rest
half-eq : (a x c y : ℕ) → a < 4294967296 → c < 4294967296 → a + 4294967296 * x ≡ c + 4294967296 * y → (a ≡ c) × (x ≡ y)
half-eq a x c y low high e = (omega arith, omega arith)

-- what holds of each of the four places from a on
pub each-four : (P : ℕ → Type 0) (a : ℕ) → P a → P (a + 1) → P (a + 2) → P (a + 3) → (i : ℕ) → a ≤ i → i < a + 4 → P i
each-four P a first second third fourth i l h = let at : a + (i - a) ≡ i = omega arith in rw at at (go (i - a) (omega arith))
  where
    go : (k : ℕ) → k < 4 → P (a + k)
    go zero b = let z : a + 0 ≡ a = omega arith in rw z first
    go (suc zero) b = second
    go (suc (suc zero)) b = third
    go (suc (suc (suc zero))) b = fourth
    go (suc (suc (suc (suc k)))) b = absurd (omega arith)

-- ---- four bytes

-- EQUAL NUMBERS ARE EQUAL BYTES: four bytes whose number is that of the digits f are those digits
pub bytes-of-four : (s : Bytes) (f : ℕ → ℕ) → ((i : ℕ) → byte s i < 256) → ((i : ℕ) → f i < 256) → (a : ℕ)
    → four_of s a ≡ f 0 + 256 * f 1 + 65536 * f 2 + 16777216 * f 3 → (k : ℕ) → k < 4 → byte s (a + k) ≡ f k
unfolding four_of
bytes-of-four s f small digits a e k h =
    let rest = byte s (a + 1) + 256 * (byte s (a + 2) + 256 * byte s (a + 3)) in
    let first = digit-eq (byte s a) rest (f 0) (f 1 + 256 * (f 2 + 256 * f 3)) (small a) (digits 0) (omega arith) in
    let second = digit-eq (byte s (a + 1)) (byte s (a + 2) + 256 * byte s (a + 3)) (f 1) (f 2 + 256 * f 3) (small (a + 1)) (digits 1) first.1 in
    let third = digit-eq (byte s (a + 2)) (byte s (a + 3)) (f 2) (f 3) (small (a + 2)) (digits 2) second.1 in
    let z : a + 0 ≡ a = omega arith in
    each-four (λ i. byte s (a + i) ≡ f i) 0 (rw z first.0) second.0 third.0 third.1 k (omega arith) h

four-lt : (s : Bytes) → ((i : ℕ) → byte s i < 256) → (a : ℕ) → four_of s a < 4294967296
unfolding four_of
four-lt s small a = omega (arith, small a, small (a + 1), small (a + 2), small (a + 3))

-- ---- bytes of a part

byte-part : (s : Bytes) (n a k : ℕ) → k < n → byte (take n (drop a s)) k ≡ byte s (a + k)
byte-part s n a k h = get_or-take n (drop a s) k 0 h ∙ get_or-drop a s k 0

-- ---- sixteen bytes by two numbers

-- the sixteen bytes from a on, and the two numbers of eight
abbrev sixteen : Bytes → ℕ → Bytes
sixteen s a = take 16 (drop a s)

abbrev two : Bytes → ℕ → List ℕ
two s a = eight_of s a ∷ eight_of s (a + 8) ∷ []

module _ (s t : Bytes) where
  -- the n bytes of s from a on are those of t from b on
  abbrev Alike : ℕ → ℕ → ℕ → Type 0
  Alike a b n = (k : ℕ) → k < n → byte s (a + k) ≡ byte t (b + k)

  -- n of them, and m more
  module _ (a b n m : ℕ) where
    alike-join : Alike a b n → Alike (a + n) (b + n) m → Alike a b (n + m)
    alike-join front rest k h = elim (dec_le n k) [
      | yes past ↦
          let i : a + n + (k - n) ≡ a + k = omega arith in
          let j : b + n + (k - n) ≡ b + k = omega arith in
          rw (i, j) at (rest (k - n) (omega arith))
      | no before ↦ front k (omega arith)
    ]

    alike-rest : Alike a b (n + m) → Alike (a + n) (b + n) m
    alike-rest all k h =
        let i : a + (n + k) ≡ a + n + k = omega arith in
        let j : b + (n + k) ≡ b + n + k = omega arith in
        rw (i, j) at (all (n + k) (omega arith))

  -- equal bytes are equal numbers
  four-alike : (a b : ℕ) → Alike a b 4 → four_of s a ≡ four_of t b
  unfolding four_of
  four-alike a b same =
      let z : a + 0 ≡ a = omega arith in
      let w : b + 0 ≡ b = omega arith in
      let first : byte s a ≡ byte t b = rw (z, w) at (same 0 (omega arith)) in
      omega (arith, first, same 1 (omega arith), same 2 (omega arith), same 3 (omega arith))

  eight-alike : (a b : ℕ) → Alike a b 8 → eight_of s a ≡ eight_of t b
  unfolding eight_of
  eight-alike a b same = omega (arith, four-alike a b (λ k h. same k (omega arith)), four-alike (a + 4) (b + 4) (alike-rest a b 4 4 same))

  module _ (small-s : (i : ℕ) → byte s i < 256) (small-t : (i : ℕ) → byte t i < 256) where
    -- equal numbers are equal bytes
    alike-of-four : (a b : ℕ) → four_of s a ≡ four_of t b → Alike a b 4
    unfolding four_of
    alike-of-four a b e =
        let z : b + 0 ≡ b = omega arith in
        bytes-of-four s (λ k. byte t (b + k)) small-s (λ k. small-t (b + k)) a (rw z e)

    alike-of-eight : (a b : ℕ) → eight_of s a ≡ eight_of t b → Alike a b 8
    unfolding eight_of
    alike-of-eight a b e =
        let halves = half-eq (four_of s a) (four_of s (a + 4)) (four_of t b) (four_of t (b + 4)) (four-lt s small-s a) (four-lt t small-t b) e in
        alike-join a b 4 4 (alike-of-four a b halves.0) (alike-of-four (a + 4) (b + 4) halves.1)

    -- SIXTEEN BYTES ARE EQUAL exactly where both numbers of eight are
    pub equal-sixteen : (a b : ℕ) → a + 16 ≤ length s → b + 16 ≤ length t
        → (eqb (eight_of s a) (eight_of t b) && eqb (eight_of s (a + 8)) (eight_of t (b + 8))) ≡ equal (take 16 (drop a s)) (take 16 (drop b t))
    equal-sixteen a b whole-s whole-t =
        ap (λ (x : Bool). eqb (eight_of s a) (eight_of t b) && x) (sym (and-true (eqb (eight_of s (a + 8)) (eight_of t (b + 8)))))
        ∙ equal-iff (two s a) (two t b) (sixteen s a) (sixteen t b) there back
      where
        there : two s a ≡ two t b → sixteen s a ≡ sixteen t b
        there same =
            let alike = alike-join a b 8 8 (alike-of-eight a b (cc)) (alike-of-eight (a + 8) (b + 8) (cc)) in
            let long-s : length (sixteen s a) ≡ 16 = simp (length-take, length-drop) (omega arith) in
            let long-t : length (sixteen t b) ≡ 16 = simp (length-take, length-drop) (omega arith) in
            ext_get_or 0 (sixteen s a) (sixteen t b) (omega arith)
            (λ k h. byte-part s 16 a k (omega arith) ∙ alike k (omega arith) ∙ sym (byte-part t 16 b k (omega arith)))

        back : sixteen s a ≡ sixteen t b → two s a ≡ two t b
        back same =
            let alike : Alike a b 16 = λ k h. sym (byte-part s 16 a k h) ∙ ap (λ (l : Bytes). byte l k) same ∙ byte-part t 16 b k h in
            let low = eight-alike a b (λ k h. alike k (omega arith)) in
            let high = eight-alike (a + 8) (b + 8) (alike-rest a b 8 8 alike) in
            cc

-- ---- a part read as a number

module _ (l : Bytes) where
  four-is : {r : ℕ} → r ≡ from_le_bytes w32 l → r ≡ four_of l 0
  unfolding four_of
  four-is e = omega (arith, e)

  eight-is : {r : ℕ} → r ≡ from_le_bytes w64 l → r ≡ eight_of l 0
  unfolding four_of eight_of
  eight-is e = omega (arith, e)

  module _ (s : Bytes) (a : ℕ) where
    part-alike : (n : ℕ) → l ≡ take n (drop a s) → Alike l s 0 a n
    part-alike n front k h = let z : 0 + k ≡ k = omega arith in rw z (ap (λ (x : Bytes). byte x k) front ∙ byte-part s n a k h)

    module _ (small : (i : ℕ) → byte s i < 256) {r : ℕ} where
      -- WHAT `from_le_bytes` READS of four bytes is their number
      pub four-read : a + 4 ≤ length s → l ≡ take 4 (drop a s) → r ≡ from_le_bytes w32 l → IsFour s a r
      four-read inside front e =
          let value : r ≡ four_of s a = four-is e ∙ four-alike l s 0 a (part-alike 4 front) in
          record { value = λ h. value; none = λ h. absurd (omega arith); small = omega (arith, value, four-lt s small a) }

      -- and of eight
      pub eight-read : a + 8 ≤ length s → l ≡ take 8 (drop a s) → r ≡ from_le_bytes w64 l → IsEight s a r
      unfolding eight_of
      eight-read inside front e =
          let value : r ≡ eight_of s a = eight-is e ∙ eight-alike l s 0 a (part-alike 8 front) in
          record { value = λ h. value; none = λ h. absurd (omega arith); small = omega (arith, value, four-lt s small a, four-lt s small (a + 4)) }
