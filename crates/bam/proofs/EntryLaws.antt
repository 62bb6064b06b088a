-- The entry that free sectors ask for (`expected_entry`). In order: three bytes of a number; it depends on its track's sectors alone; its bitmap is its
-- bits; an entry is known by its count and its bitmap; a mark moved. Assumes nothing.
use Prim.Native.Nat.{ℕ, ◌+◌, ◌*◌, ◌/◌, ◌%◌, ◌^◌, ◌≤◌, ◌<◌}
use native.Mathlib.Omega.{arith}
use mathlib.Core.Path.{◌≡◌, refl, sym, ap, ◌∙◌}
use mathlib.Core.Bool.{Bool, true, false, cond, not}
use mathlib.Core.List.{map}
use lib.Dec.{ltb}
use borrow.Author.Tests.{lt-ltb, ltb-true}
use Rattle.d64spec.specs.Lists.{Bytes, byte, indicator, range, sum}
use Rattle.d64spec.specs.Bits.{bit_of, binary}
use Rattle.d64spec.specs.Answers.{Address, address}
use Rattle.d64spec.specs.Geometry.{Geometry, Valid, sectors_on}
use Rattle.d64spec.specs.Map.{map_bit, expected_bit, bitmap_byte, expected_entry}
use Rattle.d64spec.proofs.SumLaws.{sum-map-le, sum-map-more}
use Rattle.d64spec.proofs.BitLaws.{binary-lt, binary-same, binary-set, binary-bit, power_le}
use Rattle.d64spec.proofs.MapWriteLaws.{expected-le, expected-entry-same}
use Rattle.bam.specs.MapEntry.{entry_bit, bitmap_of, entry_from, moved_entry}
use Rattle.bam.proofs.BitmapLaws.{bitmap-binary}
use Rattle.bam.proofs.ShapeLaws.{EntryShape}
use Rattle.bam.proofs.FourLaws.{four}

-- the three lowest bytes of a number
record LowBytes (m a b c : ℕ) : Type 0 where
  low : m % 256 ≡ a
  middle : m / 256 % 256 ≡ b
  high : m / 65536 % 256 ≡ c

low-bytes : (m a b c : ℕ) → a < 256 → b < 256 → c < 256 → m % 16777216 ≡ a + 256 * b + 65536 * c → LowBytes m a b c
low-bytes m a b c ha hb hc e =
    let past : ℕ = m / 16777216 in
    let all : m ≡ a + 256 * (b + 256 * (c + 256 * past)) = omega arith in
    let rest : m / 256 ≡ b + 256 * (c + 256 * past) = omega arith in
    let top : m / 65536 ≡ c + 256 * past = omega arith in
    record { low = omega arith; middle = omega arith; high = omega arith }

entry-itself : {e : Bytes} → EntryShape e → e ≡ entry_from (byte e 0) (bitmap_of e)
unfolding entry_from bitmap_of
entry-itself {e} shape =
    let whole : bitmap_of e % 16777216 ≡ byte e 1 + 256 * byte e 2 + 65536 * byte e 3 = omega (arith, shape.small 1, shape.small 2, shape.small 3) in
    let three = low-bytes (bitmap_of e) (byte e 1) (byte e 2) (byte e 3) (shape.small 1) (shape.small 2) (shape.small 3) whole in
    let count : byte e 0 % 256 ≡ byte e 0 = omega (arith, shape.small 0) in
    four e shape.four ∙ sym (simp (count, three.low, three.middle, three.high))

-- ---- what it depends on

-- of what is free, on the track's own sectors alone
module _ (g : Geometry) (valid : Valid g) (f h : Address → Bool) (m : Bytes) (t : ℕ) where
  pub expected-bit-same : (s : ℕ) → (s < sectors_on g t → f (address t s) ≡ h (address t s)) → expected_bit g f m t s ≡ expected_bit g h m t s
  unfolding expected_bit
  expected-bit-same s same = go (ltb s (sectors_on g t)) refl
    where
      go : (b : Bool) → ltb s (sectors_on g t) ≡ b
          → cond b (indicator (f (address t s))) (map_bit g m t s) ≡ cond b (indicator (h (address t s))) (map_bit g m t s)
      go true on = ap indicator (same (ltb-true _ _ on))
      go false off = refl

  pub entry-agrees : ((s : ℕ) → s < sectors_on g t → f (address t s) ≡ h (address t s)) → expected_entry g f m t ≡ expected_entry g h m t
  entry-agrees same = expected-entry-same g valid f h m m t (λ s b. expected-bit-same s (same s))

-- ---- its bitmap and its count

module _ (g : Geometry) (valid : Valid g) (free : Address → Bool) (m : Bytes) (t : ℕ) where
  -- its bits, and how many of them are 1
  abbrev bits : ℕ → ℕ
  bits = expected_bit g free m t

  abbrev ones : ℕ
  ones = sum (map bits (range 0 (sectors_on g t)))

  ones-le : ones ≤ 24
  ones-le = omega (arith, sum-map-le bits (expected-le g valid free m t) 0 (sectors_on g t), valid.small t)

  three-bytes : binary bits 24 ≡ bitmap_byte g free m t 0 + 256 * bitmap_byte g free m t 1 + 65536 * bitmap_byte g free m t 2
  unfolding bitmap_byte binary
  three-bytes = omega arith

  count-expected : byte (expected_entry g free m t) 0 ≡ ones
  unfolding expected_entry
  count-expected = refl

  bits-lt : binary bits 24 < 16777216
  bits-lt = binary-lt bits (expected-le g valid free m t) 24

  bitmap-expected : bitmap_of (expected_entry g free m t) ≡ binary bits 24
  unfolding bitmap_of expected_entry
  bitmap-expected = sym three-bytes

  pub bit-expected : (s : ℕ) → s < 24 → bit_of (bitmap_of (expected_entry g free m t)) s ≡ bits s
  bit-expected s h = ap (λ (x : ℕ). bit_of x s) bitmap-expected ∙ binary-bit bits (expected-le g valid free m t) 24 s h

  bitmap-byte-lt : (j : ℕ) → bitmap_byte g free m t j < 256
  unfolding bitmap_byte
  bitmap-byte-lt j = binary-lt (λ i. expected_bit g free m t (8 * j + i)) (λ i. expected-le g valid free m t (8 * j + i)) 8

  -- ---- known by these

  -- AN ENTRY IS THE EXPECTED ONE where its count and its bitmap are
  entry-from-expected : (n k : ℕ) → n % 256 ≡ ones → k % 16777216 ≡ binary bits 24 → entry_from n k ≡ expected_entry g free m t
  unfolding entry_from expected_entry
  entry-from-expected n k count bitmap =
      let three = low-bytes k _ _ _ (bitmap-byte-lt 0) (bitmap-byte-lt 1) (bitmap-byte-lt 2) (bitmap ∙ three-bytes) in
      simp (count, three.low, three.middle, three.high)

  -- the same of four bytes
  pub entry-expected : {e : Bytes} → EntryShape e → byte e 0 ≡ ones → ((s : ℕ) → s < 24 → entry_bit e s ≡ bits s) → e ≡ expected_entry g free m t
  entry-expected {e} shape count same =
      let bitmap : bitmap_of e ≡ binary bits 24 = bitmap-binary e shape ∙ binary-same (entry_bit e) bits 24 same in
      entry-itself shape ∙ entry-from-expected (byte e 0) (bitmap_of e) (omega (arith, shape.small 0)) (omega (arith, bits-lt))

-- ---- a mark moved

-- one bit more in the bitmap, and one in the count
record Freed (ones ones' bitmap bitmap' s : ℕ) : Type 0 where
  count : ones' ≡ ones + 1
  bit : bitmap' ≡ bitmap + 2 ^ s

module _ (g : Geometry) (valid : Valid g) (m : Bytes) (t s : ℕ) (on : s < sectors_on g t) where
  bit-one : (free : Address → Bool) (v : Bool) → free (address t s) ≡ v → expected_bit g free m t s ≡ indicator v
  unfolding expected_bit
  bit-one free v e = rw (lt-ltb s (sectors_on g t) on, e)

  freed : (f h : Address → Bool) → f (address t s) ≡ false → h (address t s) ≡ true → ((i : ℕ) → (i ≡ s → ⊥) → expected_bit g f m t i ≡ expected_bit g h m t i)
      → Freed (ones g valid f m t) (ones g valid h m t) (binary (expected_bit g f m t) 24) (binary (expected_bit g h m t) 24) s
  freed f h was is other =
      let zero_bit_lem : expected_bit g f m t s ≡ 0 = bit-one f false was in
      let one_bit : expected_bit g h m t s ≡ 1 = bit-one h true is in
      record {
        count = sum-map-more (expected_bit g f m t) (expected_bit g h m t) s 1 (omega arith) other 0 (sectors_on g t) (omega arith) (omega arith);
        bit = binary-set (expected_bit g f m t) (expected_bit g h m t) s zero_bit_lem one_bit other 24 (omega (arith, valid.small t));
      }

  -- A MARK MOVED in the expected entry gives the one expected where that sector alone is free, or used
  pub entry-moved : (v : Bool) (f h : Address → Bool) → f (address t s) ≡ not v → h (address t s) ≡ v
      → ((i : ℕ) → (i ≡ s → ⊥) → expected_bit g f m t i ≡ expected_bit g h m t i)
      → moved_entry (expected_entry g f m t) s v ≡ expected_entry g h m t
  unfolding moved_entry
  entry-moved true f h was is other =
      let more = freed f h was is other in
      rw (lt-ltb s 24 (omega (arith, valid.small t)), count-expected g valid f m t, bitmap-expected g valid f m t)
      (entry-from-expected g valid h m t _ _ (omega (arith, ones-le g valid h m t)) (omega (arith, bits-lt g valid h m t)))
  entry-moved false f h was is other =
      let more = freed h f is was (λ i q. sym (other i q)) in
      let below : s < 24 = omega (arith, valid.small t) in
      rw (lt-ltb s 24 below, count-expected g valid f m t, bitmap-expected g valid f m t)
      (entry-from-expected g valid h m t _ _ (omega (arith, ones-le g valid h m t)) (omega (arith, bits-lt g valid h m t, power_le s (omega arith))))
