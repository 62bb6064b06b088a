-- The ones of a number made of bits are as many as the bits that are 1 (02, §4): so the free sectors that an entry marks are counted at once.
-- In order: the ones of a number, over any width; an entry's lowest bits, and those past its 24; as the code counts; the definition's count.
-- Assumes nothing.
use Prim.Native.Nat.{ℕ, zero, suc, ◌+◌, ◌-◌, ◌*◌, ◌/◌, ◌%◌, ◌^◌, min, ◌≤◌}
use native.Mathlib.Omega.{arith}
use native.Mathlib.Decide.{dec_le}
use mathlib.Core.Path.{◌≡◌, refl, sym, ap, ap₂, ◌∙◌}
use mathlib.Core.List.{List, map}
use lib.Count.{ones, ones_cat}
use lib.ListN.{get_or-eq_default}
use Rattle.d64spec.specs.Lists.{Bytes, range, sum}
use Rattle.d64spec.specs.Bits.{bit_of, binary}
use Rattle.d64spec.specs.Geometry.{Geometry, sectors_on}
use Rattle.d64spec.specs.Layouts.{Known}
use Rattle.d64spec.specs.Map.{map_bit, map_ones}
use Rattle.d64spec.proofs.SumLaws.{sum_same, sum-map-last}
use Rattle.d64spec.proofs.BitLaws.{zero_bit_lem, bit_le, binary-more, binary-lt, binary-remainder}
use Rattle.geometry.specs.Layout.{IsCounts}
use Rattle.bam.specs.MapEntry.{entry_bit, bitmap_of, free_in, free_on, own_bits}
use Rattle.bam.specs.MapSector.{map_entry}
use Rattle.bam.proofs.ShapeLaws.{EntryShape}
use Rattle.bam.proofs.BitmapLaws.{bit-bitmap}
use Rattle.bam.proofs.SectorLaws.{bit-map-entry}

-- ---- the ones of a number

-- a bit is its own count
ones_bit : (x : ℕ) → x ≤ 1 → ones x ≡ x
unfolding ones
ones_bit zero h = refl
ones_bit (suc zero) h = refl
ones_bit (suc (suc x)) h = absurd (omega arith)

-- THE ONES OF A NUMBER MADE OF BITS are as many as the bits that are 1
pub ones-binary : (f : ℕ → ℕ) → ((s : ℕ) → f s ≤ 1) → (n : ℕ) → ones (binary f n) ≡ sum (map f (range 0 n))
unfolding binary ones
ones-binary f bit zero = refl
ones-binary f bit (suc n) =
    let last : 0 + n ≡ n = omega arith in
    let digits : binary f (suc n) ≡ f n * 2 ^ n + binary f n = omega (arith, binary-more f n) in
    let parts : ones (binary f (suc n)) ≡ ones (f n) + ones (binary f n) = ap ones digits ∙ ones_cat n (f n) (binary f n) (binary-lt f bit n) in
    omega (arith, parts, ones_bit (f n) (bit n), ones-binary f bit n, sum-map-last f 0 n, ap f last)

-- ---- an entry

module _ (e : Bytes) (shape : EntryShape e) where
  -- of its lowest n bits, the ones
  free-low : (n : ℕ) → n ≤ 24 → ones (bitmap_of e % 2 ^ n) ≡ free_in e n
  unfolding free_in
  free-low n h =
      ap ones (sym (binary-remainder (bitmap_of e) n)) ∙ ones-binary (bit_of (bitmap_of e)) (bit_le (bitmap_of e)) n
      ∙ sum_same (bit_of (bitmap_of e)) (entry_bit e) 0 n (λ s l b. bit-bitmap e shape s (omega arith))

  -- past its three bitmap bytes there is no bit
  bit_past : (s : ℕ) → 24 ≤ s → entry_bit e s ≡ 0
  unfolding entry_bit
  bit_past s h =
      let four = shape.four in
      ap (λ (x : ℕ). bit_of x (s % 8)) (get_or-eq_default e 0 {n = 1 + s / 8} (omega arith)) ∙ zero_bit_lem (s % 8)

  -- so that more bits count no more
  free-past : (k : ℕ) → free_in e (24 + k) ≡ free_in e 24
  unfolding free_in
  free-past zero = refl
  free-past (suc k) =
      let next : 24 + suc k ≡ suc (24 + k) = omega arith in
      let more : free_in e (suc (24 + k)) ≡ free_in e (24 + k) + entry_bit e (0 + (24 + k)) = sum-map-last (entry_bit e) 0 (24 + k) in
      ap (free_in e) next ∙ more ∙ ap₂ (λ (x y : ℕ). x + y) (free-past k) (bit_past (0 + (24 + k)) (omega arith)) ∙ (omega arith)

  -- of any count of bits, those that the entry has count
  free-min : (n : ℕ) → free_in e (min n 24) ≡ free_in e n
  free-min n = elim (dec_le n 24) [
    | yes h ↦ let z : min n 24 ≡ n = omega arith in ap (free_in e) z
    | no h ↦
        let z : min n 24 ≡ 24 = omega arith in
        let y : 24 + (n - 24) ≡ n = omega arith in
        ap (free_in e) z ∙ sym (free-past (n - 24)) ∙ ap (free_in e) y
  ]

  -- THE COUNT AT ONCE: b is the bitmap, k the own bits of a track with n sectors, p the power that masks off the others
  pub ones-own : (n k : ℕ) {b p : ℕ} → b ≡ bitmap_of e → k ≡ own_bits n → p ≡ 2 ^ k → ones (b % p) ≡ free_in e n
  unfolding own_bits
  ones-own n k bitmap own power =
      ap₂ (λ (x y : ℕ). ones (x % y)) bitmap (power ∙ ap (λ (x : ℕ). 2 ^ x) own) ∙ free-low (min n 24) (omega arith) ∙ free-min n

-- ---- the definition's count, of any map sector and track

module _ (g : Geometry) (kn : Known g) (m : Bytes) (t : ℕ) where
  -- the entry's own bits are the map's
  pub free-map-entry : free_in (map_entry g m t) (sectors_on g t) ≡ map_ones g m t
  unfolding free_in map_ones
  free-map-entry =
      let few = kn.valid.small t in
      sum_same (entry_bit (map_entry g m t)) (map_bit g m t) 0 (sectors_on g t) (λ s l h. bit-map-entry g m t s (omega arith))

  -- THE COUNT IS THE DEFINITION'S: by the layout's counts, whoever lends them
  pub free-on-map : {counts : List ℕ} → IsCounts g counts → free_on counts (map_entry g m t) t ≡ map_ones g m t
  free-on-map is = ap (free_in (map_entry g m t)) (is.agrees t) ∙ free-map-entry
