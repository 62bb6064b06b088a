-- A track's check as the code makes it is d64spec's `check_track`, where the free sectors are those whose bit is 0 in the track's number of owned ones.
-- In order: the bits of a number that are 0; tests; the bits of the two numbers; the lowest that is wrong; the count; the track; as the code compares,
-- and several tracks at once. Stated once over the track's number of sectors. Assumes nothing.
use Prim.Native.Nat.{ℕ, zero, suc, ◌+◌, ◌-◌, ◌*◌, ◌%◌, ◌^◌, ◌≤◌, ◌<◌}
use native.Mathlib.Omega.{arith}
use native.Mathlib.Nat.{mod-lt}
use native.Mathlib.Decide.{ℕ_discrete}
use mathlib.Core.Path.{◌≡◌, refl, sym, ap, ap₂, ◌∙◌}
use mathlib.Core.Bool.{Bool, true, false, ◌&&◌}
use mathlib.Core.List.{List}
use lib.ListN.{length, get_or}
use lib.Dec.{eqb}
use lib.Bits.{bit_xor, bit_or, or_add_and, xor_add_and, and_le_l, and_le_r}
use lib.Count.{count_trailing_zeros}
use lib.Pow.{pow_pos}
use borrow.Author.Tests.{eqb-true, eq-eqb, ne_eqb}
use Rattle.d64spec.specs.Lists.{Bytes, byte, indicator}
use Rattle.d64spec.specs.Bits.{bit_of, binary}
use Rattle.d64spec.specs.Answers.{Address, address, done, need, refused, wrong_map_entry}
use Rattle.d64spec.specs.Geometry.{Geometry, sectors_on}
use Rattle.d64spec.specs.Layouts.{Known}
use Rattle.d64spec.specs.Map.{map_bit, map_ones, wrong_bits, lowest_wrong, entry_correct}
use Rattle.d64spec.specs.Check.{check_track}
use Rattle.d64spec.proofs.MapLaws.{OwnRight, bits-of-none, lowest-at, lowest-none, none-of-bits}
use Rattle.d64spec.proofs.SumLaws.{indicator-le}
use Rattle.d64spec.proofs.BitLaws.{bit_le, binary-more, binary-lt, binary-bit, binary-remainder, number-known}
use Rattle.owners.specs.Masks.{unmarked}
use Rattle.bam.specs.MapEntry.{bitmap_of, own_bits, free_in}
use Rattle.bam.proofs.ShapeLaws.{EntryShape}
use Rattle.bam.proofs.BitmapLaws.{bit-bitmap}
use Rattle.bam.specs.MapSector.{map_entry}
use Rattle.bam.proofs.SectorLaws.{bit-map-entry, count-map-entry}
use Rattle.bam.proofs.OnesLaws.{free-map-entry}
use Rattle.mapcheck.specs.declared.Sectors.{Sectors}
use Rattle.mapcheck.specs.MapChecks.{lowest_difference, TrackSectors, track_verdict}
use Rattle.mapcheck.proofs.DifferenceLaws.{lowest-different}

-- ---- the bits of a number that are 0

-- 1 where bit s of u is 0, else 0
abbrev zero_bit : ℕ → ℕ → ℕ
zero_bit u s = indicator (eqb (bit_of u s) 0)

-- it is a bit
zero-bit-le : (u s : ℕ) → zero_bit u s ≤ 1
zero-bit-le u s = indicator-le (eqb (bit_of u s) 0)

-- of a digit and whether it is 0, one is there
one-digit : (x p : ℕ) → x ≤ 1 → indicator (eqb x 0) * p + x * p ≡ p
one-digit zero p h = omega arith
one-digit (suc zero) p h = omega arith
one-digit (suc (suc x)) p h = absurd (omega arith)

-- the ones and the zeros are all bits
ones-and-zeros : (u n : ℕ) → binary (zero_bit u) n + binary (bit_of u) n + 1 ≡ 2 ^ n
unfolding binary
ones-and-zeros u zero = refl
ones-and-zeros u (suc n) =
    omega (arith, one-digit (bit_of u n) (2 ^ n) (bit_le u n), ones-and-zeros u n, binary-more (zero_bit u) n, binary-more (bit_of u) n)

-- THE ZEROS AS A NUMBER: all ones less the number's own
binary-zeros : (u n : ℕ) → 2 ^ n - 1 - u % 2 ^ n ≡ binary (zero_bit u) n
binary-zeros u n =
    let rest : 2 ^ n - 1 - binary (bit_of u) n ≡ binary (zero_bit u) n = omega (arith, ones-and-zeros u n) in
    ap (λ (x : ℕ). 2 ^ n - 1 - x) (sym (binary-remainder u n)) ∙ rest

-- ---- tests

-- two tests that hold together are the same
test-same : (a b : Bool) → (a ≡ true → b ≡ true) → (b ≡ true → a ≡ true) → a ≡ b
test-same true b there back = sym (there refl)
test-same false true there back = back refl
test-same false false there back = refl

-- two tests that never hold together
both_false : (a b : Bool) → (a ≡ true → b ≡ true → ⊥) → (a && b) ≡ false
both_false true true never = absurd (never refl refl)
both_false true false never = refl
both_false false b never = refl

module _ (g : Geometry) (kn : Known g) (m : Bytes) (used : List ℕ) (t : ℕ) where
  -- what the definitions ask; the track's sectors, its entry and its number of owned sectors
  abbrev free : Address → Bool
  free = unmarked used

  abbrev sectors : ℕ
  sectors = sectors_on g t

  abbrev entry : Bytes
  entry = map_entry g m t

  abbrev owned : ℕ
  owned = get_or used (t - 1) 0

  -- the two numbers that are compared: the sectors that are marked free, and those that have no owner
  abbrev marked : ℕ
  marked = bitmap_of entry % 2 ^ sectors

  abbrev others : ℕ
  others = 2 ^ sectors - 1 - owned % 2 ^ sectors

  -- ---- the bits of the two numbers

  -- both have as many bits as the track has sectors
  others-lt : others < 2 ^ sectors
  others-lt = rw (binary-zeros owned sectors) (binary-lt (zero_bit owned) (zero-bit-le owned) sectors)

  -- a sector's bit is 1 where it has no owner
  others-bit : (s : ℕ) → s < sectors → bit_of others s ≡ indicator (free (address t s))
  unfolding unmarked
  others-bit s h = ap (λ (x : ℕ). bit_of x s) (binary-zeros owned sectors) ∙ binary-bit (zero_bit owned) (zero-bit-le owned) sectors s h

  module _ (shape : EntryShape entry) where
    -- and in the other where it is marked free
    marked-bit : (s : ℕ) → s < sectors → bit_of marked s ≡ map_bit g m t s
    marked-bit s h =
        let below : s < 24 = omega (arith, kn.valid.small t) in
        ap (λ (x : ℕ). bit_of x s) (sym (binary-remainder (bitmap_of entry) sectors))
        ∙ binary-bit (bit_of (bitmap_of entry)) (bit_le (bitmap_of entry)) sectors s h
        ∙ bit-bitmap entry shape s below ∙ bit-map-entry g m t s below

    -- equal numbers, right bits
    bits-of-same : marked ≡ others → OwnRight g free m t
    bits-of-same e s h = sym (marked-bit s h) ∙ ap (λ (x : ℕ). bit_of x s) e ∙ others-bit s h

    -- right bits, equal numbers
    same-of-bits : OwnRight g free m t → marked ≡ others
    same-of-bits bit =
        number-known marked others sectors (mod-lt (bitmap_of entry) (pow_pos sectors)) others-lt
        (λ s h. marked-bit s h ∙ bit s h ∙ sym (others-bit s h))

    -- the one test is the other
    bitmap-test : eqb marked others ≡ eqb (length (wrong_bits g free m t)) 0
    bitmap-test =
        test-same _ _
        (λ e. eq-eqb _ 0 (none-of-bits g free m t (bits-of-same (eqb-true _ _ e))))
        (λ e. eq-eqb _ _ (same-of-bits (bits-of-none g free m t (eqb-true _ 0 e))))

    -- ---- the lowest wrong bit

    -- where the numbers differ, in the lowest of these bits
    lowest-other : (marked ≡ others → ⊥) → lowest_wrong g free m t ≡ count_trailing_zeros 32 (bit_xor marked others)
    lowest-other other =
        let low = lowest-different 32 sectors _ _ (omega (arith, kn.valid.small t)) (mod-lt (bitmap_of entry) (pow_pos sectors)) others-lt other in
        lowest-at g free m t _ low.below
        (λ e. low.other (marked-bit _ low.below ∙ e ∙ sym (others-bit _ low.below)))
        (λ i h. let below : i < sectors = omega (arith, low.below) in sym (marked-bit i below) ∙ low.lower i h ∙ others-bit i below)

    -- the sector that is named is the lowest wrong one, and 255 where there is none
    lowest-same : lowest_difference marked others ≡ lowest_wrong g free m t
    unfolding lowest_difference
    lowest-same = elim (ℕ_discrete marked others) [
      | yes e ↦ rw (eq-eqb _ _ e) (sym (lowest-none g free m t (bits-of-same e)))
      | no other ↦ rw (ne_eqb _ _ other) (sym (lowest-other other))
    ]

    -- ---- the count

    -- the count byte against the marks counted
    count-test : eqb (byte entry 0) (free_in entry sectors) ≡ eqb (byte m (g.map_at t)) (map_ones g m t)
    count-test = ap₂ eqb (count-map-entry g m t) (free-map-entry g kn m t)

    -- THE TRACK'S CHECK IS THE DEFINITION'S: numbers of bits are compared as document 01 compares the bits, and the place is document 02's
    pub track-same : track_verdict g entry owned t ≡ check_track g free m t
    unfolding track_verdict entry_correct
    track-same =
        ap₂ (λ (b : Bool) (s : ℕ). need b (wrong_map_entry (address t s)))
        (ap₂ (λ (x y : Bool). x && y) bitmap-test count-test) lowest-same

-- ---- as the code compares

-- what is left of a division is taken off all ones
pub rest_le : (a : ℕ) {p : ℕ} → 0 < p → a % p ≤ p - 1
rest_le a h = let below = mod-lt a h in omega arith

-- a track's own bits are its sectors
own-sectors : (g : Geometry) → Known g → (t : ℕ) → own_bits (sectors_on g t) ≡ sectors_on g t
unfolding own_bits
own-sectors g kn t = omega (arith, kn.valid.small t)

-- e is an entry, b its bitmap and u the owned sectors of its track; k is how many bits are compared, and p their power
pub sectors-found : {e : Bytes} {u n b k p x y : ℕ} → b ≡ bitmap_of e → k ≡ n → p ≡ 2 ^ k → x ≡ b % p → y ≡ p - 1 - u % p
    → TrackSectors e u n (record { marked = x; free = y })
sectors-found bitmap own power marked free = rw (marked, free, power, own, bitmap) (record { marked = refl; free = refl })

-- e is the entry of track t, which has k sectors, and u its owned sectors; n is how many of its marks are counted
module _ (g : Geometry) (kn : Known g) (e : Bytes) (u t : ℕ) {k n : ℕ} (has : k ≡ sectors_on g t) (count : n ≡ free_in e k) {r : Sectors}
    (found : TrackSectors e u (own_bits k) r) where
  verdict-found : need (eqb r.marked r.free && eqb (byte e 0) n) (wrong_map_entry (address t (lowest_difference r.marked r.free)))
      ≡ track_verdict g e u t
  unfolding track_verdict
  verdict-found = rw (found.marked, found.free, count, has, own-sectors g kn t)

  -- the entry is right where both agree
  pub track-right : r.marked ≡ r.free → byte e 0 ≡ n → done tt ≡ track_verdict g e u t
  track-right same counted = rw (eq-eqb _ _ same, eq-eqb _ _ counted) at verdict-found

  -- and refused where one of them does not
  pub track-wrong : {t' s x y : ℕ} → s ≡ lowest_difference x y → t' ≡ t → x ≡ r.marked → y ≡ r.free → (r.marked ≡ r.free → byte e 0 ≡ n → ⊥)
      → refused (wrong_map_entry (address t' s)) ≡ track_verdict g e u t
  track-wrong named track-is marked free wrong =
      ap₂ (λ (i j : ℕ). refused (wrong_map_entry (address i j))) track-is (named ∙ ap₂ lowest_difference marked free)
      ∙ rw (both_false (eqb r.marked r.free) (eqb (byte e 0) n) (λ i j. wrong (eqb-true _ _ i) (eqb-true _ _ j))) at verdict-found

-- ---- several tracks at once

-- nothing differs in a number of differences that is 0: those before it, the bits x and y, the numbers c and n
pub nothing-differs : (w x y c n : ℕ) → bit_or w (bit_or (bit_xor x y) (bit_xor c n)) ≡ 0 → (w ≡ 0) × (x ≡ y) × (c ≡ n)
nothing-differs w x y c n none =
    let all = or-none w (bit_or (bit_xor x y) (bit_xor c n)) none in
    let both = or-none (bit_xor x y) (bit_xor c n) all.1 in
    (all.0, xor-none x y both.0, xor-none c n both.1)
  where
    or-none : (a b : ℕ) → bit_or a b ≡ 0 → (a ≡ 0) × (b ≡ 0)
    or-none a b e = (omega (arith, or_add_and a b, and_le_r a b), omega (arith, or_add_and a b, and_le_l a b))

    xor-none : (a b : ℕ) → bit_xor a b ≡ 0 → a ≡ b
    xor-none a b e = omega (arith, xor_add_and a b, and_le_l a b, and_le_r a b)
