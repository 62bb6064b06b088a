-- The masks of owned sectors. In order: one bit; a track's mask, and one bit more where a sector gets an owner; mask and table say the same; a chain
-- under way, with the bits of the track that it is on apart. Assumes nothing.
use Prim.Native.Nat.{ℕ, ◌+◌, ◌-◌, ◌^◌, ◌≤◌, ◌<◌}
use native.Mathlib.Omega.{arith}
use native.Mathlib.Decide.{ℕ_discrete}
use native.Mathlib.Nat.{mod-eq_of_lt}
use mathlib.Core.Path.{◌≡◌, refl, sym, ap, ◌∙◌}
use mathlib.Core.Bool.{Bool, true, false, not}
use mathlib.Core.List.{List}
use lib.ListN.{length, get_or, set, length-set}
use lib.Seq.{get_or-set_same, get_or-set_other}
use lib.Dec.{eqb}
use lib.Pow.{pow_pos}
use borrow.Author.Tests.{ltb-true, eq-eqb, ne_eqb}
use Rattle.d64spec.specs.Lists.{indicator}
use Rattle.d64spec.specs.Bits.{bit_of}
use Rattle.d64spec.specs.Answers.{Address}
use Rattle.d64spec.specs.Geometry.{Geometry, total, first_on, sectors_on, sector_number, on_disk}
use Rattle.d64spec.proofs.SumLaws.{indicator-le}
use Rattle.d64spec.proofs.BitLaws.{zero_bit_lem, binary-lt, binary-same, binary-bit, binary-remainder, binary-set}
use Rattle.d64spec.proofs.AllocationLaws.{one-track}
use Rattle.owners.specs.OwnerTable.{free_by}
use Rattle.owners.specs.Masks.{owned_bit, owned_mask, Masks, unmarked}

-- ---- one bit

module _ (own : List ℕ) (first s : ℕ) where
  owned-bit-le : owned_bit own first s ≤ 1
  unfolding owned_bit
  owned-bit-le = indicator-le (not (eqb (get_or own (first + s) 0) 0))

  bit-free : get_or own (first + s) 0 ≡ 0 → owned_bit own first s ≡ 0
  unfolding owned_bit
  bit-free e = ap (λ (b : Bool). indicator (not b)) (eq-eqb _ 0 e)

  bit-owned : (get_or own (first + s) 0 ≡ 0 → ⊥) → owned_bit own first s ≡ 1
  unfolding owned_bit
  bit-owned e = ap (λ (b : Bool). indicator (not b)) (ne_eqb _ 0 e)

bit-same : (own own' : List ℕ) (first s : ℕ) → get_or own (first + s) 0 ≡ get_or own' (first + s) 0 → owned_bit own first s ≡ owned_bit own' first s
unfolding owned_bit
bit-same own own' first s e = ap (λ (x : ℕ). indicator (not (eqb x 0))) e

-- ---- a track's mask

-- a mask of n bits is below 2 ^ n
pub mask_lt : (own : List ℕ) (first n : ℕ) → owned_mask own first n < 2 ^ n
unfolding owned_mask
mask_lt own first n = binary-lt (owned_bit own first) (λ s. owned-bit-le own first s) n

-- two tables that agree on a track have the same mask of it
pub mask-same : (own own' : List ℕ) (first n : ℕ) → ((s : ℕ) → s < n → get_or own (first + s) 0 ≡ get_or own' (first + s) 0)
    → owned_mask own first n ≡ owned_mask own' first n
unfolding owned_mask
mask-same own own' first n same = binary-same (owned_bit own first) (owned_bit own' first) n (λ s h. bit-same own own' first s (same s h))

-- where nobody owns any of them, it is 0
pub mask-empty : (own : List ℕ) (first n : ℕ) → ((s : ℕ) → s < n → get_or own (first + s) 0 ≡ 0) → owned_mask own first n ≡ 0
unfolding owned_mask
mask-empty own first n free =
    binary-same (owned_bit own first) (bit_of 0) n (λ s h. bit-free own first s (free s h) ∙ sym (zero_bit_lem s))
    ∙ binary-remainder 0 n ∙ mod-eq_of_lt (pow_pos n)

-- ONE BIT MORE where a sector gets an owner
pub mask-more : (own : List ℕ) (first n s id : ℕ) → s < n → first + s < length own → get_or own (first + s) 0 ≡ 0 → 1 ≤ id
    → owned_mask (set own (first + s) id) first n ≡ owned_mask own first n + 2 ^ s
unfolding owned_mask
mask-more own first n s id h inside free some =
    let own' : List ℕ = set own (first + s) id in
    let marked : get_or own' (first + s) 0 ≡ id = get_or-set_same own (first + s) id 0 inside in
    binary-set (owned_bit own first) (owned_bit own' first) s (bit-free own first s free) (bit-owned own' first s (λ z. omega arith))
    (λ i other. bit-same own own' first i (sym (get_or-set_other own (first + s) (first + i) id 0 (λ z. other (omega arith))))) n h

-- a sector's bit says whether it has an owner
mask-bit : (own : List ℕ) (first n s : ℕ) → s < n → eqb (bit_of (owned_mask own first n) s) 0 ≡ eqb (get_or own (first + s) 0) 0
unfolding owned_mask owned_bit
mask-bit own first n s h =
    ap (λ (x : ℕ). eqb x 0) (binary-bit (owned_bit own first) (λ i. owned-bit-le own first i) n s h) ∙ go (eqb (get_or own (first + s) 0) 0)
  where
    go : (b : Bool) → eqb (indicator (not b)) 0 ≡ b
    go true = refl
    go false = refl

-- MASK AND TABLE SAY THE SAME of each sector of the disk
pub masks-free : (g : Geometry) {own used : List ℕ} → Masks g own used → (r : Address) → on_disk g r ≡ true → 1 ≤ r.track → r.track ≤ 40
    → unmarked used r ≡ free_by g own r
unfolding unmarked free_by sector_number on_disk
masks-free g {own} {used} m r on low high =
    ap (λ (x : ℕ). eqb (bit_of x r.sector) 0) (m.mask r.track low high)
    ∙ mask-bit own (first_on g r.track) (sectors_on g r.track) r.sector (ltb-true _ _ on)

-- ---- a chain under way

-- the masks where the bits m of track t's sectors are not added yet: added, they are the table's
pub record Gathering (g : Geometry) (own used : List ℕ) (t m : ℕ) : Type 0 where
  pub size : length used ≡ 40
  pub others : (i : ℕ) → 1 ≤ i → i ≤ 40 → (i ≡ t → ⊥) → get_or used (i - 1) 0 ≡ owned_mask own (first_on g i) (sectors_on g i)
  pub here : 1 ≤ t → t ≤ 40 → get_or used (t - 1) 0 + m ≡ owned_mask own (first_on g t) (sectors_on g t)

-- nothing is gathered yet, on whatever track
pub gathering-start : (g : Geometry) {own used : List ℕ} (t : ℕ) {m : ℕ} → Masks g own used → m ≡ 0 → Gathering g own used t m
gathering-start g {own} {used} t k none = record {
  size = k.size;
  others = λ i l h n. k.mask i l h;
  here = λ l h. omega (arith, k.mask t l h, none);
}

module _ (g : Geometry) {own used : List ℕ} {t m : ℕ} (k : Gathering g own used t m) where
  -- the sum is a mask of the track's sectors
  pub gathering-lt : 1 ≤ t → t ≤ 40 → get_or used (t - 1) 0 + m < 2 ^ sectors_on g t
  gathering-lt low high = omega (arith, k.here low high, mask_lt own (first_on g t) (sectors_on g t))

  -- added, they are the masks
  pub gathering-added : {v : ℕ} → 1 ≤ t → t ≤ 40 → v ≡ get_or used (t - 1) 0 + m → Masks g own (set used (t - 1) v)
  gathering-added {v} low high is = record {
    size = length-set used (t - 1) v ∙ k.size;
    mask = λ i l h. elim (ℕ_discrete i t) [
      | yes q ↦ rw q (get_or-set_same used (t - 1) v 0 (omega (arith, k.size)) ∙ is ∙ k.here low high)
      | no q ↦ get_or-set_other used (t - 1) (i - 1) v 0 (λ z. q (omega arith)) ∙ k.others i l h q
    ];
  }

  -- where there is no mask of such a track, they are the masks already
  pub gathering-off : (1 ≤ t → t ≤ 40 → ⊥) → Masks g own used
  gathering-off off = record { size = k.size; mask = λ i l h. k.others i l h (λ z. off (omega arith) (omega arith)) }

  -- a sector of the track gets an owner: one bit more is gathered
  pub gathering-more : {n s id m' : ℕ} → length own ≡ total g → 1 ≤ t → t ≤ 40 → s < sectors_on g t → n ≡ first_on g t + s → n < total g
      → get_or own n 0 ≡ 0 → 1 ≤ id → m' ≡ m + 2 ^ s → Gathering g (set own n id) used t m'
  gathering-more {n} {s} {id} {m'} long low high inside is within free some more = rw is (record {
    size = k.size;
    others = λ i l h q. k.others i l h q
        ∙ mask-same own _ (first_on g i) (sectors_on g i) (λ j b. sym (get_or-set_other own (first_on g t + s) (first_on g i + j) id 0
        (λ z. q (one-track g i t (first_on g i + j) (record { low = omega arith; high = omega arith }) (record { low = omega arith; high = omega arith })))));
    here = λ l h. omega (
      arith,
      k.here l h,
      more,
      mask-more own (first_on g t) (sectors_on g t) s id inside (omega (arith, is, long)) (rw is at free) some,
    );
  })
