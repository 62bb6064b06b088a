-- A track's map entry passes the check exactly where it marks nobody's sectors free; else the place names its lowest wrong sector.
-- In order: lists; wrong bits, and the lowest; what a track's check depends on; one track; all tracks.
use Prim.Native.Nat.{ℕ, zero, suc, ◌+◌, ◌/◌, ◌%◌, ◌≤◌, ◌<◌}
use native.Mathlib.Omega.{arith}
use native.Mathlib.Decide.{dec_le}
use mathlib.Core.Path.{◌≡◌, refl, sym, ap, ap₂, ◌∙◌}
use mathlib.Core.Bool.{Bool, true, false, cond, not, ◌&&◌}
use mathlib.Core.Logic.{inl, inr}
use mathlib.Core.List.{List, [], ◌∷◌, map-id}
use lib.ListN.{length, get_or}
use lib.Dec.{eqb}
use borrow.Author.Tests.{eqb-true, eq-eqb, not-false}
use Rattle.d64spec.specs.Lists.{All, Bytes, byte, filter, indicator, range}
use Rattle.d64spec.specs.Answers.{Address, address, done, need, wrong_map_entry}
use Rattle.d64spec.specs.Geometry.{Geometry, Valid, map_address, sector_number, sectors_on}
use Rattle.d64spec.specs.Image.{Disk}
use Rattle.d64spec.specs.Owner.{claim_count, is_free}
use Rattle.d64spec.specs.Map.{entry_correct, lowest_wrong, map_bit, map_ones, wrong_bit, wrong_bits}
use Rattle.d64spec.specs.Check.{check_map, check_track}
use Rattle.d64spec.specs.Accepted.{MarksFree, RightBit}
use Rattle.d64spec.specs.Order.{NamesWrong}
use Rattle.d64spec.proofs.ListLaws.{Lowest, lowest}
use Rattle.d64spec.proofs.SumLaws.{sum_same}
use Rattle.d64spec.proofs.BitLaws.{bit_le}
use Rattle.d64spec.proofs.ResultLaws.{need-done}

-- ---- lists

module _ {A : Type 0} (p : A → Bool) where
  pub filter_none : (l : List A) → length (filter p l) ≡ 0 → All (λ x. p x ≡ false) l
  filter_none [] e = tt
  filter_none (x ∷ l) e = go (p x) refl (λ e'. filter_none l e') e
    where
      go : (b : Bool) → p x ≡ b → (length (filter p l) ≡ 0 → All (λ y. p y ≡ false) l) → length (cond b (x ∷ filter p l) (filter p l)) ≡ 0 → (p x ≡ false) × All (λ y. p y ≡ false) l
      go true t k e' = absurd (omega arith)
      go false t k e' = (t, k e')

  pub none-filter : (l : List A) → All (λ x. p x ≡ false) l → length (filter p l) ≡ 0
  none-filter [] a = refl
  none-filter (x ∷ l) a = rw a.0 (none-filter l a.1)

-- tests that agree on a range pass the same numbers of it
pub filter_same : (p q : ℕ → Bool) (a n : ℕ) → ((i : ℕ) → a ≤ i → i < a + n → p i ≡ q i) → filter p (range a n) ≡ filter q (range a n)
filter_same p q a zero e = refl
filter_same p q a (suc n) e =
    ap₂ (λ (b : Bool) (l : List ℕ). cond b (a ∷ l) l) (e a (omega arith) (omega arith)) (filter_same p q (suc a) n (λ i l u. e i (omega arith) (omega arith)))

module _ (P : ℕ → Type 0) where
  pub range_at : (a n : ℕ) → All P (range a n) → (i : ℕ) → a ≤ i → i < a + n → P i
  range_at a zero h i l u = absurd (omega arith)
  range_at a (suc n) h i l u = elim (dec_le (suc a) i) [
    | yes k ↦ range_at (suc a) n h.1 i k (omega arith)
    | no k ↦ let e : a ≡ i = omega arith in rw e at h.0
  ]

  pub range_all : (a n : ℕ) → ((i : ℕ) → a ≤ i → i < a + n → P i) → All P (range a n)
  range_all a zero f = tt
  range_all a (suc n) f = (f a (omega arith) (omega arith), range_all (suc a) n (λ i l u. f i (omega arith) (omega arith)))

-- ---- one track

pub and-true : (a b : Bool) → (a && b) ≡ true → (a ≡ true) × (b ≡ true)
and-true true b e = (refl, e)
and-true false b e = absurd (let z : ◌≡◌ {A = ℕ} 0 1 = cc in omega arith)

pub both_true : {a b : Bool} → a ≡ true → b ≡ true → (a && b) ≡ true
both_true {a} {b} e h = ap (λ (x : Bool). x && b) e ∙ h

free-claims : (o : ℕ) → o ≤ 1 → indicator (eqb o 0) + o ≡ 1
free-claims zero h = refl
free-claims (suc zero) h = refl
free-claims (suc (suc o)) h = absurd (omega arith)

pub map-bit-le : (g : Geometry) (m : Bytes) (t s : ℕ) → map_bit g m t s ≤ 1
unfolding map_bit
map-bit-le g m t s = bit_le (byte m (g.map_at t + 1 + s / 8)) (s % 8)

-- each bit of the track's own sectors is the one that its sector asks for
abbrev pub OwnRight : Geometry → (Address → Bool) → Bytes → ℕ → Type 0
OwnRight g free m t = (s : ℕ) → s < sectors_on g t → map_bit g m t s ≡ indicator (free (address t s))

-- no bit is wrong exactly there
module _ (g : Geometry) (free : Address → Bool) (m : Bytes) (t : ℕ) where
  bit-of-test : (s : ℕ) → wrong_bit g free m t s ≡ false → map_bit g m t s ≡ indicator (free (address t s))
  bit-of-test s e = eqb-true _ _ (not-false _ e)

  test-of-bit : (s : ℕ) → map_bit g m t s ≡ indicator (free (address t s)) → wrong_bit g free m t s ≡ false
  test-of-bit s e = ap not (eq-eqb _ _ e)

  pub bits-of-none : length (wrong_bits g free m t) ≡ 0 → OwnRight g free m t
  unfolding wrong_bits
  bits-of-none e s h =
      let all = filter_none (wrong_bit g free m t) (range 0 (sectors_on g t)) e in
      bit-of-test s (range_at (λ i. wrong_bit g free m t i ≡ false) 0 (sectors_on g t) all s (omega arith) (omega arith))

  pub none-of-bits : OwnRight g free m t → length (wrong_bits g free m t) ≡ 0
  unfolding wrong_bits
  none-of-bits bit =
      none-filter (wrong_bit g free m t) (range 0 (sectors_on g t))
      (range_all (λ i. wrong_bit g free m t i ≡ false) 0 (sectors_on g t) (λ s l h. test-of-bit s (bit s (omega arith))))

-- the lowest of the wrong ones (02, §3)
module _ (g : Geometry) (free : Address → Bool) (m : Bytes) (t : ℕ) where
  -- it is wrong, and all lower ones are right
  pub wrong_first : (s : ℕ) (l : List ℕ) → wrong_bits g free m t ≡ s ∷ l → Lowest (wrong_bit g free m t) (λ i. i) 0 (sectors_on g t) s
  unfolding wrong_bits
  wrong_first s l e = lowest (wrong_bit g free m t) (λ i. i) 0 (sectors_on g t) s l (ap (filter (wrong_bit g free m t)) (map-id (range 0 (sectors_on g t))) ∙ e)

  passes-not-right : (s : ℕ) → wrong_bit g free m t s ≡ true → map_bit g m t s ≡ indicator (free (address t s)) → ⊥
  passes-not-right s w e = let z : ◌≡◌ {A = ℕ} 0 1 = (let right = test-of-bit g free m t s e in cc) in omega arith

  -- a sector that is wrong, with all lower ones right, is that one
  pub lowest-at : (s : ℕ) → s < sectors_on g t → (map_bit g m t s ≡ indicator (free (address t s)) → ⊥)
      → ((i : ℕ) → i < s → map_bit g m t i ≡ indicator (free (address t i))) → lowest_wrong g free m t ≡ s
  lowest-at s h wrong lower = go (wrong_bits g free m t) refl
    where
      go : (l : List ℕ) → wrong_bits g free m t ≡ l → get_or l 0 255 ≡ s
      go [] e = absurd (wrong (bits-of-none g free m t (ap length e) s h))
      go (x ∷ l) e =
          let low = wrong_first x l e in
          let not-before : low.number < s → ⊥ = λ b. passes-not-right low.number low.passes (lower low.number b) in
          let not_after : s < low.number → ⊥ = λ a. wrong (bit-of-test g free m t s (low.lower s (omega arith) a)) in
          omega (arith, low.element)

  -- and 255 where all are right
  pub lowest-none : OwnRight g free m t → lowest_wrong g free m t ≡ 255
  lowest-none bit = go (wrong_bits g free m t) (none-of-bits g free m t bit)
    where
      go : (l : List ℕ) → length l ≡ 0 → get_or l 0 255 ≡ 255
      go [] e = refl
      go (x ∷ l) e = absurd (omega arith)

-- what a track's check depends on: its count, its own bits, and which of its own sectors are free
module _ (g : Geometry) (m n : Bytes) (t : ℕ) (own : (s : ℕ) → s < sectors_on g t → map_bit g m t s ≡ map_bit g n t s) where
  pub ones-same : map_ones g m t ≡ map_ones g n t
  unfolding map_ones
  ones-same = sum_same (map_bit g m t) (map_bit g n t) 0 (sectors_on g t) (λ s l u. own s (omega arith))

  pub check_track-same : (f h : Address → Bool) → byte m (g.map_at t) ≡ byte n (g.map_at t) → ((s : ℕ) → s < sectors_on g t → f (address t s) ≡ h (address t s))
      → check_track g f m t ≡ check_track g h n t
  unfolding entry_correct wrong_bits
  check_track-same f h count free =
      ap₂ (λ (x : List ℕ) (y : Bool). need (eqb (length x) 0 && y) (wrong_map_entry (address t (get_or x 0 255))))
      (filter_same (wrong_bit g f m t) (wrong_bit g h n t) 0 (sectors_on g t) (λ s l u.
      ap₂ (λ (x : ℕ) (b : Bool). not (eqb x (indicator b))) (own s (omega arith)) (free s (omega arith))))
      (ap₂ eqb count ones-same)

module _ (g : Geometry) (v : Valid g) (d : Disk) (u : (n : ℕ) → claim_count g d n ≤ 1) where
  -- the map sector
  abbrev m : Bytes
  m = d (sector_number g map_address)

  -- the bit that is right for a sector
  pub right-bit : (t s : ℕ) → indicator (is_free g d (address t s)) + claim_count g d (sector_number g (address t s)) ≡ 1
  right-bit t s = free-claims (claim_count g d (sector_number g (address t s))) (u (sector_number g (address t s)))

  -- a bit and the owners: one of the two is 1, the other 0
  pub mark-of-sum : (t s : ℕ) → map_bit g m t s + claim_count g d (sector_number g (address t s)) ≡ 1 → RightBit g d t s
  mark-of-sum t s e = ((λ h. omega arith), (λ h. omega arith))

  pub sum-of-mark : (t s : ℕ) → RightBit g d t s → map_bit g m t s + claim_count g d (sector_number g (address t s)) ≡ 1
  sum-of-mark t s h = elim (dec_le 1 (claim_count g d (sector_number g (address t s)))) [
    | yes k ↦
        let no-bit : map_bit g m t s ≡ 1 → ⊥ = λ e. (let f : claim_count g d (sector_number g (address t s)) ≡ 0 = h.0 e in omega arith) in
        omega (arith, map-bit-le g m t s, u (sector_number g (address t s)))
    | no k ↦ let f : claim_count g d (sector_number g (address t s)) ≡ 0 = omega arith in omega (arith, h.1 f)
  ]

  -- the bit that its sector asks for is the right one, and no other
  right-of-bit : (t s : ℕ) → map_bit g m t s ≡ indicator (is_free g d (address t s)) → RightBit g d t s
  right-of-bit t s e = mark-of-sum t s (rw e (right-bit t s))

  bit-of-right : (t s : ℕ) → RightBit g d t s → map_bit g m t s ≡ indicator (is_free g d (address t s))
  bit-of-right t s r = omega (arith, sum-of-mark t s r, right-bit t s)

  pub track-sound : (t : ℕ) → entry_correct g (is_free g d) m t ≡ true → MarksFree g d t
  unfolding entry_correct
  track-sound t e =
      let h = and-true (eqb (length (wrong_bits g (is_free g d) m t)) 0) (eqb (byte m (g.map_at t)) (map_ones g m t)) e in
      let bit = bits-of-none g (is_free g d) m t (eqb-true _ 0 h.0) in
      record {
        free_count = eqb-true _ _ h.1;
        free = λ s l. right-of-bit t s (bit s l);
      }

  pub track-complete : (t : ℕ) → MarksFree g d t → entry_correct g (is_free g d) m t ≡ true
  unfolding entry_correct
  track-complete t r =
      let none = none-of-bits g (is_free g d) m t (λ s l. bit-of-right t s (r.free s l)) in
      both_true (eq-eqb _ 0 none) (eq-eqb (byte m (g.map_at t)) (map_ones g m t) r.free_count)

  -- THE PLACE of a wrong entry names its lowest wrong sector, and 255 only if all bits are right (02, §3)
  pub lowest-names : (t : ℕ) → (MarksFree g d t → ⊥) → NamesWrong g d t (lowest_wrong g (is_free g d) m t)
  lowest-names t wrong = go (wrong_bits g (is_free g d) m t) refl
    where
      go : (l : List ℕ) → wrong_bits g (is_free g d) m t ≡ l → NamesWrong g d t (get_or l 0 255)
      go [] e =
          let right : (s : ℕ) → s < sectors_on g t → RightBit g d t s = λ s h. right-of-bit t s (bits-of-none g (is_free g d) m t (ap length e) s h) in
          inr (refl, record { bits = right; count = λ c. wrong (record { free_count = c; free = right }) })
      go (s ∷ l) e =
          let low = wrong_first g (is_free g d) m t s l e in
          inl (rw low.element (record {
            on_track = omega (arith, low.high);
            wrong = λ r. passes-not-right g (is_free g d) m t low.number low.passes (bit-of-right t low.number r);
            lower = λ i h. right-of-bit t i (bit-of-test g (is_free g d) m t i (low.lower i (omega arith) h));
          }))

  -- and no other sector
  pub names-lowest : (t s : ℕ) → NamesWrong g d t s → lowest_wrong g (is_free g d) m t ≡ s
  names-lowest t s (inl w) =
      lowest-at g (is_free g d) m t s w.on_track (λ e. w.wrong (right-of-bit t s e)) (λ i h. bit-of-right t i (w.lower i h))
  names-lowest t s (inr w) = lowest-none g (is_free g d) m t (λ i h. bit-of-right t i (w.1.bits i h)) ∙ sym w.0

  -- ---- all tracks

  pub map-sound : (l : List ℕ) (x : Unit {0}) → check_map g d (is_free g d) l ≡ done x → All (MarksFree g d) l
  map-sound [] x e = tt
  map-sound (t ∷ l) x e =
      let h = need-done (entry_correct g (is_free g d) m t) _ _ x e in
      (track-sound t h.0, map-sound l x h.1)

  pub map-complete : (l : List ℕ) → All (MarksFree g d) l → check_map g d (is_free g d) l ≡ done tt
  map-complete [] a = refl
  map-complete (t ∷ l) a = rw (track-complete t a.0) (map-complete l a.1)
