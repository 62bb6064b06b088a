-- The map written from the owners is right.
use Prim.Native.Nat.{ℕ, zero, suc, ◌+◌, ◌*◌, ◌-◌, ◌/◌, ◌%◌, ◌≤◌, ◌<◌}
use native.Mathlib.Omega.{arith}
use native.Mathlib.Decide.{dec_le}
use mathlib.Core.Path.{◌≡◌, refl, sym, ap, ◌∙◌, subst, fun_ext}
use mathlib.Core.Bool.{Bool, true, false, cond}
use mathlib.Core.Logic.{⊎_elim}
use mathlib.Core.List.{◌++◌, map}
use lib.ListN.{length, take, drop, get_or}
use lib.Dec.{eqb, ltb}
use borrow.Author.Tests.{eq-eqb, lt-ltb, le-ltb}
use Rattle.d64spec.specs.Lists.{Bytes, byte, count, indicator, range, splice}
use Rattle.d64spec.specs.Bits.{bit_of, binary}
use Rattle.d64spec.specs.Answers.{Address, address}
use Rattle.d64spec.specs.Geometry.{Geometry, Valid, map_address, sector_number, sectors_on, total, tracks}
use Rattle.d64spec.specs.Image.{Disk}
use Rattle.d64spec.specs.Directory.{directory_sectors, files, plain_list}
use Rattle.d64spec.specs.Owner.{claim_count, claim_list, claims_of, file_claims, is_free}
use Rattle.d64spec.specs.Map.{bitmap_byte, expected_bit, expected_entry, map_bit, map_ones, rewrite_map, with_entries}
use Rattle.d64spec.specs.Accepted.{AcceptedDisk, MarksFree}
use Rattle.d64spec.specs.Changes.{MapFollows}
use Rattle.d64spec.proofs.SumLaws.{sum_same, indicator-le}
use Rattle.d64spec.proofs.BitLaws.{binary-bit, binary-same}
use Rattle.d64spec.proofs.BoundLaws.{sector_number-lt, map_on}
use Rattle.d64spec.proofs.MapLaws.{map-bit-le, right-bit, mark-of-sum}
use Rattle.d64spec.proofs.SpliceLaws.{length-splice, splice-before, splice-in, splice-after, part-of-bytes}
use Rattle.d64spec.proofs.FrameLaws.{Sound, Agree, frame-files, frame-plain_list, frame-claims, frame-sound}
use Rattle.d64spec.proofs.ImageLaws.{Whole, put_same, put_other, put_whole}

-- an entry is known by its 24 bits
pub expected-entry-same : (g : Geometry) → Valid g → (f h : Address → Bool) (m n : Bytes) (t : ℕ)
    → ((s : ℕ) → s < 24 → expected_bit g f m t s ≡ expected_bit g h n t s)
    → expected_entry g f m t ≡ expected_entry g h n t
unfolding expected_entry bitmap_byte
expected-entry-same g v f h m n t same =
    let ones = sum_same (expected_bit g f m t) (expected_bit g h n t) 0 (sectors_on g t) (λ s l u. same s (omega (arith, v.small t))) in
    let eight : (j : ℕ) → j < 3 → binary (λ i. expected_bit g f m t (8 * j + i)) 8 ≡ binary (λ i. expected_bit g h n t (8 * j + i)) 8
    = λ j l. binary-same (λ i. expected_bit g f m t (8 * j + i)) (λ i. expected_bit g h n t (8 * j + i)) 8 (λ i b. same (8 * j + i) (omega arith)) in
    rw (ones, eight 0 (omega arith), eight 1 (omega arith), eight 2 (omega arith)) refl

-- `old` is the map sector as it was
module _ (g : Geometry) (v : Valid g) (free : Address → Bool) (old : Bytes) where
  pub expected-le : (t s : ℕ) → expected_bit g free old t s ≤ 1
  unfolding expected_bit
  expected-le t s = go (ltb s (sectors_on g t))
    where
      go : (b : Bool) → cond b (indicator (free (address t s))) (map_bit g old t s) ≤ 1
      go true = indicator-le (free (address t s))
      go false = map-bit-le g old t s

  pub entry_length : (t : ℕ) → length (expected_entry g free old t) ≡ 4
  unfolding expected_entry
  entry_length t = refl

  -- m holds the right entry of track t
  abbrev pub Holds : Bytes → ℕ → Type 0
  Holds m t = (i : ℕ) → i < 4 → byte m (g.map_at t + i) ≡ get_or (expected_entry g free old t) i 0

  bitmap-at : (t j : ℕ) → j < 3 → get_or (expected_entry g free old t) (suc j) 0 ≡ bitmap_byte g free old t j
  unfolding expected_entry
  bitmap-at t zero h = refl
  bitmap-at t (suc zero) h = refl
  bitmap-at t (suc (suc zero)) h = refl
  bitmap-at t (suc (suc (suc j))) h = absurd (omega arith)

  holds-bit : (m : Bytes) (t : ℕ) → Holds m t → (s : ℕ) → s < 24 → map_bit g m t s ≡ expected_bit g free old t s
  unfolding map_bit bitmap_byte
  holds-bit m t h s l =
      let j : s / 8 < 3 = omega arith in
      ap (λ (x : ℕ). bit_of (byte m x) (s % 8)) (omega arith)
      ∙ ap (λ (x : ℕ). bit_of x (s % 8)) (h (suc (s / 8)) (omega arith) ∙ bitmap-at t (s / 8) j)
      ∙ binary-bit (λ i. expected_bit g free old t (8 * (s / 8) + i)) (λ i. expected-le t (8 * (s / 8) + i)) 8 (s % 8) (omega arith)
      ∙ ap (expected_bit g free old t) (omega arith)

  holds-ones : (m : Bytes) (t : ℕ) → Holds m t → byte m (g.map_at t) ≡ map_ones g m t
  unfolding map_ones expected_entry
  holds-ones m t h =
      ap (byte m) (omega arith) ∙ h 0 (omega arith)
      ∙ sum_same (expected_bit g free old t) (map_bit g m t) 0 (sectors_on g t) (λ i l u. sym (holds-bit m t h i (omega (arith, v.small t))))

  -- ---- all tracks

  pub written-length : length old ≡ 256 → (a n : ℕ) → 1 ≤ a → a + n ≤ tracks g + 1 → length (with_entries g free old (range a n)) ≡ 256
  written-length e a zero p q = e
  written-length e a (suc n) p q =
      let ih = written-length e (suc a) n (omega arith) (omega arith) in
      length-splice (with_entries g free old (range (suc a) n)) (g.map_at a) (expected_entry g free old a)
      (omega (arith, entry_length a, v.map_fits a p (omega arith))) ∙ ih

  written : length old ≡ 256 → (a n : ℕ) → 1 ≤ a → a + n ≤ tracks g + 1 → (t : ℕ) → a ≤ t → t < a + n → Holds (with_entries g free old (range a n)) t
  written e a zero p q t l u i k = absurd (omega arith)
  written e a (suc n) p q t l u i k =
      let w : Bytes = with_entries g free old (range (suc a) n) in
      let fits : g.map_at a + length (expected_entry g free old a) ≤ length w
      = omega (arith, entry_length a, v.map_fits a p (omega arith), written-length e (suc a) n (omega arith) (omega arith)) in
      let b : Bytes = expected_entry g free old a in
      elim (dec_le (suc a) t) [
        | yes h ↦ ⊎_elim
            (λ c. splice-after w (g.map_at a) b fits (g.map_at t + i) (omega (arith, entry_length a))
            ∙ written e (suc a) n (omega arith) (omega arith) t h (omega arith) i k)
            (λ c. splice-before w (g.map_at a) b fits (g.map_at t + i) (omega arith) ∙ written e (suc a) n (omega arith) (omega arith) t h (omega arith) i k)
            (v.map_apart a t p h (omega arith))
        | no h ↦
            let z : a ≡ t = omega arith in
            subst (λ (x : ℕ). byte (splice w (g.map_at a) b) (g.map_at x + i) ≡ get_or (expected_entry g free old x) i 0) z
            (splice-in w (g.map_at a) b fits i (omega (arith, entry_length a)))
      ]

-- ---- the disk

pub rewrite-other : (g : Geometry) (d : Disk) (n : ℕ) → (n ≡ sector_number g map_address → ⊥) → rewrite_map g d n ≡ d n
unfolding rewrite_map
rewrite-other g d n h = put_other d (sector_number g map_address) (with_entries g (is_free g d) (d (sector_number g map_address)) (range 1 (tracks g))) n h

-- neither the directory nor a file owns the map's sector
map-unclaimed : (g : Geometry) (d : Disk) → Sound g d → (n : ℕ) → 0 < count n (map (sector_number g) (directory_sectors g d) ++ file_claims g (files g d))
    → n ≡ sector_number g map_address → ⊥
unfolding claim_count claim_list claims_of
map-unclaimed g d s n h e =
    let self : indicator (eqb n (sector_number g map_address)) ≡ 1 = rw (eq-eqb n (sector_number g map_address) e) in omega (arith, s.once n)

module _ (g : Geometry) (v : Valid g) (d : Disk) (w : Whole g d) (s : Sound g d) where
  map_below : sector_number g map_address < total g
  map_below = sector_number-lt g map_address (map_on g v.directory)

  map-apart : Agree g d (rewrite_map g d) (map (sector_number g) (directory_sectors g d) ++ file_claims g (files g d))
  map-apart n h = sym (rewrite-other g d n (map-unclaimed g d s n h))

  pub rewrite-whole : Whole g (rewrite_map g d)
  unfolding rewrite_map
  rewrite-whole =
      put_whole g d (sector_number g map_address) (with_entries g (is_free g d) (d (sector_number g map_address)) (range 1 (tracks g))) w map_below
      (written-length g v (is_free g d) (d (sector_number g map_address)) (w.full (sector_number g map_address) map_below) 1 (tracks g) (omega arith) (omega arith))

  pub rewrite-files : files g (rewrite_map g d) ≡ files g d
  rewrite-files = frame-files g d (rewrite_map g d) map-apart

  pub rewrite-plain_list : plain_list g (rewrite_map g d) ≡ plain_list g d
  rewrite-plain_list = frame-plain_list g d (rewrite_map g d) map-apart

  pub rewrite-claims : (n : ℕ) → claim_count g (rewrite_map g d) n ≡ claim_count g d n
  rewrite-claims = frame-claims g d (rewrite_map g d) map-apart

  -- the map sector before, and after
  abbrev old : Bytes
  old = d (sector_number g map_address)

  abbrev new : Bytes
  new = rewrite_map g d (sector_number g map_address)

  pub rewrite-holds : (t : ℕ) → 1 ≤ t → t ≤ tracks g → Holds g v (is_free g d) old new t
  unfolding rewrite_map
  rewrite-holds t l h = rw (put_same d (sector_number g map_address) (with_entries g (is_free g d) old (range 1 (tracks g))))
      (written g v (is_free g d) old (w.full (sector_number g map_address) map_below) 1 (tracks g) (omega arith) (omega arith) t l (omega arith))

  rewrite-bit : (t s : ℕ) → 1 ≤ t → t ≤ tracks g → s < 24 → map_bit g new t s ≡ expected_bit g (is_free g d) old t s
  rewrite-bit t s l h b = holds-bit g v (is_free g d) old new t (rewrite-holds t l h) s b

  -- the bit of a sector, and the bits past the track's last one, which stay
  rewrite-own : (t s : ℕ) → 1 ≤ t → t ≤ tracks g → s < sectors_on g t → map_bit g new t s ≡ indicator (is_free g d (address t s))
  unfolding expected_bit
  rewrite-own t s l h b = rewrite-bit t s l h (omega (arith, v.small t)) ∙ (rw (lt-ltb s (sectors_on g t) b))

  pub rewrite-past : (t s : ℕ) → 1 ≤ t → t ≤ tracks g → sectors_on g t ≤ s → s < 24 → map_bit g new t s ≡ map_bit g old t s
  unfolding expected_bit
  rewrite-past t s l h b c = rewrite-bit t s l h c ∙ (rw (le-ltb s (sectors_on g t) b))

  -- every entry read back is the one that the owners ask for, and these are still the same
  pub rewrite-follows : MapFollows g d (rewrite_map g d)
  rewrite-follows t l h =
      let e : Bytes = expected_entry g (is_free g d) old t in
      let size : length e ≡ 4 = entry_length g v (is_free g d) old t in
      let four : g.map_at t + 3 + 1 - g.map_at t ≡ length e = omega arith in
      ap (λ (n : ℕ). take n (drop (g.map_at t) new)) four
      ∙ part-of-bytes new (g.map_at t) e (omega (arith, v.map_fits t l h, rewrite-whole.full (sector_number g map_address) map_below))
      (λ i k. rewrite-holds t l h i (omega arith))
      ∙ ap (λ (f : Address → Bool). expected_entry g f old t) (fun_ext (λ r. ap (λ (x : ℕ). eqb x 0) (sym (rewrite-claims (sector_number g r)))))

  rewrite-track : (t : ℕ) → 1 ≤ t → t ≤ tracks g → MarksFree g (rewrite_map g d) t
  rewrite-track t l h = record {
    free_count = holds-ones g v (is_free g d) old new t (rewrite-holds t l h);
    free = λ s b.
        mark-of-sum g v (rewrite_map g d) (λ n. rw (rewrite-claims n) (s-once n)) t s
        (rw (rewrite-own t s l h b, rewrite-claims (sector_number g (address t s))) (right-bit g v d s-once t s));
  }
    where
      s-once : (n : ℕ) → claim_count g d n ≤ 1
      s-once n = s.once n

  pub rewrite-accepted : AcceptedDisk g (rewrite_map g d)
  rewrite-accepted =
      let q = frame-sound g d (rewrite_map g d) map-apart s in
      record { directory = q.directory; entry = q.entry; names = q.names; once = q.once; marks = rewrite-track }
