-- "The map follows" (01, Store and Scratch), for callers: a map by value says which sectors are free (`Expects`). In order: a map loaded; a mark asked
-- for; what is free said otherwise; one mark moved; several; the map stored is the rewritten map. Assumes nothing.
use Prim.Native.Nat.{ℕ, ◌-◌, ◌≤◌, ◌<◌}
use native.Mathlib.Omega.{arith}
use native.Mathlib.Decide.{ℕ_discrete, dec_le}
use mathlib.Core.Path.{◌≡◌, refl, sym, ap, ◌∙◌}
use mathlib.Core.Bool.{Bool, true, false, cond, not}
use mathlib.Core.List.{List, [], ◌∷◌, map}
use lib.ListN.{length, length-set}
use lib.Seq.{get_or-set_same, get_or-set_other}
use lib.Dec.{eqb, ltb}
use borrow.Author.Tests.{lt-ltb, le-ltb, ltb-true, eq-eqb, ne_eqb}
use Rattle.d64spec.specs.Lists.{Bytes, All, byte, count, indicator}
use Rattle.d64spec.specs.Bits.{bit_of}
use Rattle.d64spec.specs.Answers.{Address, address}
use Rattle.d64spec.specs.Geometry.{Geometry, tracks, sectors_on, sector_number, on_disk, map_address}
use Rattle.d64spec.specs.Layouts.{Known}
use Rattle.d64spec.specs.Image.{Disk, put}
use Rattle.d64spec.specs.Owner.{is_free}
use Rattle.d64spec.specs.Map.{map_bit, map_ones, expected_bit, expected_entry, rewrite_map}
use Rattle.d64spec.specs.Accepted.{AcceptedDisk, MarksFree}
use Rattle.d64spec.proofs.AllocationLaws.{one-track}
use Rattle.d64spec.proofs.MapLaws.{right-bit, sum-of-mark}
use Rattle.d64spec.proofs.SumLaws.{sum_same}
use Rattle.geometry.proofs.LentTableLaws.{tracks-of-on_disk}
use Rattle.bam.specs.MapEntry.{Entries, bitmap_of, moved_entry}
use Rattle.bam.specs.MapSector.{map_entry, map_entries, stored_entries}
use Rattle.bam.specs.Bam.{entry_of, with_entry, marked_free, moved_mark, moved_marks}
use Rattle.bam.proofs.TrackLaws.{Track, moved-mark-entry}
use Rattle.bam.specs.Expected.{Expects, free_after}
use Rattle.bam.proofs.SectorLaws.{count-map-entry, map-entry-shaped, bit-map-entry, length-map-entries, entry-map-entries}
use Rattle.bam.proofs.EntryLaws.{expected-bit-same, entry-agrees, bit-expected, entry-expected, entry-moved}
use Rattle.bam.proofs.StoredLaws.{stored-follows}

indicator-one : (b : Bool) → eqb (indicator b) 1 ≡ b
indicator-one true = refl
indicator-one false = refl

-- ---- a map loaded

module _ (g : Geometry) (kn : Known g) (d : Disk) (accepted : AcceptedDisk g d) where
  -- the map sector
  abbrev sector : Bytes
  sector = d (sector_number g map_address)

  -- what is expected of the disk's own map
  abbrev expected : ℕ → ℕ → ℕ
  expected t s = expected_bit g (is_free g d) sector t s

  bit-loaded : (t : ℕ) → MarksFree g d t → (s : ℕ) → s < 24 → map_bit g sector t s ≡ expected t s
  unfolding expected_bit
  bit-loaded t marks s h = elim (dec_le (sectors_on g t) s) [
    | yes past ↦ ap bit (sym (le-ltb s (sectors_on g t) past))
    | no own ↦
        let on : s < sectors_on g t = omega arith in
        let right : map_bit g sector t s ≡ bit true
        = omega (arith, sum-of-mark g kn.valid d accepted.once t s (marks.free s on), right-bit g kn.valid d accepted.once t s) in
        right ∙ ap bit (sym (lt-ltb s (sectors_on g t) on))
  ]
    where
      -- the bit of a sector, or one past them
      bit : Bool → ℕ
      bit b = cond b (indicator (is_free g d (address t s))) (map_bit g sector t s)

  entry-loaded : ((i : ℕ) → byte sector i < 256) → (t : ℕ) → MarksFree g d t
      → map_entry g sector t ≡ expected_entry g (is_free g d) sector t
  unfolding map_ones
  entry-loaded small t marks =
      entry-expected g kn.valid (is_free g d) sector t (map-entry-shaped g sector t small)
      (count-map-entry g sector t ∙ marks.free_count
      ∙ sum_same (map_bit g sector t) (expected t) 0 (sectors_on g t) (λ i l u. bit-loaded t marks i (omega (arith, kn.valid.small t))))
      (λ s h. bit-map-entry g sector t s h ∙ bit-loaded t marks s h)

-- THE MAP OF AN ACCEPTED DISK says which sectors are free
pub expects-loaded : (g : Geometry) (kn : Known g) (d : Disk) → AcceptedDisk g d → length (d (sector_number g map_address)) ≡ 256
    → ((i : ℕ) → byte (d (sector_number g map_address)) i < 256)
    → Expects g (is_free g d) (d (sector_number g map_address)) (map_entries g (d (sector_number g map_address)))
expects-loaded g kn d accepted whole small = record {
  size = length-map-entries g kn (d (sector_number g map_address));
  entry = λ t low high.
      entry-map-entries g kn (d (sector_number g map_address)) t low high ∙ entry-loaded g kn d accepted small t (accepted.marks t low high);
}

-- ---- a mark asked for

module _ (g : Geometry) (r : Address) (on : on_disk g r ≡ true) where
  track-on : Known g → Track r.track
  track-on kn = let h = tracks-of-on_disk g r on in record { low = h.0; high = omega (arith, h.1, kn.few) }

  sector-on : r.sector < sectors_on g r.track
  unfolding on_disk
  sector-on = ltb-true _ _ on

-- A MARK SAYS WHETHER ITS SECTOR IS FREE
pub marked_free-expected : (g : Geometry) (kn : Known g) {free : Address → Bool} {m : Bytes} {es : Entries} → Expects g free m es
    → (r : Address) → on_disk g r ≡ true → marked_free es r ≡ free r
unfolding marked_free expected_bit
marked_free-expected g kn {free} {m} {es} e r on =
    let bit : bit_of (bitmap_of (entry_of es r.track)) r.sector ≡ indicator (free r)
    = ap (λ (x : Bytes). bit_of (bitmap_of x) r.sector) (e.entry r.track (tracks-of-on_disk g r on).0 (tracks-of-on_disk g r on).1)
    ∙ bit-expected g kn.valid free m r.track r.sector (omega (arith, sector-on g r on, kn.valid.small r.track))
    ∙ ap (λ (b : Bool). cond b (indicator (free r)) (map_bit g m r.track r.sector)) (lt-ltb _ _ (sector-on g r on)) in
    ap (λ (x : ℕ). eqb x 1) bit ∙ indicator-one (free r)

-- ---- what is free, said otherwise

on-track : (g : Geometry) (t s : ℕ) → s < sectors_on g t → on_disk g (address t s) ≡ true
unfolding on_disk
on-track g t s h = lt-ltb s (sectors_on g t) h

-- a map says the same where the sectors of the disk are free alike
pub expects-agree : (g : Geometry) (kn : Known g) {free free' : Address → Bool} {m : Bytes} {es : Entries} → Expects g free m es
    → ((r : Address) → on_disk g r ≡ true → free r ≡ free' r) → Expects g free' m es
expects-agree g kn {free} {free'} {m} e agree = record {
  size = e.size;
  entry = λ t low high. e.entry t low high ∙ entry-agrees g kn.valid free free' m t (λ s h. agree (address t s) (on-track g t s h));
}

-- ---- one mark moved

-- two sectors of the disk with one number are on one track
same-track : (g : Geometry) (q r : Address) → on_disk g q ≡ true → on_disk g r ≡ true → sector_number g q ≡ sector_number g r → q.track ≡ r.track
unfolding sector_number
same-track g q r onq onr e =
    let a = sector-on g q onq in
    let b = sector-on g r onr in
    one-track g q.track r.track (sector_number g r) (record { low = omega arith; high = omega arith }) (record { low = omega arith; high = omega arith })

-- only the sector r changes
module _ (g : Geometry) (kn : Known g) (v : Bool) (r : Address) (on : on_disk g r ≡ true)
    {free free' : Address → Bool} (was : free r ≡ not v) (is : free' r ≡ v)
    (other : (q : Address) → on_disk g q ≡ true → (sector_number g q ≡ sector_number g r → ⊥) → free q ≡ free' q)
    {m : Bytes} {es : Entries} (e : Expects g free m es) where
  -- r's entry, changed
  abbrev entry' : Bytes
  entry' = moved_entry (entry_of es r.track) r.sector v

  made : with_entry es r.track entry' ≡ moved_mark v r es
  made = moved-mark-entry v r es (track-on g r on kn) refl

  place : r.track - 1 < length es
  place = let track = track-on g r on kn in omega (arith, e.size)

  entry-same : entry_of (with_entry es r.track entry') r.track ≡ expected_entry g free' m r.track
  unfolding entry_of with_entry sector_number
  entry-same =
      get_or-set_same es (r.track - 1) entry' [] place
      ∙ ap (λ (x : Bytes). moved_entry x r.sector v) (e.entry r.track (tracks-of-on_disk g r on).0 (tracks-of-on_disk g r on).1)
      ∙ entry-moved g kn.valid m r.track r.sector (sector-on g r on) v free free' was is (λ i q.
      expected-bit-same g kn.valid free free' m r.track i (λ h. other (address r.track i) (on-track g r.track i h) (λ z. q (omega arith))))

  entry_other : (t : ℕ) → 1 ≤ t → t ≤ tracks g → (t ≡ r.track → ⊥) → entry_of (with_entry es r.track entry') t ≡ expected_entry g free' m t
  unfolding entry_of with_entry
  entry_other t low high apart =
      let track = track-on g r on kn in
      get_or-set_other es (r.track - 1) (t - 1) entry' [] (λ z. apart (omega arith))
      ∙ e.entry t low high
      ∙ entry-agrees g kn.valid free free' m t
      (λ s h. let q : Address = address t s in let onq = on-track g t s h in other q onq (λ z. apart (same-track g q r onq on z)))

  length-made : length (with_entry es r.track entry') ≡ 40
  unfolding with_entry
  length-made = length-set es (r.track - 1) entry' ∙ e.size

  moved-expected : Expects g free' m (moved_mark v r es)
  moved-expected = rw (← made) (record {
    size = length-made;
    entry = λ t low high. elim (ℕ_discrete t r.track) [
      | yes q ↦ rw q entry-same
      | no q ↦ entry_other t low high q
    ];
  })

module _ (g : Geometry) (v : Bool) (l : List Address) (before : Address → Bool) where
  -- the sectors of the list have the new mark
  after_same : (r : Address) → free_after g v (r ∷ l) before r ≡ v
  unfolding free_after
  after_same r =
      let n : ℕ = sector_number g r in
      let self : indicator (eqb n n) ≡ 1 = ap indicator (eq-eqb n n refl) in
      ap (λ (b : Bool). cond b v (before r)) (lt-ltb 0 (count n (map (sector_number g) (r ∷ l))) (omega arith))

  -- the others are as before
  after-other : (r q : Address) → (sector_number g q ≡ sector_number g r → ⊥) → free_after g v l before q ≡ free_after g v (r ∷ l) before q
  unfolding free_after
  after-other r q apart =
      let n : ℕ = sector_number g q in
      let not-it : indicator (eqb n (sector_number g r)) ≡ 0 = ap indicator (ne_eqb n (sector_number g r) apart) in
      let same : count n (map (sector_number g) l) ≡ count n (map (sector_number g) (r ∷ l)) = omega arith in
      ap (λ (k : ℕ). cond (ltb 0 k) v (before q)) same

  after_none : (r : Address) → count (sector_number g r) (map (sector_number g) l) ≡ 0 → free_after g v l before r ≡ before r
  unfolding free_after
  after_none r none = rw none

-- ONE MARK MOVED: that sector too is free, or used
pub expects-moved : (g : Geometry) (kn : Known g) (v : Bool) (l : List Address) (before : Address → Bool) {m : Bytes} {es : Entries}
    → Expects g (free_after g v l before) m es → (r : Address) → on_disk g r ≡ true → free_after g v l before r ≡ not v
    → Expects g (free_after g v (r ∷ l) before) m (moved_mark v r es)
expects-moved g kn v l before e r on was =
    moved-expected g kn v r on {free = free_after g v l before} {free' = free_after g v (r ∷ l) before} was (after_same g v l before r)
    (λ q onq apart. after-other g v l before r q apart) e

-- ---- several marks moved

module _ (g : Geometry) (kn : Known g) {before : Address → Bool} {m : Bytes} {es : Entries} (v : Bool) (e : Expects g before m es) where
  pub expects-start : Expects g (free_after g v [] before) m es
  expects-start = expects-agree g kn e (λ r on. sym (after_none g v [] before r refl))

  -- SEVERAL MARKS MOVED, each sector once
  pub expects-marks : (l : List Address) → All (λ r. on_disk g r ≡ true) l
      → ((n : ℕ) → count n (map (sector_number g) l) ≤ 1)
      → ((r : Address) → 0 < count (sector_number g r) (map (sector_number g) l) → on_disk g r ≡ true → before r ≡ not v)
      → Expects g (free_after g v l before) m (moved_marks v l es)
  expects-marks [] on once was = expects-start
  expects-marks (r ∷ l) on once was =
      let self : indicator (eqb (sector_number g r) (sector_number g r)) ≡ 1 = ap indicator (eq-eqb (sector_number g r) (sector_number g r) refl) in
      let none : count (sector_number g r) (map (sector_number g) l) ≡ 0 = omega (arith, once (sector_number g r)) in
      let rest = expects-marks l on.1 (λ n. omega (arith, once n)) (λ q h. was q (omega arith)) in
      expects-moved g kn v l before rest r on.0 (after_none g v l before r none ∙ was r (omega arith) on.0)

-- ---- the map stored

-- THE MAP FOLLOWS: stored in its sector, which is as it was when the map was loaded, it makes the disk with the map that its owners ask for
pub map-follows : (g : Geometry) (kn : Known g) (d : Disk) {m : Bytes} {es : Entries} → Expects g (is_free g d) m es
    → m ≡ d (sector_number g map_address) → length (d (sector_number g map_address)) ≡ 256
    → put d (sector_number g map_address) (stored_entries g es (d (sector_number g map_address))) ≡ rewrite_map g d
unfolding rewrite_map
map-follows g kn d {m} {es} e same whole =
    let here : Expects g (is_free g d) (d (sector_number g map_address)) es = rw same at e in
    ap (put d (sector_number g map_address)) (stored-follows g kn.valid (is_free g d) (d (sector_number g map_address)) here whole)
