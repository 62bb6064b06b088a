-- Step 4 of the check, track by track. In order: what the check of the map depends on, for callers; the map by value; what the loop over the tracks
-- keeps, and the look at all of them. Assumes nothing.
use Prim.Native.Nat.{ℕ, zero, suc, ◌+◌, ◌-◌, ◌≤◌, ◌<◌}
use native.Mathlib.Omega.{arith}
use native.Mathlib.Decide.{dec_le}
use mathlib.Core.Path.{◌≡◌, refl, sym, ap, ap₂, ◌∙◌}
use mathlib.Core.Bool.{Bool, true}
use mathlib.Core.List.{List, [], ◌∷◌}
use lib.ListN.{get_or}
use borrow.Author.Tests.{lt-ltb}
use Rattle.d64spec.specs.Lists.{Bytes, range}
use Rattle.d64spec.specs.Answers.{Address, address, Fault, Result, done, refused, ◌>>◌}
use Rattle.d64spec.specs.Geometry.{Geometry, tracks, sectors_on, sector_number, map_address, on_disk}
use Rattle.d64spec.specs.Layouts.{Known}
use Rattle.d64spec.specs.Image.{Disk}
use Rattle.d64spec.specs.Check.{check_map, check_track}
use Rattle.d64spec.proofs.MapLaws.{check_track-same}
use Rattle.owners.specs.Masks.{unmarked}
use Rattle.bam.specs.MapEntry.{Entries}
use Rattle.bam.proofs.ShapeLaws.{EntryShape}
use Rattle.bam.specs.MapSector.{map_entry, map_entries}
use Rattle.bam.proofs.MapShapeLaws.{MapShape}
use Rattle.bam.proofs.SectorLaws.{entry-at-map-entries}
use Rattle.mapcheck.specs.MapChecks.{track_verdict, map_verdict, tracks_verdict, entries_verdict}
use Rattle.mapcheck.proofs.TrackLaws.{track-same}

-- ---- what the check of the map depends on

module _ (g : Geometry) where
  -- of the disk, on the map sector alone
  pub map-alone : (d : Disk) (free : Address → Bool) (l : List ℕ) → check_map g d free l ≡ check_map g (λ n. d (sector_number g map_address)) free l
  map-alone d free [] = refl
  map-alone d free (t ∷ l) =
      ap (λ (r : Result (Unit {0})). check_track g free (d (sector_number g map_address)) t >> r) (map-alone d free l)

  module _ {f h : Address → Bool} (same : (r : Address) → on_disk g r ≡ true → f r ≡ h r) where
    track-free-same : (m : Bytes) (t : ℕ) → check_track g f m t ≡ check_track g h m t
    unfolding on_disk
    track-free-same m t = check_track-same g m m t (λ s b. refl) f h refl (λ s b. same (address t s) (lt-ltb s (sectors_on g t) b))

    -- of what is free, on the sectors of the disk alone
    pub map-free-same : (d : Disk) (l : List ℕ) → check_map g d f l ≡ check_map g d h l
    map-free-same d [] = refl
    map-free-same d (t ∷ l) =
        ap₂ (λ (x r : Result (Unit {0})). x >> r) (track-free-same (d (sector_number g map_address)) t) (map-free-same d l)

-- THE STEP IS THE CHECK'S: on the disk's map sector, for any test of free sectors that agrees with the owned ones on the disk
pub verdict-same : (g : Geometry) (kn : Known g) (d : Disk) (used : List ℕ) (free : Address → Bool)
    → ((r : Address) → on_disk g r ≡ true → unmarked used r ≡ free r)
    → map_verdict g (d (sector_number g map_address)) used ≡ check_map g d free (range 1 (tracks g))
unfolding map_verdict
verdict-same g kn d used free same =
    sym (map-alone g d (unmarked used) (range 1 (tracks g))) ∙ map-free-same g same d (range 1 (tracks g))

-- THE MAP BY VALUE: its entries are checked as the sector is of which it was loaded
module _ (g : Geometry) (kn : Known g) (m : Bytes) (used : List ℕ) {es : Entries} (loaded : es ≡ map_entries g m) (shape : MapShape es) where
  entry-told : (t : ℕ) → 1 ≤ t → t ≤ tracks g → get_or es (t - 1) [] ≡ map_entry g m t
  entry-told t low high =
      let z : t - 1 + 1 ≡ t = omega arith in
      ap (λ (x : Entries). get_or x (t - 1) []) loaded ∙ entry-at-map-entries g kn m (t - 1) (omega arith) ∙ ap (map_entry g m) z

  track-told : (t : ℕ) → 1 ≤ t → t ≤ tracks g → track_verdict g (get_or es (t - 1) []) (get_or used (t - 1) 0) t ≡ check_track g (unmarked used) m t
  track-told t low high =
      let told = entry-told t low high in
      let own-shape : EntryShape (map_entry g m t) = rw told at (shape.entry (t - 1) (omega (arith, kn.few))) in
      ap (λ (e : Bytes). track_verdict g e (get_or used (t - 1) 0) t) told ∙ track-same g kn m used t own-shape

  tracks-told : (a n : ℕ) → 1 ≤ a → a + n ≤ tracks g + 1 → tracks_verdict g es used (range a n) ≡ check_map g (λ k. m) (unmarked used) (range a n)
  tracks-told a zero low high = refl
  tracks-told a (suc n) low high =
      ap₂ (λ (x r : Result (Unit {0})). x >> r) (track-told a low (omega arith)) (tracks-told (suc a) n (omega arith) (omega arith))

  pub entries-told : entries_verdict g es used ≡ map_verdict g m used
  unfolding entries_verdict map_verdict
  entries-told = tracks-told 1 (tracks g) (omega arith) (omega arith)

-- ---- the loop over the tracks

-- the tracks below t are correct: the rest decides
pub record Checking (g : Geometry) (es : Entries) (used : List ℕ) (t : ℕ) : Type 0 where
  pub low : 1 ≤ t
  pub high : t ≤ tracks g + 1
  pub rest : tracks_verdict g es used (range t (tracks g + 1 - t)) ≡ entries_verdict g es used

pub checking-start : (g : Geometry) (es : Entries) (used : List ℕ) → Checking g es used 1
unfolding entries_verdict
checking-start g es used =
    let z : tracks g + 1 - 1 ≡ tracks g = omega arith in
    record { low = omega arith; high = omega arith; rest = ap (λ (n : ℕ). tracks_verdict g es used (range 1 n)) z }

module _ {g : Geometry} {es : Entries} {used : List ℕ} {t : ℕ} (c : Checking g es used t) where
  -- the loop's own track
  module _
      (h : t ≤ tracks g) {r : Result (Unit {0})} {i j : ℕ}
      (told : r ≡ track_verdict g (get_or es i []) (get_or used j 0) t) (here : i ≡ t - 1) (there : j ≡ t - 1) where
    next : r >> tracks_verdict g es used (range (t + 1) (tracks g + 1 - (t + 1))) ≡ entries_verdict g es used
    next =
        let z : tracks g + 1 - t ≡ suc (tracks g + 1 - (t + 1)) = omega arith in
        let y : t + 1 ≡ suc t = omega arith in
        let own : r ≡ track_verdict g (get_or es (t - 1) []) (get_or used (t - 1) 0) t
        = told ∙ ap₂ (λ (x y : ℕ). track_verdict g (get_or es x []) (get_or used y 0) t) here there in
        ap₂ (λ (x : Result (Unit {0})) (k : ℕ). x >> tracks_verdict g es used (range k (tracks g + 1 - (t + 1)))) own y
        ∙ ap (λ (n : ℕ). tracks_verdict g es used (range t n)) (sym z) ∙ c.rest

  -- a correct entry: the next track
  pub checking-moved : t ≤ tracks g → {i j : ℕ} → done tt ≡ track_verdict g (get_or es i []) (get_or used j 0) t → i ≡ t - 1 → j ≡ t - 1
      → Checking g es used (t + 1)
  checking-moved h told here there = record { low = omega arith; high = omega arith; rest = next h told here there }

  -- a wrong one is refused
  pub checking-wrong : t ≤ tracks g → {f : Fault} {i j : ℕ} → refused f ≡ track_verdict g (get_or es i []) (get_or used j 0) t → i ≡ t - 1 → j ≡ t - 1
      → refused f ≡ entries_verdict g es used
  checking-wrong h told here there = next h told here there

  pub checking-finished : tracks g < t → done tt ≡ entries_verdict g es used
  checking-finished h =
      let z : tracks g + 1 - t ≡ 0 = omega arith in ap (λ (n : ℕ). tracks_verdict g es used (range t n)) (sym z) ∙ c.rest

-- ---- the look at all tracks

-- the tracks up to t are correct
pub record Passing (g : Geometry) (es : Entries) (used : List ℕ) (t : ℕ) : Type 0 where
  pub right : (u : ℕ) → 1 ≤ u → u ≤ t → done tt ≡ track_verdict g (get_or es (u - 1) []) (get_or used (u - 1) 0) u

module _ {g : Geometry} {es : Entries} {used : List ℕ} {t : ℕ} (p : Passing g es used t) where
  pub passing-moved : {k i j : ℕ} → done tt ≡ track_verdict g (get_or es i []) (get_or used j 0) k → i ≡ t → j ≡ t → k ≡ t + 1 → Passing g es used (t + 1)
  passing-moved {k} told here there number = record {
    right = λ u low high. elim (dec_le u t) [
      | yes before ↦ p.right u low before
      | no own ↦
          let z : t ≡ u - 1 = omega arith in
          let y : k ≡ u = omega arith in
          told ∙ ap₂ (λ (a b : ℕ). track_verdict g (get_or es a []) (get_or used b 0) k) (here ∙ z) (there ∙ z)
          ∙ ap (track_verdict g (get_or es (u - 1) []) (get_or used (u - 1) 0)) y
    ];
  }

  all_right : (a n : ℕ) → 1 ≤ a → a + n ≤ t + 1 → done tt ≡ tracks_verdict g es used (range a n)
  all_right a zero low high = refl
  all_right a (suc n) low high =
      all_right (suc a) n (omega arith) (omega arith)
      ∙ ap (λ (x : Result (Unit {0})). x >> tracks_verdict g es used (range (suc a) n)) (p.right a low (omega arith))

  pub passing-finished : tracks g ≤ t → done tt ≡ entries_verdict g es used
  unfolding entries_verdict
  passing-finished h = all_right 1 (tracks g) (omega arith) (omega arith)
