-- The check answers with the first fault in document 01's order (01, Order of the check): steps 2 to 4 on a disk.
-- In order: one entry; a listing's slots; one slot, all slots; the directory; the map; the whole. Size, arguments and the calls: proofs/OrderTheorem.
use Prim.Native.Nat.{ℕ, ◌+◌, ◌≤◌, ◌<◌}
use native.Mathlib.Omega.{arith}
use mathlib.Core.Path.{◌≡◌, refl, sym, ap, ◌∙◌}
use mathlib.Core.Logic.Iff
use mathlib.Core.Logic.{◌↔◌}
use mathlib.Core.List.{List, [], ◌∷◌, ◌++◌, map}
use lib.ListN.{length}
use lib.Dec.{eqb}
use Rattle.d64spec.specs.Lists.{All, Bytes, count, name_count, range}
use Rattle.d64spec.specs.Answers.{Address, address, bad_name, bad_type, done, duplicate_name, wrong_count, wrong_map_entry}
use Rattle.d64spec.specs.Geometry.{Geometry, Valid, directory_start, map_address, sector_number, total, tracks}
use Rattle.d64spec.specs.Image.{Disk}
use Rattle.d64spec.specs.Chain.{directory_link, file_link, steps, to}
use Rattle.d64spec.specs.Directory.{File, Slot, count_of, directory_sectors, entry_byte, file_of, files, first_link, name_of, occupied, valid_name, valid_type}
use Rattle.d64spec.specs.Owner.{claim_count, claim_list, file_claims, is_free}
use Rattle.d64spec.specs.Map.{entry_correct}
use Rattle.d64spec.specs.Check.{check_directory, check_disk, check_entry, check_map, check_slot, check_slots, check_track}
use Rattle.d64spec.specs.Accepted.{AcceptedDisk}
use Rattle.d64spec.specs.Listing.{list_slots}
use Rattle.d64spec.specs.Order.{AllHold, ClaimsOnce, asks_directory, asks_track, disk_conditions, entry_conditions, listing_slots, map_conditions, slot_conditions, slots_conditions}
use Rattle.d64spec.proofs.SumLaws.{indicator-le}
use Rattle.d64spec.proofs.ListLaws.{count-append}
use Rattle.d64spec.proofs.BoundLaws.{all_append, directory_link-on, file_link-on, follow-on, map_on, sector_number-lt}
use Rattle.d64spec.proofs.MapLaws.{lowest-names, names-lowest, track-complete, track-sound}
use Rattle.d64spec.proofs.CheckLaws.{claims-are, contents, disk-complete, disk-sound, first_link-on, slot-met, slots-sound}
use Rattle.d64spec.proofs.ConditionLaws.{Decided, decided-bind, decided-bind-done, decided-done, decided-need, decided-test, decided-then, decided-then-done, eqb-exact}
use Rattle.d64spec.proofs.ChainFaultLaws.{decided-walk, walk-met}

pub decided-entry : (names : List Bytes) (s : Slot) → Decided (check_entry names s) (entry_conditions names s)
unfolding check_entry
decided-entry names s =
    decided-then (decided-need (valid_type (entry_byte s.bytes 0x02)) (bad_type s.holder s.number) _ Iff.rfl)
    (λ h. decided-then (decided-need (valid_name s.bytes) (bad_name s.holder s.number) _ Iff.rfl)
    (λ h'. decided-need (eqb (name_count (name_of s.bytes) names) 0) (duplicate_name s.holder s.number) _ (eqb-exact _ _)))

pub decided-list-slots : (names : List Bytes) (l : List Slot) → Decided (list_slots names l) (listing_slots names l)
decided-list-slots names [] = decided-done
decided-list-slots names (s ∷ l) = decided-then (decided-entry names s) (λ h. decided-list-slots (name_of s.bytes ∷ names) l)

-- the sectors owned so far: sectors of the disk, each once
record Owned (g : Geometry) (own : List ℕ) : Type 0 where
  below : All (λ x. x < total g) own
  once : (m : ℕ) → count m own ≤ 1

module _ (g : Geometry) (d : Disk) where
  decided-slot : (own : List ℕ) (names : List Bytes) (s : Slot) → Owned g own → Decided (check_slot g d own names s) (slot_conditions g d own names s)
  unfolding check_slot file_of
  decided-slot own names s o =
      decided-then (decided-entry names s)
      (λ h. decided-bind (decided-walk g (file_link g) d (file_link-on g) own s.holder s.number (first_link g d s) (first_link-on g d s) o.below o.once)
      (λ l e h'. decided-then-done (decided-need (eqb (count_of s.bytes) (length l)) (wrong_count s.holder s.number) _
      (rw (walk-met g (file_link g) d (file_link-on g) own s.holder s.number (first_link g d s) (first_link-on g d s) o.below o.once l e) (eqb-exact _ _))) l))

  -- a slot whose conditions hold adds the sectors of its file
  owned-slot : (own : List ℕ) (names : List Bytes) (s : Slot) → Owned g own → AllHold (slot_conditions g d own names s) → Owned g (map (sector_number g) (file_of g d s).sectors ++ own)
  unfolding file_of
  owned-slot own names s o h =
      let claims : ClaimsOnce g (file_link g) d own (first_link g d s) = h.1.1.1.0 in
      record {
        below = all_append (λ x. x < total g) (map (sector_number g) (file_of g d s).sectors) own (follow-on g (file_link g) (file_link-on g) d (steps g) (first_link g d s) (first_link-on g d s)) o.below;
        once = λ m. omega (arith, count-append m (map (sector_number g) (file_of g d s).sectors) own, claims.once m);
      }

  decided-slots : (own : List ℕ) (names : List Bytes) (l : List Slot) → Owned g own → Decided (check_slots g d own names l) (slots_conditions g d own names l)
  decided-slots own names [] o = decided-done
  decided-slots own names (s ∷ l) o =
      decided-bind (decided-slot own names s o)
      (λ c e h. rw (← (slot-met g d own names s c o.once e))
      (decided-bind-done (decided-slots (map (sector_number g) (file_of g d s).sectors ++ own) (name_of s.bytes ∷ names) l (owned-slot own names s o h)) (λ fs. record { slot = s; sectors = (file_of g d s).sectors } ∷ fs)))

-- 18/0 is owned from the start
owned-map : (g : Geometry) → Valid g → Owned g (sector_number g map_address ∷ [])
owned-map g v = record {
  below = (sector_number-lt g map_address (map_on g v.directory), tt);
  once = λ m. omega (arith, indicator-le (eqb m (sector_number g map_address)));
}

pub decided-directory : (g : Geometry) → Valid g → (d : Disk) → Decided (check_directory g d) (asks_directory g d ∷ [])
unfolding check_directory
decided-directory g v d =
    let o = owned-map g v in
    decided-walk g (directory_link g) d (directory_link-on g) (sector_number g map_address ∷ []) map_address 255 (to directory_start) v.directory o.below o.once

module _ (g : Geometry) (v : Valid g) (d : Disk) where
  -- the sectors owned before the files': 18/0 and the directory's
  abbrev owned_first : List ℕ
  owned_first = sector_number g map_address ∷ map (sector_number g) (directory_sectors g d)

  -- the sectors that a directory's check gives are the directory's
  pub directory-walked : (ds : List Address) → check_directory g d ≡ done ds → ds ≡ directory_sectors g d
  unfolding check_directory directory_sectors
  directory-walked ds e =
      let o = owned-map g v in
      walk-met g (directory_link g) d (directory_link-on g) (sector_number g map_address ∷ []) map_address 255 (to directory_start) v.directory o.below o.once ds e

  owned-directory : AllHold (asks_directory g d ∷ []) → Owned g owned_first
  unfolding directory_sectors
  owned-directory h = record {
    below = ((owned-map g v).below.0, follow-on g (directory_link g) (directory_link-on g) d (steps g) (to directory_start) v.directory);
    once = λ m. omega (arith, h.0.once m);
  }

  -- one track, with the sector that its place names
  decided-track : ((n : ℕ) → claim_count g d n ≤ 1) → (t : ℕ) → Decided (check_track g (is_free g d) (d (sector_number g map_address)) t) (asks_track g d t ∷ [])
  decided-track u t =
      decided-test (entry_correct g (is_free g d) (d (sector_number g map_address)) t) _ (asks_track g d t) (track-sound g v d u t, track-complete g v d u t)
      (λ wrong. (_, lowest-names g v d u t wrong, refl))
      (λ f a. a.2 ∙ ap (λ s. wrong_map_entry (address t s)) (sym (names-lowest g v d u t a.0 a.1)))

  decided-map : ((n : ℕ) → claim_count g d n ≤ 1) → (l : List ℕ) → Decided (check_map g d (is_free g d) l) (map_conditions g d l)
  decided-map u [] = decided-done
  decided-map u (t ∷ l) =
      decided-then (decided-track u t) (λ h. decided-map u l)

  -- the files that the slots' check gives are the disk's, and then each sector has one claim on it at most
  files-checked : (fs : List File) → Owned g owned_first
      → check_slots g d owned_first [] (occupied g d) ≡ done fs → (fs ≡ files g d) × ((n : ℕ) → claim_count g d n ≤ 1)
  unfolding files
  files-checked fs o e =
      let s = slots-sound g d owned_first [] (occupied g d) fs o.once e in
      let claims : (n : ℕ) → count n (file_claims g (files g d)) + count n owned_first ≤ 1 = rw s.files at s.once in
      (s.files, λ n. omega (arith, claims-are g v d n, claims n))

  -- THE FIRST FAULT: steps 2 to 4 are done exactly when all of their conditions hold, and else refused with the fault of the first that does not
  pub decided-disk : Decided (check_disk g d) (disk_conditions g d)
  unfolding check_disk disk_conditions occupied claim_count claim_list
  decided-disk =
      decided-bind (decided-directory g v d)
      (λ ds e h. rw (directory-walked ds e) (let o = owned-directory h in
      decided-bind (decided-slots g d owned_first [] (occupied g d) o)
      (λ fs e' h'. let c = files-checked fs o e' in
      rw c.0 (decided-then-done (decided-map c.1 (range 1 (tracks g))) (record { walked = directory_sectors g d; found = files g d })))))

  -- all conditions of steps 2 to 4 hold exactly on an accepted disk
  pub disk_conditions-accepted : AllHold (disk_conditions g d) ↔ AcceptedDisk g d
  disk_conditions-accepted = (
    (λ h. let w = decided-disk.when_done.1 h in (disk-sound g v d w.0 w.1).0),
    (λ a. decided-disk.when_done.0 (contents g v d, disk-complete g v d a)),
  )
