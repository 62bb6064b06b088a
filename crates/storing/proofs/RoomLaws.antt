-- Room for a file on a checked image (01, Store; Answer numbers: 14, 15): what the code finds is what the definitions find.
-- In order: the sectors needed; the directory's last sector; the map's marks; a place for the entry; sectors for the content.
use Prim.Native.Nat.{ℕ, zero, suc, ◌+◌, ◌*◌, ◌-◌, ◌/◌, ◌%◌, ◌≤◌, ◌<◌, min, max}
use native.Mathlib.Omega.{arith}
use mathlib.Core.Path.{◌≡◌, refl, sym, ap, ◌∙◌}
use mathlib.Core.List.{List, [], ◌∷◌, map}
use lib.ListN.{length, take, get_or, length-take, length-drop, length-map}
use borrow.Author.Tests.{ne_eqb}
use Rattle.std.specs.Prelude.{Option, Some, None}
use Rattle.d64spec.specs.Lists.{Bytes, byte}
use Rattle.d64spec.specs.Answers.{Address, address, refused, done, directory_full, first}
use Rattle.d64spec.specs.Geometry.{Geometry, total, sector_number, map_address, directory_start}
use Rattle.d64spec.specs.Image.{Disk, disk}
use Rattle.d64spec.specs.Directory.{Slot, slot_in, directory_sectors}
use Rattle.d64spec.specs.Owner.{free_for_files, free_for_directory}
use Rattle.d64spec.specs.Accepted.{Accepted}
use Rattle.d64spec.specs.Store.{in_empty_slot, in_new_sector, empty_slots, slot_place_for, sectors_needed, placement, last_of}
use Rattle.d64spec.proofs.BoundLaws.{directory-some}
use Rattle.d64spec.proofs.OtherBytes.{byte_small}
use Rattle.d64spec.specs.Layouts.{Known}
use Rattle.geometry.specs.declared.Address.{Address as Place}
use Rattle.geometry.specs.Layout.{address_of}
use Rattle.directory.specs.Directories.{sectors_of, slot_at, found}
use Rattle.directory.proofs.FoundLaws.{found-some, found-none}
use Rattle.directory.proofs.Track18Laws.{number-18}
use Rattle.diskcheck.specs.SlotChecks.{image_slot}
use Rattle.finding.specs.FileSlots.{slot_empty, CheckedSlots}
use Rattle.finding.proofs.CheckedSlotLaws.{lent_track18}
use Rattle.finding.proofs.EmptyLaws.{empty-none, empty-some}
use Rattle.bam.specs.MapEntry.{Entries}
use Rattle.bam.specs.MapSector.{map_entries}
use Rattle.bam.proofs.FollowLaws.{expects-loaded, marked_free-expected}
use Rattle.placement.specs.Placements.{Placed, directory_place}
use Rattle.placement.proofs.PlaceLaws.{MarksFree, few-places, places_count, places-few, places-named, directory-none, directory-lowest}
use Rattle.storing.specs.declared.room.EntryPlace.{EntryPlace}
use Rattle.storing.specs.Plans.{PlaceReady}
use Rattle.storing.specs.Decisions.{Needed, slot_place, new_place, room_at, room_for, RoomIs, DirectoryChecked, RoomAsked}

-- ---- the sectors needed

pub needed : {size n : ℕ} → size ≤ 190246 → {k : ℕ} → k ≡ size / 254 + min 1 (size % 254) → n ≡ max k 1 → Needed size n
unfolding sectors_needed
needed {size = zero} h ke e = record { is = omega arith; some = omega arith; few = omega arith }
needed {size = suc size} h ke e = record { is = rw (ne_eqb (suc size) 0 (λ e. omega arith)) (omega arith); some = omega arith; few = omega arith }

-- more bytes than 749 sectors hold
needed-many : {size : ℕ} → 190246 < size → 749 < sectors_needed size
unfolding sectors_needed
needed-many {size} h = rw (ne_eqb size 0 (λ e. omega arith)) (omega arith)

module _ (g : Geometry) (kn : Known g) where
  -- ---- the directory's sectors

  last_of-sectors : (r : Address) (ss : List ℕ) (n : ℕ) → n < length ss → last_of r (sectors_of ss (suc n)) ≡ address 18 (get_or ss n 0)
  unfolding last_of
  last_of-sectors r [] n h = absurd (omega arith)
  last_of-sectors r (s ∷ ss) zero h = refl
  last_of-sectors r (s ∷ ss) (suc n) h = last_of-sectors (address 18 s) ss n (omega arith)

  module _ {img ss : List ℕ} {count : ℕ} (c : DirectoryChecked g img ss count) where
    -- the directory starts at 18/1: there is a sector of it
    pub count-some : 1 ≤ count
    count-some =
        omega (
          arith,
          ap length c.sectors,
          length-map (take count ss) (λ s. address 18 s),
          length-take count ss,
          directory-some g (disk img)
              (directory_sectors g (disk img)) c.slots.accepted.content.directory,
        )

    pub last-sector : address 18 (get_or ss (count - 1) 0) ≡ last_of directory_start (directory_sectors g (disk img))
    last-sector =
        let e : count ≡ suc (count - 1) = omega (arith, count-some) in
        sym (last_of-sectors directory_start ss (count - 1) (omega (arith, count-some, c.whole)))
        ∙ ap (λ (n : ℕ). last_of directory_start (sectors_of ss n)) (sym e)
        ∙ ap (last_of directory_start) c.sectors

  -- ---- the map's marks

  map-full : (img : Bytes) → length img ≡ 256 * total g → length (disk img (sector_number g map_address)) ≡ 256
  unfolding disk
  map-full img size = rw (number-18 g kn 0) (simp (length-take, length-drop) (omega (arith, kn.past18)))

  module _ {img : Bytes} (accepted : Accepted g img) (bytes : (i : ℕ) → byte img i < 256) where
    image-size : length img ≡ 256 * total g
    image-size = accepted.size

    -- THE MAP OF AN ACCEPTED IMAGE marks exactly the free sectors
    marks-free : MarksFree g (map_entries g (disk img (sector_number g map_address))) (disk img)
    marks-free = record {
      agrees = marked_free-expected g kn (expects-loaded g kn (disk img) accepted.content (map-full img image-size)
          (byte_small img bytes (sector_number g map_address)));
    }

  -- ---- a place for the entry

  -- where the definitions put the entry, by the empty slots and the free sectors of track 18
  module _ (d : Disk) where
    place-slot : (s : Slot) (l : List Slot) → empty_slots g d ≡ s ∷ l → slot_place_for g d ≡ done (in_empty_slot s)
    unfolding slot_place_for
    place-slot s l e = rw (e, slot_place_for)

    place_none : empty_slots g d ≡ [] → free_for_directory g d ≡ [] → slot_place_for g d ≡ refused directory_full
    unfolding slot_place_for first
    place_none e f = rw (e, f, slot_place_for)

    place-new : empty_slots g d ≡ [] → (r : Address) (l : List Address) → free_for_directory g d ≡ r ∷ l → slot_place_for g d ≡ done (in_new_sector r)
    unfolding slot_place_for first
    place-new e r l f = rw (e, f, slot_place_for)

  -- what the code returns, by what it finds
  module _ (b : Bytes) (ss : List ℕ) (end : ℕ) (es : Entries) where
    pub room-slot : {k : ℕ} → Some k ≡ found end (slot_empty b ss 0 end) → Some (slot_place ss k) ≡ room_for g b ss end es
    unfolding room_for room_at
    room-slot e = rw (← e)

    module _ (full : None ≡ found end (slot_empty b ss 0 end)) where
      pub room-none : None ≡ directory_place g es → None ≡ room_for g b ss end es
      unfolding room_for room_at
      room-none e = rw (← full, ← e)

      pub room-new : {at : Place} → Some at ≡ directory_place g es → Some (new_place at) ≡ room_for g b ss end es
      unfolding room_for room_at
      room-new e = rw (← full, ← e)

  module _ {img : Bytes} {ss : List ℕ} (count : ℕ) (there : CheckedSlots g img ss (8 * count)) (whole : count ≤ length ss)
      (sectors : sectors_of ss count ≡ directory_sectors g (disk img))
      (bytes : (i : ℕ) → byte img i < 256) where
    -- an empty slot
    slot-ready : (k : ℕ) → k ≡ slot_empty (lent_track18 img) ss 0 (8 * count) → k < 8 * count → PlaceReady g img (slot_place ss k)
    unfolding slot_at slot_in
    slot-ready k is h =
        let e = empty-some g kn count there sectors whole is h in
        record { place = in_empty_slot (image_slot g img ss k); found = place-slot (disk img) (image_slot g img ss k) e.0 e.1; is = (refl, refl, refl) }

    -- no empty slot: a new sector, or none
    module _ (none : empty_slots g (disk img) ≡ []) where
      abbrev es : Entries
      es = map_entries g (disk img (sector_number g map_address))

      sector-none : directory_place g es ≡ None → slot_place_for g (disk img) ≡ refused directory_full
      sector-none e = place_none (disk img) none ((directory-none g kn (marks-free there.accepted bytes)).0 e)

      sector-ready : {at : Place} → directory_place g es ≡ Some at → PlaceReady g img (new_place at)
      sector-ready {at} e =
          let f = directory-lowest g kn (marks-free there.accepted bytes) e in
          record {
            place = in_new_sector (address_of at);
            found = place-new (disk img) none (address_of at) f.others f.free;
            is = (refl, ap (λ (t : ℕ). address t at.sector) f.track, refl);
          }

    room-decided : (r : Option ℕ) (s : Option Place) → r ≡ found (8 * count) (slot_empty (lent_track18 img) ss 0 (8 * count))
        → directory_place g (map_entries g (disk img (sector_number g map_address))) ≡ s → RoomIs g img (room_at ss r s)
    unfolding room_at
    room-decided (Some k) s e place = let f = found-some e in slot-ready k f.0 f.1
    room-decided None (Some at) e place = sector-ready (empty-none g kn count there sectors whole refl (found-none e)) place
    room-decided None None e place = sector-none (empty-none g kn count there sectors whole refl (found-none e)) place

  -- ROOM FOR THE ENTRY is where the definitions have it
  pub room-is : {img ss : List ℕ} {count : ℕ} {es : Entries} {room : Option EntryPlace} → RoomAsked g img ss count es
      → {b : Bytes} → b ≡ lent_track18 img → room ≡ room_for g b ss (8 * count) es → RoomIs g img room
  unfolding room_for
  room-is {img} {ss} {count} {es} a lent is =
      let d = a.directory in
      rw (is, lent) (room-decided count d.slots d.whole d.sectors d.bytes (found (8 * count) (slot_empty (lent_track18 img) ss 0 (8 * count)))
      (directory_place g es) refl (ap (directory_place g) (sym a.entries)))

  -- ---- sectors for the content

  module _ {img : Bytes} (accepted : Accepted g img) (bytes : (i : ℕ) → byte img i < 256) {es : Entries}
      (entries : es ≡ map_entries g (disk img (sector_number g map_address))) where
    marks-of : MarksFree g es (disk img)
    marks-of = rw entries (marks-free accepted bytes)

    module _ {size n r : ℕ} {at at' : List Place} (need : Needed size n) (room : n ≤ length at) (placed : Placed g es n at r at') where
      -- fewer sectors than are needed
      pub sectors-few : r < n → length (free_for_files g (disk img)) < sectors_needed size
      sectors-few h = omega (arith, (places-few g kn marks-of room placed).0 h, need.is)

      -- as many as are needed
      pub sectors-enough : n ≤ r → sectors_needed size ≤ length (free_for_files g (disk img))
      sectors-enough h = omega (arith, places_count g kn marks-of room placed, need.is)

      pub sectors-taken : n ≤ r → map address_of (take n at') ≡ placement g (disk img) (sectors_needed size)
      sectors-taken h = places-named g kn marks-of room placed (omega (arith, sectors-enough h, need.is)) ∙ ap (placement g (disk img)) need.is

  -- more bytes than any disk has room for
  pub sectors-never : (img : Bytes) {size : ℕ} → 190246 < size → length (free_for_files g (disk img)) < sectors_needed size
  sectors-never img h = omega (arith, few-places g kn (disk img), needed-many h)
