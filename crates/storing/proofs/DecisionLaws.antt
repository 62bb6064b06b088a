-- The decisions of a store (01, Store; Answer numbers: 11, 12, 14, 15): what is known at each step gives the next step's, or the reply of a refusal.
-- In order: the image checked; the name; room for the entry; room for the content.
use Prim.Native.Nat.{ℕ, ◌-◌, ◌*◌, ◌≤◌, ◌<◌}
use mathlib.Core.Path.{◌≡◌, refl, sym, ap, ◌∙◌}
use mathlib.Core.Bool.{Bool, true, false, not}
use mathlib.Core.List.{List, []}
use lib.ListN.{length, take, get_or}
use lib.Dec.{eqb}
use Rattle.std.specs.Prelude.{Option, Ok, Err, is_some}
use Rattle.d64spec.specs.Lists.{Bytes, byte}
use Rattle.d64spec.specs.Answers.{refused, done, directory_full}
use Rattle.d64spec.specs.Geometry.{Geometry, total, sector_number, map_address}
use Rattle.d64spec.specs.Layouts.{Known}
use Rattle.d64spec.specs.Image.{disk}
use Rattle.d64spec.specs.Directory.{files}
use Rattle.d64spec.specs.Owner.{free_for_files}
use Rattle.d64spec.specs.Accepted.{Accepted}
use Rattle.d64spec.specs.Check.{check_image}
use Rattle.d64spec.specs.Reply.{valid_name_argument, writable, files_named}
use Rattle.d64spec.specs.Store.{sectors_needed, slot_place_for}
use Rattle.d64spec.specs.Call.{perform}
use Rattle.d64spec.proofs.CheckLaws.{contents, disk-complete}
use Rattle.geometry.specs.declared.Address.{Address}
use Rattle.answers.specs.declared.Fault.TheVariants.{WriteForbidden, NameExists, DirectoryFull, DiskFull}
use Rattle.answers.specs.Faults.{fault_of, reply_of}
use Rattle.bam.specs.MapEntry.{Entries}
use Rattle.bam.specs.MapSector.{map_entries}
use Rattle.diskcheck.specs.declared.Checked.{Checked}
use Rattle.diskcheck.specs.ImageChecks.{IsChecked}
use Rattle.diskcheck.proofs.CheckedLaws.{fine-image}
use Rattle.directory.specs.Directories.{found}
use Rattle.finding.specs.FileSlots.{slot_named, CheckedSlots}
use Rattle.finding.proofs.CheckedSlotLaws.{lent_track18, checked-slots, name_free}
use Rattle.placement.specs.Placements.{Placed}
use Rattle.entry.specs.Entry.{number_of_kind}
use Rattle.storing.specs.declared.NewFile.{NewFile}
use Rattle.storing.specs.declared.room.EntryPlace.{EntryPlace}
use Rattle.storing.specs.Plans.{PlaceReady, WriteReady, FileWritten}
use Rattle.storing.specs.Decisions.{store_of, Needed, StoreChecked, StoreNew, StorePlaced}
use Rattle.answers.proofs.RefusedLaws.{size-true}
use Rattle.storing.proofs.ReplyLaws.{kind-storable}
use Rattle.storing.proofs.ReplyLaws.{store-forbidden, store-exists, store-full, store-no-room, store-done, store-refused, store-replied}
use Rattle.storing.proofs.RoomLaws.{last-sector, sectors-few, sectors-enough, sectors-taken, sectors-never}

-- ---- the image checked

-- A CHECKED IMAGE without a fault
pub checked-store : (g : Geometry) (kn : Known g) {img : Bytes} {r : Checked} {f : NewFile} → IsChecked g img r
    → ((i : ℕ) → byte img i < 256)
    → valid_name_argument f.name.now ≡ true → StoreChecked g img f r.sectors r.count
checked-store g kn checked bytes asked =
    let fine = fine-image g kn checked in
    record {
      directory = record { slots = checked-slots g kn checked; sectors = fine.sectors; whole = fine.whole; bytes = bytes };
      asked = asked;
    }

-- ---- the name

-- the search for the name says whether a file has it
pub new-found : (g : Geometry) (kn : Known g) {img ss : List ℕ} (name : Bytes) {end : ℕ} (r : Option ℕ) {new : Bool}
    → CheckedSlots g img ss end × (valid_name_argument name ≡ true) → {b : Bytes} → b ≡ lent_track18 img → r ≡ found end (slot_named b ss name 0 end)
    → is_some r ≡ not new → new ≡ eqb (length (files_named name (files g (disk img)))) 0
new-found g kn {ss = ss} name {end} r {new} there lent is none =
    turned new none ∙ name_free g kn there.0 name there.1 r (is ∙ ap (λ (b : Bytes). found end (slot_named b ss name 0 end)) lent)
  where
    turned : (x : Bool) → is_some r ≡ not x → x ≡ not (is_some r)
    turned true h = ap not (sym h)
    turned false h = ap not (sym h)

module _ (g : Geometry) (kn : Known g) {img : Bytes} {f : NewFile} {ss : List ℕ} {count : ℕ} (c : StoreChecked g img f ss count) where
  -- A DOS VERSION THAT FORBIDS WRITING
  pub forbidden-reply : writable g (disk img) ≡ false → reply_of (Err WriteForbidden) img [] ≡ perform g img (store_of f)
  unfolding fault_of
  forbidden-reply forbids =
      let d = c.directory.slots in
      store-refused g img f.name.now (number_of_kind f.kind) f.content.now WriteForbidden
      (store-forbidden g img f.name.now (number_of_kind f.kind) f.content.now d.size c.asked (kind-storable f.kind) d.contents forbids)

  module _ (allows : writable g (disk img) ≡ true) where
    -- A NAME THAT IS THERE
    pub exists-reply : eqb (length (files_named f.name.now (files g (disk img)))) 0 ≡ false
        → reply_of (Err NameExists) img [] ≡ perform g img (store_of f)
    unfolding fault_of
    exists-reply there =
        let d = c.directory.slots in
        store-refused g img f.name.now (number_of_kind f.kind) f.content.now NameExists
        (store-exists g img f.name.now (number_of_kind f.kind) f.content.now d.size c.asked (kind-storable f.kind) d.contents allows there)

-- ---- room for the entry

module _ (g : Geometry) (kn : Known g) {img : Bytes} {f : NewFile} {ss : List ℕ} {count : ℕ} (n : StoreNew g img f ss count) where
  -- NO ROOM FOR THE ENTRY
  pub full-reply : slot_place_for g (disk img) ≡ refused directory_full
      → reply_of (Err DirectoryFull) img [] ≡ perform g img (store_of f)
  unfolding fault_of
  full-reply none =
      let k = n.checked in
      let d = k.directory.slots in
      store-refused g img f.name.now (number_of_kind f.kind) f.content.now DirectoryFull
      (store-full g img f.name.now (number_of_kind f.kind) f.content.now d.size k.asked (kind-storable f.kind) d.contents n.may
      n.absent none)

  -- A PLACE FOR THE ENTRY
  pub placed-store : {p : EntryPlace} {es : Entries} → es ≡ map_entries g (disk img (sector_number g map_address)) → PlaceReady g img p
      → StorePlaced g img f p (get_or ss (count - 1) 0) es
  placed-store entries place =
      let k = n.checked in
      let d = k.directory in
      record {
        ready = record {
          accepted = d.slots.accepted;
          bytes = d.bytes;
          asked = k.asked;
          absent = n.absent;
          last_sector = last-sector g kn d;
          entries = entries;
        };
        may = n.may;
        place = place;
      }

-- ---- room for the content

accepted-checked : (g : Geometry) (kn : Known g) (img : Bytes) → Accepted g img → check_image g img ≡ done (contents g kn.valid (disk img))
unfolding check_image
accepted-checked g kn img a = rw (size-true g img a.size) (disk-complete g kn.valid (disk img) a.content)

module _ (g : Geometry) (kn : Known g) {img : Bytes} {f : NewFile} {p : EntryPlace} {last : ℕ} {es : Entries}
    (s : StorePlaced g img f p last es) where
  size : length img ≡ 256 * total g
  size = s.ready.accepted.size

  -- NO ROOM FOR THE CONTENT
  no-room-reply : length (free_for_files g (disk img)) < sectors_needed (length f.content.now)
      → reply_of (Err DiskFull) img [] ≡ perform g img (store_of f)
  unfolding fault_of
  no-room-reply few =
      let r = s.ready in
      store-refused g img f.name.now (number_of_kind f.kind) f.content.now DiskFull
      (store-no-room g img f.name.now (number_of_kind f.kind) f.content.now size r.asked (kind-storable f.kind) (accepted-checked g kn img r.accepted)
      s.may r.absent s.place.found few)

  pub long-reply : 190246 < length f.content.now → reply_of (Err DiskFull) img [] ≡ perform g img (store_of f)
  long-reply long = no-room-reply (sectors-never g kn img long)

  module _ {n r : ℕ} {at at' : List Address} (need : Needed (length f.content.now) n) (room : n ≤ length at) (placed : Placed g es n at r at') where
    pub few-reply : r < n → reply_of (Err DiskFull) img [] ≡ perform g img (store_of f)
    few-reply few = no-room-reply (sectors-few g kn s.ready.accepted s.ready.bytes s.ready.entries need room placed few)

    -- EVERY REFUSAL IS DECIDED
    pub write-ready : n ≤ r → WriteReady g img f (take n at') p last es
    write-ready enough = record {
      ready = s.ready;
      place = s.place;
      room = sectors-enough g kn s.ready.accepted s.ready.bytes s.ready.entries need room placed enough;
      taken = sectors-taken g kn s.ready.accepted s.ready.bytes s.ready.entries need room placed enough;
    }

    -- THE FILE IS STORED
    pub done-reply : {img' : Bytes} → n ≤ r → FileWritten g img f img'
        → reply_of (Ok (record { length = length f.content.now; sectors = n })) img' [] ≡ perform g img (store_of f)
    done-reply enough written =
        let r = s.ready in
        store-replied g img f.name.now (number_of_kind f.kind) f.content.now s.place.place
        (store-done g img f.name.now (number_of_kind f.kind) f.content.now size r.asked (kind-storable f.kind) (accepted-checked g kn img r.accepted)
        s.may r.absent s.place.found
        (sectors-enough g kn r.accepted r.bytes r.entries need room placed enough))
        (written.written s.place.place s.place.found) refl need.is
