-- Every byte of the image after a scratch and after a store, as one statement each (01, Store; Scratch: "no other byte changes"), and what the calls report.
-- In order: scratch; store; for each, that what the statement speaks of is there. What both share: proofs/OtherBytes, MapBytes.
use Prim.Native.Nat.{ℕ, ◌<◌}
use native.Mathlib.Omega.{arith}
use mathlib.Core.Path.{◌≡◌, refl, sym, ap, ap₂, ◌∙◌, subst}
use mathlib.Core.Logic.{inl, inr}
use mathlib.Core.List.{List, [], ◌∷◌, ◌++◌, Memᴰ}
use lib.ListN.{length}
use Rattle.d64spec.specs.Lists.{Bytes, byte}
use Rattle.d64spec.specs.Answers.{Address, done}
use Rattle.d64spec.specs.Geometry.{Geometry, Valid}
use Rattle.d64spec.specs.Image.{Disk, disk, image}
use Rattle.d64spec.specs.Chain.{chain_data}
use Rattle.d64spec.specs.Directory.{File, file_of, files, name_of}
use Rattle.d64spec.specs.Accepted.{Accepted}
use Rattle.d64spec.specs.Reply.{Change, changed}
use Rattle.d64spec.specs.Store.{SlotPlace, call_store, new_entry, placement, sectors_needed, slot_place_for, stored_disk, write_chain, write_slot}
use Rattle.d64spec.specs.Scratch.{call_scratch, scratch_change, scratched_disk}
use Rattle.d64spec.specs.Changes.{DataWritten, EntryWritten, OtherBits, OutsideKept, ScratchWrites, ScratchedBytes, StoreWrites, StoredBytes, added_sectors}
use Rattle.d64spec.proofs.ResultLaws.{done_inj}
use Rattle.d64spec.proofs.CallLaws.{ScratchDone, StoreDone, scratch-done, store-done}
use Rattle.d64spec.proofs.FrameLaws.{Sound}
use Rattle.d64spec.proofs.ImageLaws.{Whole, disk-whole}
use Rattle.d64spec.proofs.MapBytes.{Prepared}
use Rattle.d64spec.proofs.OtherBytes.{after-disk, after-size, after_map, after-bits, after-outside, after-rest}
use Rattle.d64spec.proofs.ScratchLaws.{OccupiedSlot, d2, prepared2, rest2}
use Rattle.d64spec.proofs.ScratchedLaws.{scratch-cleared, scratch-slot}
use Rattle.d64spec.proofs.ScratchStep.{Found, found, scratch-finds, sound-of}
use Rattle.d64spec.proofs.WriteChainLaws.{sectors-fit}
use Rattle.d64spec.proofs.StoreLaws.{StoreLeaves}
use Rattle.d64spec.proofs.StoreStep.{Taken, place-case, placement-taken, some-sector, store-enough, store-new, stored}
use Rattle.d64spec.proofs.NamedLaws.{files_named-one}

-- ---- scratch

slot-bits : (g : Geometry) (v : Valid g) (img : Bytes) (a : Accepted g img) (o : OccupiedSlot g (disk img))
    → OtherBits g (file_of g (disk img) o.slot).sectors (disk img) (disk (image g (scratched_disk g (disk img) (file_of g (disk img) o.slot))))
unfolding scratched_disk file_of
slot-bits g v img a o =
    let d : Disk = disk img in
    let w : Whole g d = disk-whole g img a.size in
    let s : Sound g d = sound-of g d a.content in
    after-bits g v img a (d2 g v d w s o) (file_of g d o.slot).sectors (prepared2 g v d w s o)

slot-outside : (g : Geometry) (v : Valid g) (img : Bytes) (a : Accepted g img) (o : OccupiedSlot g (disk img))
    → OutsideKept g (disk img) (disk (image g (scratched_disk g (disk img) (file_of g (disk img) o.slot))))
unfolding scratched_disk file_of
slot-outside g v img a o =
    let d : Disk = disk img in
    let w : Whole g d = disk-whole g img a.size in
    let s : Sound g d = sound-of g d a.content in
    after-outside g v img a (d2 g v d w s o) (file_of g d o.slot).sectors (prepared2 g v d w s o)

scratched-slot : (g : Geometry) (v : Valid g) (img : Bytes) (a : Accepted g img) → ((k : ℕ) → byte img k < 256) → (o : OccupiedSlot g (disk img))
    → ScratchedBytes g img (file_of g (disk img) o.slot) (image g (scratched_disk g (disk img) (file_of g (disk img) o.slot)))
unfolding scratched_disk file_of
scratched-slot g v img a small o =
    let d : Disk = disk img in
    let w : Whole g d = disk-whole g img a.size in
    let s : Sound g d = sound-of g d a.content in
    let f : File = file_of g d o.slot in
    let e : Disk = d2 g v d w s o in
    let p : Prepared g d e f.sectors = prepared2 g v d w s o in
    record {
      size = after-size g v img a e f.sectors p;
      cleared = λ n h. ap (λ (x : Disk). x n) (after-disk g v img a e f.sectors p) ∙ scratch-cleared g v d w s o n h;
      slot = rw (after-disk g v img a e f.sectors p) (scratch-slot g v d w s o);
      map = after_map g v img a e f.sectors p;
      bits = slot-bits g v img a o;
      rest = after-rest g v img a e f.sectors p small (λ n i. ScratchWrites g f n i) (λ n i h. inr (inr h)) (λ n i out. rest2 g v d w s o n i (λ h. out (inl h)) (λ h. out (inr (inl h))));
    }

-- the file that a scratch finds is the one of that name
pub scratch-change : (g : Geometry) (img : Bytes) → Accepted g img → (name : Bytes) (ch : Change) → call_scratch g img name ≡ done ch → (f : File) → Memᴰ f (files g (disk img)) → name_of f.slot.bytes ≡ name
    → ch ≡ scratch_change g img f
scratch-change g img a name ch e f m is =
    let h = scratch-done g img name ch e in
    sym h.change ∙ ap (λ (x : File). scratch_change g img x) (done_inj (sym h.found ∙ files_named-one name (files g (disk img)) f m is (a.content.names name)))

-- EVERY BYTE AFTER A SCRATCH: the file's sectors and its slot are zero, the map follows the owners, and every other byte is as it was
pub scratched-bytes : (g : Geometry) → Valid g → (img : Bytes) → Accepted g img → ((k : ℕ) → byte img k < 256) → (name : Bytes) (ch : Change) → call_scratch g img name ≡ done ch
    → (f : File) → Memᴰ f (files g (disk img)) → name_of f.slot.bytes ≡ name → ScratchedBytes g img f ch.image_after
scratched-bytes g v img a small name ch e f m is =
    let o : Found g (disk img) f = found g (disk img) f m in
    rw (scratch-change g img a name ch e f m is) (subst (λ (x : File). ScratchedBytes g img x (image g (scratched_disk g (disk img) x))) o.is (scratched-slot g v img a small o.place))

-- the map's bits, for any numbers in the place of bytes
pub scratched-bits : (g : Geometry) → Valid g → (img : Bytes) → Accepted g img → (name : Bytes) (ch : Change) → call_scratch g img name ≡ done ch
    → (f : File) → Memᴰ f (files g (disk img)) → name_of f.slot.bytes ≡ name → OtherBits g f.sectors (disk img) (disk ch.image_after)
scratched-bits g v img a name ch e f m is =
    let o : Found g (disk img) f = found g (disk img) f m in
    rw (scratch-change g img a name ch e f m is)
    (subst (λ (x : File). OtherBits g x.sectors (disk img) (disk (image g (scratched_disk g (disk img) x)))) o.is (slot-bits g v img a o.place))

-- A SCRATCH REPORTS the file's length and the number of its sectors
pub scratch-reports : (g : Geometry) (img : Bytes) → Accepted g img → (name : Bytes) (ch : Change) → call_scratch g img name ≡ done ch → (f : File) → Memᴰ f (files g (disk img)) → name_of f.slot.bytes ≡ name
    → (ch.reported_length ≡ length (chain_data g (disk img) f.sectors)) × (ch.reported_sectors ≡ length f.sectors)
scratch-reports g img a name ch e f m is =
    let z = scratch-change g img a name ch e f m is in
    (ap (λ (x : Change). x.reported_length) z, ap (λ (x : Change). x.reported_sectors) z)

-- and there is such a file
pub scratched-file : (g : Geometry) (img name : Bytes) (ch : Change) → call_scratch g img name ≡ done ch → (f : File) × Memᴰ f (files g (disk img)) × (name_of f.slot.bytes ≡ name)
scratched-file g img name ch e =
    let h : ScratchDone g img name ch = scratch-done g img name ch e in
    (h.file, (scratch-finds h).0, sym (scratch-finds h).1)

-- THE BYTES OF 18/0 THAT ARE IN NO MAP ENTRY of the layout are as they were (02, §8)
pub scratched-outside : (g : Geometry) → Valid g → (img : Bytes) → Accepted g img → (name : Bytes) (ch : Change) → call_scratch g img name ≡ done ch
    → OutsideKept g (disk img) (disk ch.image_after)
scratched-outside g v img a name ch e =
    let k = scratched-file g img name ch e in
    let o : Found g (disk img) k.0 = found g (disk img) k.0 k.1 in
    rw (scratch-change g img a name ch e k.0 k.1 k.2)
    (subst (λ (x : File). OutsideKept g (disk img) (disk (image g (scratched_disk g (disk img) x)))) o.is (slot-outside g v img a o.place))

-- ---- store

module _ (g : Geometry) (img name : Bytes) (kind : ℕ) (bs : Bytes) (ch : Change) (e : call_store g img name kind bs ≡ done ch) (place : SlotPlace) (r : Address) (l : List Address)
    (found : slot_place_for g (disk img) ≡ done place) (takes : placement g (disk img) (sectors_needed (length bs)) ≡ r ∷ l) where
  told : StoreDone g img name kind bs ch
  told = store-done g img name kind bs ch e

  store-size : sectors_needed (length bs) ≡ length (r ∷ l)
  store-size = sym (store-enough told) ∙ ap length takes

  pub store-change : ch ≡ changed (image g (stored_disk g (disk img) place (r ∷ l) name kind bs)) (length bs) (sectors_needed (length bs))
  store-change =
      sym told.change
      ∙ ap₂ (λ (x : SlotPlace) (y : List Address). changed (image g (stored_disk g (disk img) x y name kind bs)) (length bs) (sectors_needed (length bs))) (done_inj (sym told.found ∙ found)) takes

  -- A STORE REPORTS the length of the bytes handed in and the number of sectors taken
  pub store-reports : (ch.reported_length ≡ length bs) × (ch.reported_sectors ≡ length (r ∷ l))
  store-reports = (ap (λ (x : Change). x.reported_length) store-change, ap (λ (x : Change). x.reported_sectors) store-change ∙ store-size)

  module _ (v : Valid g) (a : Accepted g img) where
    -- the disk before the map is written
    abbrev e2 : Disk
    e2 = write_slot g (write_chain g (r ∷ l) bs (disk img)) place (new_entry name kind r (length (r ∷ l)))

    pub leaves : StoreLeaves g (disk img) e2 place (r ∷ l) (new_entry name kind r (length (r ∷ l))) (record { name = name; kind = kind; content = bs })
    leaves =
        stored g v img a name kind bs told.asked told.kind-asked (store-new told) r l (subst (Taken g (disk img)) takes (placement-taken g (disk img) (sectors_needed (length bs))))
        (sectors-fit (r ∷ l) (length bs) store-size) place (place-case g (disk img) place found)

    -- the map's bits, for any numbers in the place of bytes
    pub stored-bits : OtherBits g (added_sectors place ++ r ∷ l) (disk img) (disk ch.image_after)
    unfolding stored_disk
    stored-bits = rw store-change (after-bits g v img a e2 (added_sectors place ++ r ∷ l) leaves.prepared)

    -- THE BYTES OF 18/0 THAT ARE IN NO MAP ENTRY of the layout are as they were (02, §8)
    pub stored-outside : OutsideKept g (disk img) (disk ch.image_after)
    unfolding stored_disk
    stored-outside = rw store-change (after-outside g v img a e2 (added_sectors place ++ r ∷ l) leaves.prepared)

    stored-place : ((k : ℕ) → byte img k < 256) → StoredBytes g img place r l name kind bs (image g (stored_disk g (disk img) place (r ∷ l) name kind bs))
    unfolding stored_disk
    stored-place small =
        let k = leaves in
        let t : List Address = added_sectors place ++ (r ∷ l) in
        record {
          size = after-size g v img a e2 t k.prepared;
          laid = subst (λ (x : Disk). DataWritten g x (r ∷ l) bs) (sym (after-disk g v img a e2 t k.prepared)) k.laid;
          entry = subst (λ (x : Disk). EntryWritten g (disk img) x place (new_entry name kind r (length (r ∷ l)))) (sym (after-disk g v img a e2 t k.prepared)) k.entry;
          map = after_map g v img a e2 t k.prepared;
          bits = rw store-change at stored-bits;
          rest = after-rest g v img a e2 t k.prepared small (λ n i. StoreWrites g (disk img) place (r ∷ l) n i) (λ n i h. inr (inr h)) (λ n i out. k.rest n i (λ h. out (inl h)) (λ h. out (inr (inl h))));
        }

-- EVERY BYTE AFTER A STORE: the data stand in the sectors taken, the entry at its place, the map follows the owners, and every other byte is as it was
pub stored_bytes : (g : Geometry) → Valid g → (img : Bytes) → Accepted g img → ((k : ℕ) → byte img k < 256) → (name : Bytes) (kind : ℕ) (bs : Bytes) (ch : Change) → call_store g img name kind bs ≡ done ch
    → (place : SlotPlace) (r : Address) (l : List Address) → slot_place_for g (disk img) ≡ done place → placement g (disk img) (sectors_needed (length bs)) ≡ r ∷ l → StoredBytes g img place r l name kind bs ch.image_after
stored_bytes g v img a small name kind bs ch e place r l found takes =
    rw (store-change g img name kind bs ch e place r l found takes) (stored-place g img name kind bs ch e place r l found takes v a small)

-- what a store takes: a place for its entry, and at least one sector
pub record Takes (g : Geometry) (img bs : Bytes) : Type 0 where
  pub place : SlotPlace
  pub found : slot_place_for g (disk img) ≡ done place
  pub start : Address
  pub others : List Address
  pub sectors : placement g (disk img) (sectors_needed (length bs)) ≡ start ∷ others

-- and a store that is done takes them
pub store-takes : (g : Geometry) (img name : Bytes) (kind : ℕ) (bs : Bytes) (ch : Change) → call_store g img name kind bs ≡ done ch → Takes g img bs
store-takes g img name kind bs ch e = go (placement g (disk img) (sectors_needed (length bs))) refl
  where
    told' : StoreDone g img name kind bs ch
    told' = store-done g img name kind bs ch e

    go : (l : List Address) → placement g (disk img) (sectors_needed (length bs)) ≡ l → Takes g img bs
    go [] z = absurd (omega (arith, some-sector (length bs), store-enough told', ap length z))
    go (r ∷ l) z = record { place = told'.place; found = told'.found; start = r; others = l; sectors = z }
