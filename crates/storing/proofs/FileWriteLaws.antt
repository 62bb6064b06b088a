-- A file written (01, Store): the image after its data, its entry and the map is the one that the definitions describe.
-- In order: the mark of a new directory sector; the disk after the data and the entry; who is free on it; the marks; the map; the whole.
use Prim.Native.Nat.{ℕ, ◌+◌, ◌≤◌, ◌<◌}
use native.Mathlib.Omega.{arith}
use native.Mathlib.Decide.{dec_le}
use mathlib.Core.Path.{◌≡◌, sym, ap, ap₂, ◌∙◌, subst}
use mathlib.Core.Bool.{Bool, true, false, cond}
use mathlib.Core.Logic.{◌⊎◌, inl, inr}
use mathlib.Core.List.{List, [], ◌∷◌, ◌++◌, map}
use lib.ListN.{length, length-map}
use lib.Dec.{eqb}
use borrow.Author.Tests.{eq-eqb, ne_eqb, lt-ltb, le-ltb}
use Rattle.d64spec.specs.Lists.{Bytes, All, byte, count, name_count}
use Rattle.d64spec.specs.Answers.{Address, address, done}
use Rattle.d64spec.specs.Geometry.{Geometry, on_disk, sector_number, map_address, directory_start}
use Rattle.d64spec.specs.Layouts.{Known}
use Rattle.d64spec.specs.Image.{Disk, disk, image, put}
use Rattle.d64spec.specs.Chain.{directory_link}
use Rattle.d64spec.specs.Directory.{directory_sectors, files, name_of}
use Rattle.d64spec.specs.Owner.{claim_count, is_free}
use Rattle.d64spec.specs.Map.{rewrite_map}
use Rattle.d64spec.specs.Store.{SlotPlace, in_empty_slot, in_new_sector, new_entry, write_chain, write_slot, stored_disk, last_of, store_change}
use Rattle.d64spec.specs.Store.{slot_place_for}
use Rattle.d64spec.specs.Changes.{added_sectors}
use Rattle.d64spec.proofs.BoundLaws.{sector_number-lt, map_on}
use Rattle.d64spec.proofs.FrameLaws.{all_map, all-of-count, same-directory}
use Rattle.d64spec.proofs.ImageLaws.{disk-whole}
use Rattle.d64spec.proofs.InPlaceLaws.{disk-image}
use Rattle.d64spec.proofs.ListLaws.{count-append}
use Rattle.d64spec.proofs.OtherBytes.{byte_small}
use Rattle.d64spec.proofs.NamedLaws.{length-files_named}
use Rattle.d64spec.proofs.ResultLaws.{done_inj}
use Rattle.d64spec.proofs.SplitLaws.{map-append}
use Rattle.d64spec.proofs.StoreLaws.{StoreLeaves}
use Rattle.d64spec.proofs.StoreStep.{PlaceCase, directory-stay, stored}
use Rattle.d64spec.proofs.WriteChainLaws.{Fits, sectors-fit}
use Rattle.geometry.specs.declared.Address.{Address as Place}
use Rattle.geometry.specs.Layout.{address_of}
use Rattle.bam.specs.MapEntry.{Entries}
use Rattle.bam.specs.MapSector.{stored_entries}
use Rattle.bam.specs.Bam.{moved_mark, moved_marks}
use Rattle.bam.specs.Expected.{Expects, free_after}
use Rattle.bam.proofs.FollowLaws.{expects-loaded, expects-agree, expects-marks, map-follows}
use Rattle.entry.specs.Entry.{number_of_kind}
use Rattle.storing.specs.declared.NewFile.{NewFile}
use Rattle.storing.specs.declared.room.EntryPlace.{EntryPlace}
use Rattle.storing.specs.Plans.{PlaceIs, WriteReady, FileWritten}
use Rattle.bam.specs.ImageMaps.{MapWritten}
use Rattle.storing.specs.Writes.{entry_disk, ChainWritten, EntryLaid}
use Rattle.storing.proofs.ChainWriteLaws.{place_at}
use Rattle.storing.proofs.EntryWriteLaws.{write_slot-place}
use Rattle.storing.proofs.ReplyLaws.{kind-storable}
use Rattle.storing.proofs.WriteReadyLaws.{places-taken, length-refs, places-some, place_found, image-size, new-free}

-- what the code does with the mark of a directory sector: it moves it where the sector is new
abbrev pub Marked : EntryPlace → Entries → Entries → Type 0
Marked p es es' =
    ((p.grown ≡ true) × (b : Bool) × (r : Address) × (m : Entries) × (m ≡ moved_mark b r es) × (b ≡ false) × (r.track ≡ 18) × (r.sector ≡ p.sector)
    × (es' ≡ m))
    ⊎ ((p.grown ≡ false) × (es' ≡ es))

-- the marks of the file's sectors, and then that of a new directory sector
marks-added : (place : SlotPlace) (p : EntryPlace) → PlaceIs place p → (l : List Address) (es : Entries) {es' es'' : Entries} → es' ≡ moved_marks false l es
    → Marked p es' es''
    → es'' ≡ moved_marks false (added_sectors place ++ l) es
marks-added (in_empty_slot s) p k l es e (inl t) = absurd (let z : true ≡ false = sym t.0 ∙ k.0 in let y : ◌≡◌ {A = ℕ} 0 1 = cc in omega arith)
marks-added (in_empty_slot s) p k l es e (inr t) = t.1 ∙ e
marks-added (in_new_sector r) p k l es {es'} e (inl t) =
    t.8 ∙ t.4 ∙ ap₂ (λ (b : Bool) (x : Address). moved_mark b x es') t.5 (ap₂ address t.6 t.7) ∙ ap₂ (moved_mark false) (sym k.1) e
marks-added (in_new_sector r) p k l es e (inr t) = absurd (let z : true ≡ false = sym k.0 ∙ t.0 in let y : ◌≡◌ {A = ℕ} 0 1 = cc in omega arith)

module _ (g : Geometry) (kn : Known g) (img : Bytes) (f : NewFile) (x : Place) (xs : List Place) (p : EntryPlace) (last : ℕ) (es : Entries)
    (w : WriteReady g img f (x ∷ xs) p last es) where
  -- what is stored
  abbrev name : Bytes
  name = f.name.now

  abbrev kind : ℕ
  kind = number_of_kind f.kind

  abbrev bs : Bytes
  bs = f.content.now

  -- the disk before
  abbrev d : Disk
  d = disk img

  -- the sectors taken
  abbrev refs : List Address
  refs = address_of x ∷ map address_of xs

  -- the place of the entry
  abbrev place : SlotPlace
  place = w.place.place

  -- all that get an owner
  abbrev added : List Address
  added = added_sectors place ++ refs

  -- with the data laid out
  abbrev d1 : Disk
  d1 = write_chain g refs bs d

  abbrev entry : Bytes
  entry = new_entry name kind (address_of x) (length refs)

  -- and with the entry
  abbrev d2 : Disk
  d2 = write_slot g d1 place entry

  absent : name_count name (map (λ f. name_of f.slot.bytes) (files g d)) ≡ 0
  absent = sym (length-files_named name (files g d)) ∙ w.ready.absent

  fits : Fits refs (length bs)
  fits = sectors-fit refs (length bs) (sym (length-refs g kn w))

  leaves : StoreLeaves g d d2 place refs entry (record { name = name; kind = kind; content = bs })
  leaves = stored g kn.valid img w.ready.accepted name kind bs w.ready.asked (kind-storable f.kind) absent (address_of x) (map address_of xs)
      (places-taken g kn w) fits place (place_found g kn w)

  directory-kept : directory_sectors g d1 ≡ directory_sectors g d
  directory-kept =
      same-directory g d d1
      (all_map (λ r h. ap (directory_link g) h) (directory_sectors g d)
      (all-of-count g (λ n. d n ≡ d1 n) (directory_sectors g d)
      (directory-stay g kn.valid img w.ready.accepted name kind bs w.ready.asked (kind-storable f.kind) absent (address_of x) (map address_of xs)
      (places-taken g kn w) fits)))

  -- ---- the disk after the data and the entry

  disk-entered : {img' img'' e : Bytes} {es' : Entries} → ChainWritten g img (x ∷ xs) bs es img' es' → e ≡ entry → EntryLaid g img' e p last img''
      → disk img'' ≡ d2
  disk-entered {img'} c made l =
      l.laid ∙ ap₂ (λ (y : Disk) (b : Bytes). entry_disk g y b p last) c.laid made
      ∙ write_slot-place g d1 place p last entry w.place.is (w.ready.last_sector ∙ ap (last_of directory_start) (sym directory-kept))

  -- ---- who is free on it

  whole-map : length (d (sector_number g map_address)) ≡ 256
  whole-map = (disk-whole g img w.ready.accepted.size).full (sector_number g map_address) (sector_number-lt g map_address (map_on g kn.valid.directory))

  small-map : (i : ℕ) → byte (d (sector_number g map_address)) i < 256
  small-map i = byte_small img w.ready.bytes (sector_number g map_address) i

  counted : (n : ℕ) → count n (map (sector_number g) added) ≡ count n (map (sector_number g) (added_sectors place)) + count n (map (sector_number g) refs)
  counted n = ap (count n) (map-append (sector_number g) (added_sectors place) refs)
      ∙ count-append n (map (sector_number g) (added_sectors place)) (map (sector_number g) refs)

  -- each sector has one owner at most
  owners : (n : ℕ) → claim_count g d n + count n (map (sector_number g) added) ≤ 1
  owners n = omega (arith, leaves.owned n, counted n, leaves.prepared.sound.once n)

  added-on : All (λ r. on_disk g r ≡ true) added
  added-on = go place (place_found g kn w)
    where
      go : (q : SlotPlace) → PlaceCase g d q → All (λ r. on_disk g r ≡ true) (added_sectors q ++ refs)
      go (in_empty_slot s) c = (places-taken g kn w).on
      go (in_new_sector r) c = ((new-free g kn d w.ready.accepted.content r c).0, (places-taken g kn w).on)

  added-free : (r : Address) → 0 < count (sector_number g r) (map (sector_number g) added) → on_disk g r ≡ true → is_free g d r ≡ true
  added-free r h on = eq-eqb (claim_count g d (sector_number g r)) 0 (omega (arith, owners (sector_number g r)))

  free-now : (r : Address) → on_disk g r ≡ true → free_after g false added (is_free g d) r ≡ is_free g d2 r
  unfolding free_after
  free-now r on =
      let n : ℕ = sector_number g r in
      elim (dec_le 1 (count n (map (sector_number g) added))) [
        | yes h ↦ ap (λ (b : Bool). cond b false (is_free g d r)) (lt-ltb 0 (count n (map (sector_number g) added)) h)
            ∙ sym (ne_eqb (claim_count g d2 n) 0 (λ z. omega (arith, leaves.owned n, counted n)))
        | no h ↦ ap (λ (b : Bool). cond b false (is_free g d r)) (le-ltb 0 (count n (map (sector_number g) added)) (omega arith))
            ∙ ap (λ (k : ℕ). eqb k 0) (let z : claim_count g d n ≡ claim_count g d2 n = omega (arith, leaves.owned n, counted n) in z)
      ]

  -- ---- the marks, and the map stored

  expects-after : {es'' : Entries} → es'' ≡ moved_marks false added es → Expects g (is_free g d2) (d (sector_number g map_address)) es''
  expects-after m =
      let before : Expects g (is_free g d) (d (sector_number g map_address)) es
      = subst (Expects g (is_free g d) (d (sector_number g map_address))) (sym w.ready.entries)
      (expects-loaded g kn d w.ready.accepted.content whole-map small-map) in
      let few : (n : ℕ) → count n (map (sector_number g) added) ≤ 1 = λ n. omega (arith, owners n) in
      subst (Expects g (is_free g d2) (d (sector_number g map_address))) (sym m)
      (expects-agree g kn (expects-marks g kn false before added added-on few added-free) free-now)

  module _ {img'' img''' : Bytes} {es'' : Entries} (entered : disk img'' ≡ d2) (kept : length img'' ≡ length img) (m : es'' ≡ moved_marks false added es)
      (k : MapWritten g img'' es'' img''') where
    map-full : length (d2 (sector_number g map_address)) ≡ 256
    map-full = leaves.prepared.whole.full (sector_number g map_address) (sector_number-lt g map_address (map_on g kn.valid.directory))

    disk-after : disk img''' ≡ rewrite_map g d2
    disk-after =
        k.laid (omega (arith, kept, image-size g kn w, kn.past18))
        ∙ ap (λ (y : Disk). put y (sector_number g map_address) (stored_entries g es'' (y (sector_number g map_address)))) entered
        ∙ map-follows g kn d2 (expects-after m) (sym leaves.prepared.unmapped) map-full

    image-after : (q : SlotPlace) → slot_place_for g d ≡ done q → img''' ≡ (store_change g img q name kind bs).image_after
    unfolding stored_disk
    image-after q found =
        let same : place ≡ q = done_inj (sym w.place.found ∙ found) in
        sym (disk-image g img''' (omega (arith, k.size, kept, image-size g kn w))) ∙ ap (image g) disk-after
        ∙ ap₂ (λ (y : SlotPlace) (l : List Address). image g (stored_disk g d y l name kind bs)) same w.taken

-- THE FILE IS WRITTEN: the data, the entry, the marks, and the map in its sector
pub file-written : (g : Geometry) (kn : Known g) {img : Bytes} {f : NewFile} (places : List Place) {p : EntryPlace} {last : ℕ} {es : Entries}
    → WriteReady g img f places p last es
    → {img' : Bytes} {es' : Entries} → ChainWritten g img places f.content.now es img' es' → {e : Bytes}
    → e ≡ new_entry f.name.now (number_of_kind f.kind) (address_of (place_at places 0)) (length places)
    → {img'' : Bytes} → EntryLaid g img' e p last img'' → {es'' : Entries} → Marked p es' es'' → {img''' : Bytes} → MapWritten g img'' es'' img'''
    → FileWritten g img f img'''
file-written g kn [] w c made l m k = absurd (omega (arith, places-some g kn w))
file-written g kn {img} {f} (x ∷ xs) {p} {last} {es} w c {e} made l m k =
    let entry-is : e ≡ new_entry f.name.now (number_of_kind f.kind) (address_of x) (length (map address_of (x ∷ xs))) = made
    ∙ ap (new_entry f.name.now (number_of_kind f.kind) (address_of x)) (sym (length-map (x ∷ xs) address_of)) in
    let marks = marks-added w.place.place p w.place.is (map address_of (x ∷ xs)) es c.marks m in
    record {
      written = image-after g kn img f x xs p last es w (disk-entered g kn img f x xs p last es w c entry-is l)
          (l.size ∙ c.size) marks k;
    }
