-- What a store whose every refusal is decided may rely on (01, Store): its sectors, the chain along them, and the place of its entry.
-- In order: lists; the sectors taken, and the chain along them; the place of the entry, and the entry there.
use Prim.Native.Nat.{ℕ, zero, suc, ◌+◌, ◌*◌, ◌≤◌, ◌<◌}
use native.Mathlib.Omega.{arith}
use mathlib.Core.Path.{◌≡◌, refl, sym, ap, ◌∙◌, subst}
use mathlib.Core.Bool.{true, false}
use mathlib.Core.List.{List, [], ◌∷◌, map, Memᴰ}
use lib.ListN.{length, length-map}
use borrow.Author.Tests.{ne_eqb, eqb-true, ltb-true}
use Rattle.d64spec.specs.Lists.{Bytes, All, count}
use Rattle.d64spec.specs.Answers.{Address, address}
use Rattle.d64spec.specs.Geometry.{Geometry, on_disk, sector_number, sectors_on, total, directory_start, sectors_of_track}
use Rattle.d64spec.specs.Image.{Disk, disk}
use Rattle.d64spec.specs.Chain.{to}
use Rattle.d64spec.specs.Directory.{directory_sectors}
use Rattle.d64spec.specs.Owner.{claim_count, free_for_directory, is_free}
use Rattle.d64spec.specs.Store.{SlotPlace, in_empty_slot, in_new_sector, sectors_needed, last_of}
use Rattle.d64spec.specs.Accepted.{AcceptedDisk}
use Rattle.d64spec.proofs.BoundLaws.{sector_number-lt, directory-some}
use Rattle.d64spec.proofs.FrameLaws.{all_map}
use Rattle.d64spec.proofs.GrowLaws.{last-in}
use Rattle.d64spec.proofs.ListingLaws.{On18, chain-18}
use Rattle.d64spec.proofs.PigeonholeLaws.{pigeon}
use Rattle.d64spec.specs.Layouts.{Known}
use Rattle.d64spec.proofs.ScratchLaws.{claim_count-of, of-count}
use Rattle.d64spec.proofs.SplitLaws.{all-mem, mem-filter}
use Rattle.d64spec.proofs.AllocationLaws.{sectors-on}
use Rattle.d64spec.proofs.StoreStep.{Taken, placement-taken, placement-length, some-sector, slot-place, PlaceCase, place-case}
use Rattle.geometry.specs.declared.Address.{Address as Place}
use Rattle.geometry.specs.Layout.{address_of}
use Rattle.storing.specs.declared.NewFile.{NewFile}
use Rattle.storing.specs.declared.room.EntryPlace.{EntryPlace}
use Rattle.storing.specs.Plans.{PlaceIs, WriteReady}
use Rattle.storing.specs.Writes.{ChainReady, EntryReady}
use Rattle.directory.proofs.Track18Laws.{number-18}

-- ---- lists

module _ {A B : Type 0} (f : A → B) where
  -- what holds of every image holds at every element
  all-images : (P : B → Type 0) (l : List A) → All P (map f l) → All (λ x. P (f x)) l
  all-images P [] a = tt
  all-images P (x ∷ l) a = (a.0, all-images P l a.1)

  of-all : (P : B → Type 0) (l : List A) → All (λ x. P (f x)) l → All P (map f l)
  of-all P [] a = tt
  of-all P (x ∷ l) a = (a.0, of-all P l a.1)

-- ---- the sectors taken

-- the sectors needed, in bytes: all of them but the last are filled
needed-room : (n : ℕ) → n ≤ 254 * sectors_needed n
unfolding sectors_needed
needed-room zero = omega arith
needed-room (suc n) = rw (ne_eqb (suc n) 0 (λ e. omega arith)) (omega arith)

needed-full : (n : ℕ) → 254 * sectors_needed n ≤ n + 254
unfolding sectors_needed
needed-full zero = omega arith
needed-full (suc n) = rw (ne_eqb (suc n) 0 (λ e. omega arith)) (omega arith)

module _ (g : Geometry) (kn : Known g) where
  -- sectors of a disk, each once, are not more than it has
  taken-few : {d : Disk} {l : List Address} → Taken g d l → length l ≤ total g
  taken-few {d} {l} t =
      let on : All (λ n. n < total g) (map (sector_number g) l)
      = of-all (sector_number g) (λ n. n < total g) l (all_map (λ r h. sector_number-lt g r h) l t.on) in
      omega (arith, pigeon (total g) (map (sector_number g) l) on t.few, length-map l (sector_number g))

  module _ {img : Bytes} {f : NewFile} {places : List Place} {p : EntryPlace} {last : ℕ} {es : List Bytes}
      (w : WriteReady g img f places p last es) where
    pub places-taken : Taken g (disk img) (map address_of places)
    places-taken = subst (Taken g (disk img)) (sym w.taken) (placement-taken g (disk img) (sectors_needed (length f.content.now)))

    pub length-refs : length (map address_of places) ≡ sectors_needed (length f.content.now)
    length-refs = ap length w.taken ∙ placement-length g (disk img) (sectors_needed (length f.content.now)) w.room

    pub length-places : length places ≡ sectors_needed (length f.content.now)
    length-places = sym (length-map places address_of) ∙ length-refs

    pub places-some : 1 ≤ length places
    places-some = omega (arith, some-sector (length f.content.now), length-places)

    pub places-few : length places < 65536
    places-few = omega (arith, taken-few places-taken, length-map places address_of, kn.most)

    pub image-size : length img ≡ 256 * total g
    image-size = w.ready.accepted.size

    pub chain-ready : ChainReady g img places f.content.now
    chain-ready = record {
      size = image-size;
      on = all-images address_of (λ r. on_disk g r ≡ true) places places-taken.on;
      some = places-some;
      room = omega (arith, needed-room (length f.content.now), length-places);
      full = omega (arith, needed-full (length f.content.now), length-places);
    }

  -- ---- the place of the entry

  -- what the place of an entry is known for: a slot of a sector of track 18, and a new sector that is not the directory's last
  pub record PlaceFits (p : EntryPlace) (last : ℕ) : Type 0 where
    pub sector_inside : p.sector < 19
    pub index_inside : p.index < 8
    pub last_inside : last < 19
    pub other : p.grown ≡ true → p.sector ≡ last → ⊥

  -- the number of a sector of track 18
  number-inside : (r : Address) → On18 g (to r) → sector_number g r < 376
  number-inside r o =
      let is : sector_number g r ≡ sector_number g (address 18 r.sector) = ap (λ (t : ℕ). sector_number g (address t r.sector)) o.0 in
      omega (arith, is, number-18 g kn r.sector, o.1, kn.on18)

  module _ (d : Disk) (a : AcceptedDisk g d) where
    -- the directory's last sector is one of its sectors
    last-counted : 0 < count (sector_number g (last_of directory_start (directory_sectors g d))) (map (sector_number g) (directory_sectors g d))
    last-counted = last-in g directory_start (directory_sectors g d) (directory-some g d (directory_sectors g d) a.directory)

    -- all of them are on track 18
    numbers-inside : All (λ n. n < 376) (map (sector_number g) (directory_sectors g d))
    unfolding on_disk
    numbers-inside =
        let start : On18 g (to directory_start) = (refl, ltb-true 1 (sectors_on g 18) kn.valid.directory) in
        of-all (sector_number g) (λ n. n < 376) (directory_sectors g d)
        (all_map number-inside (directory_sectors g d) (chain-18 g d (to directory_start) (directory_sectors g d) start a.directory))

    counted-inside : (s : ℕ) → 0 < count (sector_number g (address 18 s)) (map (sector_number g) (directory_sectors g d)) → s < 19
    counted-inside s h =
        let n : sector_number g (address 18 s) < 376
        = of-count (λ x. x < 376) (map (sector_number g) (directory_sectors g d)) numbers-inside (sector_number g (address 18 s)) h in
        omega (arith, number-18 g kn s)

    -- a free sector of track 18 is on the disk
    pub new-free : (r : Address) → Memᴰ r (free_for_directory g d) → (on_disk g r ≡ true) × (claim_count g d (sector_number g r) ≡ 0)
    unfolding free_for_directory
    new-free r m =
        let k = mem-filter (is_free g d) (sectors_of_track g 18) m in
        (all-mem (λ x. on_disk g x ≡ true) k.0 (sectors-on g 18), eqb-true (claim_count g d (sector_number g r)) 0 k.1)

    sector-inside : (s : ℕ) → on_disk g (address 18 s) ≡ true → s < 19
    unfolding on_disk
    sector-inside s on = omega (arith, ltb-true s (sectors_on g 18) on, kn.on18)

    pub place-fits : (place : SlotPlace) (p : EntryPlace) (last : ℕ) → PlaceCase g d place → PlaceIs place p
        → address 18 last ≡ last_of directory_start (directory_sectors g d) → PlaceFits p last
    place-fits (in_empty_slot s) p last c (grown, holder, index) l =
        let q = (slot-place g d s c).2 in
        record {
          sector_inside = counted-inside p.sector (rw holder at q.sector);
          index_inside = omega (arith, q.place, index);
          last_inside = counted-inside last (rw l last-counted);
          other = λ e. absurd (let z : true ≡ false = sym e ∙ grown in let y : ◌≡◌ {A = ℕ} 0 1 = cc in omega arith);
        }
    place-fits (in_new_sector r) p last c (grown, holder, index) l =
        let f = new-free r c in
        record {
          sector_inside = sector-inside p.sector (rw holder at f.0);
          index_inside = omega (arith, index);
          last_inside = counted-inside last (rw l last-counted);
          other = λ gr e.
              let z : 0 < count (sector_number g r) (map (sector_number g) (directory_sectors g d)) = rw (holder, e, l) last-counted in
              omega (arith, f.1, claim_count-of g d (sector_number g r));
        }

  module _ {img : Bytes} {f : NewFile} {places : List Place} {p : EntryPlace} {last : ℕ} {es : List Bytes}
      (w : WriteReady g img f places p last es) where
    pub place_found : PlaceCase g (disk img) w.place.place
    place_found = place-case g (disk img) w.place.place w.place.found

    -- an entry of 30 bytes, on an image of that size
    pub entry_ready : {img' e : Bytes} → length img' ≡ length img → length e ≡ 30 → EntryReady g img' e p last
    entry_ready {img'} size whole =
        let long : length img' ≡ 256 * total g = size ∙ image-size w in
        let f = place-fits (disk img) w.ready.accepted.content w.place.place p last place_found w.place.is w.ready.last_sector in
        record {
          size = long;
          whole = whole;
          sector_inside = f.sector_inside;
          index_inside = f.index_inside;
          grow = λ new. record { size = long; last_inside = f.last_inside; sector_inside = f.sector_inside; other = f.other new };
        }
