-- A store that is done.
use Prim.Native.Nat.{ℕ, zero, suc, ◌+◌, ◌≤◌, ◌<◌}
use native.Mathlib.Omega.{arith}
use native.Mathlib.Decide.{dec_le}
use mathlib.Core.Path.{◌≡◌, refl, sym, ap, ◌∙◌, subst}
use mathlib.Core.Bool.{Bool, true, false, cond, not}
use mathlib.Core.List.{List, [], ◌∷◌, map, Memᴰ}
use lib.ListN.{length, take}
use lib.Seq.{length-take-le}
use lib.Dec.{eqb}
use borrow.Author.Tests.{eq-eqb, ne_eqb, eqb-true}
use Rattle.d64spec.specs.Lists.{All, Bytes, count, filter, indicator, name_count, range}
use Rattle.d64spec.specs.Answers.{Address, Result, ◌>>=◌, address, directory_full, done, first}
use Rattle.d64spec.specs.Geometry.{Geometry, Valid, allocation_order, map_address, on_disk, sector_number, sectors_of_track, sectors_on}
use Rattle.d64spec.specs.Image.{Disk, disk, image}
use Rattle.d64spec.specs.Directory.{Slot, directory_sectors, files, is_empty, name_of, slots_from}
use Rattle.d64spec.specs.Owner.{claim_count, free_for_directory, free_for_files, is_free}
use Rattle.d64spec.specs.Map.{rewrite_map}
use Rattle.d64spec.specs.Accepted.{Accepted}
use Rattle.d64spec.specs.Reply.{Change, reply, storable_kind, valid_name_argument}
use Rattle.d64spec.specs.Store.{SlotPlace, call_store, empty_slots, in_empty_slot, in_new_sector, new_entry, placement, sectors_needed, slot_place_for, stored_disk, write_chain, write_slot}
use Rattle.d64spec.specs.Call.{store}
use Rattle.d64spec.specs.Host.{HostReply, host_reply}
use Rattle.d64spec.specs.Run.{plain_list_after}
use Rattle.d64spec.specs.Changes.{added_sectors}
use Rattle.d64spec.proofs.ResultLaws.{done_inj, refused≢done}
use Rattle.d64spec.proofs.CallLaws.{StoreDone, store-done}
use Rattle.d64spec.proofs.RunLaws.{StepHolds}
use Rattle.d64spec.proofs.FrameLaws.{Sound}
use Rattle.d64spec.proofs.ImageLaws.{Whole, disk-whole}
use Rattle.d64spec.proofs.MapWriteLaws.{rewrite-whole, rewrite-accepted}
use Rattle.d64spec.proofs.SplitLaws.{Split, split-at-mem, all-mem, mem-filter, mem-map}
use Rattle.d64spec.proofs.SlotLaws.{Placed, slots-placed}
use Rattle.d64spec.proofs.ScratchLaws.{is_occupied, claim_count-of}
use Rattle.d64spec.proofs.ScratchStep.{disk-step, sound-of}
use Rattle.d64spec.proofs.AllocationLaws.{On, track-on, order-few, order-18, order-on, sectors-on}
use Rattle.d64spec.proofs.WriteChainLaws.{Fits, sectors-fit, write_chain-other, write_chain-whole}
use Rattle.d64spec.proofs.EntryLaws.{entry_length}
use Rattle.d64spec.proofs.WriteSlotLaws.{in-slot, at_new}
use Rattle.d64spec.proofs.StoreLaws.{Entered, StoreLeaves, store-leaves}
use Rattle.d64spec.proofs.NamedLaws.{length-files_named}

-- ---- kept and taken

module _ {A : Type 0} (P : A → Type 0) where
  all_filter : (p : A → Bool) (l : List A) → All P l → All P (filter p l)
  all_filter p [] a = tt
  all_filter p (x ∷ l) a = go (p x) (all_filter p l a.1)
    where
      go : (b : Bool) → All P (filter p l) → All P (cond b (x ∷ filter p l) (filter p l))
      go true k = (a.0, k)
      go false k = k

  all_take : (n : ℕ) (l : List A) → All P l → All P (take n l)
  all_take zero l a = tt
  all_take (suc n) [] a = tt
  all_take (suc n) (x ∷ l) a = (a.0, all_take n l a.1)

module _ (g : Geometry) (n : ℕ) where
  count-filter : (p : Address → Bool) (l : List Address) → count n (map (sector_number g) (filter p l)) ≤ count n (map (sector_number g) l)
  count-filter p [] = omega arith
  count-filter p (x ∷ l) = go (p x) (count-filter p l)
    where
      go : (b : Bool) → count n (map (sector_number g) (filter p l)) ≤ count n (map (sector_number g) l) → count n (map (sector_number g) (cond b (x ∷ filter p l) (filter p l))) ≤ indicator (eqb n (sector_number g x)) + count n (map (sector_number g) l)
      go true k = omega arith
      go false k = omega arith

  count-take : (k : ℕ) (l : List Address) → count n (map (sector_number g) (take k l)) ≤ count n (map (sector_number g) l)
  count-take zero l = omega arith
  count-take (suc k) [] = omega arith
  count-take (suc k) (x ∷ l) = omega (arith, count-take k l)

  kept_free : (d : Disk) (l : List Address) → 0 < count n (map (sector_number g) (filter (is_free g d) l)) → claim_count g d n ≡ 0
  kept_free d [] h = absurd (omega arith)
  kept_free d (x ∷ l) h = go (is_free g d x) refl (λ k. kept_free d l k) h
    where
      go : (b : Bool) → is_free g d x ≡ b → (0 < count n (map (sector_number g) (filter (is_free g d) l)) → claim_count g d n ≡ 0)
          → 0 < count n (map (sector_number g) (cond b (x ∷ filter (is_free g d) l) (filter (is_free g d) l))) → claim_count g d n ≡ 0
      go true t k i = by-eq (eqb n (sector_number g x)) refl
        where
          by-eq : (c : Bool) → eqb n (sector_number g x) ≡ c → claim_count g d n ≡ 0
          by-eq true z = ap (claim_count g d) (eqb-true n (sector_number g x) z) ∙ eqb-true (claim_count g d (sector_number g x)) 0 t
          by-eq false z = k (let y : indicator (eqb n (sector_number g x)) ≡ 0 = ap indicator z in omega arith)
      go false t k i = k i

mem-count : (g : Geometry) (q : Address) (l : List Address) → Memᴰ q l → 0 < count (sector_number g q) (map (sector_number g) l)
mem-count g q [] m = elim m [ ]
mem-count g q (x ∷ l) (Memᴰ.head e) = let z : indicator (eqb (sector_number g q) (sector_number g x)) ≡ 1 = rw (eq-eqb (sector_number g q) (sector_number g x) (ap (sector_number g) e)) in omega arith
mem-count g q (x ∷ l) (Memᴰ.tail m) = omega (arith, mem-count g q l m)

-- ---- the sectors taken

-- sectors for a new file: on the disk, each once, free, and none on track 18
pub record Taken (g : Geometry) (d : Disk) (l : List Address) : Type 0 where
  pub on : All (λ r. on_disk g r ≡ true) l
  pub few : (n : ℕ) → count n (map (sector_number g) l) ≤ 1
  pub free : (n : ℕ) → 0 < count n (map (sector_number g) l) → claim_count g d n ≡ 0
  pub off : (n : ℕ) → On g 18 n → count n (map (sector_number g) l) ≡ 0

pub placement-taken : (g : Geometry) (d : Disk) (k : ℕ) → Taken g d (placement g d k)
unfolding placement free_for_files
placement-taken g d k = record {
  on = all_take (λ r. on_disk g r ≡ true) k (filter (is_free g d) (allocation_order g)) (all_filter (λ r. on_disk g r ≡ true) (is_free g d) (allocation_order g) (order-on g));
  few = λ n. omega (arith, count-take g n k (filter (is_free g d) (allocation_order g)), count-filter g n (is_free g d) (allocation_order g), order-few g n);
  free = λ n h. kept_free g n d (allocation_order g) (omega (arith, count-take g n k (filter (is_free g d) (allocation_order g))));
  off = λ n o. omega (arith, count-take g n k (filter (is_free g d) (allocation_order g)), count-filter g n (is_free g d) (allocation_order g), order-18 g n o);
}

-- ---- where the entry goes

pub slot-place : (g : Geometry) (d : Disk) (s : Slot) → Memᴰ s (empty_slots g d)
    → Split s (slots_from g d 0 (directory_sectors g d)) × (is_occupied s ≡ false) × Placed g (directory_sectors g d) s
unfolding empty_slots
slot-place g d s m =
    let b = mem-filter (λ s. is_empty s.bytes) (slots_from g d 0 (directory_sectors g d)) m in
    (split-at-mem b.0, ap not b.1, all-mem (Placed g (directory_sectors g d)) b.0 (slots-placed g d 0 (directory_sectors g d)))

-- a place that is there: an empty slot, or a free sector of track 18
abbrev pub PlaceCase : Geometry → Disk → SlotPlace → Type 0
PlaceCase g d (in_empty_slot s) = Memᴰ s (empty_slots g d)
PlaceCase g d (in_new_sector r) = Memᴰ r (free_for_directory g d)

pub place-case : (g : Geometry) (d : Disk) (place : SlotPlace) → slot_place_for g d ≡ done place → PlaceCase g d place
unfolding slot_place_for first
place-case g d place e = go (empty_slots g d) (free_for_directory g d) refl refl e
  where
    go : (x : List Slot) (y : List Address) → empty_slots g d ≡ x → free_for_directory g d ≡ y
        → (elim x as (λ z. Result SlotPlace) [ [] ↦ first directory_full y >>= (λ r. done (in_new_sector r)) | s ∷ l ↦ done (in_empty_slot s) ]) ≡ done place → PlaceCase g d place
    go [] [] p q h = refused≢done directory_full place h
    go [] (r ∷ y) p q h = subst (PlaceCase g d) (done_inj h) (rw q (Memᴰ.head refl))
    go (s ∷ x) y p q h = subst (PlaceCase g d) (done_inj h) (rw p (Memᴰ.head refl))

-- ---- the reply

module _ (g : Geometry) (v : Valid g) (img : Bytes) (a : Accepted g img) (name : Bytes) (kind : ℕ) (bs : Bytes)
    (asked : valid_name_argument name ≡ true) (kind-asked : storable_kind kind ≡ true) (new : name_count name (map (λ f. name_of f.slot.bytes) (files g (disk img))) ≡ 0)
    (r : Address) (l : List Address) (taken : Taken g (disk img) (r ∷ l)) (fits : Fits (r ∷ l) (length bs)) where
  -- the image's disk
  abbrev d : Disk
  d = disk img

  -- with the data laid out
  abbrev d1 : Disk
  d1 = write_chain g (r ∷ l) bs d

  -- the new entry
  abbrev entry : Bytes
  entry = new_entry name kind r (length (r ∷ l))

  sound : Sound g d
  sound = sound-of g d a.content

  w1 : Whole g d1
  w1 = write_chain-whole g (r ∷ l) bs d taken.on fits (disk-whole g img a.size)

  -- a sector of the directory is not taken
  pub directory-stay : (n : ℕ) → 0 < count n (map (sector_number g) (directory_sectors g d)) → d n ≡ d1 n
  directory-stay n h = sym (write_chain-other g (r ∷ l) bs d n (elim (dec_le 1 (count n (map (sector_number g) (r ∷ l)))) [
    | yes k ↦ absurd (omega (arith, taken.free n k, claim_count-of g d n))
    | no k ↦ omega arith
  ]))

  len : length entry ≡ 30
  len = entry_length name kind r (length (r ∷ l)) asked kind-asked

  plain-room : (n : ℕ) → claim_count g d n + count n (map (sector_number g) (r ∷ l)) ≤ 1
  plain-room n = elim (dec_le 1 (count n (map (sector_number g) (r ∷ l)))) [
    | yes k ↦ omega (arith, taken.free n k, taken.few n)
    | no k ↦ omega (arith, sound.once n)
  ]

  new-room : (t : ℕ) → On g 18 (sector_number g (address 18 t)) → claim_count g d (sector_number g (address 18 t)) ≡ 0 → (n : ℕ) → claim_count g d n + count n (map (sector_number g) (r ∷ l)) + count n (sector_number g (address 18 t) ∷ []) ≤ 1
  new-room t o free n = go (eqb n (sector_number g (address 18 t))) refl
    where
      go : (b : Bool) → eqb n (sector_number g (address 18 t)) ≡ b → claim_count g d n + count n (map (sector_number g) (r ∷ l)) + (indicator b + 0) ≤ 1
      go true z =
          let e : n ≡ sector_number g (address 18 t) = eqb-true n (sector_number g (address 18 t)) z in
          let x : claim_count g d n ≡ 0 = ap (claim_count g d) e ∙ free in
          let y : count n (map (sector_number g) (r ∷ l)) ≡ 0 = ap (λ (m : ℕ). count m (map (sector_number g) (r ∷ l))) e ∙ taken.off (sector_number g (address 18 t)) o in
          omega arith
      go false z = omega (arith, plain-room n)

  not-map : (t : ℕ) → claim_count g d (sector_number g (address 18 t)) ≡ 0 → 0 < t
  not-map zero h = absurd (let z : indicator (eqb (sector_number g map_address) (sector_number g map_address)) ≡ 1 = rw (eq-eqb (sector_number g map_address) (sector_number g map_address) refl) in omega (arith, claim_count-of g d (sector_number g map_address)))
  not-map (suc t) h = omega arith

  -- the entry is made at its place
  record Made (place : SlotPlace) : Type 0 where
    free : (n : ℕ) → claim_count g d n + count n (map (sector_number g) (r ∷ l)) + count n (map (sector_number g) (added_sectors place)) ≤ 1
    entered : Entered g d d1 (write_slot g d1 place entry) entry place

  made : (place : SlotPlace) → PlaceCase g d place → Made place
  unfolding write_slot free_for_directory sectors_of_track
  made (in_empty_slot s) m =
      let q = slot-place g d s m in
      record { free = λ n. omega (arith, plain-room n); entered = in-slot g v d sound d1 w1 directory-stay entry len s q.0.front q.0.back q.0.whole q.1 q.2 }
  made (in_new_sector q) m =
      let k = mem-filter (is_free g d) (sectors_of_track g 18) m in
      let t = mem-map (λ s. address 18 s) (range 0 (sectors_on g 18)) k.0 in
      let free : claim_count g d (sector_number g q) ≡ 0 = eqb-true (claim_count g d (sector_number g q)) 0 k.1 in
      let o : On g 18 (sector_number g q) = track-on g 18 (sector_number g q) (mem-count g q (sectors_of_track g 18) k.0) in
      let on : on_disk g q ≡ true = all-mem (λ x. on_disk g x ≡ true) k.0 (sectors-on g 18) in
      subst (λ (x : Address). Made (in_new_sector x)) t.2 (record {
        free = new-room t.0 (rw t.2 o) (rw t.2 free);
        entered = at_new g v d sound d1 w1 directory-stay entry len t.0 (rw t.2 on) (not-map t.0 (rw t.2 free)) (rw t.2 free);
      })

  pub stored : (place : SlotPlace) → PlaceCase g d place → StoreLeaves g d (write_slot g d1 place entry) place (r ∷ l) entry (record { name = name; kind = kind; content = bs })
  stored place c = let k : Made place = made place c in store-leaves g v d sound r l taken.on place k.free bs fits name kind asked kind-asked new (write_slot g d1 place entry) k.entered

  by_place : (place : SlotPlace) → PlaceCase g d place → (p : HostReply) → p.number ≡ 0 → p.image_after ≡ image g (rewrite_map g (write_slot g d1 place entry)) → StepHolds g img (store name kind bs) p
  unfolding plain_list_after
  by_place place c p n z =
      let d2 : Disk = write_slot g d1 place entry in
      let k = stored place c in
      disk-step g img (store name kind bs) p (rewrite_map g d2) z (rewrite-whole g v d2 k.prepared.whole k.prepared.sound) (rewrite-accepted g v d2 k.prepared.whole k.prepared.sound)
      (rw n k.holds) (λ m b o f. absurd (omega (arith, k.claims m))) (λ m b o f y. k.kept m f ∙ y) tt

-- ---- the call

pub placement-length : (g : Geometry) (d : Disk) (k : ℕ) → k ≤ length (free_for_files g d) → length (placement g d k) ≡ k
unfolding placement
placement-length g d k h = length-take-le k (free_for_files g d) h

pub some-sector : (n : ℕ) → 1 ≤ sectors_needed n
unfolding sectors_needed
some-sector zero = omega arith
some-sector (suc n) = rw (ne_eqb (suc n) 0 (λ e. omega arith)) (omega arith)

pub store-new : {g : Geometry} {img name : Bytes} {kind : ℕ} {bs : Bytes} {ch : Change} → StoreDone g img name kind bs ch → name_count name (map (λ f. name_of f.slot.bytes) (files g (disk img))) ≡ 0
store-new {g} {img} {name} h = sym (length-files_named name (files g (disk img))) ∙ h.absent

pub store-enough : {g : Geometry} {img name : Bytes} {kind : ℕ} {bs : Bytes} {ch : Change} → StoreDone g img name kind bs ch → length (placement g (disk img) (sectors_needed (length bs))) ≡ sectors_needed (length bs)
store-enough {g} {img} {bs = bs} h = placement-length g (disk img) (sectors_needed (length bs)) h.room

by-placement : (g : Geometry) (v : Valid g) (img : Bytes) (a : Accepted g img) (name : Bytes) (kind : ℕ) (bs : Bytes)
    → valid_name_argument name ≡ true → storable_kind kind ≡ true → name_count name (map (λ f. name_of f.slot.bytes) (files g (disk img))) ≡ 0
    → (l : List Address) → Taken g (disk img) l → length l ≡ sectors_needed (length bs) → (place : SlotPlace) → PlaceCase g (disk img) place
    → (p : HostReply) → p.number ≡ 0 → p.image_after ≡ image g (stored_disk g (disk img) place l name kind bs) → StepHolds g img (store name kind bs) p
unfolding stored_disk
by-placement g v img a name kind bs asked kind-asked new [] t e place c p n z = absurd (omega (arith, some-sector (length bs)))
by-placement g v img a name kind bs asked kind-asked new (r ∷ l) t e place c p n z =
    by_place g v img a name kind bs asked kind-asked new r l t (sectors-fit (r ∷ l) (length bs) (sym e)) place c p n z

pub store_step : (g : Geometry) → Valid g → (img : Bytes) → Accepted g img → (name : Bytes) (kind : ℕ) (bs : Bytes) (ch : Change)
    → call_store g img name kind bs ≡ done ch → StepHolds g img (store name kind bs) (host_reply (reply img [] (done ch)))
unfolding reply
store_step g v img a name kind bs ch e =
    let h : StoreDone g img name kind bs ch = store-done g img name kind bs ch e in
    by-placement g v img a name kind bs h.asked h.kind-asked (store-new h) (placement g (disk img) (sectors_needed (length bs))) (placement-taken g (disk img) (sectors_needed (length bs))) (store-enough h)
    h.place (place-case g (disk img) h.place h.found) (host_reply (reply img [] (done ch))) refl (ap (λ (x : Change). x.image_after) (sym h.change))
