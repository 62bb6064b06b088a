-- Demand 2's "exactly when", said of the number that a caller sees: each call answers 0 exactly when its record of specs/Exact holds,
-- and a store answers 14 and 15 exactly where the room that these name is lacking.
-- In order: files of a name; check, format, tell, scratch and read; a store and its room; the listing.
use Prim.Native.Nat.{ℕ, ◌+◌, ◌*◌, ◌≤◌, ◌<◌}
use native.Mathlib.Omega.{arith}
use native.Mathlib.Bridge.{le_prop}
use native.Mathlib.Decide.{dec_le}
use mathlib.Core.Path.{◌≡◌, refl, sym, ap}
use mathlib.Core.Bool.{true}
use mathlib.Core.Logic.Iff
use mathlib.Core.Logic.{◌↔◌, ◌⊎◌, inl, inr, ∥∥₁_elim}
use mathlib.Core.List.{List, [], ◌∷◌, ◌++◌, map, Memᴰ}
use lib.ListN.{length}
use borrow.Author.Tests.{eq-eqb, le-leb}
use Rattle.d64spec.specs.Lists.{All, Bytes, equal, indicator, name_count, splice}
use Rattle.d64spec.specs.Answers.{Fault, answer_of, bad_kind_argument, directory_full, disk_full, done, first, name_exists, not_found}
use Rattle.d64spec.specs.Geometry.{Geometry, Valid, total}
use Rattle.d64spec.specs.Image.{disk}
use Rattle.d64spec.specs.Chain.{chain_data}
use Rattle.d64spec.specs.Directory.{File, Slot, files, name_of, occupied}
use Rattle.d64spec.specs.Rules.{IsStorableKind}
use Rattle.d64spec.specs.Owner.{free_for_directory, free_for_files}
use Rattle.d64spec.specs.Check.{right_size}
use Rattle.d64spec.specs.Accepted.{Accepted}
use Rattle.d64spec.specs.Reply.{Reply, files_named, valid_name_argument}
use Rattle.d64spec.specs.Read.{call_read, call_tell, tell_reply}
use Rattle.d64spec.specs.Store.{empty_slots, sectors_needed}
use Rattle.d64spec.specs.Call.{check, format, perform, read, scratch, store}
use Rattle.d64spec.specs.Listing.{call_listing, disk_of_track18, listing_reply}
use Rattle.d64spec.specs.Order.{AllHold, Condition, FirstFails, asks, asks_name, asks_size, asks_version, conditions, disk_conditions, listing_conditions, listing_slots, tell_conditions}
use Rattle.d64spec.specs.Exact.{Admitted, Formattable, HasFile, Listable, ListingNumber, NoSlot, Readable, Scratchable, ShownEntry, Storable, Tellable}
use Rattle.d64spec.proofs.ListLaws.{equal-refl, eq-of-equal}
use Rattle.d64spec.proofs.ReadLaws.{first-kept}
use Rattle.d64spec.proofs.CheckLaws.{disk-complete, name-one}
use Rattle.d64spec.proofs.ConditionLaws.{all_hold-append, first_fails-append}
use Rattle.d64spec.proofs.FirstFault.{disk_conditions-accepted}
use Rattle.d64spec.proofs.NumberLaws.{Answers, Between, answers-imp, disk-answers, first_fails-answers, first_fails-past, listing-answers}
use Rattle.d64spec.proofs.NamedLaws.{files_named-one, files_named-single, length-files_named, name-met}
use Rattle.d64spec.proofs.RoomLaws.{no_slot-exact, some-slot}
use Rattle.d64spec.proofs.OrderTheorem.{done-exactly, first-fault, listing-exactly, listing-some-fault, some-fault, tell-exactly}

-- ---- files of a name

-- a list that is not empty has a first
some_first : {A : Type 0} (f : Fault) (l : List A) → 0 < length l → (x : A) × (first f l ≡ done x)
unfolding first
some_first f [] h = absurd (omega arith)
some_first f (x ∷ l) h = (x, refl)

all_any : {A : Type 0} (l : List A) → All (λ x. Unit {0}) l
all_any [] = tt
all_any (x ∷ l) = (tt, all_any l)

module _ (g : Geometry) (img name : Bytes) where
  -- the file that a name finds is there, under that name
  found-file : (f : File) → first not_found (files_named name (files g (disk img))) ≡ done f → HasFile g img name
  unfolding files_named
  found-file f e =
      let k = first-kept (λ f. equal name (name_of f.slot.bytes)) (λ f. Unit {0}) not_found (files g (disk img)) f (all_any (files g (disk img))) e in
      record { file = f; there = ∣ k.element ∣₁; named = sym (eq-of-equal name (name_of f.slot.bytes) k.test) }

  has_file-exact : HasFile g img name ↔ (0 < length (files_named name (files g (disk img))))
  has_file-exact = (
    (λ h. ∥∥₁_elim h.there le_prop (λ m. omega (arith, name-met name (files g (disk img)) h.file m h.named, length-files_named name (files g (disk img))))),
    (λ h. let w = some_first not_found (files_named name (files g (disk img))) h in found-file w.0 w.1),
  )

  absent-exact : (HasFile g img name → ⊥) ↔ (length (files_named name (files g (disk img))) ≡ 0)
  absent-exact = (
    (λ h. elim (dec_le 1 (length (files_named name (files g (disk img))))) [
      | yes k ↦ absurd (h (has_file-exact.1 k))
      | no k ↦ omega arith
    ]),
    (λ e h. let k : 0 < length (files_named name (files g (disk img))) = has_file-exact.0 h in omega arith),
  )

-- ---- check, format, tell, scratch, read

module _ (g : Geometry) (v : Valid g) (img : Bytes) where
  -- the size and steps 2 to 4, exactly for an accepted image
  accepted-exact : AllHold (conditions g img check) ↔ Accepted g img
  unfolding conditions
  accepted-exact = (
    (λ h. record { size = h.0; content = (disk_conditions-accepted g v (disk img)).0 h.1 }),
    (λ a. (a.size, (disk_conditions-accepted g v (disk img)).1 a.content)),
  )

  -- what is asked after the check's conditions
  asked-after : (m : List Condition) → (length img ≡ 256 * total g) → AllHold (disk_conditions g (disk img) ++ m) → Accepted g img × AllHold m
  asked-after m s h =
      let w = (all_hold-append (disk_conditions g (disk img)) m).0 h in
      (record { size = s; content = (disk_conditions-accepted g v (disk img)).0 w.0 }, w.1)

  after-asked : (m : List Condition) → Accepted g img → AllHold m → AllHold (disk_conditions g (disk img) ++ m)
  after-asked m a h = (all_hold-append (disk_conditions g (disk img)) m).1 ((disk_conditions-accepted g v (disk img)).1 a.content, h)

  -- CHECK IS EXACT: a check answers 0 exactly for an accepted image
  pub check-exact : ((perform g img check).answer.number ≡ 0) ↔ Accepted g img
  check-exact = Iff.trans (done-exactly g v img check) accepted-exact

  -- FORMAT IS EXACT: only 1 and 9 refuse it
  pub format-exact : (name : Bytes) (id1 id2 : ℕ) → ((perform g img (format name id1 id2)).answer.number ≡ 0) ↔ Formattable g img name
  unfolding conditions
  format-exact name id1 id2 = Iff.trans (done-exactly g v img (format name id1 id2)) (
    (λ h. record { size = h.0; name_valid = h.1.0 }),
    (λ r. (r.size, (r.name_valid, tt))),
  )

  -- A FORMAT IS REFUSED ONLY WITH 1 AND 9
  pub format-only : (name : Bytes) (id1 id2 : ℕ) → ((perform g img (format name id1 id2)).answer.number ≡ 0 → ⊥)
      → ((perform g img (format name id1 id2)).answer.number ≡ 1) ⊎ ((perform g img (format name id1 id2)).answer.number ≡ 9)
  unfolding conditions
  format-only name id1 id2 h =
      let w = some-fault g v img (format name id1 id2) h in
      rw w.2 (first_fails-answers (λ f. ((answer_of f).number ≡ 1) ⊎ ((answer_of f).number ≡ 9)) (asks_size g img ∷ asks_name name ∷ []) w.0 ((λ f e. rw e (inl refl)), ((λ f e. rw e (inr refl)), tt)) w.1)

  -- TELL IS EXACT
  pub tell-exact : (position : ℕ) → ((tell_reply (call_tell g img position)).answer.number ≡ 0) ↔ Tellable g img position
  unfolding tell_conditions
  tell-exact position = Iff.trans (tell-exactly g v img position) (
    (λ h. let w = asked-after _ h.0 h.1 in record { accepted = w.0; there = w.1.0 }),
    (λ r. (r.accepted.size, after-asked _ r.accepted (r.there, tt))),
  )

  -- SCRATCH IS EXACT
  pub scratch-exact : (name : Bytes) → ((perform g img (scratch name)).answer.number ≡ 0) ↔ Scratchable g img name
  unfolding conditions
  scratch-exact name = Iff.trans (done-exactly g v img (scratch name)) (
    (λ h. let w = asked-after _ h.0 h.1.1 in
        record { accepted = w.0; name_valid = h.1.0; may_write = w.1.0; found = (has_file-exact g img name).1 w.1.1.0 }),
    (λ r. (r.accepted.size, (r.name_valid, after-asked _ r.accepted (r.may_write, ((has_file-exact g img name).0 r.found, tt))))),
  )

  -- the bytes of the only file of a name, said of the file that is there
  fits-exact : (name : Bytes) (n : ℕ) → Accepted g img → (h : HasFile g img name)
      → ((f : File) → files_named name (files g (disk img)) ≡ f ∷ [] → length (chain_data g (disk img) f.sectors) ≤ n) ↔ (length (chain_data g (disk img) h.file.sectors) ≤ n)
  fits-exact name n a h = (
    (λ fits. ∥∥₁_elim h.there le_prop (λ m. fits h.file (only m))),
    (λ fits f e. ∥∥₁_elim h.there le_prop (λ m. let o = only m in let same : h.file ≡ f = cc in rw (← same) fits)),
  )
    where
      only : Memᴰ h.file (files g (disk img)) → files_named name (files g (disk img)) ≡ h.file ∷ []
      only m = files_named-single g (disk img) a.content name h.file (files_named-one name (files g (disk img)) h.file m h.named (a.content.names name))

  -- READ IS EXACT
  pub read-exact : (name out : Bytes) → ((perform g img (read name out)).answer.number ≡ 0) ↔ Readable g img name out
  unfolding conditions
  read-exact name out = Iff.trans (done-exactly g v img (read name out)) (
    (λ h. let w = asked-after _ h.0 h.1.1 in
        let f : HasFile g img name = (has_file-exact g img name).1 w.1.0 in
        record { accepted = w.0; name_valid = h.1.0; found = f; fits = (fits-exact name (length out) w.0 f).0 w.1.1.0 }),
    (λ r. (r.accepted.size, (r.name_valid, after-asked _ r.accepted ((has_file-exact g img name).0 r.found, ((fits-exact name (length out) r.accepted r.found).1 r.fits, tt))))),
  )

  -- A READ GIVES THE FILE'S BYTES: of each file of an accepted image, whole, where the output has room
  pub read-gives : Accepted g img → (name out : Bytes) → valid_name_argument name ≡ true
      → (f : File) → Memᴰ f (files g (disk img)) → name_of f.slot.bytes ≡ name → length (chain_data g (disk img) f.sectors) ≤ length out
      → call_read g img name out ≡ done (record { image_after = img; output_after = splice out 0 (chain_data g (disk img) f.sectors); reported_length = length (chain_data g (disk img) f.sectors); reported_sectors = length f.sectors })
  unfolding call_read right_size
  read-gives a name out asked f m e fits =
      rw (
        eq-eqb (length img) (256 * total g) a.size,
        asked,
        disk-complete g v (disk img) a.content,
        files_named-one name (files g (disk img)) f m e (a.content.names name),
        le-leb (length (chain_data g (disk img) f.sectors)) (length out) fits,
      )

-- ---- a store and its room

module _ (g : Geometry) (v : Valid g) (img name : Bytes) (kind : ℕ) (bytes : Bytes) where
  -- what a store asks up to the check
  abbrev up_to_check : List Condition
  up_to_check = asks_size g img ∷ asks_name name ∷ asks (IsStorableKind kind) bad_kind_argument ∷ disk_conditions g (disk img)

  -- what it asks then, before the room
  abbrev before_room : List Condition
  before_room = asks_version g (disk img) ∷ asks (length (files_named name (files g (disk img))) ≡ 0) name_exists ∷ []

  -- the room
  abbrev asks_room : List Condition
  asks_room =
      asks (0 < length (empty_slots g (disk img)) + length (free_for_directory g (disk img))) directory_full
      ∷ asks (sectors_needed (length bytes) ≤ length (free_for_files g (disk img))) disk_full
      ∷ []

  admitted-exact : (AllHold up_to_check × AllHold before_room) ↔ Admitted g img name kind
  admitted-exact = (
    (λ h. record {
      accepted = record { size = h.0.0; content = (disk_conditions-accepted g v (disk img)).0 h.0.1.1.1 };
      name_valid = h.0.1.0;
      kind_valid = h.0.1.1.0;
      may_write = h.1.0;
      absent = (absent-exact g img name).1 h.1.1.0;
    }),
    (λ a. (
      (a.accepted.size, (a.name_valid, (a.kind_valid, (disk_conditions-accepted g v (disk img)).1 a.accepted.content))),
      (a.may_write, ((absent-exact g img name).0 a.absent, tt)),
    )),
  )

  -- STORE IS EXACT
  pub store-exact : ((perform g img (store name kind bytes)).answer.number ≡ 0) ↔ Storable g img name kind bytes
  unfolding conditions
  store-exact = Iff.trans (done-exactly g v img (store name kind bytes)) (
    (λ h. let w = (all_hold-append up_to_check (before_room ++ asks_room)).0 h in
        let u = (all_hold-append before_room asks_room).0 w.1 in
        record { admitted = admitted-exact.0 (w.0, u.0); slot = (some-slot g (disk img)).1 u.1.0; sectors = u.1.1.0 }),
    (λ r. let a = admitted-exact.1 r.admitted in
        (all_hold-append up_to_check (before_room ++ asks_room)).1 (a.0, (all_hold-append before_room asks_room).1 (a.1, ((some-slot g (disk img)).0 r.slot, (r.sectors, tt))))),
  )

  -- a refusal with a number past 13 is one for room, and nothing before refuses
  room-exact : (f : Fault) → 13 < (answer_of f).number → FirstFails (conditions g img (store name kind bytes)) f ↔ (Admitted g img name kind × FirstFails asks_room f)
  unfolding conditions
  room-exact f h = (
    (λ w. let a = first_fails-past (Between 1 13) up_to_check (before_room ++ asks_room) f before-answers (λ b. omega arith) w in
        let b = first_fails-past (Between 1 13) before_room asks_room f ((λ f e. rw e (omega arith)), ((λ f e. rw e (omega arith)), tt)) (λ b. omega arith) a.1 in
        (admitted-exact.0 (a.0, b.0), b.1)),
    (λ w. let a = admitted-exact.1 w.0 in
        (first_fails-append up_to_check (before_room ++ asks_room) f).1 (inr (a.0, (first_fails-append before_room asks_room f).1 (inr (a.1, w.1))))),
  )
    where
      before-answers : Answers (Between 1 13) up_to_check
      before-answers = ((λ f e. rw e (omega arith)), ((λ f e. rw e (omega arith)), ((λ f e. rw e (omega arith)), answers-imp (λ f h. omega arith) (disk_conditions g (disk img)) (disk-answers g (disk img)))))

  -- a number past 13 is that of a refusal for room
  refused-room : 13 < (perform g img (store name kind bytes)).answer.number
      → (f : Fault) × Admitted g img name kind × FirstFails asks_room f × ((perform g img (store name kind bytes)).answer.number ≡ (answer_of f).number)
  refused-room h =
      let w = some-fault g v img (store name kind bytes) (λ e. omega arith) in
      let number : (perform g img (store name kind bytes)).answer.number ≡ (answer_of w.0).number = ap (λ (r : Reply). r.answer.number) w.2 in
      let a = (room-exact w.0 (omega arith)).0 w.1 in
      (w.0, a.0, a.1, number)

  -- the two faults of the room
  data RoomFault (f : Fault) : Type 0 where
    slot_lacks : NoSlot g (disk img) → f ≡ directory_full → RoomFault f
    sectors_lack : (NoSlot g (disk img) → ⊥) → length (free_for_files g (disk img)) < sectors_needed (length bytes) → f ≡ disk_full → RoomFault f

  room-fault : (f : Fault) → FirstFails asks_room f → RoomFault f
  room-fault f (inl h) = slot_lacks ((no_slot-exact g (disk img)).1 h.0) h.1
  room-fault f (inr h) = elim h.1 [
    | inl k ↦ let slot = h.0 in sectors_lack (λ n. (no_slot-exact g (disk img)).0 n slot) (let lacks = k.0 in omega arith) k.1
    | inr k ↦ absurd k.1
  ]

  -- 14 EXACTLY: nothing before refuses, there is no empty slot and no free sector of track 18
  pub store-14 : ((perform g img (store name kind bytes)).answer.number ≡ 14) ↔ (Admitted g img name kind × NoSlot g (disk img))
  store-14 = (
    (λ e. let w = refused-room (omega arith) in (w.1, by w.0 (room-fault w.0 w.2) (omega arith))),
    (λ h. ap (λ (r : Reply). r.answer.number)
        (first-fault g v img (store name kind bytes) directory_full ((room-exact directory_full (omega arith)).1 (h.0, inl ((no_slot-exact g (disk img)).0 h.1, refl))))),
  )
    where
      by : (f : Fault) → RoomFault f → (answer_of f).number ≡ 14 → NoSlot g (disk img)
      by f (slot_lacks n z) e = n
      by f (sectors_lack n k z) e = absurd (let number : (answer_of f).number ≡ 15 = rw z in omega arith)

  -- 15 EXACTLY: nothing before refuses, there is a place for the entry, and fewer sectors are free off track 18 than are needed
  pub store-15 : ((perform g img (store name kind bytes)).answer.number ≡ 15)
      ↔ (Admitted g img name kind × (NoSlot g (disk img) → ⊥) × (length (free_for_files g (disk img)) < sectors_needed (length bytes)))
  store-15 = (
    (λ e. let w = refused-room (omega arith) in let r = by w.0 (room-fault w.0 w.2) (omega arith) in (w.1, r.0, r.1)),
    (λ h. let lacks = h.2 in ap (λ (r : Reply). r.answer.number)
        (first-fault g v img (store name kind bytes) disk_full ((room-exact disk_full (omega arith)).1 (h.0, inr ((some-slot g (disk img)).0 h.1, inl ((λ k. omega arith), refl)))))),
  )
    where
      by : (f : Fault) → RoomFault f → (answer_of f).number ≡ 15 → (NoSlot g (disk img) → ⊥) × (length (free_for_files g (disk img)) < sectors_needed (length bytes))
      by f (slot_lacks n z) e = absurd (let number : (answer_of f).number ≡ 14 = rw z in omega arith)
      by f (sectors_lack n k z) e = (n, k)

-- ---- the listing

-- the entries that track 18 shows, and their names beside these earlier ones
shown-exact : (names : List Bytes) (l : List Slot) → ((n : Bytes) → name_count n names ≤ 1)
    → AllHold (listing_slots names l) ↔ (All ShownEntry l × ((n : Bytes) → name_count n (map (λ s. name_of s.bytes) l) + name_count n names ≤ 1))
shown-exact names [] u = ((λ h. (tt, λ n. omega (arith, u n))), (λ h. tt))
shown-exact names (s ∷ l) u = (
  (λ h. let u' = name-one (name_of s.bytes) names h.1.1.0 in
      let r = (shown-exact (name_of s.bytes ∷ names) l (λ n. u' n (u n))).0 h.1.1.1 in
      ((record { type = h.0; name = h.1.0 }, r.0), λ n. omega (arith, r.1 n))),
  (λ h. let self : indicator (equal (name_of s.bytes) (name_of s.bytes)) ≡ 1 = rw (equal-refl (name_of s.bytes)) in
      let new : name_count (name_of s.bytes) names ≡ 0 = omega (arith, h.1 (name_of s.bytes)) in
      let r = (shown-exact (name_of s.bytes ∷ names) l (λ n. name-one (name_of s.bytes) names new n (u n))).1 (h.0.1, λ n. omega (arith, h.1 n)) in
      (h.0.0.type, (h.0.0.name, (new, r)))),
)

-- LISTING IS EXACT
pub listing-exact : (g : Geometry) → Valid g → (b out : Bytes) → ((listing_reply out (call_listing g b out)).answer.number ≡ 0) ↔ Listable g b out
unfolding listing_conditions
listing-exact g v b out = Iff.trans (listing-exactly g v b out) (
  (λ h. let w = (all_hold-append (listing_slots [] (occupied g (disk_of_track18 g b))) _).0 h.1.1 in
      let shown = (shown-exact [] (occupied g (disk_of_track18 g b)) (λ n. omega arith)).0 w.0 in
      record { size = h.0; directory = h.1.0; entry = shown.0; names = λ n. omega (arith, shown.1 n); fits = w.1.0 }),
  (λ r. (
    r.size,
    (
      r.directory,
      (all_hold-append (listing_slots [] (occupied g (disk_of_track18 g b))) _).1
          ((shown-exact [] (occupied g (disk_of_track18 g b)) (λ n. omega arith)).1 (r.entry, λ n. omega (arith, r.names n)), (r.fits, tt)),
    ),
  )),
)

-- A LISTING IS REFUSED ONLY WITH 1, 2 TO 6 AND 16
pub listing-only : (g : Geometry) → Valid g → (b out : Bytes) → ((listing_reply out (call_listing g b out)).answer.number ≡ 0 → ⊥) → ListingNumber (listing_reply out (call_listing g b out)).answer.number
listing-only g v b out h =
    let w = listing-some-fault g v b out h in
    rw w.2 (first_fails-answers (λ f. ListingNumber (answer_of f).number) (listing_conditions g b out) w.0 (listing-answers g b out) w.1)
