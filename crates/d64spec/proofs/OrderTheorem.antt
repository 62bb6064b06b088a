-- Each call is done exactly when all that it asks holds, and is else refused with the fault of the first that does not (01, Answer numbers: "Where several apply").
-- In order: steps of one condition; room for an entry; what the caller sees of a result; the calls and tell; the listing.
use Prim.Native.Nat.{ℕ, suc, ◌+◌, ◌*◌, ◌≤◌, ◌<◌}
use native.Mathlib.Omega.{arith}
use mathlib.Core.Path.{◌≡◌, refl, ap, ◌∙◌}
use mathlib.Core.Logic.Iff
use mathlib.Core.Logic.{◌↔◌}
use mathlib.Core.List.{List, [], ◌∷◌, ◌++◌}
use lib.ListN.{length, drop, length-drop}
use lib.Dec.{leb}
use borrow.Author.Tests.{leb-true, le-leb}
use Rattle.d64spec.specs.Lists.{Bytes}
use Rattle.d64spec.specs.Answers.{Address, Fault, Result, ◌>>=◌, ◌>>◌, answer_of, bad_kind_argument, bad_name_argument, directory_full, disk_full, done, first, name_exists, need, not_found, refused, write_forbidden, wrong_buffer, wrong_size}
use Rattle.d64spec.specs.Geometry.{Geometry, Valid, sectors_on, total}
use Rattle.d64spec.specs.Image.{Disk, disk}
use Rattle.d64spec.specs.Chain.{chain_data}
use Rattle.d64spec.specs.Directory.{File, Slot, files, occupied}
use Rattle.d64spec.specs.Rules.{IsStorableKind, IsName, MayWrite}
use Rattle.d64spec.specs.Owner.{free_for_directory, free_for_files}
use Rattle.d64spec.specs.Check.{check_disk, check_image, right_size}
use Rattle.d64spec.specs.Accepted.{AcceptedDisk}
use Rattle.d64spec.specs.Reply.{Change, files_named, reply, unchanged, storable_kind, valid_name_argument, writable}
use Rattle.d64spec.specs.Format.{call_format}
use Rattle.d64spec.specs.Read.{FileInformation, call_read, call_tell, no_information, tell_reply}
use Rattle.d64spec.specs.Store.{SlotPlace, call_store, empty_slots, in_empty_slot, in_new_sector, sectors_needed, slot_place_for}
use Rattle.d64spec.specs.Scratch.{call_scratch}
use Rattle.d64spec.specs.Call.{Call, attempt, call_check, check, format, output_buffer, perform, read, scratch, store}
use Rattle.d64spec.specs.Listing.{Listed, call_listing, disk_of_track18, list_slots, listing_reply, listing_text}
use Rattle.d64spec.specs.Order.{AllHold, Condition, FirstFails, asks, asks_file, asks_name, asks_output, asks_size, asks_version, conditions, disk_conditions, listing_conditions, listing_slots, tell_conditions}
use Rattle.d64spec.proofs.ConditionLaws.{Decided, decided-bind, decided-bind-done, decided-need, decided-one, decided-then, decided-then-done, done≢refused, eqb-exact, leb-exact}
use Rattle.d64spec.proofs.NamedLaws.{files_named-single}
use Rattle.d64spec.proofs.RefusalLaws.{fault-number}
use Rattle.d64spec.proofs.RuleLaws.{kind-exact, name-argument-exact, version-exact}
use Rattle.d64spec.proofs.FirstFault.{decided-directory, decided-disk, decided-list-slots, directory-walked, disk_conditions-accepted}
use Rattle.d64spec.proofs.ResultLaws.{refused≢done}

-- ---- steps of one condition

-- a condition that holds, and a step that is done
pub decided-holds : {A : Type 0} (y : A) (P : Type 0) (f : Fault) → P → Decided (done y) (asks P f ∷ [])
decided-holds y P f p = decided-one (asks P f) ((λ w. p), (λ h. (y, refl))) (λ f' e. done≢refused y f' e) (λ f' fails e. absurd (fails p))

-- a condition that does not hold, and a step that its fault refuses
pub decided-fails : {A : Type 0} (P : Type 0) (f : Fault) → (P → ⊥) → Decided {A = A} (refused f) (asks P f ∷ [])
decided-fails P f fails = decided-one (asks P f) ((λ w. refused≢done f w.0 w.1), (λ h. absurd (fails h))) (λ f' e. cc) (λ f' h e. cc)

-- the first of a list: done exactly where the list has one
decided-first : {A : Type 0} (f : Fault) (l : List A) (P : Type 0) → (0 < length l) ↔ P → Decided (first f l) (asks P f ∷ [])
unfolding first
decided-first f [] P h = decided-fails P f (λ p. omega (arith, h.1 p))
decided-first f (x ∷ l) P h = decided-holds x P f (h.0 (omega arith))

-- ---- room for an entry

decided-place : (g : Geometry) (d : Disk) → Decided (slot_place_for g d) (asks (0 < length (empty_slots g d) + length (free_for_directory g d)) directory_full ∷ [])
unfolding slot_place_for first
decided-place g d = by (empty_slots g d) (free_for_directory g d)
  where
    by : (x : List Slot) (y : List Address)
        → Decided {A = SlotPlace} (elim x [ [] ↦ first directory_full y >>= (λ r. done (in_new_sector r)) | s ∷ l ↦ done (in_empty_slot s) ]) (asks (0 < length x + length y) directory_full ∷ [])
    by [] [] = decided-fails (0 < length {A = Slot} [] + length {A = Address} []) directory_full (λ h. omega arith)
    by [] (r ∷ y) = decided-holds (in_new_sector r) (0 < length {A = Slot} [] + length (r ∷ y)) directory_full (omega arith)
    by (s ∷ x) y = decided-holds (in_empty_slot s) (0 < length (s ∷ x) + length y) directory_full (omega arith)

-- ---- what the caller sees of a result

-- the number of a result's answer
abbrev pub number_of : {A : Type 0} → Result A → ℕ
number_of (refused f) = (answer_of f).number
number_of (done y) = 0

pub reply-number : (img out : Bytes) (x : Result Change) → (reply img out x).answer.number ≡ number_of x
unfolding reply
reply-number img out (refused f) = refl
reply-number img out (done y) = refl

pub tell-number : (x : Result FileInformation) → (tell_reply x).answer.number ≡ number_of x
unfolding tell_reply
tell-number (refused f) = refl
tell-number (done y) = refl

pub listing-number : (out : Bytes) (x : Result Listed) → (listing_reply out x).answer.number ≡ number_of x
unfolding listing_reply
listing-number out (refused f) = refl
listing-number out (done y) = refl

module _ {A : Type 0} {l : List Condition} where
  -- number 0 exactly when all conditions hold
  pub decided-zero : (x : Result A) → Decided x l → (number_of x ≡ 0) ↔ AllHold l
  decided-zero (refused f) d = (
    (λ e. absurd (let h : (answer_of f).number ≡ suc (fault-number f).0 = (fault-number f).1 in omega arith)),
    (λ h. let w = d.when_done.1 h in refused≢done f w.0 w.1),
  )
  decided-zero (done y) d = ((λ e. d.when_done.0 (y, refl)), (λ h. refl))

  -- else there is a first condition that does not hold, and its fault is the refusal
  pub decided-some : (x : Result A) → Decided x l → (number_of x ≡ 0 → ⊥) → (f : Fault) × FirstFails l f × (x ≡ refused f)
  decided-some (refused f) d h = (f, (d.when_refused f).0 refl, refl)
  decided-some (done y) d h = absurd (h refl)

module _ (g : Geometry) (v : Valid g) (img : Bytes) where
  -- 1: the size
  decided-size : Decided (need (right_size g img) wrong_size) (asks_size g img ∷ [])
  unfolding right_size
  decided-size = decided-need (right_size g img) wrong_size (length img ≡ 256 * total g) (eqb-exact (length img) (256 * total g))

  -- 16: the output buffer, for the only file of that name
  decided-output : (name out : Bytes) (f : File) → files_named name (files g (disk img)) ≡ f ∷ []
      → Decided (need (leb (length (chain_data g (disk img) f.sectors)) (length out)) wrong_buffer) (asks_output g (disk img) name out ∷ [])
  decided-output name out f e =
      decided-need (leb (length (chain_data g (disk img) f.sectors)) (length out)) wrong_buffer
      ((f : File) → files_named name (files g (disk img)) ≡ f ∷ [] → length (chain_data g (disk img) f.sectors) ≤ length out)
      ((λ t f' e'. let same : f ≡ f' = cc in rw (← same) (leb-true (length (chain_data g (disk img) f.sectors)) (length out) t)), (λ h. le-leb _ _ (h f e)))

  -- steps 2 to 4, then what else is asked of an accepted disk
  decided-checked : {A : Type 0} {r : Result A} {m : List Condition} → (AcceptedDisk g (disk img) → Decided r m) → Decided (check_disk g (disk img) >> r) (disk_conditions g (disk img) ++ m)
  decided-checked h = decided-then (decided-disk g v (disk img)) (λ held. h ((disk_conditions-accepted g v (disk img)).0 held))

  -- 13: a file of that name
  decided-file : (name : Bytes) → Decided (first not_found (files_named name (files g (disk img)))) (asks_file g (disk img) name ∷ [])
  decided-file name = decided-first not_found (files_named name (files g (disk img))) _ Iff.rfl

  -- 9: the name
  decided-name : (name : Bytes) → Decided (need (valid_name_argument name) bad_name_argument) (asks_name name ∷ [])
  decided-name name = decided-need (valid_name_argument name) bad_name_argument (IsName name) (name-argument-exact name)

  -- 11: the version
  decided-version : Decided (need (writable g (disk img)) write_forbidden) (asks_version g (disk img) ∷ [])
  decided-version = decided-need (writable g (disk img)) write_forbidden (MayWrite g (disk img)) (version-exact g (disk img))

  decided-check : Decided (call_check g img) (conditions g img check)
  unfolding call_check check_image conditions
  decided-check = decided-then-done (decided-then decided-size (λ h. decided-disk g v (disk img))) _

  decided-format : (name : Bytes) (id1 id2 : ℕ) → Decided (call_format g img name id1 id2) (conditions g img (format name id1 id2))
  unfolding call_format conditions
  decided-format name id1 id2 = decided-then decided-size (λ h. decided-then-done (decided-name name) _)

  decided-read : (name out : Bytes) → Decided (call_read g img name out) (conditions g img (read name out))
  unfolding call_read conditions
  decided-read name out =
      decided-then decided-size (λ h. decided-then (decided-name name) (λ h. decided-checked (λ a.
      decided-bind (decided-file name) (λ f e h. decided-then-done (decided-output name out f (files_named-single g (disk img) a name f e)) _))))

  decided-store : (name : Bytes) (kind : ℕ) (bs : Bytes) → Decided (call_store g img name kind bs) (conditions g img (store name kind bs))
  unfolding call_store conditions
  decided-store name kind bs =
      decided-then decided-size (λ h. decided-then (decided-name name) (λ h. decided-then (decided-need (storable_kind kind) bad_kind_argument (IsStorableKind kind) (kind-exact kind)) (λ h. decided-checked (λ a.
      decided-then decided-version (λ h.
      decided-then (decided-need _ name_exists _ (eqb-exact (length (files_named name (files g (disk img)))) 0)) (λ h.
      decided-bind (decided-place g (disk img)) (λ place e h.
      decided-then-done (decided-need _ disk_full _ (leb-exact (sectors_needed (length bs)) (length (free_for_files g (disk img))))) _)))))))

  decided-scratch : (name : Bytes) → Decided (call_scratch g img name) (conditions g img (scratch name))
  unfolding call_scratch conditions
  decided-scratch name =
      decided-then decided-size (λ h. decided-then (decided-name name) (λ h. decided-checked (λ a.
      decided-then decided-version (λ h. decided-bind-done (decided-file name) _))))

  -- THE ORDER OF THE CALLS: done exactly when all that the call asks holds, else refused with the fault of the first that does not
  pub decided-call : (c : Call) → Decided (attempt g img c) (conditions g img c)
  unfolding attempt
  decided-call check = decided-check
  decided-call (format name id1 id2) = decided-format name id1 id2
  decided-call (read name out) = decided-read name out
  decided-call (store name kind bs) = decided-store name kind bs
  decided-call (scratch name) = decided-scratch name

  -- THE ORDER OF A TELL
  pub decided-tell : (position : ℕ) → Decided (call_tell g img position) (tell_conditions g img position)
  unfolding call_tell tell_conditions
  decided-tell position = decided-then decided-size (λ h. decided-checked (λ a. decided-bind-done (decided-first not_found (drop position (files g (disk img))) _
      ((λ h. omega (arith, length-drop position (files g (disk img)))), (λ h. omega (arith, length-drop position (files g (disk img)))))) _))

  -- DONE EXACTLY: a call answers 0 exactly when all that it asks holds
  pub done-exactly : (c : Call) → ((perform g img c).answer.number ≡ 0) ↔ AllHold (conditions g img c)
  unfolding perform
  done-exactly c = rw (reply-number img (output_buffer c) (attempt g img c)) (decided-zero (attempt g img c) (decided-call c))

  -- THE FIRST FAULT ANSWERS: its number and its place, with image and output as they were, and a report of 0 and 0
  pub first-fault : (c : Call) (f : Fault) → FirstFails (conditions g img c) f → perform g img c ≡ record { answer = answer_of f; change = unchanged img (output_buffer c) }
  unfolding perform reply
  first-fault c f h = ap (reply img (output_buffer c)) (((decided-call c).when_refused f).1 h)

  -- NO OTHER ANSWER: a call that does not answer 0 answers with the fault of the first condition that does not hold
  pub some-fault : (c : Call) → ((perform g img c).answer.number ≡ 0 → ⊥)
      → (f : Fault) × FirstFails (conditions g img c) f × (perform g img c ≡ record { answer = answer_of f; change = unchanged img (output_buffer c) })
  unfolding perform
  some-fault c h =
      let w = decided-some (attempt g img c) (decided-call c) (λ e. h (reply-number img (output_buffer c) (attempt g img c) ∙ e)) in
      (w.0, w.1, first-fault c w.0 w.1)

  -- the same of a tell
  pub tell-exactly : (position : ℕ) → ((tell_reply (call_tell g img position)).answer.number ≡ 0) ↔ AllHold (tell_conditions g img position)
  tell-exactly position = rw (tell-number (call_tell g img position)) (decided-zero (call_tell g img position) (decided-tell position))

  pub tell-first-fault : (position : ℕ) (f : Fault) → FirstFails (tell_conditions g img position) f → tell_reply (call_tell g img position) ≡ record { answer = answer_of f; information = no_information }
  unfolding tell_reply
  tell-first-fault position f h = ap tell_reply (((decided-tell position).when_refused f).1 h)

  pub tell-some-fault : (position : ℕ) → ((tell_reply (call_tell g img position)).answer.number ≡ 0 → ⊥)
      → (f : Fault) × FirstFails (tell_conditions g img position) f × (tell_reply (call_tell g img position) ≡ record { answer = answer_of f; information = no_information })
  tell-some-fault position h =
      let w = decided-some (call_tell g img position) (decided-tell position) (λ e. h (tell-number (call_tell g img position) ∙ e)) in
      (w.0, w.1, tell-first-fault position w.0 w.1)

module _ (g : Geometry) (v : Valid g) (b out : Bytes) where
  -- the slots of a listing, then its text
  decided-text : (ss : List Slot) (y : Listed) → Decided (list_slots [] ss >> (need (leb (length (listing_text g (disk_of_track18 g b) ss)) (length out)) wrong_buffer >> done y))
      (listing_slots [] ss ++ (asks (length (listing_text g (disk_of_track18 g b) ss) ≤ length out) wrong_buffer ∷ []))
  decided-text ss y = decided-then (decided-list-slots [] ss) (λ h. decided-then-done (decided-need _ wrong_buffer _ (leb-exact (length (listing_text g (disk_of_track18 g b) ss)) (length out))) y)

  -- THE ORDER OF A LISTING
  pub decided-listing : Decided (call_listing g b out) (listing_conditions g b out)
  unfolding call_listing listing_conditions occupied
  decided-listing =
      decided-then (decided-need _ wrong_size _ (eqb-exact (length b) (256 * sectors_on g 18))) (λ h.
      decided-bind (decided-directory g v (disk_of_track18 g b)) (λ ds e h. rw (directory-walked g v (disk_of_track18 g b) ds e) (decided-text (occupied g (disk_of_track18 g b)) _)))

  -- the same of a listing
  pub listing-exactly : ((listing_reply out (call_listing g b out)).answer.number ≡ 0) ↔ AllHold (listing_conditions g b out)
  listing-exactly = rw (listing-number out (call_listing g b out)) (decided-zero (call_listing g b out) decided-listing)

  pub listing-first-fault : (f : Fault) → FirstFails (listing_conditions g b out) f
      → listing_reply out (call_listing g b out) ≡ record { answer = answer_of f; listed = record { output_after = out; reported_length = 0 } }
  unfolding listing_reply
  listing-first-fault f h = ap (listing_reply out) ((decided-listing.when_refused f).1 h)

  pub listing-some-fault : ((listing_reply out (call_listing g b out)).answer.number ≡ 0 → ⊥)
      → (f : Fault) × FirstFails (listing_conditions g b out) f × (listing_reply out (call_listing g b out) ≡ record { answer = answer_of f; listed = record { output_after = out; reported_length = 0 } })
  listing-some-fault h =
      let w = decided-some (call_listing g b out) decided-listing (λ e. h (listing-number out (call_listing g b out) ∙ e)) in
      (w.0, w.1, listing-first-fault w.0 w.1)
