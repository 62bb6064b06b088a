-- Answer 8 and its place (02, §3): whichever call passes it on, it is the check's, and it names the first wrong entry of the map and the sector.
-- In order: no condition but the map's answers 8; what the map's say; the calls and tell.
use Prim.Native.Nat.{ℕ, zero, suc, ◌+◌, ◌≤◌, ◌<◌}
use native.Mathlib.Omega.{arith}
use native.Mathlib.Decide.{dec_le}
use mathlib.Core.Path.{◌≡◌, refl, sym, ap, ◌∙◌}
use mathlib.Core.Logic.{inl, inr}
use mathlib.Core.List.{List, [], ◌∷◌, ◌++◌, map}
use Rattle.d64spec.specs.Lists.{Bytes, range}
use Rattle.d64spec.specs.Answers.{Answer, Fault, answer_of}
use Rattle.d64spec.specs.Geometry.{Geometry, Valid, map_address, sector_number, tracks}
use Rattle.d64spec.specs.Image.{Disk, disk}
use Rattle.d64spec.specs.Directory.{directory_sectors, occupied}
use Rattle.d64spec.specs.Accepted.{MarksFree}
use Rattle.d64spec.specs.Reply.{Reply}
use Rattle.d64spec.specs.Read.{TellReply, call_tell, tell_reply}
use Rattle.d64spec.specs.Call.{Call, check, format, perform, read, scratch, store}
use Rattle.d64spec.specs.Order.{Condition, FirstFails, asks_file, asks_name, asks_output, asks_size, asks_version, conditions, disk_conditions, map_conditions, slots_conditions, tell_conditions}
use Rattle.d64spec.specs.MapPlace.{NamesEntry, Says8}
use Rattle.d64spec.proofs.ConditionLaws.{first_fails-append}
use Rattle.d64spec.proofs.NumberLaws.{Answers, Between, directory-answers, first_fails-answers, first_fails-past, slots-answers}
use Rattle.d64spec.proofs.OrderTheorem.{first-fault, some-fault, tell-some-fault}

-- ---- no condition but the map's answers 8

-- another number
abbrev Not8 : Fault → Type 0
Not8 f = (answer_of f).number ≡ 8 → ⊥

-- what is asked before steps 2 to 4, and after them, has other numbers: then these steps answer
past-others : (d before after : List Condition) (f : Fault) → (answer_of f).number ≡ 8 → Answers Not8 before → Answers Not8 after
    → FirstFails (before ++ (d ++ after)) f → FirstFails d f
past-others d before after f eight b a h = elim ((first_fails-append d after f).0 (first_fails-past Not8 before (d ++ after) f b (λ n. n eight) h).1) [
  | inl w ↦ w
  | inr w ↦ absurd (first_fails-answers Not8 after f a w.1 eight)
]

-- ---- what the map's conditions say

module _ (g : Geometry) (d : Disk) where
  map-fails : (a n : ℕ) (f : Fault) → 1 ≤ a → a + n ≡ tracks g + 1 → ((t : ℕ) → 1 ≤ t → t < a → MarksFree g d t)
      → FirstFails (map_conditions g d (range a n)) f → NamesEntry g d (answer_of f)
  map-fails a zero f low end before h = absurd h
  map-fails a (suc n) f low end before (inl h) =
      let named = h.1.1 in
      rw h.1.2 (record { first = low; last = omega arith; before = before; sector = named; slot = refl })
  map-fails a (suc n) f low end before (inr h) =
      map-fails (suc a) n f (omega arith) (omega arith)
      (λ t l k. elim (dec_le (suc t) a) [
        | yes b ↦ before t l b
        | no b ↦ let z : a ≡ t = omega arith in rw (← z) h.0
      ])
      h.1

  -- steps 2 to 4
  disk-fails : (f : Fault) → (answer_of f).number ≡ 8 → FirstFails (disk_conditions g d) f → NamesEntry g d (answer_of f)
  unfolding disk_conditions
  disk-fails f eight (inl h) = absurd (let b = directory-answers g d f h.1 in omega arith)
  disk-fails f eight (inr h) =
      let own : List ℕ = sector_number g map_address ∷ map (sector_number g) (directory_sectors g d) in
      let w = first_fails-past (Between 2 7) (slots_conditions g d own [] (occupied g d)) (map_conditions g d (range 1 (tracks g))) f
      (slots-answers g d own [] (occupied g d)) (λ b. omega arith) h.1 in
      map-fails 1 (tracks g) f (omega arith) (omega arith) (λ t l k. absurd (omega arith)) w.1

-- ---- the calls and tell

-- a condition that one fault answers for, of another number
other : {fault : Fault} → Not8 fault → (f : Fault) → f ≡ fault → Not8 f
other n f e = rw e n

module _ (g : Geometry) (v : Valid g) (img : Bytes) where
  -- an 8 is the check's: size, then steps 2 to 4
  checked-fails : (c : Call) (f : Fault) → (answer_of f).number ≡ 8 → FirstFails (conditions g img c) f → FirstFails (conditions g img check) f
  unfolding conditions
  checked-fails check f eight h = h
  checked-fails (format name id1 id2) f eight h =
      absurd (first_fails-answers Not8 (asks_size g img ∷ asks_name name ∷ []) f (other (λ e. omega arith), (other (λ e. omega arith), tt)) h eight)
  checked-fails (read name out) f eight (inl h) = inl h
  checked-fails (read name out) f eight (inr h) =
      inr (
        h.0,
        past-others (disk_conditions g (disk img)) (asks_name name ∷ []) (asks_file g (disk img) name ∷ asks_output g (disk img) name out ∷ []) f eight
            (other (λ e. omega arith), tt) (other (λ e. omega arith), (other (λ e. omega arith), tt)) h.1,
      )
  checked-fails (store name kind bytes) f eight (inl h) = inl h
  checked-fails (store name kind bytes) f eight (inr h) =
      inr (
        h.0,
        past-others (disk_conditions g (disk img)) (asks_name name ∷ _ ∷ []) (asks_version g (disk img) ∷ _ ∷ _ ∷ _ ∷ []) f eight
            (other (λ e. omega arith), (other (λ e. omega arith), tt))
            (other (λ e. omega arith), (other (λ e. omega arith), (other (λ e. omega arith), (other (λ e. omega arith), tt)))) h.1,
      )
  checked-fails (scratch name) f eight (inl h) = inl h
  checked-fails (scratch name) f eight (inr h) =
      inr (
        h.0,
        past-others (disk_conditions g (disk img)) (asks_name name ∷ []) (asks_version g (disk img) ∷ asks_file g (disk img) name ∷ []) f eight
            (other (λ e. omega arith), tt) (other (λ e. omega arith), (other (λ e. omega arith), tt)) h.1,
      )

  tell-fails : (position : ℕ) (f : Fault) → (answer_of f).number ≡ 8 → FirstFails (tell_conditions g img position) f → FirstFails (conditions g img check) f
  unfolding tell_conditions conditions
  tell-fails position f eight (inl h) = inl h
  tell-fails position f eight (inr h) = inr (h.0, past-others (disk_conditions g (disk img)) [] (_ ∷ []) f eight tt (other (λ e. omega arith), tt) h.1)

  -- what the check's own 8 says
  check-says : (f : Fault) → (answer_of f).number ≡ 8 → FirstFails (conditions g img check) f → NamesEntry g (disk img) (answer_of f)
  unfolding conditions
  check-says f eight (inl h) = absurd (other (λ e. omega arith) f h.1 eight)
  check-says f eight (inr h) = disk-fails g (disk img) f eight h.1

  says : {a : Answer} (f : Fault) → a ≡ answer_of f → a.number ≡ 8 → ((answer_of f).number ≡ 8 → FirstFails (conditions g img check) f) → Says8 g img a
  says f e eight fails =
      let eight-f : (answer_of f).number ≡ 8 = ap (λ (x : Answer). x.number) (sym e) ∙ eight in
      record {
        checked = ap (λ (r : Reply). r.answer) (first-fault g v img check f (fails eight-f)) ∙ sym e;
        names = rw e (check-says f eight-f (fails eight-f));
      }

  -- EVERY CALL THAT PASSES ON ANSWER 8 gives the check's place, which names the first wrong entry and its lowest wrong sector
  pub call-says : (c : Call) → (perform g img c).answer.number ≡ 8 → Says8 g img (perform g img c).answer
  call-says c eight =
      let w = some-fault g v img c (λ e. omega arith) in
      says w.0 (ap (λ (r : Reply). r.answer) w.2) eight (λ e. checked-fails c w.0 e w.1)

  pub tell-says : (position : ℕ) → (tell_reply (call_tell g img position)).answer.number ≡ 8 → Says8 g img (tell_reply (call_tell g img position)).answer
  tell-says position eight =
      let w = tell-some-fault g v img position (λ e. omega arith) in
      says w.0 (ap (λ (r : TellReply). r.answer) w.2) eight (λ e. tell-fails position w.0 e w.1)
