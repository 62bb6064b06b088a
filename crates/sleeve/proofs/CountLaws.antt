-- The occupied slots, asked one by one and counted (01, Order of the check, 3; Sleeve listing).
-- In order: the names below a slot; the invariant; one slot; the end. Assumes nothing.
use Prim.Native.Nat.{ℕ, ◌+◌, ◌*◌, ◌-◌, ◌/◌, ◌≤◌, ◌<◌}
use native.Mathlib.Omega.{arith}
use native.Mathlib.Numerals.{add-one}
use native.Mathlib.Decide.{ℕ_discrete}
use mathlib.Core.Path.{◌≡◌, sym, ap, ap₂, ◌∙◌, subst}
use mathlib.Core.Bool.{Bool, true, false, not}
use mathlib.Core.List.{List, [], ◌∷◌}
use lib.ListN.{length, get_or}
use lib.Dec.{eqb}
use borrow.Author.Tests.{eqb-false, not-true}
use Rattle.d64spec.specs.Lists.{Bytes}
use Rattle.d64spec.specs.Answers.{address, Result, done, ◌>>◌, need, bad_type, bad_name, duplicate_name}
use Rattle.d64spec.specs.Directory.{is_empty, entry_byte, name_of, valid_type, valid_name}
use Rattle.d64spec.specs.Check.{check_entry}
use Rattle.d64spec.specs.Listing.{list_slots}
use Rattle.d64spec.proofs.ResultLaws.{need-done, need-true, then-done, done_inj}
use Rattle.std.specs.Option.{option_eq}
use Rattle.std.specs.Prelude.{Err, Ok, Option, Some}
use Rattle.answers.specs.Faults.{result_of, verdict_of}
use Rattle.answers.specs.declared.Fault.{Fault}
use Rattle.directory.specs.declared.Directory.{Directory}
use Rattle.directory.specs.Directories.{IsSlot, slot_at, slot_bytes, names_below, first_repeated, found, entry_verdict, occupied_from}
use Rattle.directory.proofs.RepeatLaws.{ValidBelow, past-empty}
use Rattle.directory.proofs.EntryLaws.{entry_at}
use Rattle.directory.proofs.FoundLaws.{found-is}
use Rattle.sleeve.specs.Texts.{count_slots, occupied_of}
use Rattle.sleeve.proofs.OccupiedLaws.{occupied-empty, occupied-here, occupied-none, occupied-few}

-- ---- the names below a slot

module _ (b : Bytes) (ss : List ℕ) (k : ℕ) where
  names-empty : is_empty (slot_bytes b ss k) ≡ true → names_below b ss (k + 1) ≡ names_below b ss k
  names-empty empty = rw (add-one k, empty)

  names-here : is_empty (slot_bytes b ss k) ≡ false → names_below b ss (k + 1) ≡ name_of (slot_bytes b ss k) ∷ names_below b ss k
  names-here occupied = rw (add-one k, occupied)

  -- where slot k is empty or has a valid name
  valid-more : ValidBelow b ss k → (is_empty (slot_bytes b ss k) ≡ false → valid_name (slot_bytes b ss k) ≡ true) → ValidBelow b ss (k + 1)
  valid-more below here i h = elim (ℕ_discrete i k) [
    | yes e ↦ subst (λ (j : ℕ). is_empty (slot_bytes b ss j) ≡ false → valid_name (slot_bytes b ss j) ≡ true) (sym e) here
    | no n ↦ below i (omega arith)
  ]

-- an entry without fault has a valid name, and is not the repeated one
entry-fine : (s : Bytes) (holder : _) (number : ℕ) (repeated : Bool) → done tt ≡ entry_verdict s holder number repeated → (valid_name s ≡ true) × (not repeated ≡ true)
unfolding entry_verdict
entry-fine s holder number repeated e =
    let first = need-done (valid_type (entry_byte s 0x02)) (bad_type holder number) (need (valid_name s) (bad_name holder number) >> need (not repeated) (duplicate_name holder number)) tt (sym e) in
    let second = need-done (valid_name s) (bad_name holder number) (need (not repeated) (duplicate_name holder number)) tt first.1 in
    (second.0, need-true (not repeated) (duplicate_name holder number) tt second.1)

-- ---- the invariant

-- the slots below k are without fault, and `files` of them are occupied
pub record Counting (b : Bytes) (d : Directory) (files k : ℕ) : Type 0 where
  pub small : files ≤ k
  pub valid : ValidBelow b d.sectors k
  pub new : k ≤ first_repeated b d.sectors 0 (8 * d.count)
  pub found : list_slots (names_below b d.sectors k) (occupied_from b d.sectors k (8 * d.count - k)) ≡ list_slots [] (occupied_of b d)
  pub counted : files + length (occupied_from b d.sectors k (8 * d.count - k)) ≡ length (occupied_of b d)

module _ {b : Bytes} {d : Directory} {files k : ℕ} (w : Counting b d files k) where
  abbrev ss : List ℕ
  ss = d.sectors

  abbrev end : ℕ
  end = 8 * d.count

  -- ---- slot k, as the code has its bytes

  module _ (h : k < end) {s : Bytes} (is : IsSlot b ss k s) where
    pub counting-empty : is_empty s ≡ true → {files' : ℕ} → files' ≡ files → Counting b d files' (k + 1)
    counting-empty vacant same =
        let empty : is_empty (slot_bytes b ss k) ≡ true = ap is_empty (sym is.bytes) ∙ vacant in
        let none = occupied-empty b ss h empty in
        record {
          small = omega (arith, w.small);
          valid = valid-more b ss k w.valid (λ e. let z : ◌≡◌ {A = ℕ} 0 1 = cc in absurd (omega arith));
          new = omega (arith, past-empty b ss end k h w.new empty);
          found = ap₂ list_slots (names-empty b ss k empty) (sym none) ∙ w.found;
          counted = rw same (rw none at w.counted);
        }

    module _ (first : d.repeated ≡ found (8 * d.count) (first_repeated b ss 0 end)) (taken : is_empty s ≡ false) {repeated : Bool}
        (same : repeated ≡ option_eq eqb d.repeated (Some k)) where
      occupied : is_empty (slot_bytes b ss k) ≡ false
      occupied = ap is_empty (sym is.bytes) ∙ taken

      repeats-here : repeated ≡ eqb k (first_repeated b ss 0 end)
      repeats-here = same ∙ (ap (λ (o : Option ℕ). option_eq eqb o (Some k)) first ∙ found-is end (first_repeated b ss 0 end) k h)

      -- the definition's verdict of the slot is the code's
      asked : check_entry (names_below b ss k) (slot_at b ss k) ≡ entry_verdict s (address 18 (get_or ss (k / 8) 0)) k repeated
      asked =
          entry_at b ss end k h w.new w.valid occupied
          ∙ ap₂ (λ (x : Bytes) (r : Bool). entry_verdict x (address 18 (get_or ss (k / 8) 0)) k r) (sym is.bytes) (sym repeats-here)

      -- the slots' verdict is this one's, then that of those behind it
      listed : list_slots [] (occupied_of b d) ≡ (entry_verdict s (address 18 (get_or ss (k / 8) 0)) k repeated >> list_slots (names_below b ss (k + 1)) (occupied_from b ss (k + 1) (end - (k + 1))))
      listed =
          sym w.found ∙ ap (list_slots (names_below b ss k)) (occupied-here b ss h occupied)
          ∙ ap₂ (λ (v : Result (Unit {0})) (names : List Bytes). v >> list_slots names (occupied_from b ss (k + 1) (end - (k + 1)))) asked (sym (names-here b ss k occupied))

      pub counting-refused : (f : Fault) → verdict_of (Err f) ≡ entry_verdict s (address 18 (get_or ss (k / 8) 0)) k repeated
          → result_of (λ (n : ℕ). n) (Err f) ≡ count_slots (occupied_of b d)
      unfolding verdict_of result_of count_slots
      counting-refused f e = rw (listed, sym e)

      pub counting-moved : verdict_of (Ok tt) ≡ entry_verdict s (address 18 (get_or ss (k / 8) 0)) k repeated → {files' : ℕ} → files' ≡ files + 1 → Counting b d files' (k + 1)
      unfolding verdict_of
      counting-moved e more =
          let fine = entry-fine s (address 18 (get_or ss (k / 8) 0)) k repeated e in
          let other = eqb-false k (first_repeated b ss 0 end) (sym repeats-here ∙ not-true repeated fine.1) in
          let here = ap length (occupied-here b ss h occupied) in
          record {
            small = omega (arith, w.small);
            valid = valid-more b ss k w.valid (λ z. ap valid_name (sym is.bytes) ∙ fine.0);
            new = omega (arith, w.new);
            found = sym (rw (sym e) at listed);
            counted = omega (arith, w.counted, here);
          }

  -- ---- the end

  pub counting-finished : end ≤ k → result_of (λ (n : ℕ). n) (Ok files) ≡ count_slots (occupied_of b d)
  unfolding result_of count_slots
  counting-finished h =
      let none = occupied-none b ss end k h in
      let all : files ≡ length (occupied_of b d) = omega (arith, w.counted, ap length none) in
      let fine : list_slots [] (occupied_of b d) ≡ done tt = sym w.found ∙ ap (list_slots (names_below b ss k)) none in
      rw (fine, all)

-- they are no more than a directory has slots
pub counted-few : (b : Bytes) (d : Directory) {files : ℕ} → d.count ≤ 18 → result_of (λ (n : ℕ). n) (Ok files) ≡ count_slots (occupied_of b d) → files ≤ 144
unfolding result_of count_slots
counted-few b d {files} few counted =
    let h = then-done (list_slots [] (occupied_of b d)) (done (length (occupied_of b d))) files (sym counted) in
    omega (arith, done_inj h.2, occupied-few b d.sectors 0 (8 * d.count))
