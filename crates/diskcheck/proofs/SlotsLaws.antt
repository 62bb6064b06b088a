-- All slots in directory order: the definition's check slot by slot, with the tables, and the loop's invariant (01, Order of the check, 3).
-- In order: slot by slot; what a slot that passes leaves; the invariant `Checking`.
use Prim.Native.Nat.{ℕ, suc, ◌+◌, ◌*◌, ◌-◌, ◌≤◌, ◌<◌}
use native.Mathlib.Omega.{arith}
use native.Mathlib.Decide.{dec_le, dec_lt}
use mathlib.Core.Path.{◌≡◌, refl, sym, ap, ◌∙◌, subst}
use mathlib.Core.Bool.{Bool, true, false, cond, not}
use mathlib.Core.List.{List, ◌∷◌, ◌++◌, map}
use lib.ListN.{length, set, length-set}
use lib.Dec.{eqb}
use Rattle.std.specs.Prelude.{Option, Ok, Err}
use borrow.Author.Tests.{eq-eqb, ne_eqb, lt-ltb, le-ltb, eqb-false, not-true}
use Rattle.std.specs.Option.{unwrap_or}
use Rattle.d64spec.specs.Lists.{Bytes, All}
use Rattle.d64spec.specs.Answers.{Address, Result, refused, done, ◌>>=◌}
use Rattle.d64spec.specs.Geometry.{Geometry, total, sector_number}
use Rattle.d64spec.specs.Image.{disk}
use Rattle.d64spec.specs.Directory.{Slot, File, is_empty, name_of}
use Rattle.d64spec.specs.Check.{check_entry, check_slot, check_slots}
use Rattle.d64spec.specs.Listing.{bytes_of_track18}
use Rattle.d64spec.proofs.ResultLaws.{then-done, done_inj, refused≢done}
use Rattle.d64spec.proofs.CheckLaws.{EntrySound, entry-sound}
use Rattle.answers.specs.declared.Fault as code
use Rattle.answers.specs.Faults.{where_fine}
use Rattle.owners.specs.OwnerTable.{owned, with_owner, file_owner}
use Rattle.owners.specs.Masks.{Masks}
use Rattle.owners.proofs.TableLaws.{length-with_owner, alike-with_owner}
use Rattle.owners.proofs.SlotsTable.{slots-alike, slot_lt}
use Rattle.directory.specs.declared.Directory.{Directory}
use Rattle.directory.specs.Directories.{found, first_repeated, occupied_from}
use Rattle.directory.proofs.EntryLaws.{number_at}
use Rattle.directory.proofs.RepeatLaws.{ValidBelow, new-name, past-empty}
use Rattle.diskcheck.specs.EndTable.{end_of}
use Rattle.diskcheck.specs.SlotChecks.{image_slot, image_names, image_occupied, Tables, tables, tables_with, slot_step, tables_with_files, slots_step}
use Rattle.diskcheck.specs.SlotChecks.{Kept, SlotReady, SlotsReady}

-- ---- slot by slot

tables_with_files-next : (g : Geometry) (img : Bytes) (t : Tables) (s : Slot) (c : List Address) (x : Result (List File))
    → tables_with_files g img t (x >>= (λ fs. done (record { slot = s; sectors = c } ∷ fs)))
    ≡ tables_with_files g img (tables (with_owner (file_owner s.number) (map (sector_number g) c) t.owners) (set t.ends s.number (end_of g img c))) x
unfolding tables_with_files
tables_with_files-next g img t s c (refused f) = refl
tables_with_files-next g img t s c (done fs) = refl

-- SLOT BY SLOT: the check of the slots from k on is slot k, then the rest with the tables after it
pub slots_next : (g : Geometry) (img : Bytes) (t : Tables) (ss : List ℕ) (k n : ℕ) → length t.owners ≡ total g
    → slots_step g img t ss k (suc n) ≡ (slot_step g img t ss k >>= (λ t'. slots_step g img t' ss (suc k) n))
unfolding slots_step slot_step tables_with_files tables_with occupied_from
slots_next g img t ss k n long = go (is_empty s.bytes) refl
  where
    s : Slot
    s = image_slot g img ss k

    own : List ℕ
    own = t.owners

    names : List Bytes
    names = name_of s.bytes ∷ image_names g img ss k

    later : List ℕ → Result (List File)
    later owners = check_slots g (disk img) owners names (image_occupied g img ss (suc k) n)

    chain : Result (List Address)
    chain = check_slot g (disk img) (owned own) (image_names g img ss k) s

    after : (x : Result (List Address)) → chain ≡ x
        → tables_with_files g img t (x >>= (λ c. later (map (sector_number g) c ++ owned own) >>= (λ fs. done (record { slot = s; sectors = c } ∷ fs))))
        ≡ (tables_with g img k t x >>= (λ t'. tables_with_files g img t' (later (owned t'.owners))))
    after (refused f) e = refl
    after (done c) e =
        let l : List ℕ = map (sector_number g) c in
        let own' : List ℕ = with_owner (file_owner k) l own in
        let inside : All (λ x. x < length own) l
        = subst (λ (m : ℕ). All (λ x. x < m) l) (sym long) (slot_lt g (disk img) (owned own) (image_names g img ss k) s c e) in
        tables_with_files-next g img t s c (later (l ++ owned own))
        ∙ ap (λ (i : ℕ). tables_with_files g img (tables (with_owner (file_owner i) l own) (set t.ends i (end_of g img c))) (later (l ++ owned own)))
        (number_at _ ss k)
        ∙ ap (tables_with_files g img (tables own' (set t.ends k (end_of g img c))))
        (slots-alike g (disk img) (l ++ owned own) (owned own') names (image_occupied g img ss (suc k) n)
        (alike-with_owner (file_owner k) (omega arith) l own inside))

    go : (b : Bool) → is_empty s.bytes ≡ b
        → tables_with_files g img t (check_slots g (disk img) (owned own) (image_names g img ss k)
        (cond (not (is_empty s.bytes)) (s ∷ image_occupied g img ss (suc k) n) (image_occupied g img ss (suc k) n)))
        ≡ (cond (is_empty s.bytes) (done t) (tables_with g img k t chain)
        >>= (λ t'. tables_with_files g img t' (check_slots g (disk img) (owned t'.owners)
        (cond (is_empty s.bytes) (image_names g img ss k) names) (image_occupied g img ss (suc k) n))))
    go true e = rw e
    go false e = rw e (after chain refl)

slots-none : (g : Geometry) (img : Bytes) (t : Tables) (ss : List ℕ) (k : ℕ) → slots_step g img t ss k 0 ≡ done t
unfolding slots_step tables_with_files occupied_from
slots-none g img t ss k = refl

-- ---- a slot that passes

-- what a slot that passes leaves: tables as long, and an entry without a fault
record Passed (g : Geometry) (img : Bytes) (t t' : Tables) (ss : List ℕ) (k : ℕ) : Type 0 where
  long : length t'.owners ≡ length t.owners
  room : length t'.ends ≡ length t.ends
  entry : is_empty (image_slot g img ss k).bytes ≡ false → EntrySound (image_names g img ss k) (image_slot g img ss k)

passed : (g : Geometry) (img : Bytes) (t t' : Tables) (ss : List ℕ) (k : ℕ) → slot_step g img t ss k ≡ done t' → Passed g img t t' ss k
unfolding slot_step tables_with check_slot
passed g img t t' ss k e = go (is_empty (image_slot g img ss k).bytes) refl chain refl e
  where
    chain : Result (List Address)
    chain = check_slot g (disk img) (owned t.owners) (image_names g img ss k) (image_slot g img ss k)

    go : (b : Bool) → is_empty (image_slot g img ss k).bytes ≡ b → (x : Result (List Address)) → chain ≡ x
        → cond b (done t) (tables_with g img k t x) ≡ done t' → Passed g img t t' ss k
    go true z x s h = rw (← (done_inj h)) (record { long = refl; room = refl; entry = λ f. let z : ◌≡◌ {A = ℕ} 0 1 = cc in absurd (omega arith) })
    go false z (refused f) s h = refused≢done f t' h
    go false z (done l) s h =
        let w = then-done (check_entry (image_names g img ss k) (image_slot g img ss k)) _ l s in
        rw (← (done_inj h)) (record {
          long = length-with_owner (file_owner k) (map (sector_number g) l) t.owners;
          room = length-set t.ends k (end_of g img l);
          entry = λ f. entry-sound (image_names g img ss k) (image_slot g img ss k) w.0 w.1;
        })

-- ---- the first repeated name

-- a slot below the end is the one that is found exactly if it is that number, or the end where none is found
is-found : (end n k : ℕ) → k < end → eqb k (unwrap_or (found end n) end) ≡ eqb k n
is-found end n k h = elim (dec_lt n end) [
  | yes below ↦ rw (lt-ltb n end below) refl
  | no past ↦ rw (le-ltb n end (omega arith)) (ne_eqb k end (λ e. omega arith) ∙ sym (ne_eqb k n (λ e. omega arith)))
]

-- ---- the loop

-- the slots below k have passed: with the tables as they are now, the slots from k on give what all of them gave at the start
pub record Checking (g : Geometry) (img : Bytes) (t₀ : Tables) (d : Directory) (t : Tables) (used : List ℕ) (k : ℕ) : Type 0 where
  pub within : k ≤ 8 * d.count
  pub kept : Kept g img t used
  pub new : k ≤ first_repeated (bytes_of_track18 g img) d.sectors 0 (8 * d.count)
  pub valid : ValidBelow (bytes_of_track18 g img) d.sectors k
  pub same : slots_step g img t d.sectors k (8 * d.count - k) ≡ slots_step g img t₀ d.sectors 0 (8 * d.count)

pub checking-start : (g : Geometry) (img : Bytes) (t : Tables) (used : List ℕ) (d : Directory) → SlotsReady g img t used d → Checking g img t d t used 0
checking-start g img t used d r =
    let all : 8 * d.count - 0 ≡ 8 * d.count = omega arith in
    record {
      within = omega arith;
      kept = r.kept;
      new = omega arith;
      valid = λ i h. let z : ⊥ = omega arith in absurd z;
      same = ap (slots_step g img t d.sectors 0) all;
    }

module _ (g : Geometry) (img : Bytes) (t₀ : Tables) (d : Directory) (t : Tables) {used : List ℕ} (k : ℕ) (c : Checking g img t₀ d t used k) where
  abbrev end : ℕ
  end = 8 * d.count

  abbrev repeated : ℕ
  repeated = first_repeated (bytes_of_track18 g img) d.sectors 0 end

  pub checking-slot : {used₀ : List ℕ} {n : ℕ} → SlotsReady g img t₀ used₀ d → k < 8 * d.count → n ≡ unwrap_or d.repeated end → SlotReady g img t used d k (eqb k n)
  checking-slot {n = n} r h first =
      let few : d.count ≤ 18 = r.few in
      record {
        kept = c.kept;
        inside = r.inside;
        within = omega arith;
        name = λ occupied name. new-name (bytes_of_track18 g img) d.sectors end k h c.new occupied name c.valid
            ∙ ap not (sym (ap (eqb k) (first ∙ ap (λ (o : Option ℕ). unwrap_or o end) r.first) ∙ is-found end repeated k h));
      }

  module _ (h : k < 8 * d.count) (t' : Tables) where
    opened : {r : Result Tables} → r ≡ slot_step g img t d.sectors k
        → (r >>= (λ o. slots_step g img o d.sectors (suc k) (end - (k + 1)))) ≡ slots_step g img t₀ d.sectors 0 end
    opened e =
        let more : end - k ≡ suc (end - (k + 1)) = omega arith in
        ap (λ (x : Result Tables). x >>= (λ o. slots_step g img o d.sectors (suc k) (end - (k + 1)))) e
        ∙ sym (slots_next g img t d.sectors k (end - (k + 1)) c.kept.long)
        ∙ ap (slots_step g img t d.sectors k) (sym more)
        ∙ c.same

    -- a slot that passes does not repeat a name
    next-new : Passed g img t t' d.sectors k → suc k ≤ repeated
    next-new p = go (is_empty (image_slot g img d.sectors k).bytes) refl
      where
        go : (b : Bool) → is_empty (image_slot g img d.sectors k).bytes ≡ b → suc k ≤ repeated
        go true z = past-empty (bytes_of_track18 g img) d.sectors end k h c.new z
        go false z =
            let s = p.entry z in
            let n = new-name (bytes_of_track18 g img) d.sectors end k h c.new z s.name c.valid in
            let other = eqb-false k repeated (not-true _ (sym n ∙ eq-eqb _ 0 s.new)) in
            let low = c.new in
            omega arith

    pub checking-next : {used' : List ℕ} → where_fine (Ok tt) t' ≡ slot_step g img t d.sectors k → Masks g t'.owners used'
        → Checking g img t₀ d t' used' (k + 1)
    unfolding where_fine
    checking-next e masks =
        let p = passed g img t t' d.sectors k (sym e) in
        let z : k + 1 ≡ suc k = omega arith in
        let new = next-new p in
        record {
          within = omega arith;
          kept = record { size = c.kept.size; long = p.long ∙ c.kept.long; room = p.room ∙ c.kept.room; masks = masks };
          new = omega arith;
          valid = λ i l occupied. elim (dec_le k i) [
            | yes q ↦ (let w : i ≡ k = omega arith in rw w (p.entry (rw w at occupied)).name)
            | no q ↦ c.valid i (omega arith) occupied
          ];
          same = ap (λ (j : ℕ). slots_step g img t' d.sectors j (end - (k + 1))) z ∙ opened e;
        }

    pub checking-refused : (f : code.Fault) → where_fine (Err f) t' ≡ slot_step g img t d.sectors k
        → where_fine (Err f) t' ≡ slots_step g img t₀ d.sectors 0 (8 * d.count)
    unfolding where_fine
    checking-refused f e = opened e

  pub checking-end : 8 * d.count ≤ k → where_fine (Ok tt) t ≡ slots_step g img t₀ d.sectors 0 (8 * d.count)
  unfolding where_fine
  checking-end h =
      let none : end - k ≡ 0 = omega arith in
      sym (slots-none g img t d.sectors k) ∙ ap (slots_step g img t d.sectors k) (sym none) ∙ c.same
