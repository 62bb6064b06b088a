-- One occupied slot: its entry, then its chain and its count (01, Order of the check, 3).
-- In order: the chain and the count, as the code has them; the slot, and its entry before them. All slots: proofs/SlotsLaws.
use Prim.Native.Nat.{ℕ, ◌/◌}
use mathlib.Core.Path.{◌≡◌, refl, sym, ap, ap₂, ◌∙◌}
use mathlib.Core.Bool.{Bool, true, false}
use mathlib.Core.List.{List, map}
use lib.ListN.{length, get_or, set}
use lib.Dec.{eqb}
use Rattle.std.specs.Prelude.{Result as CodeResult, Ok, Err}
use borrow.Author.Tests.{eq-eqb, ne_eqb}
use Rattle.d64spec.specs.Lists.{Bytes}
use Rattle.d64spec.specs.Answers.{Address, address, Fault, wrong_count, Result, refused, done, ◌>>=◌, ◌>>◌, need}
use Rattle.d64spec.specs.Geometry.{Geometry, sector_number}
use Rattle.d64spec.specs.Directory.{Slot, is_empty, entry_byte, count_of, first_link}
use Rattle.d64spec.specs.Check.{check_entry, check_slot}
use Rattle.answers.specs.declared.Place.{Place}
use Rattle.answers.specs.declared.Fault as code
use Rattle.answers.specs.declared.Fault.TheVariants.{WrongCount}
use Rattle.answers.specs.Faults.{sector_of, fault_of, result_of, verdict_of, where_fine}
use Rattle.owners.specs.OwnerTable.{with_owner, file_owner}
use Rattle.directory.specs.declared.Directory.{Directory}
use Rattle.directory.specs.Directories.{entry_verdict}
use Rattle.directory.proofs.EntryLaws.{number_at, holder-at, entry-verdict}
use Rattle.diskcheck.specs.EndTable.{end_of}
use Rattle.diskcheck.specs.Chains.{Claimed, claimed, claim_of, chain_walk}
use Rattle.diskcheck.specs.declared.chain.Claim.{Claim}
use Rattle.diskcheck.specs.SlotChecks.{image_slot, image_names, Tables, tables, tables_with, check_chain, file_step, slot_step, SlotReady}

-- ---- the chain, then the count

-- a claim's tables, once the count is compared: the end goes to the slot of that number
counted : ℕ → List ℕ → ℕ → Fault → Result Claimed → Result Tables
counted number ends n f r =
    r >>= (λ c. need (eqb n c.count) f >> done (tables c.table (set ends number c.end)))

counted-claimed : (g : Geometry) (img : Bytes) (number : ℕ) (t : Tables) (n : ℕ) (f : Fault) (w : Result (List Address))
    → counted number t.ends n f (claimed g img (file_owner number) t.owners w)
    ≡ tables_with g img number t (w >>= (λ l. need (eqb n (length l)) f >> done l))
unfolding counted claimed tables_with
counted-claimed g img number t n f (refused e) = refl
counted-claimed g img number t n f (done l) = go (eqb n (length l))
  where
    owners : List ℕ
    owners = with_owner (file_owner number) (map (sector_number g) l) t.owners

    go : (b : Bool) → (need b f >> done (tables owners (set t.ends number (end_of g img l)))) ≡ tables_with g img number t (need b f >> done l)
    go true = refl
    go false = refl

-- the definition's walk of the chain of the file with bytes b at a place
abbrev walked : Geometry → Bytes → List ℕ → Bytes → Place → Result (List Address)
walked g img own b at = chain_walk g img own (sector_of at) at.slot (entry_byte b 0x03) (entry_byte b 0x04)

-- what the claim of that chain answers
abbrev Claims : Geometry → Bytes → List ℕ → List ℕ → Bytes → Place → CodeResult Claim code.Fault → Type 0
Claims g img own own' b at c = claim_of c own' ≡ claimed g img (file_owner at.slot) own (walked g img own b at)

module _ (g : Geometry) (img : Bytes) (t : Tables) (own' b : List ℕ) (at : Place) where
  file-counted : (c : CodeResult Claim code.Fault) → Claims g img t.owners own' b at c
      → counted at.slot t.ends (count_of b) (wrong_count (sector_of at) at.slot) (claim_of c own') ≡ file_step g img t b (sector_of at) at.slot
  unfolding file_step check_chain
  file-counted c e =
      ap (counted at.slot t.ends (count_of b) (wrong_count (sector_of at) at.slot)) e
      ∙ counted-claimed g img at.slot t (count_of b) (wrong_count (sector_of at) at.slot) (walked g img t.owners b at)

  -- a refused chain is the file's fault
  pub file-refused : (ends' : List ℕ) (f : code.Fault) → Claims g img t.owners own' b at (Err f)
      → where_fine (Err f) (tables own' ends') ≡ file_step g img t b (sector_of at) at.slot
  unfolding result_of where_fine counted
  file-refused ends' f e = file-counted (Err f) e

  module _ (n end : ℕ) (ended : Claims g img t.owners own' b at (Ok (record { count = n; end = end }))) where
    -- a chain whose sectors are as many as the slot says: its end is noted at the slot's number
    pub file-fine : count_of b ≡ n → {k x : ℕ} → x ≡ end → k ≡ at.slot
        → where_fine (Ok tt) (tables own' (set t.ends k x)) ≡ file_step g img t b (sector_of at) at.slot
    unfolding result_of where_fine counted
    file-fine same is number = rw (is, number) (sym (rw (eq-eqb (count_of b) n same)) ∙ file-counted (Ok (record { count = n; end = end })) ended)

    -- or not
    pub file-miscounted : (ends' : List ℕ) → (count_of b ≡ n → ⊥)
        → where_fine (Err (WrongCount at)) (tables own' ends') ≡ file_step g img t b (sector_of at) at.slot
    unfolding result_of where_fine counted fault_of
    file-miscounted ends' other = sym (rw (ne_eqb (count_of b) n other)) ∙ file-counted (Ok (record { count = n; end = end })) ended

-- ---- the slot

-- the directory sector that holds slot k
abbrev holder_of : List ℕ → ℕ → Address
holder_of ss k = address 18 (get_or ss (k / 8) 0)

tables_with-then : (g : Geometry) (img : Bytes) (number : ℕ) (t : Tables) (x : Result (Unit {0})) (y : Result (List Address))
    → tables_with g img number t (x >> y) ≡ (x >> tables_with g img number t y)
unfolding tables_with
tables_with-then g img number t (refused f) y = refl
tables_with-then g img number t (done u) y = refl

module _ (g : Geometry) (img : Bytes) (t : Tables) {used : List ℕ} (d : Directory) (b : List ℕ) (k : ℕ) {repeated : Bool} (ready : SlotReady g img t used d k repeated)
    (is : b ≡ (image_slot g img d.sectors k).bytes) where
  -- nothing happens at an empty slot
  pub slot-empty : get_or b 0 0 ≡ 0 → where_fine (Ok tt) t ≡ slot_step g img t d.sectors k
  unfolding slot_step where_fine
  slot-empty h = let e : is_empty (image_slot g img d.sectors k).bytes ≡ true = eq-eqb _ _ (ap (λ (x : Bytes). get_or x 0 0) (sym is) ∙ h) in sym (rw e)

  module _ (occupied : get_or b 0 0 ≡ 0 → ⊥) where
    -- an occupied slot is its entry, then its chain and its count
    slot-occupied : (entry_verdict b (holder_of d.sectors k) k repeated >> file_step g img t b (holder_of d.sectors k) k) ≡ slot_step g img t d.sectors k
    unfolding slot_step check_slot check_chain chain_walk first_link file_step
    slot-occupied =
        let s : Slot = image_slot g img d.sectors k in
        let own : List ℕ = t.owners in
        let e : is_empty s.bytes ≡ false = ne_eqb _ _ (λ z. occupied (ap (λ (x : Bytes). get_or x 0 0) is ∙ z)) in
        sym (rw e (tables_with-then g img k t (check_entry (image_names g img d.sectors k) s) (check_chain g img own s.bytes s.holder s.number)
        ∙ ap (λ (v : Result (Unit {0})). v >> tables_with g img k t (check_chain g img own s.bytes s.holder s.number))
        (entry-verdict (image_names g img d.sectors k) s repeated (ready.name e))
        ∙ ap (λ (n : ℕ). entry_verdict s.bytes s.holder n repeated >> tables_with g img k t (check_chain g img own s.bytes s.holder n))
        (number_at _ d.sectors k)
        ∙ ap₂ (λ (x : Bytes) (r : Address). entry_verdict x r k repeated >> file_step g img t x r k) (sym is) (holder-at _ d.sectors k)))

    -- a refused entry
    pub entry-refused : (t' : Tables) (f : code.Fault) → verdict_of (Err f) ≡ entry_verdict b (holder_of d.sectors k) k repeated
        → where_fine (Err f) t' ≡ slot_step g img t d.sectors k
    unfolding verdict_of where_fine
    entry-refused t' f e = ap (λ (v : Result (Unit {0})). v >> file_step g img t b (holder_of d.sectors k) k) e ∙ slot-occupied

    -- an entry that passes, and what its chain and its count give
    pub entry-fine : (t' : Tables) (v : CodeResult (Unit {0}) code.Fault) → verdict_of (Ok tt) ≡ entry_verdict b (holder_of d.sectors k) k repeated
        → where_fine v t' ≡ file_step g img t b (holder_of d.sectors k) k → where_fine v t' ≡ slot_step g img t d.sectors k
    unfolding verdict_of
    entry-fine t' v e h = h ∙ ap (λ (v : Result (Unit {0})). v >> file_step g img t b (holder_of d.sectors k) k) e ∙ slot-occupied
