-- Where a store puts its entry and its bytes: the first empty slot, else the lowest free sector of track 18, and the first free sectors in house order (01, Store).
use Prim.Native.Nat.{ℕ, zero, suc, ◌≤◌}
use native.Mathlib.Omega.{arith}
use mathlib.Core.Path.{◌≡◌, refl, ap, ◌∙◌}
use mathlib.Core.Bool.{Bool, true, false, cond}
use mathlib.Core.List.{List, [], ◌∷◌, ◌++◌}
use lib.ListN.{length, take}
use borrow.Author.Tests.{eqb-false, eqb-true}
use Rattle.d64spec.specs.Lists.{All, filter}
use Rattle.d64spec.specs.Answers.{Address, Result, ◌>>=◌, address, directory_full, done, first}
use Rattle.d64spec.specs.Geometry.{Geometry, allocation_order, sector_number, sectors_of_track, sectors_on}
use Rattle.d64spec.specs.Image.{Disk}
use Rattle.d64spec.specs.Directory.{Slot, directory_sectors, is_empty, slots_from}
use Rattle.d64spec.specs.Owner.{claim_count, free_for_directory, free_for_files, is_free}
use Rattle.d64spec.specs.Store.{SlotPlace, empty_slots, in_empty_slot, in_new_sector, placement, slot_place_for}
use Rattle.d64spec.specs.Facts.{FirstEmptySlot, FirstFree, LowestFree}
use Rattle.d64spec.proofs.ResultLaws.{refused≢done}
use Rattle.d64spec.proofs.ListLaws.{lowest}
use Rattle.d64spec.proofs.MapLaws.{filter_none}
use Rattle.d64spec.proofs.SplitLaws.{all-mem}

-- ---- lists

-- l up to the first element that passes the test
record FirstOf {A : Type 0} (p : A → Bool) (x : A) (l : List A) : Type 0 where
  front : List A
  back : List A
  whole : l ≡ front ++ x ∷ back
  passes : p x ≡ true
  before : All (λ y. p y ≡ false) front

-- l up to the k-th element that passes the test
record Front {A : Type 0} (p : A → Bool) (k : ℕ) (l : List A) : Type 0 where
  front : List A
  back : List A
  whole : l ≡ front ++ back
  taken : take k (filter p l) ≡ filter p front
  many : length (filter p front) ≡ k

module _ {A : Type 0} (p : A → Bool) where
  filter-first : (l : List A) (x : A) (m : List A) → filter p l ≡ x ∷ m → FirstOf p x l
  filter-first [] x m e = absurd (let z : ◌≡◌ {A = ℕ} 0 1 = cc in omega arith)
  filter-first (y ∷ l) x m e = go (p y) refl (λ e'. filter-first l x m e') e
    where
      go : (b : Bool) → p y ≡ b → (filter p l ≡ x ∷ m → FirstOf p x l) → cond b (y ∷ filter p l) (filter p l) ≡ x ∷ m → FirstOf p x (y ∷ l)
      go true t rest e' = let same : y ≡ x = cc in record { front = []; back = l; whole = ap (λ (z : A). z ∷ l) same; passes = rw (← same) t; before = tt }
      go false t rest e' =
          let r = rest e' in
          record { front = y ∷ r.front; back = r.back; whole = ap (λ (z : List A). y ∷ z) r.whole; passes = r.passes; before = (t, r.before) }

  front-with : (x : A) (l : List A) (k : ℕ) → p x ≡ true → Front p k l → Front p (suc k) (x ∷ l)
  front-with x l k t r = record {
    front = x ∷ r.front;
    back = r.back;
    whole = ap (λ (z : List A). x ∷ z) r.whole;
    taken = rw t (ap (λ (z : List A). x ∷ z) r.taken);
    many = rw t (ap suc r.many);
  }

  front-past : (x : A) (l : List A) (k : ℕ) → p x ≡ false → Front p k l → Front p k (x ∷ l)
  front-past x l k t r = record { front = x ∷ r.front; back = r.back; whole = ap (λ (z : List A). x ∷ z) r.whole; taken = rw t r.taken; many = rw t r.many }

  filter-front : (l : List A) (k : ℕ) → k ≤ length (filter p l) → Front p k l
  filter-front [] zero h = record { front = []; back = []; whole = refl; taken = refl; many = refl }
  filter-front [] (suc k) h = absurd (omega arith)
  filter-front (x ∷ l) zero h = record { front = []; back = x ∷ l; whole = refl; taken = refl; many = refl }
  filter-front (x ∷ l) (suc k) h = go (p x) refl (λ n h'. filter-front l n h') h
    where
      go : (b : Bool) → p x ≡ b → ((n : ℕ) → n ≤ length (filter p l) → Front p n l) → suc k ≤ length (cond b (x ∷ filter p l) (filter p l)) → Front p (suc k) (x ∷ l)
      go true t rest h' = front-with x l k t (rest k (omega arith))
      go false t rest h' = front-past x l (suc k) t (rest (suc k) h')

module _ (g : Geometry) (d : Disk) where
  -- the place that these empty slots and these free sectors give
  abbrev place_of : List Slot → List Address → Result SlotPlace
  place_of x y = elim x [ [] ↦ first directory_full y >>= (λ r. done (in_new_sector r)) | s ∷ l ↦ done (in_empty_slot s) ]

  place-slot : (x : List Slot) (y : List Address) (s : Slot) → place_of x y ≡ done (in_empty_slot s) → (l : List Slot) × (x ≡ s ∷ l)
  unfolding first
  place-slot [] [] s e = refused≢done directory_full (in_empty_slot s) e
  place-slot [] (r ∷ y) s e = absurd (let z : ◌≡◌ {A = ℕ} 0 1 = cc in omega arith)
  place-slot (q ∷ l) y s e = let same : q ≡ s = cc in (l, ap (λ (z : Slot). z ∷ l) same)

  place-sector : (x : List Slot) (y : List Address) (r : Address) → place_of x y ≡ done (in_new_sector r) → (length x ≡ 0) × ((l : List Address) × (y ≡ r ∷ l))
  unfolding first
  place-sector [] [] r e = refused≢done directory_full (in_new_sector r) e
  place-sector [] (q ∷ l) r e = let same : q ≡ r = cc in (refl, (l, ap (λ (z : Address). z ∷ l) same))
  place-sector (s ∷ l) y r e = absurd (let z : ◌≡◌ {A = ℕ} 0 1 = cc in omega arith)

  -- THE FIRST EMPTY SLOT
  pub first-empty-slot : (s : Slot) → slot_place_for g d ≡ done (in_empty_slot s) → FirstEmptySlot g d s
  unfolding slot_place_for empty_slots
  first-empty-slot s e =
      let w = place-slot (empty_slots g d) (free_for_directory g d) s e in
      let r = filter-first (λ s. is_empty s.bytes) (slots_from g d 0 (directory_sectors g d)) s w.0 w.1 in
      record { front = r.front; back = r.back; whole = r.whole; empty = r.passes; before = r.before }

  -- ELSE THE LOWEST FREE SECTOR OF TRACK 18
  pub lowest-free-sector : (r : Address) → slot_place_for g d ≡ done (in_new_sector r) → LowestFree g d r
  unfolding slot_place_for empty_slots free_for_directory sectors_of_track
  lowest-free-sector r e =
      let w = place-sector (empty_slots g d) (free_for_directory g d) r e in
      let full = filter_none (λ s. is_empty s.bytes) (slots_from g d 0 (directory_sectors g d)) w.0 in
      let low = lowest (is_free g d) (λ s. address 18 s) 0 (sectors_on g 18) r w.1.0 w.1.1 in
      record {
        full = λ s m. all-mem (λ s. is_empty s.bytes ≡ false) m full;
        sector = low.number;
        is_that = low.element;
        on_track = omega (arith, low.high);
        free = eqb-true (claim_count g d (sector_number g (address 18 low.number))) 0 low.passes;
        lower = λ s h. eqb-false (claim_count g d (sector_number g (address 18 s))) 0 (low.lower s (omega arith) h);
      }

  -- THE FIRST k FREE SECTORS IN HOUSE ORDER: no free sector that comes earlier is passed over
  pub placement-first : (k : ℕ) → k ≤ length (free_for_files g d) → FirstFree g d k (placement g d k)
  unfolding placement free_for_files
  placement-first k h =
      let r = filter-front (is_free g d) (allocation_order g) k h in
      record { front = r.front; back = r.back; whole = r.whole; taken = r.taken; many = ap length r.taken ∙ r.many }
