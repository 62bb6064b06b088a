-- Room for an entry: what the empty slots and the free sectors of track 18 say of each slot and of each sector (01, Answer numbers: 14).
use Prim.Native.Nat.{◌+◌, ◌<◌}
use native.Mathlib.Omega.{arith}
use native.Mathlib.Decide.{dec_le}
use mathlib.Core.Path.{◌≡◌}
use mathlib.Core.Bool.{false}
use mathlib.Core.Logic.{◌↔◌}
use mathlib.Core.List.{List, [], ◌∷◌, map}
use lib.ListN.{length}
use borrow.Author.Tests.{eqb-false, ne_eqb}
use Rattle.d64spec.specs.Lists.{All, range}
use Rattle.d64spec.specs.Answers.{address}
use Rattle.d64spec.specs.Geometry.{Geometry, sector_number, sectors_of_track, sectors_on}
use Rattle.d64spec.specs.Image.{Disk}
use Rattle.d64spec.specs.Directory.{Slot, directory_sectors, is_empty, slots_from}
use Rattle.d64spec.specs.Owner.{claim_count, free_for_directory, is_free}
use Rattle.d64spec.specs.Store.{empty_slots}
use Rattle.d64spec.specs.Exact.{NoSlot}
use Rattle.d64spec.proofs.MapLaws.{filter_none, none-filter, range_all, range_at}
use Rattle.d64spec.proofs.SplitLaws.{all-mem}
use Rattle.d64spec.proofs.PlaceLaws.{all-of-mem}

module _ {A B : Type 0} (P : B → Type 0) (f : A → B) where
  of-all-map : (l : List A) → All P (map f l) → All (λ x. P (f x)) l
  of-all-map [] a = tt
  of-all-map (x ∷ l) a = (a.0, of-all-map l a.1)

  all_of_map : (l : List A) → All (λ x. P (f x)) l → All P (map f l)
  all_of_map [] a = tt
  all_of_map (x ∷ l) a = (a.0, all_of_map l a.1)

module _ (g : Geometry) (d : Disk) where
  -- the slots of the directory
  abbrev slots : List Slot
  slots = slots_from g d 0 (directory_sectors g d)

  -- no slot and no sector, exactly where both lists that a store looks in are empty
  no_slot-lists : NoSlot g d ↔ ((length (empty_slots g d) ≡ 0) × (length (free_for_directory g d) ≡ 0))
  unfolding empty_slots free_for_directory sectors_of_track
  no_slot-lists = (
    (λ n. (
      none-filter (λ s. is_empty s.bytes) slots (all-of-mem (λ s. is_empty s.bytes ≡ false) slots n.slots),
      none-filter (is_free g d) (map (λ s. address 18 s) (range 0 (sectors_on g 18)))
          (all_of_map (λ r. is_free g d r ≡ false) (λ s. address 18 s) (range 0 (sectors_on g 18))
          (range_all (λ s. is_free g d (address 18 s) ≡ false) 0 (sectors_on g 18) (λ s l u. ne_eqb (claim_count g d (sector_number g (address 18 s))) 0 (n.sectors s (omega arith))))),
    )),
    (λ h. record {
      slots = λ s m. all-mem (λ s. is_empty s.bytes ≡ false) m (filter_none (λ s. is_empty s.bytes) slots h.0);
      sectors = λ s l. eqb-false (claim_count g d (sector_number g (address 18 s))) 0
          (range_at (λ s. is_free g d (address 18 s) ≡ false) 0 (sectors_on g 18)
          (of-all-map (λ r. is_free g d r ≡ false) (λ s. address 18 s) (range 0 (sectors_on g 18)) (filter_none (is_free g d) (map (λ s. address 18 s) (range 0 (sectors_on g 18))) h.1)) s (omega arith) (omega arith));
    }),
  )

  -- the same of what a store asks
  pub no_slot-exact : NoSlot g d ↔ (0 < length (empty_slots g d) + length (free_for_directory g d) → ⊥)
  no_slot-exact = ((λ n h. let e = no_slot-lists.0 n in omega arith), (λ h. no_slot-lists.1 (omega arith, omega arith)))

  pub some-slot : (NoSlot g d → ⊥) ↔ (0 < length (empty_slots g d) + length (free_for_directory g d))
  some-slot = (
    (λ n. elim (dec_le 1 (length (empty_slots g d) + length (free_for_directory g d))) [
      | yes k ↦ k
      | no k ↦ absurd (n (no_slot-exact.1 k))
    ]),
    (λ h n. no_slot-exact.0 n h),
  )
