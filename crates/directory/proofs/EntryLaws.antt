-- What the check and the sleeve listing ask of an occupied slot, as the code asks it (01, Order of the check, 3). Assumes nothing.
use Prim.Native.Nat.{ℕ, ◌/◌, ◌≤◌, ◌<◌}
use native.Mathlib.Omega.{arith}
use mathlib.Core.Path.{◌≡◌, refl, ap, ◌∙◌}
use mathlib.Core.Bool.{Bool, true, false, not}
use mathlib.Core.List.{List}
use lib.ListN.{get_or}
use lib.Dec.{eqb}
use Rattle.d64spec.specs.Lists.{Bytes, name_count}
use Rattle.d64spec.specs.Answers.{address, bad_type, bad_name, duplicate_name, Result, ◌>>◌, need}
use Rattle.d64spec.specs.Directory.{Slot, is_empty, entry_byte, name_of, slot_in, valid_type, valid_name}
use Rattle.d64spec.specs.Check.{check_entry}
use Rattle.directory.specs.Directories.{slot_at, slot_bytes, names_below, first_repeated, entry_verdict}
use Rattle.directory.proofs.RepeatLaws.{ValidBelow, new-name}

pub number_at : (b ss : List ℕ) (k : ℕ) → (slot_at b ss k).number ≡ k
unfolding slot_at slot_in
number_at b ss k = omega arith

pub holder-at : (b ss : List ℕ) (k : ℕ) → (slot_at b ss k).holder ≡ address 18 (get_or ss (k / 8) 0)
unfolding slot_at slot_in
holder-at b ss k = refl

-- the entry's verdict is the definition's, where `repeated` says whether an earlier slot has the name
pub entry-verdict : (names : List Bytes) (s : Slot) (repeated : Bool) → (valid_name s.bytes ≡ true → eqb (name_count (name_of s.bytes) names) 0 ≡ not repeated)
    → check_entry names s ≡ entry_verdict s.bytes s.holder s.number repeated
unfolding entry_verdict check_entry
entry-verdict names s repeated h = ap (λ (r : Result (Unit {0})). need (valid_type (entry_byte s.bytes 0x02)) (bad_type s.holder s.number) >> r) (go (valid_name s.bytes) refl)
  where
    go : (v : Bool) → valid_name s.bytes ≡ v
        → (need v (bad_name s.holder s.number) >> need (eqb (name_count (name_of s.bytes) names) 0) (duplicate_name s.holder s.number))
        ≡ (need v (bad_name s.holder s.number) >> need (not repeated) (duplicate_name s.holder s.number))
    go true e = ap (λ (t : Bool). need t (duplicate_name s.holder s.number)) (h e)
    go false e = refl

module _ (b : Bytes) (ss : List ℕ) (n k : ℕ) (within : k < n) (new : k ≤ first_repeated b ss 0 n) (below : ValidBelow b ss k) (occupied : is_empty (slot_bytes b ss k) ≡ false) where
  -- AN OCCUPIED SLOT: the definition's verdict, with the names below it, is that of the code, which asks whether it is the first repeated one
  pub entry_at : check_entry (names_below b ss k) (slot_at b ss k) ≡ entry_verdict (slot_bytes b ss k) (address 18 (get_or ss (k / 8) 0)) k (eqb k (first_repeated b ss 0 n))
  entry_at =
      entry-verdict (names_below b ss k) (slot_at b ss k) (eqb k (first_repeated b ss 0 n)) (λ valid. new-name b ss n k within new occupied valid below)
      ∙ ap (λ (r : _). entry_verdict (slot_bytes b ss k) r (slot_at b ss k).number (eqb k (first_repeated b ss 0 n))) (holder-at b ss k)
      ∙ ap (λ (i : ℕ). entry_verdict (slot_bytes b ss k) (address 18 (get_or ss (k / 8) 0)) i (eqb k (first_repeated b ss 0 n))) (number_at b ss k)
