-- The calls in the layout that a number names (02, §8): each theorem over a layout holds of it. Demand 2 for the layout named; demand 3 for a list whose calls
-- all name one layout. That 17 comes first: proofs/LayoutOrder.
use Prim.Native.Nat.{ℕ, zero, suc, ◌+◌, ◌-◌}
use native.Mathlib.Omega.{arith}
use mathlib.Core.Path.{◌≡◌, refl, subst}
use mathlib.Core.Logic.{◌↔◌}
use mathlib.Core.List.{List}
use Rattle.d64spec.specs.Lists.{Bytes}
use Rattle.d64spec.specs.Answers.{done}
use Rattle.d64spec.specs.Geometry.{Geometry, total}
use Rattle.d64spec.specs.Layouts.{layout_numbered, sizes_of}
use Rattle.d64spec.specs.Accepted.{Accepted}
use Rattle.d64spec.specs.Call.{Call, check, perform}
use Rattle.d64spec.specs.Host.{host_call, perform_in, host_call_in}
use Rattle.d64spec.specs.Facts.{DemandTwo}
use Rattle.d64spec.specs.Run.{Request, RunHolds}
use Rattle.d64spec.proofs.LayoutLaws.{known, sectors-in, tracks-in}
use Rattle.d64spec.proofs.OwnerExact.{accepted-owners, check-owners}
use Rattle.d64spec.proofs.RunTheorem.{every-run}

-- a host call that names a layout is the host call in that layout
pub call-in : (n : ℕ) (g : Geometry) → layout_numbered n ≡ done g → (img block : Bytes) (c : Call) → host_call_in n img block c ≡ host_call g img block c
unfolding host_call_in host_call perform_in perform
call-in n g e img block c = rw e refl

-- the same of a call's reply
pub perform-in : (n : ℕ) (g : Geometry) → layout_numbered n ≡ done g → (img : Bytes) (c : Call) → perform_in n img c ≡ perform g img c
unfolding perform_in perform
perform-in n g e img c = rw e refl

-- DEMAND 2 FOR THE LAYOUT NAMED, of 35 tracks and 683 sectors or of 40 and 768: accepted exactly when it holds
pub accepted-owners-in : (n : ℕ) (g : Geometry) → layout_numbered n ≡ done g → (img : Bytes)
    → Accepted g img ↔ DemandTwo g (sizes_of n).track_total (sizes_of n).sector_total img
accepted-owners-in n g e img = rw (tracks-in n g e, sectors-in n g e) at (accepted-owners g (known n g e).valid img)

-- and a check that names the layout answers 0 exactly then
pub check-owners-in : (n : ℕ) (g : Geometry) → layout_numbered n ≡ done g → (img : Bytes)
    → ((perform_in n img check).answer.number ≡ 0) ↔ DemandTwo g (sizes_of n).track_total (sizes_of n).sector_total img
check-owners-in n g e img = rw (perform-in n g e img check) (rw (tracks-in n g e, sectors-in n g e) at (check-owners g (known n g e).valid img))

-- DEMAND 3 in every layout
pub demand-3-in : (n : ℕ) (g : Geometry) → layout_numbered n ≡ done g → (img : Bytes) (l : List Request) → Accepted g img → RunHolds g (total g - 2) img l
demand-3-in n g e img l a = every-run g (known n g e).valid img l a

-- the bound in the papers' numbers: 681 for layout 0, 766 for the others
pub demand-3-bound : (n : ℕ) (g : Geometry) → layout_numbered n ≡ done g → (img : Bytes) (l : List Request)
    → Accepted g img → RunHolds g (sizes_of n).longest_chain img l
demand-3-bound n g e img l a = subst (λ (k : ℕ). RunHolds g k img l) (omega (arith, sectors-in n g e, longest n)) (demand-3-in n g e img l a)
  where
    longest : (n : ℕ) → (sizes_of n).longest_chain + 2 ≡ (sizes_of n).sector_total
    longest zero = refl
    longest (suc n) = refl
