-- `directory::slot_at` meets its contract: the part of track 18 where it is whole, else the slot of the sector as far as there is one.
-- Assumes nothing.
use mathlib.Core.Path.{◌≡◌, sym}
use Prim.Native.Nat.{◌/◌}
use native.Mathlib.Omega.{arith}
use native.Mathlib.Nat.{add-sub_cancel_left}
use Rattle.std.proofs.lemmas.Grind.{common_steps}
use lib.ListN.{get_or}
use Rattle.directory.proofs.SlotBytesLaws.{is_slot-part, is_slot-sector}
use Rattle.directory.proofs.slot_at.Goals as goal
use Rattle.directory.proofs.slot_at.Goals.{In-Some}

-- the directory's sector
held : (c : In-Some) → get_or c.args.sectors.now (c.args.k / 8) 0 ≡ c.in-Some.field-0.now
held c = grind (arith, common_steps)

pub returns-in_default : goal.returns-in_default
returns-in_default c =
    let past : get_or c.args.sectors.now (c.args.k / 8) 0 ≡ 0 = grind (arith, common_steps) in
    is_slot-sector _ _ _ 0 (sym past) c.sector.ensures.bytes c.slot.ensures

pub returns-then-start-track18 : goal.returns-then-start-track18
returns-then-start-track18 c =
    let h = held (goal.at.returns-then-start-track18 c).In-Some in
    rw (← h, add-sub_cancel_left) (is_slot-part _ _ _)

pub returns : goal.returns
returns c = is_slot-sector _ _ _ _ (sym (held (goal.at.returns c).In-Some)) c.sector-2.ensures.bytes c.slot-2.ensures
