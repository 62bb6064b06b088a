-- `diskcheck::slots::check_slots` meets its contract. The loop keeps `Checking`: the slots from k on, with the tables as they are, give what all slots gave
-- at the start; and the masks go with the owners.
use native.Mathlib.Omega.{arith}
use Rattle.std.proofs.lemmas.Result.{err_from_is_err_and}
use Rattle.diskcheck.proofs.SlotsLaws.{checking-slot, checking-next, checking-refused, checking-end}
use Rattle.diskcheck.proofs.slots.check_slots.Goals as goal

pub check_slot-requires : goal.check_slot-requires
check_slot-requires c = checking-slot _ _ _ _ _ _ c.loop-k.invariant c.requires (omega arith) c.unwrap_or-first.ensures

pub returns-in_err-check_slot : goal.returns-in_err-check_slot
returns-in_err-check_slot c =
    let p = err_from_is_err_and c.from_residual.result c.from_residual.ensures.1 in
    let e = c.in_err-check_slot.ensures in
    record { step = rw (p.1, p.2) (checking-refused _ _ _ _ _ _ c.loop-k.invariant (omega arith) _ _ e.step); masks = e.masks }

pub loop-k-preserved : goal.loop-k-preserved
loop-k-preserved c =
    let e = c.in_ok-check_slot.ensures in
    checking-next _ _ _ _ _ _ c.loop-k.invariant (omega arith) _ e.step e.masks

pub returns : goal.returns
returns c = record { step = checking-end _ _ _ _ _ _ c.loop-k.invariant (omega arith); masks = c.loop-k.invariant.kept.masks }
