-- `slots::check_slots`. The loop keeps `Counting`: the slots below k are without fault, and counted.
use native.Mathlib.Omega.{arith}
use mathlib.Core.Path.{◌∙◌, sym}
use Rattle.std.proofs.lemmas.Result.{err_from_is_err_and}
use Rattle.sleeve.proofs.CountLaws.{counting-empty, counting-refused, counting-moved, counting-finished}
use Rattle.sleeve.proofs.slots.check_slots.Goals as goal
use Rattle.sleeve.proofs.slots.check_slots.Goals.{then-not-is_empty+in_ok-check_entry, else-not-is_empty}

pub returns-in_err-check_entry : goal.returns-in_err-check_entry
returns-in_err-check_entry c =
    let p = err_from_is_err_and c.from_residual.result c.from_residual.ensures.1 in
    rw (p.1, p.2) (counting-refused c.loop-k.invariant (omega arith) c.slot_at-slot.ensures c.requires.first
    (sym c.is_empty.ensures ∙ c.if-not-is_empty.true) c.eq.ensures _ (rw c.in_err-check_entry.was at c.check_entry.ensures))

pub loop-k-preserved : goal.loop-k-preserved
loop-k-preserved c =
    let slot = c.slot_at-slot.ensures in
    elim c.if-not-is_empty.branch [
      | then-not-is_empty+in_ok-check_entry w ↦
          counting-moved c.loop-k.invariant (omega arith) slot c.requires.first (sym c.is_empty.ensures ∙ w.if-not-is_empty.true) w.eq.ensures
          (rw w.in_ok-check_entry.was at w.check_entry.ensures) w.files-is
      | else-not-is_empty w ↦ counting-empty c.loop-k.invariant (omega arith) slot (sym c.is_empty.ensures ∙ w.if-not-is_empty.false) w.files-is
    ]

pub returns : goal.returns
returns c = counting-finished c.loop-k.invariant (omega arith)
