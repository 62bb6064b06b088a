-- `slots::write_slots`. The loop keeps `Lines`: the lines of the slots below k are written.
use Prim.Native.Nat.{◌+◌, ◌≤◌}
use native.Mathlib.Omega.{arith}
use mathlib.Core.Path.{◌∙◌, sym}
use lib.ListN.{length}
use Rattle.sleeve.proofs.SlotLineLaws.{lines_start, lines-empty, lines_fit, lines-moved, lines-finished}
use Rattle.sleeve.proofs.slots.write_slots.Goals as goal
use Rattle.sleeve.proofs.slots.write_slots.Goals.{then-not-is_empty, else-not-is_empty}

pub loop-k-init : goal.loop-k-init
loop-k-init c = lines_start c.requires

pub slice_bounds-write_slot-end : goal.slice_bounds-write_slot-end
slice_bounds-write_slot-end c =
    let room : c.loop-k.at + 43 ≤ length c.loop-k.text
    = lines_fit c.loop-k.invariant (omega arith) c.slot_at-slot.ensures (sym c.is_empty.ensures ∙ c.if-not-is_empty.true) in
    omega arith

pub loop-k-preserved : goal.loop-k-preserved
loop-k-preserved c =
    let slot = c.slot_at-slot.ensures in
    elim c.if-not-is_empty.branch [
      | then-not-is_empty w ↦
          lines-moved c.loop-k.invariant (omega arith) slot (sym c.is_empty.ensures ∙ w.if-not-is_empty.true) w.write_slot.ensures w.text-is w.at-is
      | else-not-is_empty w ↦
          lines-empty c.loop-k.invariant (omega arith) slot (sym c.is_empty.ensures ∙ w.if-not-is_empty.false) w.text-is w.at-is
    ]

pub returns : goal.returns
returns c = lines-finished c.loop-k.invariant (omega arith)
