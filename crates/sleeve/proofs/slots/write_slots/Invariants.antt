-- `slots::write_slots`. The loop keeps `Lines`: the lines of the slots below k are written.
use Rattle.sleeve.proofs.SlotLineLaws.{Lines}
use Rattle.sleeve.proofs.slots.write_slots.Given as goal

abbrev pub invariant-loop-k : goal.invariant-loop-k
invariant-loop-k l = Lines l.track18 l.read l.text l.at l.k
