-- `slots::check_slots`. The loop keeps `Counting`: the slots below k are without fault, and counted.
use Rattle.sleeve.proofs.CountLaws.{Counting}
use Rattle.sleeve.proofs.slots.check_slots.Given as goal

abbrev pub invariant-loop-k : goal.invariant-loop-k
invariant-loop-k l = Counting l.track18 l.read l.files l.k
