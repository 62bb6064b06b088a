-- `diskcheck::slots::check_slots` meets its contract. The loop keeps `Checking`: the slots from k on, with the tables as they are, give what all slots gave
-- at the start; and the masks go with the owners.
use Rattle.geometry.specs.Layout.{geometry_of}
use Rattle.diskcheck.specs.SlotChecks.{tables}
use Rattle.diskcheck.proofs.SlotsLaws.{Checking}
use Rattle.diskcheck.proofs.slots.check_slots.Given as goal

abbrev pub invariant-loop-k : goal.invariant-loop-k
invariant-loop-k l =
    Checking (geometry_of l.layout) l.img (tables l.initial.own l.initial.ends) l.directory (tables l.own l.ends) l.used l.k
