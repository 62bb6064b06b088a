-- `placement::place_sectors`. The loop keeps `Placing`: the free sectors of the tracks passed are at the start of the array. Assumes nothing.
use Rattle.geometry.specs.Layout.{geometry_of}
use Rattle.placement.proofs.OrderLaws.{Placing}
use Rattle.placement.proofs.place_sectors.Given as goal

abbrev pub invariant-loop-i : goal.invariant-loop-i
invariant-loop-i l = Placing (geometry_of l.layout) l.map l.initial.at l.want l.at l.have l.i
