-- `scratching::clear_chain` meets its contract. The loop keeps that the sectors passed are zeroed and free in the map, and that the others of the chain
-- are as they were. A chain has at most 769 sectors: those of them that are left fall.
use Prim.Native.Nat.{◌-◌}
use Rattle.geometry.specs.Layout.{geometry_of, address_of}
use Rattle.scratching.proofs.ClearingLaws.{Clearing}
use Rattle.scratching.proofs.clear_chain.Given as goal

abbrev pub invariant-loop-at : goal.invariant-loop-at
invariant-loop-at l = Clearing (geometry_of l.fn.layout) l.initial.img (address_of l.initial.at) (address_of l.at) l.img l.map l.sectors

abbrev pub decreases-loop-at : goal.decreases-loop-at
decreases-loop-at l = 769 - l.sectors
