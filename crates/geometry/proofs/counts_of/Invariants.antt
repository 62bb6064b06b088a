-- `geometry::counts_of`. The loop keeps `Counting`: the counts of the first tracks are laid. Assumes nothing.
use Rattle.geometry.specs.Layout.{geometry_of}
use Rattle.geometry.proofs.LentTableLaws.{Counting}
use Rattle.geometry.proofs.counts_of.Given as goal

abbrev pub invariant-loop-i : goal.invariant-loop-i
invariant-loop-i l = Counting (geometry_of l.fn.layout) l.counts l.i
