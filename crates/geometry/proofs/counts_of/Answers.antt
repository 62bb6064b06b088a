-- `geometry::counts_of`. The loop keeps `Counting`: the counts of the first tracks are laid. Assumes nothing.
use native.Mathlib.Omega.{arith}
use mathlib.Core.Path.{refl}
use Rattle.geometry.proofs.LentTableLaws.{counting-start, counting-moved, counting-finished}
use Rattle.geometry.proofs.counts_of.Goals as goal

pub loop-i-init : goal.loop-i-init
loop-i-init c = counting-start _ refl

pub loop-i-preserved : goal.loop-i-preserved
loop-i-preserved c = counting-moved c.loop-i.invariant (omega arith) (omega (arith, c.sectors_on.ensures))

pub returns : goal.returns
returns c = counting-finished c.args.layout c.loop-i.invariant (omega arith)
