-- `bam::load_run`. The loop keeps `Loading`: with the entries that are left, the map becomes the one that the run makes. Assumes nothing.
use native.Mathlib.Omega.{arith}
use Rattle.bam.specs.MapSector.{four_bytes}
use Rattle.bam.proofs.LoadLaws.{loading-moved, loading-finished}
use Rattle.bam.proofs.load_run.Goals as goal

pub loop-i-preserved : goal.loop-i-preserved
unfolding four_bytes
loop-i-preserved c = loading-moved c.loop-i.invariant (omega arith) (omega arith)

pub returns : goal.returns
returns c = loading-finished c.loop-i.invariant (omega arith)
