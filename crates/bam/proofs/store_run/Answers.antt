-- `bam::store_run`. The loop keeps `Storing`: with the entries that are left, the sector becomes the one that the run makes. Assumes nothing.
use Prim.Native.Nat.{◌+◌, ◌-◌, ◌*◌}
use native.Mathlib.Omega.{arith}
use Rattle.bam.proofs.SaveLaws.{storing-moved, storing-finished}
use Rattle.bam.proofs.store_run.Goals as goal

pub loop-i-preserved : goal.loop-i-preserved
loop-i-preserved c =
    let a = c.args in
    storing-moved c.loop-i.invariant (omega arith) {a = a.at + 4 * (c.loop-i.i - a.first)} c.store_entry.ensures (omega arith) (omega arith)

pub returns : goal.returns
returns c = storing-finished c.loop-i.invariant (omega arith)
