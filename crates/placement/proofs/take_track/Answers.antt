-- `placement::take_track`. The loop keeps `Taking`: the bitmap halved for each sector passed, and those of them that are free at the start of the array.
-- What falls is the number of sectors not yet passed. Assumes nothing.
use native.Mathlib.Omega.{arith}
use mathlib.Core.Path.{refl}
use Rattle.geometry.proofs.TableLaws.{known_of}
use Rattle.bam.proofs.ShapeLaws.{entry-shaped}
use Rattle.placement.proofs.TrackLaws.{taking-start, taking-coming, taking-free, taking-used, taking-finished}
use Rattle.placement.proofs.take_track.Goals as goal

pub loop-n-init : goal.loop-n-init
loop-n-init c =
    taking-start _ (known_of c.args.layout) (entry-shaped _ _ c.well_formed.1.0) (omega (arith, c.bitmap_of-bits.ensures)) c.count_free-free.ensures
    (omega (arith, c.sectors_on-own.ensures)) (omega arith) (omega arith) (omega arith)

pub overflow_add-sector : goal.overflow_add-sector
overflow_add-sector c = let k = taking-coming _ (known_of c.args.layout) c.loop-n.invariant (omega arith) in omega arith

pub loop-n-smaller : goal.loop-n-smaller
loop-n-smaller c = let k = taking-coming _ (known_of c.args.layout) c.loop-n.invariant (omega arith) in omega arith

pub loop-n-preserved : goal.loop-n-preserved
loop-n-preserved c =
    let kn = known_of c.args.layout in
    let k = taking-coming _ kn c.loop-n.invariant (omega arith) in
    elim c.if-bits-eq1.branch [
      | goal.then-bits-eq1 w ↦ taking-free _ kn c.loop-n.invariant (omega arith) k w.if-bits-eq1.true w.at-is (omega arith) (omega arith) w.n-is refl refl
      | goal.else-bits-eq1 w ↦ taking-used _ kn c.loop-n.invariant (omega arith) k w.if-bits-eq1.false w.at-is w.n-is refl refl
    ]

pub returns : goal.returns
returns c = taking-finished _ (known_of c.args.layout) c.loop-n.invariant (omega (arith, c.bitmap_of-bits.ensures)) (omega arith)
