-- `placement::place_sectors`. The loop keeps `Placing`: the free sectors of the tracks passed are at the start of the array. Assumes nothing.
use native.Mathlib.Omega.{arith}
use mathlib.Core.Path.{refl}
use Rattle.geometry.proofs.TableLaws.{known_of}
use Rattle.bam.specs.Bam.{entry_of}
use Rattle.placement.proofs.OrderLaws.{placing-start, placing-moved-to, placing-full, placing-finished}
use Rattle.placement.proofs.place_sectors.Goals as goal

pub overflow_sub-i-end : goal.overflow_sub-i-end
overflow_sub-i-end c = omega (arith, c.last_track-i-end.ensures, (known_of c.args.layout).many)

pub loop-i-init : goal.loop-i-init
loop-i-init c = placing-start _ (known_of c.args.layout) _ _ _ (omega arith)

pub returns-then-have-want : goal.returns-then-have-want
returns-then-have-want c = placing-full _ (known_of c.args.layout) c.loop-i.invariant (omega arith) (omega arith)

pub bounds-map-track : goal.bounds-map-track
bounds-map-track c =
    let o = c.track_at-track.ensures in
    omega (arith, o.low, o.high, (known_of c.args.layout).few)

pub loop-i-preserved : goal.loop-i-preserved
unfolding entry_of
loop-i-preserved c =
    let kn = known_of c.args.layout in
    placing-moved-to _ kn c.loop-i.invariant _ (omega (arith, c.loop-i.invariant.few)) (omega (arith, c.last_track-i-end.ensures, kn.many))
    c.track_at-track.ensures c.take_track-have.ensures refl (omega arith) refl

pub returns : goal.returns
returns c = placing-finished _ (known_of c.args.layout) c.loop-i.invariant (omega arith) (omega (arith, c.last_track-i-end.ensures))
