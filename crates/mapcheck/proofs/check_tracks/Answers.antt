-- `mapcheck::check_tracks`. The loop keeps `Checking`: the tracks passed are correct, so that the rest decides.
-- Assumes nothing.
use native.Mathlib.Omega.{arith}
use Rattle.std.proofs.lemmas.Result.{err_from_is_err_and}
use Rattle.geometry.proofs.TableLaws.{known_of}
use Rattle.answers.specs.Faults.{verdict_of}
use Rattle.mapcheck.proofs.StepLaws.{checking-start, checking-moved, checking-wrong, checking-finished}
use Rattle.mapcheck.proofs.check_tracks.Goals as goal

pub loop-track-init : goal.loop-track-init
loop-track-init c = checking-start _ _ _

pub bounds-map-i : goal.bounds-map-i
bounds-map-i c = omega (arith, c.loop-track.invariant.low, c.last_track-last.ensures, (known_of c.args.layout).few)

pub bounds-used-i : goal.bounds-used-i
bounds-used-i c = omega (arith, c.loop-track.invariant.low, c.last_track-last.ensures, (known_of c.args.layout).few)

pub returns-in_err-check_track : goal.returns-in_err-check_track
unfolding verdict_of
returns-in_err-check_track c =
    let p = err_from_is_err_and c.from_residual.result c.from_residual.ensures.1 in
    rw (p.1, p.2)
    (checking-wrong c.loop-track.invariant (omega (arith, c.last_track-last.ensures)) c.in_err-check_track.ensures (omega arith) (omega arith))

pub loop-track-preserved : goal.loop-track-preserved
unfolding verdict_of
loop-track-preserved c =
    checking-moved c.loop-track.invariant (omega (arith, c.last_track-last.ensures)) c.in_ok-check_track.ensures (omega arith) (omega arith)

pub returns : goal.returns
unfolding verdict_of
returns c = checking-finished c.loop-track.invariant (omega (arith, c.last_track-last.ensures))
