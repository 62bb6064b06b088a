-- `mapcheck::check_tracks`. The loop keeps `Checking`: the tracks passed are correct, so that the rest decides.
-- Assumes nothing.
use Rattle.geometry.specs.Layout.{geometry_of}
use Rattle.mapcheck.proofs.StepLaws.{Checking}
use Rattle.mapcheck.proofs.check_tracks.Given as goal

abbrev pub invariant-loop-track : goal.invariant-loop-track
invariant-loop-track l = Checking (geometry_of l.layout) l.map l.used l.track
