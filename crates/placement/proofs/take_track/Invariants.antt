-- `placement::take_track`. The loop keeps `Taking`: the bitmap halved for each sector passed, and those of them that are free at the start of the array.
-- What falls is the number of sectors not yet passed. Assumes nothing.
use Prim.Native.Nat.{◌-◌}
use Rattle.d64spec.specs.Geometry.{sectors_on}
use Rattle.geometry.specs.Layout.{geometry_of}
use Rattle.placement.proofs.TrackLaws.{Taking}
use Rattle.placement.proofs.take_track.Given as goal

abbrev pub invariant-loop-n : goal.invariant-loop-n
invariant-loop-n l = Taking (geometry_of l.fn.layout) l.initial.bits l.track l.initial.at l.end l.at l.bits l.n l.sector

abbrev pub decreases-loop-n : goal.decreases-loop-n
decreases-loop-n l = sectors_on (geometry_of l.fn.layout) l.track - l.sector
