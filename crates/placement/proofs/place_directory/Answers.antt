-- `placement::place_directory`: the one place of track 18, if there is one. Assumes nothing.
use native.Mathlib.Omega.{arith}
use mathlib.Core.Path.{refl}
use Rattle.bam.specs.Bam.{entry_of}
use Rattle.placement.proofs.OrderLaws.{directory-placed, directory-full}
use Rattle.placement.proofs.place_directory.Goals as goal

pub returns-then-take_track-eq1 : goal.returns-then-take_track-eq1
unfolding entry_of
returns-then-take_track-eq1 c = directory-placed _ c.args.map.now _ _ c.take_track.ensures refl (omega arith) _ (omega arith)

pub returns : goal.returns
unfolding entry_of
returns c = directory-full _ c.args.map.now _ _ c.take_track.ensures refl (omega arith) (λ z. omega arith)
