-- `directory::walk::walk_directory` meets its contract. The loop keeps `Walks`: the rest of the definition's walk, from the link to 18/next
-- that 18/holder holds, gives the outcome; and the used sectors of track 18 are the table's. What falls is the number of sectors of 18/1 to 18/18
-- that have no owner.
use mathlib.Core.Path.{◌≡◌}
use Rattle.d64spec.specs.Answers.{address}
use Rattle.d64spec.specs.Chain.{to}
use Rattle.owners.specs.Masks.{owned_mask}
use Rattle.directory.specs.Walks.{directory_walk}
use Rattle.directory.proofs.WalkLaws.{Walks, free_places}
use Rattle.directory.proofs.walk.walk_directory.Given as goal

abbrev pub invariant-loop-own : goal.invariant-loop-own
invariant-loop-own l =
    Walks l.track18 (directory_walk l.track18 l.initial.own) l.own l.sectors l.count l.holder (to (address 18 l.next)) × (l.used ≡ owned_mask l.own 0 19)

abbrev pub decreases-loop-own : goal.decreases-loop-own
decreases-loop-own l = free_places l.own
