-- `directory::repeats::first_of` meets its contract. The loop keeps `Searching`: the pairs held are the names passed, their hashes are seen, and none of
-- them repeats an earlier one. Assumes nothing.
use Rattle.directory.proofs.SearchLaws.{Searching}
use Rattle.directory.proofs.repeats.first_of.Given as goal

abbrev pub invariant-loop-k : goal.invariant-loop-k
invariant-loop-k g l = Searching l.track18 l.sectors l.end g.row.N g.row.H l.seen l.names l.n l.k
