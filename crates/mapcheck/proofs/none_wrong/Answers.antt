-- `mapcheck::none_wrong`. The loop keeps: where nothing differs so far, the tracks passed are correct (`Passing`).
-- Assumes nothing.
use native.Mathlib.Omega.{arith}
use mathlib.Core.Path.{ap, sym, ◌∙◌}
use borrow.Author.Tests.{eqb-true}
use Rattle.bam.specs.MapEntry.{free_in}
use Rattle.geometry.proofs.TableLaws.{known_of}
use Rattle.mapcheck.proofs.TrackLaws.{track-right, nothing-differs}
use Rattle.mapcheck.proofs.StepLaws.{passing-moved, passing-finished}
use Rattle.mapcheck.proofs.none_wrong.Goals as goal

pub bounds-map-i : goal.bounds-map-i
bounds-map-i c = omega (arith, c.last_track-last.ensures, (known_of c.args.layout).few)

pub bounds-used-i : goal.bounds-used-i
bounds-used-i c = omega (arith, c.last_track-last.ensures, (known_of c.args.layout).few)

pub loop-i-preserved : goal.loop-i-preserved
loop-i-preserved c none =
    let same = nothing-differs _ _ _ _ _ none in
    let count = c.count_free-count.ensures ∙ ap (free_in _) (c.sectors_on-in-loop-i.ensures ∙ sym c.sectors_on.ensures) in
    passing-moved (c.loop-i.invariant same.0)
    (track-right _ (known_of c.args.layout) _ _ _ c.sectors_on.ensures count c.sectors_of-sectors.ensures same.1 same.2)
    (omega arith) (omega arith) (omega arith)

pub returns : goal.returns
returns c = record {
  fine = λ right. passing-finished (c.loop-i.invariant (omega (arith, eqb-true))) (omega (arith, c.last_track-last.ensures, (known_of c.args.layout).few));
}
