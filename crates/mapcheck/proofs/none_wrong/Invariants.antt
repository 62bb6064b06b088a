-- `mapcheck::none_wrong`. The loop keeps: where nothing differs so far, the tracks passed are correct (`Passing`).
-- Assumes nothing.
use mathlib.Core.Path.{◌≡◌}
use Rattle.geometry.specs.Layout.{geometry_of}
use Rattle.mapcheck.proofs.StepLaws.{Passing}
use Rattle.mapcheck.proofs.none_wrong.Given as goal

abbrev pub invariant-loop-i : goal.invariant-loop-i
invariant-loop-i l = l.wrong ≡ 0 → Passing (geometry_of l.layout) l.map l.used l.i
