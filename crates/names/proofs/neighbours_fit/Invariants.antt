-- `names::neighbours_fit` meets its contract. The loop keeps: no other byte stands behind a $A0 up to here, so that the neighbours from here on decide.
-- Assumes nothing.
use mathlib.Core.Path.{◌≡◌}
use lib.ListN.{drop}
use Rattle.d64spec.specs.Directory.{name_field}
use Rattle.names.specs.Names.{padded_once}
use Rattle.names.proofs.neighbours_fit.Given as goal

abbrev pub invariant-loop-i : goal.invariant-loop-i
invariant-loop-i l = padded_once (drop l.i (name_field l.slot)) ≡ padded_once (name_field l.slot)
