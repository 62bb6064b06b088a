-- `diskcheck::claim_directory` meets its contract. The loop keeps: the sectors passed are claimed in the table that it began with.
-- The code does not look at the layout, and 18/0 has the same number in all.
use mathlib.Core.Path.{◌≡◌}
use Rattle.diskcheck.proofs.MaskLaws.{directory_claimed}
use Rattle.diskcheck.proofs.claim_directory.Given as goal

abbrev pub invariant-loop-s : goal.invariant-loop-s
invariant-loop-s l = l.own ≡ directory_claimed l.sectors l.s-index l.initial.own
