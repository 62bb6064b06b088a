-- `mapcheck::lowest_difference`: equal numbers differ in no bit; else the zeros of their exclusive or are counted. Assumes nothing.
use native.Mathlib.Omega.{arith}
use mathlib.Core.Path.{refl}
use Rattle.mapcheck.proofs.DifferenceLaws.{difference-none, difference-some}
use Rattle.mapcheck.proofs.lowest_difference.Goals as goal

pub returns-then-a-b : goal.returns-then-a-b
returns-then-a-b c = difference-none _ _ (omega arith)

pub returns : goal.returns
returns c = difference-some _ _ (λ e. c.if-a-b.false e) refl
