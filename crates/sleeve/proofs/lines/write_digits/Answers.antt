-- `lines::write_digits`. The loop keeps `Digits`: the digits of the first i bytes are written.
use native.Mathlib.Omega.{arith}
use Rattle.sleeve.proofs.LineLaws.{digits-start, digits-moved}
use Rattle.sleeve.proofs.lines.write_digits.Goals as goal

pub loop-i-init : goal.loop-i-init
loop-i-init c = digits-start _ _ c.requires

pub loop-i-preserved : goal.loop-i-preserved
loop-i-preserved c = digits-moved c.loop-i.invariant (omega arith) c.digit.ensures c.digit-in-loop-i.ensures
