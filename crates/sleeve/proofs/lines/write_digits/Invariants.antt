-- `lines::write_digits`. The loop keeps `Digits`: the digits of the first i bytes are written.
use Rattle.sleeve.proofs.LineLaws.{Digits}
use Rattle.sleeve.proofs.lines.write_digits.Given as goal

abbrev pub invariant-loop-i : goal.invariant-loop-i
invariant-loop-i l = Digits l.bytes l.text l.i
