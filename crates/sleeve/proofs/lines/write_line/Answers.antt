-- `lines::write_line`: the digits of the two parts one behind the other, and LF.
use Rattle.sleeve.proofs.LineLaws.{line-written}
use Rattle.sleeve.proofs.lines.write_line.Goals as goal

pub returns : goal.returns
returns c = line-written c.args.first.now c.args.second.now c.args.text.now c.requires c.write_digits.ensures c.write_digits-2.ensures
