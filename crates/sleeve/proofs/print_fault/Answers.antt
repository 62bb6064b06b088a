-- `print_fault`: two digits and LF, at the start of the text.
use mathlib.Core.Path.{refl}
use Rattle.d64spec.specs.Listing.{refusal_line}
use Rattle.sleeve.proofs.OutputLaws.{prints-number}
use Rattle.sleeve.proofs.print_fault.Goals as goal

pub returns : goal.returns
unfolding refusal_line
returns c = prints-number c.args.fault c.from-number.ensures (record { text = simp (c.digit.ensures, c.digit-2.ensures); size = refl })
