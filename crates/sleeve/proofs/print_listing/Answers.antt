-- `print_listing`: a reply with a fault prints its number, one without prints the text.
use mathlib.Core.Path.{refl}
use Rattle.geometry.proofs.TableLaws.{known_of}
use Rattle.sleeve.specs.Texts.{blank_text}
use Rattle.sleeve.proofs.OutputLaws.{prints-listing, prints-refusal}
use Rattle.sleeve.proofs.print_listing.Goals as goal

pub returns-in-Err : goal.returns-in-Err
unfolding blank_text
returns-in-Err c =
    prints-refusal _ (known_of c.args.layout) _ refl _ (rw c.in-Err.is at c.list_track18.ensures) c.print_fault.ensures

pub returns-in-Ok : goal.returns-in-Ok
unfolding blank_text
returns-in-Ok c = prints-listing _ (known_of c.args.layout) _ refl _ (rw c.in-Ok.is at c.list_track18.ensures)
