-- `sleeve_output`: what it prints is what the listing of the image's track 18 says.
use native.Mathlib.Omega.{arith}
use mathlib.Core.Path.{refl}
use Rattle.geometry.proofs.TableLaws.{known_of}
use Rattle.sleeve.proofs.OutputLaws.{printed-size, printed-image}
use Rattle.sleeve.proofs.sleeve_output.Goals as goal

pub returns-then-input-image_size : goal.returns-then-input-image_size
returns-then-input-image_size c = printed-size _ (known_of c.args.layout) _
    (λ e. c.if-input-image_size.true (omega (arith, c.image_size.ensures))) c.print_fault.ensures

pub slice_bounds-print_listing-end : goal.slice_bounds-print_listing-end
slice_bounds-print_listing-end c = omega (arith, (known_of c.args.layout).past18, c.if-input-image_size.false, c.image_size.ensures)

pub returns : goal.returns
returns c = printed-image _ (known_of c.args.layout) _
    (omega (arith, c.if-input-image_size.false, c.image_size.ensures)) c.print_listing.ensures refl
