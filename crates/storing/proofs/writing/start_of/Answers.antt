-- `storing::writing::start_of` meets its contract: the number is the layout's. Assumes nothing.
use Rattle.geometry.proofs.TableLaws.{known_of}
use native.Mathlib.Omega.{arith}
use Rattle.geometry.specs.Layout.{address_of}
use Rattle.storing.proofs.SectorWriteLaws.{number_at, starts-at}
use Rattle.storing.proofs.writing.start_of.Goals as goal

pub overflow_mul-result : goal.overflow_mul-result
overflow_mul-result c =
    let a = c.args in
    omega (arith, number_at a.layout (address_of a.at) c.requires c.number_of.ensures, (known_of a.layout).most)

pub returns : goal.returns
returns c = starts-at c.args.layout (address_of c.args.at) c.requires c.number_of.ensures
