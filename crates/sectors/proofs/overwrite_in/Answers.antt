-- `sectors::overwrite_in` meets its contract: what comes back of the loan is the sector's place with the bytes in it, and else nothing is lent.
use native.Mathlib.Omega.{arith}
use mathlib.Core.Path.{refl, sym}
use Rattle.sectors.proofs.SectorLaws.{overwritten_in-lent, overwritten_in-cut}
use Rattle.sectors.proofs.overwrite_in.Goals as goal

pub returns-then-img-n : goal.returns-then-img-n
returns-then-img-n c =
    let a = c.args in
    sym (overwritten_in-cut a.img.now a.n a.at a.content.now (omega arith))

pub returns : goal.returns
returns c =
    let a = c.args in
    overwritten_in-lent a.img.now a.n a.at a.content.now refl (omega arith) c.overwrite.ensures
