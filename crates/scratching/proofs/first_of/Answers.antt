-- `scratching::first_of` meets its contract: the sector is lent, the slot in it, and two bytes of that are read. Assumes nothing.
use native.Mathlib.Omega.{arith}
use Rattle.geometry.proofs.TableLaws.{known_of}
use Rattle.scratching.proofs.WrittenLaws.{first_found}
use Rattle.scratching.proofs.first_of.Goals as goal

pub returns : goal.returns
returns c =
    let a = c.args in
    first_found _ (known_of a.layout) a.img.now a.holder a.index
    c.sector.ensures.bytes (omega arith)
    c.slot-slot.ensures c.byte_at.ensures c.byte_at-2.ensures
