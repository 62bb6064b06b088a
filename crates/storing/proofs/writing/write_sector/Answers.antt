-- `storing::writing::write_sector` meets its contract: what comes back of the loan of the sector is the sector written, and its mark is moved.
-- Assumes nothing.
use native.Mathlib.Omega.{arith}
use mathlib.Core.Path.{refl}
use Rattle.storing.proofs.SectorWriteLaws.{sector-written}
use Rattle.storing.proofs.writing.write_sector.Goals as goal

pub returns : goal.returns
returns c =
    let a = c.args in
    sector-written _ c.requires.0 c.start_of-start.ensures a.link a.content.now (omega arith) c.requires.1 c.fill_sector.ensures c.move_mark.ensures refl
