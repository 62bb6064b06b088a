-- `storing::writing::fill_sector` meets its contract: the link's bytes, the content behind them, and zeros up to the end. Assumes nothing.
use native.Mathlib.Omega.{arith}
use Rattle.storing.proofs.SectorWriteLaws.{sector-filled}
use Rattle.storing.proofs.writing.fill_sector.Goals as goal

pub returns : goal.returns
returns c =
    let a = c.args in
    sector-filled a.sector.now a.link a.content.now c.requires.0 (omega arith) c.requires.1 c.copy_from_slice.ensures.after c.copy_from_slice-2.ensures.after
    (c.fill.ensures.after (λ y e. e))
