-- `scratching::unlink` meets its contract: the part lent is the sector, its link is read, and what comes back of the loan is zeros. Assumes nothing.
use native.Mathlib.Omega.{arith}
use mathlib.Core.Path.{refl}
use Rattle.scratching.proofs.ClearingLaws.{sector-cleared}
use Rattle.scratching.proofs.unlink.Goals as goal

pub returns : goal.returns
returns c = sector-cleared c.args.img.now c.args.n refl c.requires (c.fill.ensures.after (λ y e. e)) refl (omega arith)
