-- `parts::four_at` meets its contract: what is read of the part is its number. Assumes nothing.
use native.Mathlib.Omega.{arith}
use mathlib.Core.Path.{◌∙◌}
use Rattle.parts.proofs.NumberLaws.{four-read}
use Rattle.parts.proofs.four_at.Goals as goal

pub returns : goal.returns
returns c =
    let found = c.in-Some.ensures in
    let is = c.from.ensures ∙ c.from_le_bytes.ensures in
    four-read c.in-Some.four.now c.args.bytes.now c.args.at (λ i. omega (arith, c.type_inv.bytes i)) (omega (arith, found.0)) found.1 is
