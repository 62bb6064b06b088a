-- `parts::eight_at` meets its contract: what is read of the part is its number. Assumes nothing.
use native.Mathlib.Omega.{arith}
use Rattle.parts.proofs.NumberLaws.{eight-read}
use Rattle.parts.proofs.eight_at.Goals as goal

pub returns : goal.returns
returns c =
    let found = c.in-Some.ensures in
    eight-read c.in-Some.eight.now c.args.bytes.now c.args.at (λ i. omega (arith, c.type_inv.bytes i)) (omega (arith, found.0)) found.1 c.from_le_bytes.ensures
