-- `names::padded_once` meets its contract: the neighbours that are not asked need not be, so that those asked decide. Assumes nothing.
use native.Mathlib.Omega.{arith}
use Rattle.names.proofs.NameLaws.{fits-padding}
use Rattle.names.proofs.padded_once.Goals as goal

pub neighbours_fit-requires : goal.neighbours_fit-requires
neighbours_fit-requires c =
    let k = c in
    fits-padding _ k.requires (λ i. omega (arith, k.type_inv.slot i))
    (c.four_at.ensures.value (omega arith)) (c.four_at-then-four_at-eq2694881440.ensures.value (omega arith)) c.if-four_at-eq2694881440.true c.if-four_at-eq2694881440-2.true (omega arith) (omega arith)
