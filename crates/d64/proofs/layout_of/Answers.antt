-- `d64::layout_of` meets its contract: no layout is 17. Assumes nothing.
use borrow.Author.Rules.{rules}
use Rattle.d64.proofs.HostLaws.{layout-told}
use Rattle.d64.proofs.layout_of.Goals as goal

pub returns : goal.returns
returns c = layout-told _ _ _ c.try_from.ensures c.map_err.ensures.cases (λ e f q. search rules)
