-- `diskcheck::chain::add_mask` meets its contract: a track of 1 to 40 has its bits more, and any other changes nothing.
use native.Mathlib.Omega.{arith}
use mathlib.Core.Path.{sym}
use Rattle.diskcheck.proofs.ChainLaws.{mask-none, mask-past, mask_at}
use Rattle.diskcheck.proofs.chain.add_mask.Goals as goal

pub returns-then-track-le40 : goal.returns-then-track-le40
returns-then-track-le40 c = sym (mask_at _ _ _ (omega arith) (omega arith))

pub returns-else-track-ge1 : goal.returns-else-track-ge1
returns-else-track-ge1 c = sym (elim c.else-track-ge1.branch [
  | goal.else-track-ge1-via-then-track-ge1+else-track-le40 w ↦ mask-past _ _ _ (omega arith)
  | goal.else-track-ge1-via-else-track-ge1 w ↦ mask-none _ _ _ (omega arith)
])
