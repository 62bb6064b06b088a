-- `diskcheck::chain::claim_off` meets its contract, by the three tests in turn.
use native.Mathlib.Omega.{arith}
use mathlib.Core.Path.{sym}
use Rattle.diskcheck.proofs.ChainLaws.{off-first, off-track, off_zero, off-end}
use Rattle.diskcheck.proofs.chain.claim_off.Goals as goal

pub returns-then-count-eq0 : goal.returns-then-count-eq0
returns-then-count-eq0 c = rw c.place_of.ensures (sym (elim c.then-count-eq0.branch [
  | goal.then-count-eq0-via-then-count-eq0 w ↦ off-first _ _ _ _ _ (omega arith)
  | goal.then-count-eq0-via-else-count-eq0+then-track-ne0 w ↦ off-track _ _ _ _ _ (omega arith)
  | goal.then-count-eq0-via-else-count-eq0+else-track-ne0+then-sector-eq0 w ↦ off_zero _ _ _ _ _ (omega arith)
]))

pub returns : goal.returns
returns c = sym (off-end _ _ _ _ _ (omega arith) (omega arith) (omega arith))
