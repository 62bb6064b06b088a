-- `finding::has_words` meets its contract: a slot that is cut off or empty has no name; else its two words decide. Assumes nothing.
use native.Mathlib.Omega.{arith}
use mathlib.Core.Path.{refl}
use borrow.Author.Tests.{ne_eqb}
use Rattle.finding.proofs.WordLaws.{compared-short, compared-empty, compared-first, compared-second}
use Rattle.finding.proofs.has_words.Goals as goal

pub returns-then-slot-lt19 : goal.returns-then-slot-lt19
returns-then-slot-lt19 c = elim c.then-slot-lt19.branch [
  | goal.then-slot-lt19-via-then-slot-lt19 w ↦ compared-short c.args.slot.now (omega arith)
  | goal.then-slot-lt19-via-else-slot-lt19+then-slot-eq0 w ↦ compared-empty c.args.slot.now (omega arith)
]

pub returns-then-eight_at-x : goal.returns-then-eight_at-x
returns-then-eight_at-x c =
    compared-second c.args.slot.now (omega arith) (λ i. omega (arith, c.type_inv.slot i)) (λ e. omega arith)
    c.eight_at.ensures c.eight_at-then-eight_at-x.ensures refl refl (omega arith) refl

pub returns-else-eight_at-x : goal.returns-else-eight_at-x
returns-else-eight_at-x c =
    rw (ne_eqb c.eight_at.result c.args.x (λ e. omega arith))
    (compared-first c.args.slot.now (omega arith) (λ i. omega (arith, c.type_inv.slot i)) (λ e. omega arith) c.eight_at.ensures refl (λ e. omega arith))
