-- `bam::store_map`: one run of entries, and a second where the layout has one; a slice that is not a sector is left. Assumes nothing.
use native.Mathlib.Omega.{arith}
use mathlib.Core.Path.{sym, ◌∙◌}
use Rattle.bam.proofs.SaveLaws.{stored_other, stored-front, stored-both}
use Rattle.bam.proofs.store_map.Goals as goal

pub returns-then-sector-ne256 : goal.returns-then-sector-ne256
returns-then-sector-ne256 c = sym (stored_other _ _ _ (λ z. omega arith))

pub returns-in-Some : goal.returns-in-Some
returns-in-Some c =
    stored-both c.args.layout _ _ (omega (arith, c.if-sector-ne256.false)) c.store_run.ensures c.store_run-in-Some.ensures
    (omega arith) (omega arith) (omega arith) (omega arith) (omega arith) (omega arith) (sym c.extra_entries.ensures ∙ c.in-Some.is)

pub returns-in_default : goal.returns-in_default
returns-in_default c =
    stored-front c.args.layout _ _ (omega (arith, c.if-sector-ne256.false)) c.store_run.ensures
    (omega arith) (omega arith) (omega arith) (sym c.extra_entries.ensures ∙ c.in_default.is)
