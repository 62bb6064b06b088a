-- `bam::load_whole`: one run of entries, and a second where the layout has one. Assumes nothing.
use native.Mathlib.Omega.{arith}
use mathlib.Core.Path.{sym, ◌∙◌}
use Rattle.bam.proofs.LoadLaws.{loaded-front, loaded-both}
use Rattle.bam.proofs.load_whole.Goals as goal

pub returns-in-Some : goal.returns-in-Some
returns-in-Some c =
    loaded-both c.args.layout _ c.load_run.ensures c.load_run-in-Some.ensures
    (omega arith) (omega arith) (omega arith) (omega arith) (omega arith) (omega arith) (sym c.extra_entries.ensures ∙ c.in-Some.is)

pub returns-in_default : goal.returns-in_default
returns-in_default c =
    loaded-front c.args.layout _ c.load_run.ensures (omega arith) (omega arith) (omega arith) (sym c.extra_entries.ensures ∙ c.in_default.is)
