-- `scratching::scratch_checked` meets its contract: the DOS version decides whether the image may be written.
use mathlib.Core.Path.{refl, sym, ◌∙◌}
use Rattle.answers.specs.declared.Fault.TheVariants.{WriteForbidden}
use Rattle.answers.specs.Faults.{fault_of}
use Rattle.scratching.proofs.ReplyLaws.{scratch-refused}
use Rattle.scratching.proofs.FoundLaws.{forbidden}
use Rattle.scratching.proofs.scratch_checked.Goals as goal

pub returns-then-not-may_write : goal.returns-then-not-may_write
unfolding fault_of
returns-then-not-may_write c =
    scratch-refused _ c.args.img.now c.args.name.now WriteForbidden refl
    (forbidden _ c.requires.0 c.args.name.now c.requires.1 (sym c.may_write.ensures ∙ c.if-not-may_write.true))
