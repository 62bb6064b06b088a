-- `scratching::scratch_file` meets its contract. In order: the size; the name asked for; the check; the scratching on a checked image.
use native.Mathlib.Omega.{arith}
use mathlib.Core.Path.{refl, sym, ap, ◌∙◌}
use Rattle.std.specs.Prelude.{Err}
use Rattle.std.proofs.lemmas.Result.{err_from_is_err_and}
use Rattle.answers.specs.declared.Fault.TheVariants.{WrongSize, BadNameArgument}
use Rattle.answers.specs.Faults.{fault_of}
use Rattle.finding.proofs.CheckedSlotLaws.{checked-slots}
use Rattle.scratching.proofs.ReplyLaws.{scratch-size, scratch-name, scratch-fault, scratch-refused}
use Rattle.geometry.proofs.TableLaws.{known_of}
use Rattle.scratching.proofs.scratch_file.Goals as goal

pub returns-then-img-image_size : goal.returns-then-img-image_size
unfolding fault_of
returns-then-img-image_size c =
    let a = c.args in
    scratch-refused _ a.img.now a.name.now WrongSize refl (scratch-size _ a.img.now a.name.now (λ size. c.if-img-image_size.true (omega arith)))

pub returns-then-not-valid_name_argument : goal.returns-then-not-valid_name_argument
unfolding fault_of
returns-then-not-valid_name_argument c =
    let a = c.args in
    let asked = sym c.valid_name_argument.ensures ∙ c.if-not-valid_name_argument.true in
    scratch-refused _ a.img.now a.name.now BadNameArgument refl (scratch-name _ a.img.now a.name.now (omega arith) asked)

pub returns-in_err-checked : goal.returns-in_err-checked
returns-in_err-checked c =
    let a = c.args in
    let asked = sym c.valid_name_argument.ensures ∙ c.if-not-valid_name_argument.false in
    let p = err_from_is_err_and c.from_residual.result c.from_residual.ensures.1 in
    scratch-refused _ a.img.now a.name.now _ (p.1 ∙ ap Err p.2) (scratch-fault _ a.img.now a.name.now (omega arith) asked c.in_err-checked.ensures)

pub scratch_checked-requires : goal.scratch_checked-requires
scratch_checked-requires c =
    let asked = sym c.valid_name_argument.ensures ∙ c.if-not-valid_name_argument.false in
    (checked-slots _ (known_of c.args.layout) c.in_ok-checked.ensures, asked)
