-- `reading::read_file` meets its contract. In order: the size; the name asked for; the check; the reading of a checked image.
use native.Mathlib.Omega.{arith}
use mathlib.Core.Path.{refl, sym, ap, ◌∙◌}
use Rattle.std.specs.Prelude.{Err}
use Rattle.answers.specs.declared.Fault.TheVariants.{WrongSize, BadNameArgument}
use Rattle.answers.specs.Faults.{fault_of}
use Rattle.std.proofs.lemmas.Result.{err_from_is_err_and}
use Rattle.geometry.proofs.TableLaws.{known_of}
use Rattle.reading.proofs.ReplyLaws.{read-size, read_name, read-fault, read-refused}
use Rattle.reading.proofs.FoundLaws.{checked-files}
use Rattle.reading.proofs.read_file.Goals as goal

pub returns-then-img-image_size : goal.returns-then-img-image_size
unfolding fault_of
returns-then-img-image_size c =
    let a = c.args in
    read-refused _ a.img.now a.name.now a.out.now WrongSize refl
    (read-size _ a.img.now a.name.now a.out.now (λ size. c.if-img-image_size.true (omega (arith, c.image_size.ensures))))

pub returns-then-not-valid_name_argument : goal.returns-then-not-valid_name_argument
unfolding fault_of
returns-then-not-valid_name_argument c =
    let a = c.args in
    let asked = sym c.valid_name_argument.ensures ∙ c.if-not-valid_name_argument.true in
    read-refused _ a.img.now a.name.now a.out.now BadNameArgument refl
    (read_name _ a.img.now a.name.now a.out.now (omega (arith, c.image_size.ensures)) asked)

pub returns-in_err-checked : goal.returns-in_err-checked
returns-in_err-checked c =
    let a = c.args in
    let asked = sym c.valid_name_argument.ensures ∙ c.if-not-valid_name_argument.false in
    let p = err_from_is_err_and c.from_residual.result c.from_residual.ensures.1 in
    read-refused _ a.img.now a.name.now a.out.now _ (p.1 ∙ ap Err p.2)
    (read-fault _ a.img.now a.name.now a.out.now (omega (arith, c.image_size.ensures)) asked c.in_err-checked.ensures)

pub read_found-requires : goal.read_found-requires
read_found-requires c =
    let asked = sym c.valid_name_argument.ensures ∙ c.if-not-valid_name_argument.false in
    (checked-files _ (known_of c.args.layout) c.in_ok-checked.ensures, asked)
