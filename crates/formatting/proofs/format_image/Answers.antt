-- `formatting::format_image` meets its contract. In order: the size; the name asked for; the image of a fresh disk.
use native.Mathlib.Omega.{arith}
use mathlib.Core.Path.{sym, ◌∙◌}
use Rattle.d64spec.proofs.FormatLaws.{name-short}
use Rattle.answers.specs.declared.Fault.TheVariants.{WrongSize, BadNameArgument}
use Rattle.answers.specs.Faults.{fault_of}
use Rattle.formatting.proofs.ReplyLaws.{format-size, format-name, format-refused, format-done}
use Rattle.formatting.proofs.format_image.Goals as goal

pub returns-then-img-image_size : goal.returns-then-img-image_size
unfolding fault_of
returns-then-img-image_size c =
    let a = c.args in
    format-refused _ a.img.now a.name.now a.id1 a.id2 WrongSize
    (format-size _ a.img.now a.name.now a.id1 a.id2 (λ size. omega (arith, c.if-img-image_size.true)))

pub returns-then-not-valid_name_argument : goal.returns-then-not-valid_name_argument
unfolding fault_of
returns-then-not-valid_name_argument c =
    let a = c.args in
    let asked = sym c.valid_name_argument.ensures ∙ c.if-not-valid_name_argument.true in
    format-refused _ a.img.now a.name.now a.id1 a.id2 BadNameArgument
    (format-name _ a.img.now a.name.now a.id1 a.id2 (omega arith) asked)

pub write_fresh-requires : goal.write_fresh-requires
write_fresh-requires c = (omega arith, name-short _ (sym c.valid_name_argument.ensures ∙ c.if-not-valid_name_argument.false))

pub returns : goal.returns
returns c =
    let a = c.args in
    format-done _ a.img.now a.name.now a.id1 a.id2 (omega arith) (sym c.valid_name_argument.ensures ∙ c.if-not-valid_name_argument.false)
    c.write_fresh.ensures c.default.ensures.0 c.default.ensures.1
