-- `storing::store_file` meets its contract. In order: the size; the name and the kind asked for; the check; the store on a checked image.
use Rattle.geometry.proofs.TableLaws.{known_of}
use native.Mathlib.Omega.{arith}
use borrow.Author.Rules.{rules}
use Rattle.std.proofs.lemmas.Result.{err_from_is_err_and}
use Prim.Native.Nat.{ℕ}
use mathlib.Core.Path.{sym, ap, ◌∙◌}
use Rattle.d64spec.specs.Call.{store, perform}
use Rattle.geometry.specs.Layout.{geometry_of}
use Rattle.answers.specs.declared.Fault.TheVariants.{WrongSize, BadNameArgument, BadKindArgument}
use Rattle.answers.specs.Faults.{fault_of}
use Rattle.storing.proofs.ReplyLaws.{store-size, store-name, store-kind, store-fault, store-refused}
use Rattle.storing.proofs.DecisionLaws.{checked-store}
use Rattle.storing.proofs.store_file.Goals as goal

pub returns-then-img-image_size : goal.returns-then-img-image_size
unfolding fault_of
returns-then-img-image_size c =
    let a = c.args in
    store-refused _ a.img.now a.name.now a.kind a.content.now WrongSize
    (store-size _ a.img.now a.name.now a.kind a.content.now (λ size. c.if-img-image_size.true (omega arith)))

pub returns-then-not-valid_name_argument : goal.returns-then-not-valid_name_argument
unfolding fault_of
returns-then-not-valid_name_argument c =
    let a = c.args in
    let bad = sym c.valid_name_argument.ensures ∙ c.if-not-valid_name_argument.true in
    store-refused _ a.img.now a.name.now a.kind a.content.now BadNameArgument
    (store-name _ a.img.now a.name.now a.kind a.content.now (omega arith) bad)

pub returns-in_default : goal.returns-in_default
unfolding fault_of
returns-in_default c =
    let a = c.args in
    let asked = sym c.valid_name_argument.ensures ∙ c.if-not-valid_name_argument.false in
    store-refused _ a.img.now a.name.now a.kind a.content.now BadKindArgument
    (store-kind _ a.img.now a.name.now a.kind a.content.now (omega arith) asked c.in_default.ensures)

pub returns-in_err-checked : goal.returns-in_err-checked
returns-in_err-checked c =
    let a = c.args in
    let asked = sym c.valid_name_argument.ensures ∙ c.if-not-valid_name_argument.false in
    let kind = c.in-Ok.ensures in
    let p = err_from_is_err_and c.from_residual.result c.from_residual.ensures.1 in
    rw (p.1, p.2) (store-refused _ a.img.now a.name.now a.kind a.content.now _
    (store-fault _ a.img.now a.name.now a.kind a.content.now (omega arith) asked kind.0 c.in_err-checked.ensures))

pub store_checked-requires : goal.store_checked-requires
store_checked-requires c =
    let a = c.args in
    let asked = sym c.valid_name_argument.ensures ∙ c.if-not-valid_name_argument.false in
    checked-store _ (known_of a.layout) c.in_ok-checked.ensures (λ i. search rules) asked

pub returns : goal.returns
returns c =
    let a = c.args in
    c.store_checked.ensures ∙ ap (λ (k : ℕ). perform (geometry_of a.layout) a.img.now (store a.name.now k a.content.now)) c.in-Ok.ensures.1
