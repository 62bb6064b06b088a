-- `names::valid_name_argument` meets its contract: behind the tests of the length, no byte is $A0 where $A0 is not counted. Assumes nothing.
use mathlib.Core.Path.{sym, ap, ◌∙◌}
use mathlib.Core.Bool.{not}
use native.Mathlib.Omega.{arith}
use lib.ListN.{length}
use borrow.Author.Tests.{lt-ltb, eqb-false}
use Rattle.d64spec.specs.Reply.{valid_name_argument}
use Rattle.names.proofs.PaddingLaws.{no_padding}
use Rattle.names.proofs.valid_name_argument.Goals as goal

pub returns : goal.returns
unfolding valid_name_argument
returns c =
    let s = c.args.name.now in
    let some = eqb-false (length s) 0 (sym c.is_empty.ensures ∙ c.if-is_empty.false) in
    simp (lt-ltb 0 (length s) (omega (arith, some)), lt-ltb (length s) 17 (omega arith)) (ap not c.contains.ensures.value ∙ no_padding s)
