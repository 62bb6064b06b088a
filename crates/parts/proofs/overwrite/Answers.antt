-- `parts::overwrite` meets its contract: more bytes than the slice has, a place too near its end, and bytes that fit. Assumes nothing.
use native.Mathlib.Omega.{arith}
use mathlib.Core.Path.{refl, sym, ◌∙◌}
use lib.ListN.{length}
use Rattle.parts.proofs.OverwriteLaws.{copied_whole-back, overwritten-inside, overwritten-past}
use Rattle.parts.proofs.overwrite.Goals as goal

pub returns-then-target-size : goal.returns-then-target-size
returns-then-target-size c =
    let a = c.args in
    sym (overwritten-past a.target.now a.at a.content.now (elim c.then-target-size.branch [
      | goal.then-target-size-via-then-target-size w ↦ let e = w.if-target-size.true in omega arith
      | goal.then-target-size-via-else-target-size+then-target-size-2 w ↦ let e = w.if-target-size-2.true in omega arith
    ]))

pub returns : goal.returns
returns c =
    let a = c.args in
    copied_whole-back a.target.now a.at (length a.content.now) a.content.now refl c.copy_from_slice.ensures.after
    ∙ sym (overwritten-inside a.target.now a.at a.content.now (omega arith))
