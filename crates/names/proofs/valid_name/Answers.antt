-- `names::valid_name` meets its contract: a short slot has no name field of 16 bytes; else the first byte decides, then the neighbours. Assumes nothing.
use mathlib.Core.Path.{refl, sym, ◌∙◌}
use native.Mathlib.Omega.{arith}
use lib.ListN.{drop, length-take, length-drop}
use Rattle.names.proofs.NameLaws.{length-name_field, byte-name_field, valid_name-misfit, valid_name-first, valid_name-neighbours}
use Rattle.names.proofs.valid_name.Goals as goal

pub returns-then-slot-lt19 : goal.returns-then-slot-lt19
returns-then-slot-lt19 c =
    let s = c.args.slot.now in
    elim c.then-slot-lt19.branch [
      | goal.then-slot-lt19-via-then-slot-lt19 w ↦ let e = w.if-slot-lt19.true in
          sym (valid_name-misfit s _ refl (λ z. omega (arith, length-take 16 (drop 3 s), length-drop 3 s)))
      | goal.then-slot-lt19-via-else-slot-lt19+then-slot w ↦ let e = w.if-slot.true in
          let whole = length-name_field s (omega (arith, w.if-slot-lt19.false)) in
          sym (valid_name-first s _ refl whole (omega (arith, byte-name_field s 3 0 (omega arith) (omega arith))))
    ]

pub returns : goal.returns
returns c =
    let s = c.args.slot.now in
    c.padded_once.ensures ∙ sym (valid_name-neighbours s _ refl (length-name_field s (omega arith)) (λ e. omega (arith, byte-name_field s 3 0 (omega arith) (omega arith))))
