-- `finding::find_named` meets its contract: a name of more than 16 bytes is in no slot; else the search over the numbers of the slots is the definition's.
-- Assumes nothing.
use native.Mathlib.Omega.{arith}
use mathlib.Core.Path.{refl, ◌∙◌}
use Rattle.std.proofs.Common.{rules, tests}
use Rattle.std.proofs.lemmas.Iterator.{YieldsList-from_range}
use Rattle.std.proofs.lemmas.Iterator.Search.{find_from_yields_List}
use Rattle.finding.specs.FileSlots.{holds_file}
use Rattle.finding.proofs.WordLaws.{name-words, compared-file}
use Rattle.finding.proofs.FindLaws.{as-found, named-by_find, none-long}
use Rattle.finding.proofs.find_named.Goals as goal

pub returns-then-name-gt16 : goal.returns-then-name-gt16
returns-then-name-gt16 c = none-long c.args.track18.now c.args.sectors.now c.args.name.now (omega arith) c.args.end

pub returns : goal.returns
returns c =
    let a = c.args in
    let b = a.track18.now in
    let ss = a.sectors.now in
    let words = name-words a.name.now (omega arith) (λ i. omega (arith, c.type_inv.name i))
    c.padded_name-field.ensures c.eight_at-x.ensures c.eight_at-y.ensures refl refl in
    as-found c.find.result
    ∙ find_from_yields_List (holds_file b ss a.name.now) _ _ c.find.result c.find.ensures.ran (YieldsList-from_range 0 a.end a.end refl (omega arith))
    (λ k r f called. search (rules, tests, compared-file b ss words))
    ∙ named-by_find b ss a.name.now a.end
