-- `finding::find_empty` meets its contract: the search over the numbers of the slots is the definition's. Assumes nothing.
use native.Mathlib.Omega.{arith}
use mathlib.Core.Path.{refl, ◌∙◌}
use Rattle.std.proofs.Common.{rules, tests}
use Rattle.std.proofs.lemmas.Iterator.{YieldsList-from_range}
use Rattle.std.proofs.lemmas.Iterator.Search.{find_from_yields_List}
use Rattle.d64spec.specs.Directory.{is_empty}
use Rattle.directory.specs.Directories.{slot_bytes}
use Rattle.finding.proofs.FindLaws.{as-found, empty-by_find}
use Rattle.finding.proofs.find_empty.Goals as goal

pub returns : goal.returns
returns c =
    let a = c.args in
    let b = a.track18.now in
    let ss = a.sectors.now in
    as-found c.find.result
    ∙ find_from_yields_List (λ k. is_empty (slot_bytes b ss k)) _ _ c.find.result c.find.ensures.ran (YieldsList-from_range 0 a.end a.end refl (omega arith))
    (λ k r f called. search (rules, tests))
    ∙ empty-by_find b ss a.end
