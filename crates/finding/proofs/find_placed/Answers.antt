-- `finding::find_placed` meets its contract: the occupied ones of the slots, counted, are the definition's. Assumes nothing.
use native.Mathlib.Omega.{arith}
use mathlib.Core.Path.{refl, ◌∙◌}
use mathlib.Core.Bool.{not}
use Rattle.std.proofs.Common.{rules, tests}
use Rattle.std.proofs.lemmas.Iterator.{YieldsList-from_range}
use Rattle.std.proofs.lemmas.Iterator.Consumers.{nth_from_yields_List, YieldsList-from_filter, YieldsList-at}
use Rattle.d64spec.specs.Directory.{is_empty}
use Rattle.directory.specs.Directories.{slot_bytes}
use Rattle.finding.proofs.FindLaws.{as-found, placed-at}
use Rattle.finding.proofs.find_placed.Goals as goal

pub returns : goal.returns
returns c =
    let a = c.args in
    let b = a.track18.now in
    let ss = a.sectors.now in
    as-found c.nth.result
    ∙ nth_from_yields_List c.nth.result c.nth.new.self _ c.nth.ensures.ran
    (YieldsList-from_filter _ (λ k. not (is_empty (slot_bytes b ss k)))
    (YieldsList-at c.filter.ensures.source (YieldsList-from_range 0 a.end a.end refl (omega arith)))
    c.filter.ensures.closure (λ k r f called. search (rules, tests)))
    ∙ placed-at b ss a.position a.end (omega arith)
