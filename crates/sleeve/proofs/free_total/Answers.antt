-- `free_total`: two runs of counts, and a third where the layout has more than 35 tracks.
use Prim.Native.Nat.{ℕ, ◌<◌}
use native.Mathlib.Omega.{arith}
use mathlib.Core.Path.{◌∙◌, sym}
use Rattle.d64spec.specs.Lists.{byte}
use Rattle.sleeve.proofs.FreeLaws.{counts-small, free-without, free-with}
use Rattle.sleeve.proofs.free_total.Goals as goal

pub overflow_add-most : goal.overflow_add-most
overflow_add-most c =
    let m = c.args.map.now in
    let small : (i : ℕ) → byte m i < 256 = λ i. omega (arith, c.type_inv.map i) in
    omega (arith, c.sum_counts.ensures, c.sum_counts-2.ensures, counts-small m small 4 17, counts-small m small 76 17)

pub overflow_add-result : goal.overflow_add-result
overflow_add-result c =
    let m = c.args.map.now in
    let small : (i : ℕ) → byte m i < 256 = λ i. omega (arith, c.type_inv.map i) in
    let first = counts-small m small 4 17 in
    let second = counts-small m small 76 17 in
    let third = counts-small m small c.in-Some.extra 5 in
    omega (arith, c.sum_counts.ensures, c.sum_counts-2.ensures, c.sum_counts-in-Some.ensures, first, second, third)

pub returns-in-Some : goal.returns-in-Some
returns-in-Some c =
    free-with c.args.layout _ (sym c.extra_entries.ensures ∙ c.in-Some.is) c.sum_counts.ensures c.sum_counts-2.ensures c.sum_counts-in-Some.ensures

pub returns-in-None : goal.returns-in-None
returns-in-None c = free-without c.args.layout _ (sym c.extra_entries.ensures ∙ c.in-None.is) c.sum_counts.ensures c.sum_counts-2.ensures
