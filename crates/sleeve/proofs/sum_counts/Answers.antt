-- `sum_counts`. The loop keeps `Adding`: the first i counts are added.
use Prim.Native.Nat.{◌*◌, ◌+◌}
use native.Mathlib.Omega.{arith}
use mathlib.Core.Path.{refl}
use Rattle.sleeve.proofs.FreeLaws.{adding-start, adding-moved}
use Rattle.sleeve.proofs.sum_counts.Goals as goal

pub loop-i-init : goal.loop-i-init
loop-i-init c = adding-start _ _

pub loop-i-preserved : goal.loop-i-preserved
loop-i-preserved c =
    let k = c.args.at + 4 * c.loop-i.i in
    adding-moved c.loop-i.invariant {k = k} refl (omega (arith, c.type_inv.map k)) refl
