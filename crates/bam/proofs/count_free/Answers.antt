-- `bam::count_free`: the ones of as many bits of the bitmap as the track has sectors. Assumes nothing.
use Prim.Native.Nat.{◌≤◌}
use native.Mathlib.Omega.{arith}
use Rattle.d64spec.proofs.BitLaws.{power_le, shifted-some}
use Rattle.bam.specs.MapEntry.{own_bits}
use Rattle.bam.proofs.ShapeLaws.{entry-shaped}
use Rattle.bam.proofs.OnesLaws.{ones-own}
use Rattle.bam.proofs.count_free.Goals as goal

-- an entry has 24 bits
few : (c : goal.After-own_bits) → c.own_bits.result ≤ 24
unfolding own_bits
few c = omega (arith, c.own_bits.ensures)

pub overflow_shl-result : goal.overflow_shl-result
overflow_shl-result c = omega (arith, few c)

pub nonzero_rem-result : goal.nonzero_rem-result
nonzero_rem-result c = shifted-some (few c) (omega arith) (omega arith)

pub returns : goal.returns
returns c =
    ones-own c.args.entry (entry-shaped _ _ c.well_formed.0) c.args.sectors c.own_bits.result
    (omega (arith, c.bitmap_of.ensures)) (omega (arith, c.own_bits.ensures)) (omega (arith, power_le c.own_bits.result (few c)))
