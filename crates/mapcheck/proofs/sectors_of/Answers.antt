-- `mapcheck::sectors_of`: the bitmap's own bits, and the bits that are 0 among the owned sectors'. Assumes nothing.
use Prim.Native.Nat.{ℕ, ◌≤◌}
use native.Mathlib.Omega.{arith}
use mathlib.Core.Path.{◌≡◌, refl}
use Rattle.d64spec.proofs.BitLaws.{power_le, shifted-some}
use Rattle.bam.specs.MapEntry.{own_bits}
use Rattle.mapcheck.proofs.TrackLaws.{rest_le, sectors-found}
use Rattle.mapcheck.proofs.sectors_of.Goals as goal

-- an entry has 24 bits
few : (n : ℕ) {own : ℕ} → own ≡ own_bits n → own ≤ 24
unfolding own_bits
few n e = omega (arith, e)

pub overflow_shl-all : goal.overflow_shl-all
overflow_shl-all c = omega (arith, few c.args.own c.own_bits.ensures)

pub nonzero_rem-result : goal.nonzero_rem-result
nonzero_rem-result c = shifted-some (few c.args.own c.own_bits.ensures) (omega arith) (omega arith)

pub overflow_sub-result : goal.overflow_sub-result
overflow_sub-result c = shifted-some (few c.args.own c.own_bits.ensures) (omega arith) (omega arith)

pub nonzero_rem-result-2 : goal.nonzero_rem-result-2
nonzero_rem-result-2 c = shifted-some (few c.args.own c.own_bits.ensures) (omega arith) (omega arith)

pub overflow_sub-result-2 : goal.overflow_sub-result-2
overflow_sub-result-2 c = rest_le _ (shifted-some (few c.args.own c.own_bits.ensures) (omega arith) (omega arith))

pub returns : goal.returns
returns c =
    let own = c.own_bits in
    sectors-found {k = own.result} c.bitmap_of.ensures (omega (arith, own.ensures))
    (omega (arith, power_le own.result (few c.args.own own.ensures))) refl refl
