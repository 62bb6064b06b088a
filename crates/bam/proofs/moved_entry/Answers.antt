-- `bam::moved_entry`: the bitmap is one number, to which a bit is added or from which it is taken; the entry made of it is the definition's.
-- Assumes nothing.
use Prim.Native.Nat.{◌≤◌}
use native.Mathlib.Omega.{arith}
use Rattle.d64spec.proofs.BitLaws.{power_le, shifted}
use Rattle.bam.proofs.BitmapLaws.{bitmap-lt}
use Rattle.bam.proofs.ShapeLaws.{entry-shaped}
use Rattle.bam.proofs.MoveLaws.{moved-past, moved-free, moved-used}
use Rattle.bam.proofs.moved_entry.Goals as goal

pub returns-then-sector-ge24 : goal.returns-then-sector-ge24
returns-then-sector-ge24 c = moved-past _ _ _ (omega arith)

pub overflow_add-bits : goal.overflow_add-bits
overflow_add-bits c =
    let s : c.args.sector ≤ 24 = omega arith in
    omega (arith, c.bitmap_of-bits.ensures, bitmap-lt _ (entry-shaped _ _ c.well_formed.0), power_le c.args.sector s, shifted c.args.sector s)

pub returns-then-free : goal.returns-then-free
returns-then-free c =
    moved-free _ _ (omega arith) c.entry_of.ensures c.if-free.true (omega arith) (omega (arith, c.bitmap_of-bits.ensures, shifted c.args.sector (omega arith)))

pub returns-else-free : goal.returns-else-free
returns-else-free c =
    moved-used _ _ (omega arith) c.entry_of-else-free.ensures c.if-free.false (omega arith)
    (omega (arith, c.bitmap_of-bits.ensures, shifted c.args.sector (omega arith)))
