-- The bitmap of an entry as a number. In order: the three bitmap bytes are the 24 bits; a bit of that number. Assumes nothing.
use Prim.Native.Nat.{ℕ, ◌+◌, ◌/◌, ◌%◌, ◌≤◌, ◌<◌}
use native.Mathlib.Omega.{arith}
use native.Mathlib.Nat.{mod-eq_of_lt}
use mathlib.Core.Path.{◌≡◌, sym, ap, ◌∙◌}
use Rattle.d64spec.specs.Lists.{Bytes, byte}
use Rattle.d64spec.specs.Bits.{bit_of, binary}
use Rattle.d64spec.proofs.BitLaws.{bit_le, binary-bit, binary-remainder}
use Rattle.bam.specs.MapEntry.{entry_bit, bitmap_of}
use Rattle.bam.proofs.ShapeLaws.{EntryShape}

-- ---- the bitmap

pub entry-bit-le : (e : Bytes) (s : ℕ) → entry_bit e s ≤ 1
unfolding entry_bit
entry-bit-le e s = bit_le (byte e (1 + s / 8)) (s % 8)

-- a byte is its eight bits
byte-binary : (b : ℕ) → b < 256 → b ≡ binary (bit_of b) 8
byte-binary b h = sym (binary-remainder b 8 ∙ mod-eq_of_lt h)

-- three bytes are below 2^24
pub bitmap-lt : (e : Bytes) → EntryShape e → bitmap_of e < 16777216
unfolding bitmap_of
bitmap-lt e shape = omega (arith, shape.small 1, shape.small 2, shape.small 3)

-- the three bitmap bytes are the 24 bits
pub bitmap-binary : (e : Bytes) → EntryShape e → bitmap_of e ≡ binary (entry_bit e) 24
unfolding bitmap_of binary entry_bit
bitmap-binary e shape =
    let low = byte-binary (byte e 1) (shape.small 1) in
    let middle = byte-binary (byte e 2) (shape.small 2) in
    let high = byte-binary (byte e 3) (shape.small 3) in
    omega arith

-- bit s of the bitmap is the bit for sector s
pub bit-bitmap : (e : Bytes) → EntryShape e → (s : ℕ) → s < 24 → bit_of (bitmap_of e) s ≡ entry_bit e s
bit-bitmap e shape s h = ap (λ (x : ℕ). bit_of x s) (bitmap-binary e shape) ∙ binary-bit (entry_bit e) (entry-bit-le e) 24 s h
