-- Four bytes and eight bytes as one number, low byte first: how they are read at once. Nothing of document 01 is said here.
-- Laws: proofs/NumberLaws (equal numbers are equal bytes).
use Rattle.std.specs.Prelude.{ℕ, ◌+◌, ◌*◌, ◌≤◌, ◌<◌, ◌≡◌, length}
use Rattle.d64spec.specs.Lists.{Bytes, byte}

-- the number of the four bytes from a on, low byte first
unfoldable pub four_of : Bytes → ℕ → ℕ
four_of b a = byte b a + 256 * byte b (a + 1) + 65536 * byte b (a + 2) + 16777216 * byte b (a + 3)

-- r is that number, or 0 where there are not four bytes; 32 bits hold it
pub record IsFour (b : Bytes) (a r : ℕ) : Type 0 where
  pub value : a + 4 ≤ length b → r ≡ four_of b a
  pub none : length b < a + 4 → r ≡ 0
  pub small : r < 4294967296

-- the number of the eight bytes from a on, low byte first
unfoldable pub eight_of : Bytes → ℕ → ℕ
eight_of b a = four_of b a + 4294967296 * four_of b (a + 4)

-- r is that number, or 0 where there are not eight bytes; 64 bits hold it
pub record IsEight (b : Bytes) (a r : ℕ) : Type 0 where
  pub value : a + 8 ≤ length b → r ≡ eight_of b a
  pub none : length b < a + 8 → r ≡ 0
  pub small : r < 18446744073709551616
