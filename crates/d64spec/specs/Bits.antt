-- Numbers and their bits, the lowest first (01, The map: a bitmap byte). Laws, over any width: proofs/BitLaws.
use Rattle.std.specs.Prelude.{ℕ, ◌*◌, ◌/◌, ◌%◌, ◌^◌, map}
use Rattle.d64spec.specs.Lists.{sum, range}

-- bit k of a number
unfoldable pub bit_of : ℕ → ℕ → ℕ
bit_of b k = b / 2 ^ k % 2

-- the number whose bit s is f s, for each s below n
unfoldable pub binary : (ℕ → ℕ) → ℕ → ℕ
binary f n = sum (map (λ s. f s * 2 ^ s) (range 0 n))
