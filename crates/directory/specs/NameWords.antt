-- A name field as two numbers of 64 bits, and a hash of them: how equal names are found without comparing each with each.
-- Nothing of document 01 is said here; that the code finds document 01's repeated names is `first_repeated` (specs/Directories).
-- A word is eight bytes as one number (parts, `eight_of`). Laws: proofs/PairLaws, SearchLaws.
use Rattle.std.specs.Prelude.{ℕ, ◌+◌, ◌*◌, ◌/◌, ◌%◌, Bool, ◌&&◌, List, eqb}
use Rattle.std.specs.List.{list_any}

-- a hash of two words, below 4096
unfoldable pub hash_of : ℕ → ℕ → ℕ
hash_of x y =
    (x % 4294967296 + 3 * (x / 4294967296) + 5 * (y % 4294967296) + 7 * (y / 4294967296)) * 165902235 / 16777216 % 4096

-- whether the name whose words are x and y is one of these
abbrev pub holds : List (ℕ × ℕ) → ℕ → ℕ → Bool
holds names x y = list_any (λ other. eqb other.0 x && eqb other.1 y) names
