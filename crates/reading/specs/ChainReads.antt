-- The sectors and the data along a file's chain, as the code walks it on a checked image (01, Chains; Read).
-- In order: what lies along the links from a sector on; what the copy relies on; what it gives. Laws: proofs/ChainStepLaws, CopyLaws.
use Rattle.std.specs.Prelude.{ℕ, ◌+◌, ◌≤◌, ◌*◌, ◌≡◌, true, List, length}
use Rattle.d64spec.specs.Lists.{Bytes, byte, splice}
use Rattle.d64spec.specs.Answers.{Address, address}
use Rattle.d64spec.specs.Geometry.{Geometry, total, on_disk}
use Rattle.d64spec.specs.Image.{disk}
use Rattle.d64spec.specs.Chain.{to, file_link, steps, Chain, follow, chain_data}

-- the address that a sector's first two bytes name (01, Chains)
abbrev pub link_of : Bytes → Address
link_of s = address (byte s 0) (byte s 1)

-- the sectors met along the links from the sector r on (01, Chains)
unfoldable pub sectors_from : Geometry → Bytes → Address → List Address
sectors_from g img r = follow g (file_link g) (disk img) (steps g) (to r)

-- the data in them (01, Chains)
unfoldable pub data_from : Geometry → Bytes → Address → Bytes
data_from g img r = chain_data g (disk img) (sectors_from g img r)

-- a whole chain starts at the sector r of an image of the right size (01, Chains)
pub record ChainFrom (g : Geometry) (img : Bytes) (r : Address) : Type 0 where
  pub size : length img ≡ 256 * total g
  pub on : on_disk g r ≡ true
  pub chain : Chain g (file_link g) (disk img) (to r) (sectors_from g img r)

-- besides, the output has room for the chain's data
pub record CopyFits (g : Geometry) (img out : Bytes) (r : Address) : Type 0 where
  pub chain : ChainFrom g img r
  pub room : length (data_from g img r) ≤ length out

-- `size` bytes behind a sector's link lie in the sector s, and as many from index `at` on in the output
pub record DataFits (s out : Bytes) (size at : ℕ) : Type 0 where
  pub inside : 2 + size ≤ length s
  pub room : at + size ≤ length out

-- the data of the chain from r on, put at the start of the output, and the number of sectors visited (01, Read)
pub record ChainCopied (g : Geometry) (img out : Bytes) (r : Address) (k : ℕ) (out' : Bytes) : Type 0 where
  pub output : out' ≡ splice out 0 (data_from g img r)
  pub sectors : k ≡ length (sectors_from g img r)
