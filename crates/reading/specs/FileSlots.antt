-- The file that a directory entry of a checked image starts (01, The directory; Chains; Read; Tell). Laws: proofs/FileLaws, FoundLaws.
use Rattle.std.specs.Prelude.{ℕ, ◌+◌, ◌*◌, ◌-◌, ◌≤◌, ◌≡◌, length}
use Rattle.d64spec.specs.Lists.{Bytes}
use Rattle.d64spec.specs.Answers.{Address, address}
use Rattle.d64spec.specs.Geometry.{Geometry}
use Rattle.d64spec.specs.Image.{disk}
use Rattle.d64spec.specs.Directory.{entry_byte, count_of, files}
use Rattle.diskcheck.specs.declared.Checked.{Checked}
use Rattle.diskcheck.specs.EndTable.{end_table}
use Rattle.finding.specs.FileSlots.{CheckedSlots}
use Rattle.reading.specs.ChainReads.{sectors_from, data_from, ChainFrom}

-- the first sector of the file of an entry with these bytes (01, The directory: 03-04)
abbrev pub first_of : Bytes → Address
first_of b = address (entry_byte b 0x03) (entry_byte b 0x04)

-- the bytes of a file's entry on a checked image, and the number of the last byte that the file uses in its last sector: its chain is whole,
-- its count is the chain's length, and the two numbers give the file's length (01, Chains)
pub record FileEntry (g : Geometry) (img b : Bytes) (last : ℕ) : Type 0 where
  pub full : length b ≡ 30
  pub chain : ChainFrom g img (first_of b)
  pub count : count_of b ≡ length (sectors_from g img (first_of b))
  pub some : 1 ≤ count_of b
  pub low : 1 ≤ last
  pub bytes : length (data_from g img (first_of b)) ≡ 254 * (count_of b - 1) + last - 1

-- the slots of a checked image, and where each file's data end, as the check hands them back (01, Order of the check; Chains)
pub record CheckedFiles (g : Geometry) (img : Bytes) (c : Checked) : Type 0 where
  pub slots : CheckedSlots g img c.sectors (8 * c.count)
  pub ends : c.ends ≡ end_table g img (files g (disk img))
