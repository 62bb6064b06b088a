-- What the parts of a scratch rely on and what they leave (01, Scratch; The map; Chains).
-- In order: a sector cleared; a chain cleared; a slot and its file; the file of a name. Laws: proofs/ClearingLaws, WrittenLaws, FoundLaws.
use Rattle.std.specs.Prelude.{ℕ, ◌*◌, ◌≤◌, ◌<◌, ◌≡◌, true, length}
use mathlib.Core.List.{Memᴰ, map}
use Rattle.d64spec.specs.Lists.{Bytes, count, zeros}
use Rattle.d64spec.specs.Answers.{Address, address}
use Rattle.d64spec.specs.Geometry.{Geometry, sector_number, map_address}
use Rattle.d64spec.specs.Image.{disk, put}
use Rattle.d64spec.specs.Directory.{Slot, File, slot_in, file_of, files}
use Rattle.d64spec.specs.Owner.{claim_count, is_free}
use Rattle.d64spec.specs.Accepted.{Accepted}
use Rattle.d64spec.specs.Reply.{valid_name_argument, writable}
use Rattle.d64spec.specs.Scratch.{clear_sectors}
use Rattle.answers.specs.declared.Done.{Done}
use Rattle.bam.specs.MapEntry.{Entries}
use Rattle.bam.specs.Expected.{Expects, free_after}
use Rattle.diskcheck.specs.declared.Checked.{Checked}
use Rattle.finding.specs.FileSlots.{CheckedSlots}
use Rattle.reading.specs.ChainReads.{link_of, sectors_from, data_from, ChainFrom}
use Rattle.reading.specs.FileSlots.{first_of}

-- ---- a sector

-- every byte of sector n of an image is 0, on the disk one sector put, and this is the link that the sector had (01, Scratch; Chains)
pub record SectorCleared (img : Bytes) (n : ℕ) (link : Address) (img' : Bytes) : Type 0 where
  pub zeroed : disk img' ≡ put (disk img) n (zeros 256)
  pub size : length img' ≡ length img
  pub had : link ≡ link_of (disk img n)

-- ---- a chain

-- a whole chain starts at the sector r, each sector on it has its one owner, and the map marks exactly nobody's sectors free (01, Chains; The map)
pub record ChainOwned (g : Geometry) (img : Bytes) (es : Entries) (r : Address) : Type 0 where
  pub chain : ChainFrom g img r
  pub owned : (n : ℕ) → count n (map (sector_number g) (sectors_from g img r)) ≤ claim_count g (disk img) n
  pub once : (n : ℕ) → claim_count g (disk img) n ≤ 1
  pub marks : Expects g (is_free g (disk img)) (disk img (sector_number g map_address)) es

-- the chain's sectors zeroed, and free in the map; the number of their bytes of data, and their own (01, Scratch)
pub record ChainCleared (g : Geometry) (img : Bytes) (r : Address) (c : Done) (img' : Bytes) (es' : Entries) : Type 0 where
  pub sectors : disk img' ≡ clear_sectors g (sectors_from g img r) (disk img)
  pub size : length img' ≡ length img
  pub marks : Expects g (free_after g true (sectors_from g img r) (is_free g (disk img))) (disk img (sector_number g map_address)) es'
  pub bytes : c.length ≡ length (data_from g img r)
  pub number : c.sectors ≡ length (sectors_from g img r)

-- ---- a slot

-- slot `index` of the directory sector 18/holder, whose first slot has number n; a scratch does not ask that number (01, The directory)
unfoldable pub slot_on : Geometry → Bytes → ℕ → ℕ → ℕ → Slot
slot_on g img holder n index = slot_in (disk img (sector_number g (address 18 holder))) (address 18 holder) n index

-- the first sector of its file (01, The directory: 03-04)
abbrev pub start_of : Geometry → Bytes → ℕ → ℕ → Address
start_of g img holder index = first_of (slot_on g img holder 0 index).bytes

-- the file of that slot (01, The directory: 03-04; Chains)
unfoldable pub file_on : Geometry → Bytes → ℕ → ℕ → ℕ → File
file_on g img holder n index = file_of g (disk img) (slot_on g img holder n index)

-- an accepted image, and the file of one of its occupied slots; `from` is the number of its sector's first slot (01, Scratch)
pub record FileThere (g : Geometry) (img : Bytes) (holder index : ℕ) : Type 0 where
  pub accepted : Accepted g img
  pub inside : holder < 19
  pub place : index < 8
  pub from : ℕ
  pub element : Memᴰ (file_on g img holder from index) (files g (disk img))

-- a checked image that may be written, and a name that a call takes (01, The map: byte 2; Scratch)
pub record MayScratch (g : Geometry) (img name : Bytes) (c : Checked) : Type 0 where
  pub slots : CheckedSlots g img c.sectors (8 * c.count)
  pub asked : valid_name_argument name ≡ true
  pub allowed : writable g (disk img) ≡ true
