-- What an accepted image is, with no order (demand 2): the published layout with document 01's entry rules, each sector with at most one
-- claim on it, and a map that marks exactly nobody's sectors free. That the check answers 0 exactly here: proofs/ExactTheorem, `check-exact`.
use Rattle.std.specs.Prelude.{ℕ, ◌*◌, ◌≤◌, ◌<◌, ◌≡◌, true, ◌↔◌, map, length}
use Rattle.d64spec.specs.Lists.{Bytes, byte, All, name_count}
use Rattle.d64spec.specs.Answers.{address}
use Rattle.d64spec.specs.Geometry.{Geometry, sector_number, total, tracks, sectors_on, map_address, directory_start}
use Rattle.d64spec.specs.Image.{Disk, disk}
use Rattle.d64spec.specs.Chain.{to, file_link, directory_link, Chain}
use Rattle.d64spec.specs.Directory.{File, entry_byte, valid_type, valid_name, name_of, count_of, first_link, directory_sectors, files}
use Rattle.d64spec.specs.Owner.{claim_count, Free}
use Rattle.d64spec.specs.Map.{map_bit, map_ones}

-- what an entry must say of its file (01, The directory; Chains)
pub record ValidEntry (g : Geometry) (d : Disk) (f : File) : Type 0 where
  pub type : valid_type (entry_byte f.slot.bytes 0x02) ≡ true
  pub name : valid_name f.slot.bytes ≡ true
  pub chain : Chain g (file_link g) d (first_link g d f.slot) f.sectors
  pub sector_count : count_of f.slot.bytes ≡ length f.sectors

-- the map's bit of sector s of track t is right: it is 1 exactly where nobody owns the sector (01, The map)
abbrev pub RightBit : Geometry → Disk → ℕ → ℕ → Type 0
RightBit g d t s = (map_bit g (d (sector_number g map_address)) t s ≡ 1) ↔ Free g d (sector_number g (address t s))

-- a track's map entry marks exactly nobody's sectors free: its count, and the bits of its own sectors (01, The map; 02, §5)
pub record MarksFree (g : Geometry) (d : Disk) (t : ℕ) : Type 0 where
  pub free_count : byte (d (sector_number g map_address)) (g.map_at t) ≡ map_ones g (d (sector_number g map_address)) t
  pub free : (s : ℕ) → s < sectors_on g t → RightBit g d t s

-- what steps 2 to 4 find no fault in
pub record AcceptedDisk (g : Geometry) (d : Disk) : Type 0 where
  pub directory : Chain g (directory_link g) d (to directory_start) (directory_sectors g d)
  pub entry : All (ValidEntry g d) (files g d)
  pub names : (n : Bytes) → name_count n (map (λ f. name_of f.slot.bytes) (files g d)) ≤ 1  -- no two files share a name
  pub once : (n : ℕ) → claim_count g d n ≤ 1  -- no sector has two owners
  pub marks : (t : ℕ) → 1 ≤ t → t ≤ tracks g → MarksFree g d t

-- an accepted image
pub record Accepted (g : Geometry) (img : Bytes) : Type 0 where
  pub size : length img ≡ 256 * total g
  pub content : AcceptedDisk g (disk img)
