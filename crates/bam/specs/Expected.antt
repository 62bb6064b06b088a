-- What a map by value says of the free sectors (01, The map, 18/0; Store and Scratch: the map follows). Laws: proofs/FollowLaws.
use Rattle.std.specs.Prelude.{ℕ, ◌≤◌, ◌≡◌, Bool, cond, List, map, length}
use Rattle.d64spec.specs.Lists.{Bytes, member}
use Rattle.d64spec.specs.Answers.{Address}
use Rattle.d64spec.specs.Geometry.{Geometry, tracks, sector_number}
use Rattle.d64spec.specs.Map.{expected_entry}
use Rattle.bam.specs.MapEntry.{Entries}
use Rattle.bam.specs.Bam.{entry_of}

-- every entry of the map is the one that these free sectors ask for, with the bits past its track's last sector that the map sector m has (02, §5)
pub record Expects (g : Geometry) (free : Address → Bool) (m : Bytes) (es : Entries) : Type 0 where
  pub size : length es ≡ 40
  pub entry : (t : ℕ) → 1 ≤ t → t ≤ tracks g → entry_of es t ≡ expected_entry g free m t

-- which sectors are free once those of a list are given back, or else taken
unfoldable pub free_after : Geometry → Bool → List Address → (Address → Bool) → Address → Bool
free_after g free l before r = cond (member (sector_number g r) (map (sector_number g) l)) free (before r)
