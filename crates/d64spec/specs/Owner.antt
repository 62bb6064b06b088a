-- Who owns which sector (01, What demand 3 compares): 18/0 belongs to the map, 18/1 and the sectors linked from it to the directory,
-- the sectors of a file's chain to that file, and all others to nobody.
-- Ownership is counted: one list has every claim on a sector, so that a sector claimed twice shows. Exactly one owner each: proofs/OwnerTheorem.
use Rattle.std.specs.Prelude.{ℕ, ◌<◌, ◌≡◌, Bool, eqb}
use mathlib.Core.List.{List, [], ◌∷◌, ◌++◌, map, Memᴰ}
use Rattle.d64spec.specs.Lists.{count, filter}
use Rattle.d64spec.specs.Answers.{Address}
use Rattle.d64spec.specs.Geometry.{Geometry, sector_number, map_address, sectors_of_track, allocation_order}
use Rattle.d64spec.specs.Image.{Disk}
use Rattle.d64spec.specs.Directory.{File, directory_sectors, files}

-- sector n is one of these
abbrev pub Among : Geometry → ℕ → List Address → Type 0
Among g n l = 0 < count n (map (sector_number g) l)

-- the sectors that given files claim
abbrev pub file_claims : Geometry → List File → List ℕ
file_claims g [] = []
file_claims g (f ∷ l) = map (sector_number g) f.sectors ++ file_claims g l

-- every claim on a sector: the map's, the directory's, each file's
unfoldable pub claims_of : Geometry → List Address → List File → List ℕ
claims_of g ds fs = sector_number g map_address ∷ (map (sector_number g) ds ++ file_claims g fs)

-- who can own a sector
pub data Owner : Type 0 where
  the_map the_directory nobody : Owner
  the_file : File → Owner

module _ (g : Geometry) (d : Disk) where
  -- every claim on a sector of this disk
  unfoldable pub claim_list : List ℕ
  claim_list = claims_of g (directory_sectors g d) (files g d)

  -- how many claims there are on sector n
  unfoldable pub claim_count : ℕ → ℕ
  claim_count n = count n claim_list

  -- nobody owns sector n: it is free
  abbrev pub Free : ℕ → Type 0
  Free n = claim_count n ≡ 0

  -- who owns sector n
  abbrev pub Owns : Owner → ℕ → Type 0
  Owns the_map n = n ≡ sector_number g map_address
  Owns the_directory n = Among g n (directory_sectors g d)
  Owns (the_file f) n = Memᴰ f (files g d) × Among g n f.sectors
  Owns nobody n = Free n

  -- nobody owns a sector, as a test
  abbrev pub is_free : Address → Bool
  is_free r = eqb (claim_count (sector_number g r)) 0

  -- the free sectors for files, in the order in which a store takes them
  unfoldable pub free_for_files : List Address
  free_for_files = filter is_free (allocation_order g)

  -- the free sectors of track 18, upward
  unfoldable pub free_for_directory : List Address
  free_for_directory = filter is_free (sectors_of_track g 18)
