-- The owner table (01, Order of the check: "Every sector's owner so far is held in a table of 683 numbers").
-- A sector's entry is 0 where nobody owns it, 1 for the map, 2 for the directory, and 3 and the slot's number for a file.
-- In order: owners as numbers; the table read as a list of owned sectors; the table with more owners; the tables of the check.
-- The definitions of d64spec ask only who is a member of the list `owned`. Laws: proofs/TableLaws, WalkTable, Walking, SlotsTable, ClaimLaws;
-- that an entry names the sector's owner: OwnerNumberLaws.
use Rattle.std.specs.Prelude.{ℕ, zero, suc, ◌+◌, Bool, get_or, set, eqb}
use mathlib.Core.List.{List, [], ◌∷◌, map, Memᴰ}
use Rattle.d64spec.specs.Lists.{zeros}
use Rattle.d64spec.specs.Answers.{Address}
use Rattle.d64spec.specs.Geometry.{Geometry, total, sector_number, map_address}
use Rattle.d64spec.specs.Image.{Disk}
use Rattle.d64spec.specs.Directory.{File, files}
use Rattle.d64spec.specs.Owner.{Owner, the_map, the_directory, nobody, the_file}

-- the map's number, the directory's, and that of the file in a slot
abbrev pub map_owner : ℕ
map_owner = 1

abbrev pub directory_owner : ℕ
directory_owner = 2

abbrev pub file_owner : ℕ → ℕ
file_owner slot = slot + 3

-- the number of each owner
abbrev pub owner_number : Owner → ℕ
owner_number nobody = 0
owner_number the_map = map_owner
owner_number the_directory = directory_owner
owner_number (the_file f) = file_owner f.slot.number

-- who can own a sector of this disk: of files, those of its directory
abbrev pub OwnerOf : Geometry → Disk → Owner → Type 0
OwnerOf g d nobody = Unit {0}
OwnerOf g d the_map = Unit {0}
OwnerOf g d the_directory = Unit {0}
OwnerOf g d (the_file f) = Memᴰ f (files g d)

-- the sectors from number i on that have an owner
abbrev pub owned_from : ℕ → List ℕ → List ℕ
owned_from i [] = []
owned_from i (zero ∷ own) = owned_from (suc i) own
owned_from i (suc x ∷ own) = i ∷ owned_from (suc i) own

-- the sectors that have an owner, by their numbers
unfoldable pub owned : List ℕ → List ℕ
owned own = owned_from 0 own

-- nobody owns the sector: its entry is 0
unfoldable pub free_by : Geometry → List ℕ → Address → Bool
free_by g own r = eqb (get_or own (sector_number g r) 0) 0

-- the table with this owner for these sectors
abbrev pub with_owner : ℕ → List ℕ → List ℕ → List ℕ
with_owner id [] own = own
with_owner id (n ∷ l) own = with_owner id l (set own n id)

module _ (g : Geometry) where
  -- the table with each file's number for the sectors of its chain
  abbrev pub with_files : List File → List ℕ → List ℕ
  with_files [] own = own
  with_files (f ∷ l) own = with_files l (with_owner (file_owner f.slot.number) (map (sector_number g) f.sectors) own)

  -- before the directory is walked: 18/0 is the map's
  unfoldable pub map_table : List ℕ
  map_table = set (zeros (total g)) (sector_number g map_address) map_owner

  -- after the directory is walked
  unfoldable pub directory_table : List Address → List ℕ
  directory_table ds = with_owner directory_owner (map (sector_number g) ds) map_table

  -- WHO OWNS EACH SECTOR, once all chains are walked
  unfoldable pub owner_table : List Address → List File → List ℕ
  owner_table ds fs = with_files fs (directory_table ds)
