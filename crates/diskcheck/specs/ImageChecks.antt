-- The check of an image in code: its fault, or the directory's sectors and the files' ends, for any bytes (01, Order of the check).
-- In order: what the check of any bytes gives, the public contract; step 4 by a table; steps 3 and 4 together, and
-- the tables that they start with. Laws for callers: proofs/CheckedLaws.
use Rattle.std.specs.Prelude.{ℕ, ◌*◌, ◌-◌, ◌≤◌, ◌<◌, ◌≡◌, List, ◌++◌, length, take, Result as CodeResult, Ok, Err}
use Rattle.d64spec.specs.Lists.{Bytes, All, range, zeros}
use Rattle.d64spec.specs.Answers.{Address, Result, refused, done, ◌>>=◌, ◌>>◌}
use Rattle.d64spec.specs.Geometry.{Geometry, total, tracks, first_on}
use Rattle.d64spec.specs.Image.{disk}
use Rattle.d64spec.specs.Listing.{bytes_of_track18}
use Rattle.d64spec.specs.Check.{DirectoryContents, check_map, check_image}
use Rattle.answers.specs.declared.Fault.{Fault}
use Rattle.answers.specs.Faults.{fault_of}
use Rattle.owners.specs.OwnerTable.{free_by, directory_table}
use Rattle.owners.specs.Masks.{owned_mask}
use Rattle.directory.specs.declared.Directory.{Directory}
use Rattle.directory.specs.Directories.{sectors_of, found, first_repeated}
use Rattle.diskcheck.specs.declared.Checked.{Checked}
use Rattle.diskcheck.specs.EndTable.{end_table}
use Rattle.diskcheck.specs.SlotChecks.{Tables, tables, slots_step}

-- what a check that finds no fault leaves: the directory's sectors, and where each file ends
pub record Found : Type 0 where
  pub directory : List Address
  pub ends : List ℕ

-- the same from what the definition's check of an image has met
unfoldable pub found_in : Geometry → Bytes → Result DirectoryContents → Result Found
found_in g img (refused f) = refused f
found_in g img (done c) = done (record { directory = c.walked; ends = end_table g img c.found })

-- c is what is handed back of an image without a fault: the directory's sectors on track 18, with zeros after them, and where each file ends
pub record IsChecked (g : Geometry) (img : Bytes) (c : Checked) : Type 0 where
  pub told : found_in g img (check_image g img) ≡ done (record { directory = sectors_of c.sectors c.count; ends = c.ends })
  pub count : c.count ≡ length (sectors_of c.sectors c.count)
  pub rest : c.sectors ≡ take c.count c.sectors ++ zeros (18 - c.count)
  pub few : c.count ≤ 18
  pub inside : All (λ s. s < 19) c.sectors

-- what the check of any bytes gives, steps 1 to 4: that, or the definition's fault
abbrev pub ImageChecked : Geometry → Bytes → CodeResult Checked Fault → Type 0
ImageChecked g img (Ok c) = IsChecked g img c
ImageChecked g img (Err f) = check_image g img ≡ refused (fault_of f)

-- step 4 with a table of owners: the map against the sectors that nobody owns there
abbrev pub map_step : Geometry → Bytes → List ℕ → Result (Unit {0})
map_step g img own = check_map g (disk img) (free_by g own) (range 1 (tracks g))

-- steps 3 and 4 for a directory of n sectors ss on track 18, and the tables after them
unfoldable pub rest_step : Geometry → Bytes → Tables → List ℕ → ℕ → Result Tables
rest_step g img t ss n = do
  t' ← slots_step g img t ss 0 (8 * n)
  map_step g img t'.owners
  done t'

-- the tables before them: 18/0 is the map's, the sectors of the directory are its own, and no file has an end yet
unfoldable pub tables_before : Geometry → List ℕ → ℕ → Tables
tables_before g ss n = tables (directory_table g (sectors_of ss n)) (zeros 144)

-- an image of the right size, tables with no owner and no end, and a directory as it was read, with the bits of its sectors on track 18
pub record OwnersReady (g : Geometry) (img : Bytes) (t : Tables) (d : Directory) : Type 0 where
  pub size : length img ≡ 256 * total g
  pub bare : t.owners ≡ zeros (total g)
  pub endless : t.ends ≡ zeros 144
  pub inside : All (λ s. s < 19) d.sectors
  pub few : d.count ≤ 18
  pub whole : d.count ≤ length d.sectors
  pub first : d.repeated ≡ found (8 * d.count) (first_repeated (bytes_of_track18 g img) d.sectors 0 (8 * d.count))
  pub used : d.used ≡ owned_mask (directory_table g (sectors_of d.sectors d.count)) (first_on g 18) 19
