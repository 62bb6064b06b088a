-- Step 3 of the check by slot numbers, with the tables that it fills in (01, Order of the check, 3).
-- In order: slots by number; the tables; a file's chain and count; any slot; all slots; what the steps rely on.
-- Laws: proofs/SlotLaws, SlotsLaws.
use Rattle.std.specs.Prelude.{ℕ, ◌*◌, ◌≤◌, ◌<◌, ◌≡◌, true, false, cond, not, List, map, length, set, eqb, Bool}
use Rattle.d64spec.specs.Lists.{Bytes, All, name_count}
use Rattle.d64spec.specs.Answers.{Address, wrong_count, Result, refused, done, ◌>>=◌, ◌>>◌, need}
use Rattle.d64spec.specs.Geometry.{Geometry, total, sector_number}
use Rattle.d64spec.specs.Image.{disk}
use Rattle.d64spec.specs.Directory.{Slot, File, is_empty, entry_byte, name_of, valid_name, count_of}
use Rattle.d64spec.specs.Check.{check_slot, check_slots}
use Rattle.d64spec.specs.Listing.{bytes_of_track18}
use Rattle.owners.specs.Masks.{Masks}
use Rattle.owners.specs.OwnerTable.{owned, with_owner, with_files, file_owner}
use Rattle.directory.specs.declared.Directory.{Directory}
use Rattle.directory.specs.Directories.{slot_at, names_below, found, first_repeated, occupied_from}
use Rattle.diskcheck.specs.Chains.{chain_walk}
use Rattle.diskcheck.specs.EndTable.{end_of, with_ends}

-- slot k of the directory whose sectors on track 18 of the image are ss
abbrev pub image_slot : Geometry → Bytes → List ℕ → ℕ → Slot
image_slot g img ss k = slot_at (bytes_of_track18 g img) ss k

-- b are that slot's bytes 02 to 1F
pub record LentSlot (g : Geometry) (img ss : List ℕ) (k : ℕ) (b : Bytes) : Type 0 where
  pub is : b ≡ (image_slot g img ss k).bytes
  pub full : length b ≡ 30

-- the names of the occupied slots below k, the last first
abbrev pub image_names : Geometry → Bytes → List ℕ → ℕ → List Bytes
image_names g img ss k = names_below (bytes_of_track18 g img) ss k

-- the occupied slots among the n from k on
abbrev pub image_occupied : Geometry → Bytes → List ℕ → ℕ → ℕ → List Slot
image_occupied g img ss k n = occupied_from (bytes_of_track18 g img) ss k n

-- what step 3 fills in: who owns each sector, and where each file ends
pub record Tables : Type 0 where
  pub owners : List ℕ
  pub ends : List ℕ

abbrev pub tables : List ℕ → List ℕ → Tables
tables own ends = record { owners = own; ends = ends }

-- the tables after the chain of the file in a slot
unfoldable pub tables_with : Geometry → Bytes → ℕ → Tables → Result (List Address) → Result Tables
tables_with g img number t (refused f) = refused f
tables_with g img number t (done l) = done (tables (with_owner (file_owner number) (map (sector_number g) l) t.owners) (set t.ends number (end_of g img l)))

-- the chain of an occupied slot with bytes b, link by link, then the count: d64spec's `check_slot` after the entry
unfoldable pub check_chain : Geometry → Bytes → List ℕ → Bytes → Address → ℕ → Result (List Address)
check_chain g img own b holder number = do
  l ← chain_walk g img own holder number (entry_byte b 0x03) (entry_byte b 0x04)
  need (eqb (count_of b) (length l)) (wrong_count holder number)
  done l

-- the same, and the tables after it
unfoldable pub file_step : Geometry → Bytes → Tables → Bytes → Address → ℕ → Result Tables
file_step g img t b holder number = tables_with g img number t (check_chain g img t.owners b holder number)

-- slot k and the tables after it
unfoldable pub slot_step : Geometry → Bytes → Tables → List ℕ → ℕ → Result Tables
slot_step g img t ss k =
    cond (is_empty (image_slot g img ss k).bytes)
    (done t)
    (tables_with g img k t (check_slot g (disk img) (owned t.owners) (image_names g img ss k) (image_slot g img ss k)))

-- the tables after all files
unfoldable pub tables_with_files : Geometry → Bytes → Tables → Result (List File) → Result Tables
tables_with_files g img t (refused f) = refused f
tables_with_files g img t (done fs) = done (tables (with_files g fs t.owners) (with_ends g img fs t.ends))

-- THE DEFINITION'S CHECK of the n slots from k on, and the tables after it
unfoldable pub slots_step : Geometry → Bytes → Tables → List ℕ → ℕ → ℕ → Result Tables
slots_step g img t ss k n = tables_with_files g img t (check_slots g (disk img) (owned t.owners) (image_names g img ss k) (image_occupied g img ss k n))

-- what each step relies on and keeps: an image and tables of the right size, and masks that say what the table of owners says
pub record Kept (g : Geometry) (img : Bytes) (t : Tables) (used : List ℕ) : Type 0 where
  pub size : length img ≡ 256 * total g
  pub long : length t.owners ≡ total g
  pub room : length t.ends ≡ 144
  pub masks : Masks g t.owners used

-- the same, the 30 bytes of a slot, and one of the 144 numbers of slots
pub record FileReady (g : Geometry) (img : Bytes) (t : Tables) (used : List ℕ) (b : Bytes) (number : ℕ) : Type 0 where
  pub kept : Kept g img t used
  pub full : length b ≡ 30
  pub slot : number < 144

-- the same, and a directory of track 18 with its first repeated name
pub record SlotsReady (g : Geometry) (img : Bytes) (t : Tables) (used : List ℕ) (d : Directory) : Type 0 where
  pub kept : Kept g img t used
  pub inside : All (λ s. s < 19) d.sectors
  pub few : d.count ≤ 18
  pub first : d.repeated ≡ found (8 * d.count) (first_repeated (bytes_of_track18 g img) d.sectors 0 (8 * d.count))

-- the same at slot k: where it is occupied and its name is valid, an earlier slot has that name exactly if it is said to be repeated
pub record SlotReady (g : Geometry) (img : Bytes) (t : Tables) (used : List ℕ) (d : Directory) (k : ℕ) (repeated : Bool) : Type 0 where
  pub kept : Kept g img t used
  pub inside : All (λ s. s < 19) d.sectors
  pub within : k < 144
  pub name : is_empty (image_slot g img d.sectors k).bytes ≡ false → valid_name (image_slot g img d.sectors k).bytes ≡ true
      → eqb (name_count (name_of (image_slot g img d.sectors k).bytes) (image_names g img d.sectors k)) 0 ≡ not repeated
