-- A store as the code holds it before anything is written (01, Store): where the entry goes, which sectors are taken, and what is then written.
-- In order: the place of the entry; an image on which a new name may be stored; a store whose every refusal is decided; the image after it.
use Rattle.std.specs.Prelude.{ℕ, ◌≤◌, ◌<◌, ◌≡◌, true, false, List, map, length}
use Rattle.d64spec.specs.Lists.{Bytes, byte}
use Rattle.d64spec.specs.Answers.{address, done}
use Rattle.d64spec.specs.Geometry.{Geometry, sector_number, map_address, directory_start}
use Rattle.d64spec.specs.Image.{disk}
use Rattle.d64spec.specs.Directory.{directory_sectors, files}
use Rattle.d64spec.specs.Owner.{free_for_files}
use Rattle.d64spec.specs.Accepted.{Accepted}
use Rattle.d64spec.specs.Reply.{valid_name_argument, files_named}
use Rattle.d64spec.specs.Store.{SlotPlace, in_empty_slot, in_new_sector, slot_place_for, sectors_needed, placement, last_of, store_change}
use Rattle.geometry.specs.Layout.{address_of}
use Rattle.geometry.specs.declared.Address.{Address}
use Rattle.bam.specs.MapEntry.{Entries}
use Rattle.bam.specs.MapSector.{map_entries}
use Rattle.entry.specs.Entry.{number_of_kind}
use Rattle.storing.specs.declared.NewFile.{NewFile}
use Rattle.storing.specs.declared.room.EntryPlace.{EntryPlace}

-- the code's struct names this place of the definitions
abbrev pub PlaceIs : SlotPlace → EntryPlace → Type 0
PlaceIs (in_empty_slot s) p = (p.grown ≡ false) × (s.holder ≡ address 18 p.sector) × (s.index ≡ p.index)
PlaceIs (in_new_sector r) p = (p.grown ≡ true) × (r ≡ address 18 p.sector) × (p.index ≡ 0)

-- p is where the definitions put the entry (01, Store: the first empty slot, or the lowest free sector of track 18)
pub record PlaceReady (g : Geometry) (img : Bytes) (p : EntryPlace) : Type 0 where
  pub place : SlotPlace
  pub found : slot_place_for g (disk img) ≡ done place
  pub is : PlaceIs place p

-- an accepted image of bytes that a new name may be stored on, the last sector of its directory, and its map by value
pub record StoreReady (g : Geometry) (img : Bytes) (f : NewFile) (last : ℕ) (es : Entries) : Type 0 where
  pub accepted : Accepted g img
  pub bytes : (i : ℕ) → byte img i < 256
  pub asked : valid_name_argument f.name.now ≡ true
  pub absent : length (files_named f.name.now (files g (disk img))) ≡ 0
  pub last_sector : address 18 last ≡ last_of directory_start (directory_sectors g (disk img))
  pub entries : es ≡ map_entries g (disk img (sector_number g map_address))

-- a store whose every refusal is decided: there is room, and these are the sectors that it takes
pub record WriteReady (g : Geometry) (img : Bytes) (f : NewFile) (places : List Address) (p : EntryPlace) (last : ℕ) (es : Entries) : Type 0 where
  pub ready : StoreReady g img f last es
  pub place : PlaceReady g img p
  pub room : sectors_needed (length f.content.now) ≤ length (free_for_files g (disk img))
  pub taken : map address_of places ≡ placement g (disk img) (sectors_needed (length f.content.now))

-- the image after it is the one that document 01 describes
pub record FileWritten (g : Geometry) (img : Bytes) (f : NewFile) (img' : Bytes) : Type 0 where
  pub written : (place : SlotPlace) → slot_place_for g (disk img) ≡ done place
      → img' ≡ (store_change g img place f.name.now (number_of_kind f.kind) f.content.now).image_after
