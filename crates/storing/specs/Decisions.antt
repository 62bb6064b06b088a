-- What a store decides before it writes (01, Store; Answer numbers: 11, 12, 14, 15), as the code holds it.
-- In order: the call; the sectors needed; room for the entry; what is known at each step. Laws: proofs/RoomLaws, DecisionLaws, ReplyLaws.
use Rattle.std.specs.Prelude.{ℕ, ◌*◌, ◌/◌, ◌%◌, ◌≤◌, ◌<◌, ◌≡◌, true, false, List, length, get_or, Option, Some, None}
use Rattle.d64spec.specs.Lists.{Bytes, byte}
use Rattle.d64spec.specs.Answers.{refused, directory_full}
use Rattle.d64spec.specs.Geometry.{Geometry, sector_number, map_address}
use Rattle.d64spec.specs.Image.{disk}
use Rattle.d64spec.specs.Directory.{directory_sectors, files}
use Rattle.d64spec.specs.Reply.{valid_name_argument, writable, files_named}
use Rattle.d64spec.specs.Store.{sectors_needed, slot_place_for}
use Rattle.d64spec.specs.Call.{Call, store}
use Rattle.entry.specs.Entry.{number_of_kind}
use Rattle.geometry.specs.declared.Address.{Address}
use Rattle.directory.specs.Directories.{sectors_of, found}
use Rattle.finding.specs.FileSlots.{slot_empty, CheckedSlots}
use Rattle.bam.specs.MapEntry.{Entries}
use Rattle.bam.specs.MapSector.{map_entries}
use Rattle.placement.specs.Placements.{directory_place}
use Rattle.storing.specs.declared.NewFile.{NewFile}
use Rattle.storing.specs.declared.room.EntryPlace.{EntryPlace}
use Rattle.storing.specs.Plans.{StoreReady, PlaceReady}

-- the call that asks for this file to be stored (01, Host calls)
abbrev pub store_of : NewFile → Call
store_of f = store f.name.now (number_of_kind f.kind) f.content.now

-- n sectors for so many bytes, which the disk may have (01, Store; 02, §8: 190,246 bytes in 749 sectors)
pub record Needed (size n : ℕ) : Type 0 where
  pub is : n ≡ sectors_needed size
  pub some : 1 ≤ n
  pub few : n ≤ 749

-- slot k of the directory whose sectors on track 18 are ss, as a place (01, Answer numbers: eight to a sector)
abbrev pub slot_place : List ℕ → ℕ → EntryPlace
slot_place ss k = record { sector = get_or ss (k / 8) 0; index = k % 8; grown = false }

-- the first slot of a sector of track 18 that the directory has not got yet (01, Store)
abbrev pub new_place : Address → EntryPlace
new_place at = record { sector = at.sector; index = 0; grown = true }

-- room in the empty slot k, where there is one; else in the sector of track 18 at a place, where there is one (01, Store)
unfoldable pub room_at : List ℕ → Option ℕ → Option Address → Option EntryPlace
room_at ss (Some k) at = Some (slot_place ss k)
room_at ss None (Some at) = Some (new_place at)
room_at ss None None = None

-- where the entry goes (01, Store): the first empty one of the slots 0 to end - 1, or the lowest free sector of track 18
unfoldable pub room_for : Geometry → Bytes → List ℕ → ℕ → Entries → Option EntryPlace
room_for g b ss end es = room_at ss (found end (slot_empty b ss 0 end)) (directory_place g es)

-- what such room means on an image (01, Store; Answer numbers: 14)
abbrev pub RoomIs : Geometry → Bytes → Option EntryPlace → Type 0
RoomIs g img None = slot_place_for g (disk img) ≡ refused directory_full
RoomIs g img (Some p) = PlaceReady g img p

-- an image of bytes in which the check finds no fault; its directory's sectors on track 18 are the first `count` of ss (01, Order of the check)
pub record DirectoryChecked (g : Geometry) (img ss : List ℕ) (count : ℕ) : Type 0 where
  pub slots : CheckedSlots g img ss (8 * count)
  pub sectors : sectors_of ss count ≡ directory_sectors g (disk img)
  pub whole : count ≤ length ss
  pub bytes : (i : ℕ) → byte img i < 256

-- the same, and its map by value
pub record RoomAsked (g : Geometry) (img ss : List ℕ) (count : ℕ) (es : Entries) : Type 0 where
  pub directory : DirectoryChecked g img ss count
  pub entries : es ≡ map_entries g (disk img (sector_number g map_address))

-- a store of a name that a call takes on such an image
pub record StoreChecked (g : Geometry) (img : Bytes) (f : NewFile) (ss : List ℕ) (count : ℕ) : Type 0 where
  pub directory : DirectoryChecked g img ss count
  pub asked : valid_name_argument f.name.now ≡ true

-- the same where the DOS version allows writing and the name is new
pub record StoreNew (g : Geometry) (img : Bytes) (f : NewFile) (ss : List ℕ) (count : ℕ) : Type 0 where
  pub checked : StoreChecked g img f ss count
  pub may : writable g (disk img) ≡ true
  pub absent : length (files_named f.name.now (files g (disk img))) ≡ 0

-- the same where there is a place for the entry
pub record StorePlaced (g : Geometry) (img : Bytes) (f : NewFile) (p : EntryPlace) (last : ℕ) (es : Entries) : Type 0 where
  pub ready : StoreReady g img f last es
  pub may : writable g (disk img) ≡ true
  pub place : PlaceReady g img p
