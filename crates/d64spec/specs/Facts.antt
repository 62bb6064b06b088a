-- What the theorems say that are not about one definition alone (01; demand 2): records that their statements name.
-- In order: refusals (proofs/RefusalTheorem); owners (OwnerTheorem, OwnerExact); slots (SlotBounds); what a store takes (PlaceTheorem); the answer block (WidthTheorem); a formatted disk (FormatTheorem); files, read and told (ReadTheorem); the sleeve listing and its program (ListingTheorem).
use Rattle.std.specs.Prelude.{ℕ, ◌+◌, ◌*◌, ◌-◌, ◌/◌, ◌%◌, ◌≤◌, ◌<◌, ◌≡◌, true, false, ◌⊎◌, ◌↔◌, length, drop, get_or}
use mathlib.Core.List.{List, [], ◌∷◌, ◌++◌, map, Memᴰ}
use Rattle.d64spec.specs.Lists.{All, Bytes, byte, filter, name_count, part, splice, zeros}
use Rattle.d64spec.specs.Answers.{Address, Answer, Fault, address, answer_of}
use Rattle.d64spec.specs.Geometry.{Geometry, allocation_order, directory_start, map_address, sector_number, sectors_on, total, tracks}
use Rattle.d64spec.specs.Image.{Disk, disk}
use Rattle.d64spec.specs.Chain.{Chain, chain_data, directory_link, to}
use Rattle.d64spec.specs.Directory.{File, Slot, directory_sectors, entry_byte, files, is_empty, name_of, occupied, padded, plain_entry_of, plain_list, slots_from}
use Rattle.d64spec.specs.Owner.{Free, Owner, Owns, is_free, nobody}
use Rattle.d64spec.specs.Map.{expected_entry, map_bit, map_ones}
use Rattle.d64spec.specs.Accepted.{Accepted, ValidEntry}
use Rattle.d64spec.specs.Reply.{Change, Reply, writable}
use Rattle.d64spec.specs.Format.{free_after_format}
use Rattle.d64spec.specs.Read.{FileInformation}
use Rattle.d64spec.specs.Store.{last_of}
use Rattle.d64spec.specs.Listing.{listing_text, disk_of_track18}
use Rattle.d64spec.specs.Host.{HostReply}
use Rattle.d64spec.specs.Order.{FirstFails, listing_conditions}

-- ---- refusals

-- a refused host call changes no byte of the image and of the output; it reports length 0 and 0 sectors in a block of nine bytes, and leaves any other block
-- as it was (demand 1; 01, Answer numbers; Host calls)
pub record LeftAlone (img out block : Bytes) (r : HostReply) : Type 0 where
  pub image : r.image_after ≡ img
  pub output : r.output_after ≡ out
  pub reports : length block ≡ 9 → part 3 8 r.block_after ≡ zeros 6
  pub other_block : (length block ≡ 9 → ⊥) → r.block_after ≡ block

-- ---- owners

-- exactly one owner: the map, the directory, one file, or nobody (demand 2; 01, What demand 3 compares)
pub record OneOwner (g : Geometry) (d : Disk) (n : ℕ) : Type 0 where
  pub owner : Owner
  pub owns : Owns g d owner n
  pub only : (o : Owner) → Owns g d o n → o ≡ owner

-- DEMAND 2, IN ITS OWN WORDS: the published layout of so many tracks and sectors, with document 01's entry rules; each sector has exactly one owner; and the map
-- marks exactly nobody's sectors free (01, The map: its bits, its counts; of the track's own sectors: 02, §5). No claim is counted here: proofs/OwnerExact
pub record DemandTwo (g : Geometry) (track_total sector_total : ℕ) (img : Bytes) : Type 0 where
  pub size : length img ≡ 256 * sector_total
  pub directory : Chain g (directory_link g) (disk img) (to directory_start) (directory_sectors g (disk img))
  pub entry : All (ValidEntry g (disk img)) (files g (disk img))
  pub names : (n : Bytes) → name_count n (map (λ f. name_of f.slot.bytes) (files g (disk img))) ≤ 1  -- no two files share a name
  pub owner : (n : ℕ) → n < sector_total → OneOwner g (disk img) n
  pub marks : (t s : ℕ) → 1 ≤ t → t ≤ track_total → s < sectors_on g t
      → (map_bit g (disk img (sector_number g map_address)) t s ≡ 1) ↔ Owns g (disk img) nobody (sector_number g (address t s))
  pub counts : (t : ℕ) → 1 ≤ t → t ≤ track_total → byte (disk img (sector_number g map_address)) (g.map_at t) ≡ map_ones g (disk img (sector_number g map_address)) t

-- ---- slots

-- slot i of the directory that has the sectors l: numbered in link order, eight to a sector (01, Answer numbers). The default of get_or is met by no slot
pub record Numbered (g : Geometry) (d : Disk) (l : List Address) (i : ℕ) (s : Slot) : Type 0 where
  pub holder : s.holder ≡ get_or l (i / 8) directory_start
  pub index : s.index ≡ i % 8
  pub number : s.number ≡ i
  pub bytes : s.bytes ≡ part 0x02 0x1F (drop (32 * (i % 8)) (d (sector_number g s.holder)))

-- the slots that a directory can have: eight in each sector of track 18 but 18/0
abbrev pub slots_most : Geometry → ℕ
slots_most g = 8 * (sectors_on g 18 - 1)

-- ---- what a store takes

-- the first empty slot (01, Store): empty, and no slot of the directory before it is
pub record FirstEmptySlot (g : Geometry) (d : Disk) (s : Slot) : Type 0 where
  pub front : List Slot
  pub back : List Slot
  pub whole : slots_from g d 0 (directory_sectors g d) ≡ front ++ s ∷ back
  pub empty : is_empty s.bytes ≡ true
  pub before : All (λ x. is_empty x.bytes ≡ false) front

-- the lowest free sector of track 18, where no slot of the directory is empty (01, Store)
pub record LowestFree (g : Geometry) (d : Disk) (r : Address) : Type 0 where
  pub full : (s : Slot) → Memᴰ s (slots_from g d 0 (directory_sectors g d)) → is_empty s.bytes ≡ false
  pub sector : ℕ
  pub is_that : r ≡ address 18 sector
  pub on_track : sector < sectors_on g 18
  pub free : Free g d (sector_number g (address 18 sector))
  pub lower : (s : ℕ) → s < sector → Free g d (sector_number g (address 18 s)) → ⊥

-- the first k free sectors in house order (01, Store): the order up to some place has exactly these free ones, so that none is passed over
pub record FirstFree (g : Geometry) (d : Disk) (k : ℕ) (l : List Address) : Type 0 where
  pub front : List Address
  pub back : List Address
  pub whole : allocation_order g ≡ front ++ back
  pub taken : l ≡ filter (is_free g d) front
  pub many : length l ≡ k

-- ---- the answer block

-- an answer's number is one of the table's, and its place is three bytes (01, Answer numbers; Host calls)
pub record AnswerFits (a : Answer) : Type 0 where
  pub number : a.number ≤ 17
  pub track : a.track < 256
  pub sector : a.sector < 256
  pub slot : a.slot < 256

-- a reply fits the nine bytes: besides, the length fits four bytes and the sectors two (01, Host calls)
pub record ReplyFits (r : Reply) : Type 0 where
  pub answer : AnswerFits r.answer
  pub reported_length : r.change.reported_length < 4294967296
  pub reported_sectors : r.change.reported_sectors < 65536

-- nine bytes that give back a reply's numbers, low byte first (01, Host calls)
pub record GivesBackReply (b : Bytes) (r : Reply) : Type 0 where
  pub size : length b ≡ 9
  pub bytes : (i : ℕ) → byte b i < 256
  pub track : byte b 0 ≡ r.answer.track
  pub sector : byte b 1 ≡ r.answer.sector
  pub slot : byte b 2 ≡ r.answer.slot
  pub reported_length : byte b 3 + 256 * (byte b 4 + 256 * (byte b 5 + 256 * byte b 6)) ≡ r.change.reported_length
  pub reported_sectors : byte b 7 + 256 * byte b 8 ≡ r.change.reported_sectors

-- ---- a formatted disk

-- ready for use: accepted, free to be written, and with no file
pub record Ready (g : Geometry) (img : Bytes) : Type 0 where
  pub accepted : Accepted g img
  pub writable : writable g (disk img) ≡ true
  pub bare : plain_list g (disk img) ≡ []

-- every byte of 18/0 after a format (01, Format); m is 18/0
pub record FormattedMap (g : Geometry) (name : Bytes) (id1 id2 : ℕ) (m : Bytes) : Type 0 where
  pub start : part 0x00 0x03 m ≡ 0x12 ∷ 0x01 ∷ 0x41 ∷ 0x00 ∷ []
  pub named : part 0x90 0x9F m ≡ padded name
  pub after_name : part 0xA0 0xA1 m ≡ 0xA0 ∷ 0xA0 ∷ []
  pub id : part 0xA2 0xA3 m ≡ id1 ∷ id2 ∷ []
  pub after_id : part 0xA4 0xA4 m ≡ 0xA0 ∷ []
  pub type : part 0xA5 0xA6 m ≡ 0x32 ∷ 0x41 ∷ []
  pub after_type : part 0xA7 0xAA m ≡ 0xA0 ∷ 0xA0 ∷ 0xA0 ∷ 0xA0 ∷ []
  pub entry : (t : ℕ) → 1 ≤ t → t ≤ tracks g → part (g.map_at t) (g.map_at t + 3) m ≡ expected_entry g (free_after_format g) (zeros 256) t
  pub free : (t s : ℕ) → 1 ≤ t → t ≤ tracks g → s < sectors_on g t → (map_bit g m t s ≡ 1) ↔ ((t ≡ 18) × (s ≤ 1) → ⊥)  -- all but 18/0 and 18/1
  pub spare : (t s : ℕ) → 1 ≤ t → t ≤ tracks g → sectors_on g t ≤ s → s < 24 → map_bit g m t s ≡ 0  -- past a track's last sector (02, §5: format writes 0)
  pub rest : (i : ℕ) → 0x04 ≤ i → (i < 0x90) ⊎ (0xAA < i) → ((t : ℕ) → 1 ≤ t → t ≤ tracks g → (i < g.map_at t) ⊎ (g.map_at t + 3 < i)) → byte m i ≡ 0

-- every byte of an image after a format (01, Format), and what it is good for
pub record Formatted (g : Geometry) (name : Bytes) (id1 id2 : ℕ) (img : Bytes) : Type 0 where
  pub size : length img ≡ 256 * total g
  pub directory : disk img (sector_number g directory_start) ≡ 0x00 ∷ 0xFF ∷ zeros 254
  pub map : FormattedMap g name id1 id2 (disk img (sector_number g map_address))
  pub other : (n : ℕ) → n < total g → (n ≡ sector_number g map_address → ⊥) → (n ≡ sector_number g directory_start → ⊥) → disk img n ≡ zeros 256
  pub ready : Ready g img

-- ---- files, read and told

-- n of a file: the second byte of its last sector (01, Chains). A file has a sector, so that `last_of` gives one of its own
abbrev pub last_used : Geometry → Disk → File → ℕ
last_used g d f = byte (d (sector_number g (last_of f.slot.holder f.sectors))) 1

-- a file of k sectors holds 254(k-1) + n-1 bytes, n being 1 to 255 (01, Chains)
pub record FileLength (g : Geometry) (d : Disk) (f : File) : Type 0 where
  pub some : 1 ≤ length f.sectors
  pub low : 1 ≤ last_used g d f
  pub high : last_used g d f ≤ 255
  pub bytes : length (chain_data g d f.sectors) ≡ 254 * (length f.sectors - 1) + last_used g d f - 1

-- what a read that is done has read: the one file of that name, whole (01, Read)
pub record WasRead (g : Geometry) (img name out : Bytes) (ch : Change) : Type 0 where
  pub accepted : Accepted g img
  pub file : File
  pub element : Memᴰ file (files g (disk img))
  pub named : name_of file.slot.bytes ≡ name
  pub only : (f : File) → Memᴰ f (files g (disk img)) → name_of f.slot.bytes ≡ name → f ≡ file
  pub listed : Memᴰ (plain_entry_of g (disk img) file) (plain_list g (disk img))
  pub room : length (plain_entry_of g (disk img) file).content ≤ length out
  pub output : ch.output_after ≡ splice out 0 (plain_entry_of g (disk img) file).content
  pub image : ch.image_after ≡ img
  pub reported_length : ch.reported_length ≡ length (plain_entry_of g (disk img) file).content
  pub reported_sectors : ch.reported_sectors ≡ length file.sectors

-- what a tell that is done has told: of the file before which there are as many as the position says (01, Tell)
pub record WasTold (g : Geometry) (img : Bytes) (position : ℕ) (i : FileInformation) : Type 0 where
  pub accepted : Accepted g img
  pub front : List File
  pub file : File
  pub back : List File
  pub whole : files g (disk img) ≡ front ++ file ∷ back
  pub before : length front ≡ position
  pub type_byte : i.type_byte ≡ entry_byte file.slot.bytes 0x02
  pub name_bytes : i.name_bytes ≡ padded (name_of file.slot.bytes)
  pub further : List Address
  pub first : file.sectors ≡ address i.first_track i.first_sector ∷ further
  pub sector_count : i.sector_count ≡ length file.sectors
  pub byte_length : i.byte_length ≡ length (chain_data g (disk img) file.sectors)

-- ---- the sleeve listing and its program

-- the text of a listing of track 18's bytes: its occupied slots, in order (01, Sleeve listing)
abbrev pub text_of : Geometry → Bytes → Bytes
text_of g b = listing_text g (disk_of_track18 g b) (occupied g (disk_of_track18 g b))

-- what the program prints where a listing of these bytes is refused: the two digits of the first fault's number, which is 2 to 6, and LF (01, Sleeve listing)
pub record SleeveRefused (g : Geometry) (b out printed : Bytes) : Type 0 where
  pub fault : Fault
  pub first : FirstFails (listing_conditions g b out) fault
  pub low : 2 ≤ (answer_of fault).number
  pub high : (answer_of fault).number ≤ 6
  pub line : printed ≡ 0x30 ∷ (0x30 + (answer_of fault).number) ∷ 0x0A ∷ []
