-- Document 01's worked examples, and its numbers in bytes, as rows of tables (01, Examples). A row says what is computed and what document 01 gives for
-- it, so that a missing value does not type; `broken` lists the rows that fail. The statements, one for each table: proofs/ExampleTables.
-- In order: the rows marked P; numbers in two and four bytes; the table of tracks and house order; the disk that the other examples make; their rows.
use Rattle.std.specs.Prelude.{ℕ, ◌+◌, ◌*◌, ◌-◌, ◌≡◌, Bool, true, false, ◌&&◌, not, List, [], ◌∷◌, ◌++◌, map, length, take, drop, replicate, eqb}
use Rattle.d64spec.specs.Lists.{Bytes, byte, part, zeros, filter, equal, range, ascending, sum, join}
use Rattle.d64spec.specs.Answers.{Address, address, unplaced, Result, refused, done}
use Rattle.d64spec.specs.Geometry.{layout35, sector_number, on_disk, sectors_on, first_on, total, allocation_order, directory_start}
use Rattle.d64spec.specs.Image.{Disk, disk, put}
use Rattle.d64spec.specs.Chain.{chain_data}
use Rattle.d64spec.specs.Directory.{slot_in, files, file_of, count_of}
use Rattle.d64spec.specs.Owner.{free_for_files}
use Rattle.d64spec.specs.Map.{map_bit, map_ones}
use Rattle.d64spec.specs.Check.{check_disk}
use Rattle.d64spec.specs.Reply.{changed}
use Rattle.d64spec.specs.Format.{formatted_disk}
use Rattle.d64spec.specs.Store.{SlotPlace, sectors_needed, write_chain, placement, slot_place_for, stored_disk, last_of, new_entry}
use Rattle.d64spec.specs.Scratch.{scratched_disk}
use Rattle.d64spec.specs.Listing.{call_listing, listing_output}
use Rattle.d64spec.specs.Host.{answer_block}

-- ---- the examples marked P

-- one of them
pub data Example : Type 0 where
  sector_at : Address → ℕ → ℕ → Example  -- an address, its sector number, the byte of an image where its 256 bytes start
  last_sector_at : Address → Example  -- the last sector of the disk
  off_disk : Address → Example  -- no sector of the disk
  map_entry : ℕ → Bytes → ℕ → List ℕ → Example  -- a track, its map entry, the free sectors it counts, the sectors it marks used
  stored : ℕ → ℕ → ℕ → Example  -- a length, the sectors it needs, the last one's n as it is written

-- a map sector with an entry for this track and zeros before it
abbrev pub entry_alone : ℕ → Bytes → Bytes
entry_alone t e = zeros (4 * t) ++ e

-- the last sector of so many bytes, as a store writes it on an empty disk
unfoldable pub last_sector : ℕ → Bytes
last_sector n =
    let l = take (sectors_needed n) (allocation_order layout35) in
    write_chain layout35 l (zeros n) (λ m. []) (sector_number layout35 (last_of directory_start l))

-- whether a row is as document 01 says, but for the first byte of a sector
unfoldable pub holds : Example → Bool
holds (sector_at r n b) = on_disk layout35 r && eqb (sector_number layout35 r) n
holds (last_sector_at r) = on_disk layout35 r && eqb (sector_number layout35 r + 1) (total layout35)
holds (off_disk r) = not (on_disk layout35 r)
holds (map_entry t e n used) =
    eqb (byte e 0) n && (eqb (map_ones layout35 (entry_alone t e) t) n
    && equal (filter (λ s. eqb (map_bit layout35 (entry_alone t e) t s) 0) (range 0 (sectors_on layout35 t))) used)
holds (stored n k last) = eqb (sectors_needed n) k && equal (part 0 1 (last_sector n)) (0 ∷ last ∷ [])

-- where a row names a sector's first byte: in every image, the sector of that number is the 256 bytes from there on
abbrev pub StartThere : List Example → Type 0
StartThere [] = Unit {0}
StartThere (sector_at r n b ∷ l) = ((img : Bytes) → disk img n ≡ take 256 (drop b img)) × StartThere l
StartThere (last_sector_at r ∷ l) = StartThere l
StartThere (off_disk r ∷ l) = StartThere l
StartThere (map_entry t e n used ∷ l) = StartThere l
StartThere (stored n k last ∷ l) = StartThere l

-- the rows that fail
abbrev pub broken : List Example → List Example
broken l = filter (λ e. not (holds e)) l

-- document 01's examples marked P
unfoldable pub table : List Example
table =
    sector_at (address 1 0) 0 0 ∷ sector_at (address 17 0) 336 86016 ∷ sector_at (address 18 0) 357 91392 ∷ sector_at (address 35 16) 682 174592 ∷ last_sector_at (address 35 16)
    ∷ off_disk (address 0 0) ∷ off_disk (address 36 0) ∷ off_disk (address 1 21) ∷ off_disk (address 18 19) ∷ off_disk (address 35 17)
    ∷ map_entry 1 (0x12 ∷ 0xFF ∷ 0xF9 ∷ 0x17 ∷ []) 18 (9 ∷ 10 ∷ 19 ∷ [])
    ∷ stored 0 1 1 ∷ stored 254 1 255 ∷ stored 255 2 2
    ∷ []

-- ---- numbers in bytes, low byte first

-- a number, and the bytes it has in an image or in an answer block
pub data Written : Type 0 where
  sector_count : ℕ → ℕ → ℕ → Written  -- bytes 1E and 1F of a slot, and the sectors they say (01, The directory; Store)
  reported : ℕ → ℕ → Bytes → Written  -- a length and sectors, and bytes 3 to 8 of the answer block (01, Host calls)

-- an entry that a store of k sectors writes: bytes 02 to 1F, of which 1E and 1F are the last two
unfoldable pub entry_of : ℕ → Bytes
entry_of k = new_entry (0x41 ∷ []) 2 (address 17 0) k

-- whether a row is as document 01 says: the bytes are read as the number, and the number is written as the bytes
unfoldable pub written_holds : Written → Bool
written_holds (sector_count low high k) = eqb (count_of (zeros 28 ++ (low ∷ high ∷ []))) k && equal (drop 28 (entry_of k)) (low ∷ high ∷ [])
written_holds (reported n k bs) = equal (answer_block (record { answer = unplaced 0; change = changed [] n k })) (0 ∷ 0 ∷ 255 ∷ bs)

-- 664 is $0298 and 168,656 is $000292D0: the sectors and the bytes of the longest file. 16,909,060 is $01020304
unfoldable pub written_numbers : List Written
written_numbers =
    sector_count 0x01 0x00 1 ∷ sector_count 0xFF 0x00 255 ∷ sector_count 0x00 0x01 256 ∷ sector_count 0x98 0x02 664
    ∷ reported 0 0 (zeros 6)
    ∷ reported 168656 664 (0xD0 ∷ 0x92 ∷ 0x02 ∷ 0x00 ∷ 0x98 ∷ 0x02 ∷ [])
    ∷ reported 16909060 258 (0x04 ∷ 0x03 ∷ 0x02 ∷ 0x01 ∷ 0x02 ∷ 0x01 ∷ [])
    ∷ []

-- the rows that fail
abbrev pub broken_written : List Written → List Written
broken_written l = filter (λ w. not (written_holds w)) l

-- ---- the table of tracks (01, Tracks and sectors)

-- a zone: its first and its last track, the sectors of each, all of them, and the number of the first
pub data Zone : Type 0 where
  zone : ℕ → ℕ → ℕ → ℕ → ℕ → Zone

-- whether the layout has it
unfoldable pub zone_holds : Zone → Bool
zone_holds (zone a b each all n) =
    equal (map (sectors_on layout35) (ascending a b)) (replicate (b + 1 - a) each) && (eqb (sum (map (sectors_on layout35) (ascending a b))) all && eqb (first_on layout35 a) n)

-- document 01's table
unfoldable pub zones : List Zone
zones = zone 1 17 21 357 0 ∷ zone 18 24 19 133 357 ∷ zone 25 30 18 108 490 ∷ zone 31 35 17 85 598 ∷ []

-- the rows that fail
abbrev pub broken_zones : List Zone → List Zone
broken_zones l = filter (λ z. not (zone_holds z)) l

-- house order (01, Store): tracks 17 down to 1, then 19 up to 35
unfoldable pub house_tracks : List ℕ
house_tracks =
    17 ∷ 16 ∷ 15 ∷ 14 ∷ 13 ∷ 12 ∷ 11 ∷ 10 ∷ 9 ∷ 8 ∷ 7 ∷ 6 ∷ 5 ∷ 4 ∷ 3 ∷ 2 ∷ 1
    ∷ 19 ∷ 20 ∷ 21 ∷ 22 ∷ 23 ∷ 24 ∷ 25 ∷ 26 ∷ 27 ∷ 28 ∷ 29 ∷ 30 ∷ 31 ∷ 32 ∷ 33 ∷ 34 ∷ 35 ∷ []

-- ---- format CODES with the ids 30 31, then store 300 bytes as CODE, PRG

-- the name of the disk
abbrev pub codes : Bytes
codes = 0x43 ∷ 0x4F ∷ 0x44 ∷ 0x45 ∷ 0x53 ∷ []

-- the name of the file
abbrev pub code : Bytes
code = 0x43 ∷ 0x4F ∷ 0x44 ∷ 0x45 ∷ []

-- 300 bytes, none of them 0
unfoldable pub content : Bytes
content = range 1 255 ++ range 101 45

-- the formatted disk
unfoldable pub formatted : Disk
formatted = formatted_disk layout35 codes 0x30 0x31

-- the disk after the store, with its entry at this place; the disk as it was where there is none
unfoldable pub with_file : Result SlotPlace → Disk → Disk
with_file (refused f) d = d
with_file (done p) d = stored_disk layout35 d p (placement layout35 d (sectors_needed (length content))) code 2 content

-- the disk after the store
unfoldable pub stored_once : Disk
stored_once = with_file (slot_place_for layout35 formatted) formatted

-- the disk after a scratch of that file
unfoldable pub scratched_again : Disk
scratched_again = scratched_disk layout35 stored_once (file_of layout35 stored_once (slot_in (stored_once (sector_number layout35 directory_start)) directory_start 0 0))

-- the formatted disk with bytes in all eight slots of 18/1, and the entry in a new directory sector (a whole store that grows the directory: specs/Trial)
unfoldable pub grown : Disk
grown = let full = put formatted (sector_number layout35 directory_start) (0x00 ∷ 0xFF ∷ range 1 254) in with_file (slot_place_for layout35 full) full

-- the bytes of track 18
unfoldable pub track_bytes : Disk → Bytes
track_bytes d = join (map d (range 357 19))

-- which disk a row speaks of
pub data Stage : Type 0 where
  after_format after_store after_scratch after_growth : Stage

-- the disk of a stage
unfoldable pub disk_at : Stage → Disk
disk_at after_format = formatted
disk_at after_store = stored_once
disk_at after_scratch = scratched_again
disk_at after_growth = grown

-- a row: what stands on the disk of a stage
pub data Step : Type 0 where
  accepted : Stage → Step  -- the check finds no fault
  bytes : Stage → Address → ℕ → Bytes → Step  -- these bytes, from this offset of a sector on
  file_contents : Stage → List Bytes → Step  -- the data of its files
  free_off18 : Stage → ℕ → Step  -- so many free sectors off track 18
  listing : Stage → List Bytes → Step  -- the lines of the sleeve listing, without LF

-- whether a result is done
unfoldable pub is_done : {A : Type 0} → Result A → Bool
is_done (refused f) = false
is_done (done x) = true

-- the data of the files of a disk
unfoldable pub contents_of : Disk → List Bytes
contents_of d = map (λ f. chain_data layout35 d f.sectors) (files layout35 d)

-- whether two lists of byte strings are equal
abbrev pub equal_all : List Bytes → List Bytes → Bool
equal_all [] [] = true
equal_all [] (y ∷ m) = false
equal_all (x ∷ l) [] = false
equal_all (x ∷ l) (y ∷ m) = equal x y && equal_all l m

-- whether a row is as document 01 says
unfoldable pub step_holds : Step → Bool
step_holds (accepted s) = is_done (check_disk layout35 (disk_at s))
step_holds (bytes s r i bs) = equal (take (length bs) (drop i (disk_at s (sector_number layout35 r)))) bs
step_holds (file_contents s l) = equal_all (contents_of (disk_at s)) l
step_holds (free_off18 s n) = eqb (length (free_for_files layout35 (disk_at s))) n
step_holds (listing s l) = equal (listing_output (call_listing layout35 (track_bytes (disk_at s)) (zeros 6234))) (join (map (λ x. x ++ (10 ∷ [])) l))

-- the rows that fail
abbrev pub broken_steps : List Step → List Step
broken_steps l = filter (λ e. not (step_holds e)) l

-- document 01's listing, whole: A0 stands eleven times in line one and twelve times in line two
abbrev pub listing_lines : List Bytes
listing_lines =
    (0x34 ∷ 0x33 ∷ 0x34 ∷ 0x46 ∷ 0x34 ∷ 0x34 ∷ 0x34 ∷ 0x35 ∷ 0x35 ∷ 0x33 ∷ 0x41 ∷ 0x30 ∷ 0x41 ∷ 0x30 ∷ 0x41 ∷ 0x30 ∷ 0x41 ∷ 0x30 ∷ 0x41 ∷ 0x30 ∷ 0x41 ∷ 0x30 ∷ 0x41 ∷ 0x30 ∷ 0x41 ∷ 0x30 ∷ 0x41 ∷ 0x30 ∷ 0x41 ∷ 0x30 ∷ 0x41 ∷ 0x30 ∷ 0x33 ∷ 0x30 ∷ 0x33 ∷ 0x31 ∷ [])
    ∷ (0x38 ∷ 0x32 ∷ 0x31 ∷ 0x31 ∷ 0x30 ∷ 0x30 ∷ 0x34 ∷ 0x33 ∷ 0x34 ∷ 0x46 ∷ 0x34 ∷ 0x34 ∷ 0x34 ∷ 0x35 ∷ 0x41 ∷ 0x30 ∷ 0x41 ∷ 0x30 ∷ 0x41 ∷ 0x30 ∷ 0x41 ∷ 0x30 ∷ 0x41 ∷ 0x30 ∷ 0x41 ∷ 0x30 ∷ 0x41 ∷ 0x30 ∷ 0x41 ∷ 0x30 ∷ 0x41 ∷ 0x30 ∷ 0x41 ∷ 0x30 ∷ 0x41 ∷ 0x30 ∷ 0x41 ∷ 0x30 ∷ 0x30 ∷ 0x32 ∷ 0x30 ∷ 0x30 ∷ [])
    ∷ (0x30 ∷ 0x32 ∷ 0x39 ∷ 0x36 ∷ [])
    ∷ []

-- bytes 02 to 1F of the entry of CODE: a closed PRG at 17/0, its name padded, nine zeros, two sectors
abbrev pub code_entry : Bytes
code_entry = 0x82 ∷ 0x11 ∷ 0x00 ∷ (code ++ (replicate 12 0xA0 ++ (zeros 9 ++ (0x02 ∷ 0x00 ∷ []))))

-- the other examples, each byte of the sectors that are written
unfoldable pub example_steps : List Step
example_steps =
    accepted after_format
    ∷ bytes after_format (address 18 0) 0x00 (0x12 ∷ 0x01 ∷ 0x41 ∷ 0x00 ∷ 0x15 ∷ 0xFF ∷ 0xFF ∷ 0x1F ∷ [])
    ∷ bytes after_format (address 18 0) 0x48 (0x11 ∷ 0xFC ∷ 0xFF ∷ 0x07 ∷ 0x13 ∷ 0xFF ∷ 0xFF ∷ 0x07 ∷ [])
    ∷ bytes after_format (address 18 0) 0x8C (0x11 ∷ 0xFF ∷ 0xFF ∷ 0x01 ∷ (codes ++ replicate 11 0xA0))
    ∷ bytes after_format (address 18 0) 0xA0 (0xA0 ∷ 0xA0 ∷ 0x30 ∷ 0x31 ∷ 0xA0 ∷ 0x32 ∷ 0x41 ∷ 0xA0 ∷ 0xA0 ∷ 0xA0 ∷ 0xA0 ∷ zeros 0x55)
    ∷ bytes after_format (address 18 1) 0x00 (0x00 ∷ 0xFF ∷ zeros 254)
    ∷ bytes after_format (address 17 0) 0x00 (zeros 256)
    ∷ free_off18 after_format 664
    ∷ accepted after_store
    ∷ bytes after_store (address 17 0) 0x00 (0x11 ∷ 0x01 ∷ range 1 254)
    ∷ bytes after_store (address 17 1) 0x00 (0x00 ∷ 0x2F ∷ 0xFF ∷ (range 101 45 ++ zeros 208))
    ∷ bytes after_store (address 18 0) 0x44 (0x13 ∷ 0xFC ∷ 0xFF ∷ 0x1F ∷ [])
    ∷ bytes after_store (address 18 1) 0x00 (0x00 ∷ 0xFF ∷ (code_entry ++ zeros 224))
    ∷ file_contents after_store (content ∷ [])
    ∷ free_off18 after_store 662
    ∷ listing after_store listing_lines
    ∷ accepted after_scratch
    ∷ bytes after_scratch (address 17 0) 0x00 (zeros 256)
    ∷ bytes after_scratch (address 17 1) 0x00 (zeros 256)
    ∷ bytes after_scratch (address 18 0) 0x44 (0x15 ∷ 0xFF ∷ 0xFF ∷ 0x1F ∷ [])
    ∷ bytes after_scratch (address 18 1) 0x00 (0x00 ∷ 0xFF ∷ zeros 254)
    ∷ file_contents after_scratch []
    ∷ bytes after_growth (address 18 1) 0x00 (0x12 ∷ 0x02 ∷ 0x01 ∷ [])
    ∷ bytes after_growth (address 18 2) 0x00 (0x00 ∷ 0xFF ∷ (code_entry ++ zeros 224))
    ∷ bytes after_growth (address 18 0) 0x48 (0x10 ∷ 0xF8 ∷ 0xFF ∷ 0x07 ∷ [])
    ∷ []
