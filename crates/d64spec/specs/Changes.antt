-- "No other byte changes" (01, Store; Scratch): what stands in every byte that a store or a scratch writes, and that each other byte is as it was.
-- A byte of an image is byte i of sector n. The theorems: proofs/ChangesTheorem.
use Rattle.std.specs.Prelude.{ℕ, suc, ◌+◌, ◌*◌, ◌-◌, ◌/◌, ◌%◌, ◌≤◌, ◌<◌, ◌≡◌, ◌⊎◌, List, [], ◌∷◌, ◌++◌, length, take, drop}
use Rattle.d64spec.specs.Lists.{Bytes, byte, part, zeros}
use Rattle.d64spec.specs.Answers.{Address, address}
use Rattle.d64spec.specs.Geometry.{Geometry, sector_number, sectors_on, tracks, map_address, directory_start}
use Rattle.d64spec.specs.Image.{Disk, disk}
use Rattle.d64spec.specs.Directory.{File, directory_sectors}
use Rattle.d64spec.specs.Owner.{Among, is_free}
use Rattle.d64spec.specs.Map.{expected_entry, map_bit}
use Rattle.d64spec.specs.Store.{SlotPlace, in_empty_slot, in_new_sector, new_entry, last_of}

-- ---- places

-- bytes 02 to 1F of slot j in the directory sector r
abbrev pub InSlot : Geometry → Address → ℕ → ℕ → ℕ → Type 0
InSlot g r j n i = (n ≡ sector_number g r) × (32 * j + 0x02 ≤ i) × (i ≤ 32 * j + 0x1F)

-- the four bytes of the map entry of a track that has one of these sectors
pub record InEntryOf (g : Geometry) (l : List Address) (n i : ℕ) : Type 0 where
  pub holder : n ≡ sector_number g map_address
  pub track : ℕ
  pub sector : ℕ
  pub on : sector < sectors_on g track
  pub among : Among g (sector_number g (address track sector)) l
  pub low : g.map_at track ≤ i
  pub high : i ≤ g.map_at track + 3

-- byte i of 18/0 is in none of the layout's map entries: the bytes of another layout's entries are such (02, §8)
abbrev pub OutsideMap : Geometry → ℕ → Type 0
OutsideMap g i = (t : ℕ) → 1 ≤ t → t ≤ tracks g → (i < g.map_at t) ⊎ (g.map_at t + 3 < i)

-- each such byte is as it was
abbrev pub OutsideKept : Geometry → Disk → Disk → Type 0
OutsideKept g before d = (i : ℕ) → OutsideMap g i → byte (d (sector_number g map_address)) i ≡ byte (before (sector_number g map_address)) i

-- every map entry of the disk d is the one that its owners ask for, with the bits past the track's last sector that the disk `before` has
abbrev pub MapFollows : Geometry → Disk → Disk → Type 0
MapFollows g before d =
    (t : ℕ) → 1 ≤ t → t ≤ tracks g
    → part (g.map_at t) (g.map_at t + 3) (d (sector_number g map_address)) ≡ expected_entry g (is_free g d) (before (sector_number g map_address)) t

-- the map, bit by bit: all bits of its entries are as they were but those of these sectors; so the bits past a track's last sector are (02, §5)
abbrev pub OtherBits : Geometry → List Address → Disk → Disk → Type 0
OtherBits g l before d =
    (t s : ℕ) → 1 ≤ t → t ≤ tracks g → s < 24 → (s < sectors_on g t → Among g (sector_number g (address t s)) l → ⊥)
    → map_bit g (d (sector_number g map_address)) t s ≡ map_bit g (before (sector_number g map_address)) t s

-- ---- scratch

-- what a scratch of f writes: the file's sectors, its slot, and the map entries of their tracks
abbrev pub ScratchWrites : Geometry → File → ℕ → ℕ → Type 0
ScratchWrites g f n i = Among g n f.sectors ⊎ (InSlot g f.slot.holder f.slot.index n i ⊎ InEntryOf g f.sectors n i)

-- every byte of the image after a scratch of f
pub record ScratchedBytes (g : Geometry) (img : Bytes) (f : File) (img' : Bytes) : Type 0 where
  pub size : length img' ≡ length img
  pub cleared : (n : ℕ) → Among g n f.sectors → disk img' n ≡ zeros 256
  pub slot : part 0x02 0x1F (drop (32 * f.slot.index) (disk img' (sector_number g f.slot.holder))) ≡ zeros 30
  pub map : MapFollows g (disk img) (disk img')
  pub bits : OtherBits g f.sectors (disk img) (disk img')
  pub rest : (k : ℕ) → (ScratchWrites g f (k / 256) (k % 256) → ⊥) → byte img' k ≡ byte img k

-- ---- store

-- the sectors added to the directory
abbrev pub added_sectors : SlotPlace → List Address
added_sectors (in_empty_slot s) = []
added_sectors (in_new_sector r) = r ∷ []

-- the bytes of a store's entry: the slot's, or the new directory sector's and the two link bytes of the last one before it
abbrev pub EntryWrites : Geometry → Disk → SlotPlace → ℕ → ℕ → Type 0
EntryWrites g d (in_empty_slot s) n i = InSlot g s.holder s.index n i
EntryWrites g d (in_new_sector r) n i = (n ≡ sector_number g r) ⊎ ((n ≡ sector_number g (last_of directory_start (directory_sectors g d))) × (i ≤ 0x01))

-- what a store in the sectors l writes: these sectors, the entry, and the map entries of their tracks and of a new directory sector's
abbrev pub StoreWrites : Geometry → Disk → SlotPlace → List Address → ℕ → ℕ → Type 0
StoreWrites g d place l n i = Among g n l ⊎ (EntryWrites g d place n i ⊎ InEntryOf g (added_sectors place ++ l) n i)

-- the bytes bs stand along the sectors l: 254 in each but the last, which starts with 00 and the number of its last used byte and ends in zeros
abbrev pub DataWritten : Geometry → Disk → List Address → Bytes → Type 0
DataWritten g d [] bs = bs ≡ []
DataWritten g d (r ∷ []) bs = d (sector_number g r) ≡ 0x00 ∷ suc (length bs) ∷ (bs ++ zeros (254 - length bs))
DataWritten g d (r ∷ q ∷ l) bs = (d (sector_number g r) ≡ q.track ∷ q.sector ∷ take 254 bs) × DataWritten g d (q ∷ l) (drop 254 bs)

-- the entry e stands at its place: in the slot, or in the first slot of a sector 00 FF, else zero, that the last one before it links to
abbrev pub EntryWritten : Geometry → Disk → Disk → SlotPlace → Bytes → Type 0
EntryWritten g d d' (in_empty_slot s) e = part 0x02 0x1F (drop (32 * s.index) (d' (sector_number g s.holder))) ≡ e
EntryWritten g d d' (in_new_sector r) e =
    (d' (sector_number g r) ≡ 0x00 ∷ 0xFF ∷ (e ++ zeros 224))
    × (part 0x00 0x01 (d' (sector_number g (last_of directory_start (directory_sectors g d)))) ≡ r.track ∷ r.sector ∷ [])

-- every byte of the image after a store in the sectors r and l
pub record StoredBytes (g : Geometry) (img : Bytes) (place : SlotPlace) (r : Address) (l : List Address) (name : Bytes) (kind : ℕ) (bs : Bytes) (img' : Bytes) : Type 0 where
  pub size : length img' ≡ length img
  pub laid : DataWritten g (disk img') (r ∷ l) bs
  pub entry : EntryWritten g (disk img) (disk img') place (new_entry name kind r (length (r ∷ l)))
  pub map : MapFollows g (disk img) (disk img')
  pub bits : OtherBits g (added_sectors place ++ r ∷ l) (disk img) (disk img')
  pub rest : (k : ℕ) → (StoreWrites g (disk img) place (r ∷ l) (k / 256) (k % 256) → ⊥) → byte img' k ≡ byte img k
