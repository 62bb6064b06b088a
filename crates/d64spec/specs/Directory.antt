-- The directory (01, The directory): its sectors, their slots, the entries in them, and the file of each occupied slot.
-- In order: slots and files; the bytes of one entry; the whole directory; the files and the plain list.
use Rattle.std.specs.Prelude.{ℕ, ◌+◌, ◌*◌, ◌-◌, ◌/◌, ◌%◌, Bool, ◌&&◌, not, List, [], ◌∷◌, ◌++◌, map, length, drop, replicate, eqb, ltb}
use Rattle.d64spec.specs.Lists.{Bytes, byte, part, filter, equal, range}
use Rattle.d64spec.specs.Answers.{Address}
use Rattle.d64spec.specs.Geometry.{Geometry, sector_number, directory_start}
use Rattle.d64spec.specs.Image.{Disk}
use Rattle.d64spec.specs.Chain.{Link, to, link_to, file_link, directory_link, steps, follow, chain_data}

-- A slot: the directory sector that holds it, its place there from 0 to 7, its number from 0 to 143 through the directory, and its bytes 02 to 1F.
-- Bytes 00 and 01 are no part of it: in a sector's first slot they are the sector's link.
pub record Slot : Type 0 where
  pub holder : Address
  pub index : ℕ
  pub number : ℕ
  pub bytes : Bytes

-- a file: its slot, and the sectors of its chain
pub record File : Type 0 where
  pub slot : Slot
  pub sectors : List Address

-- an entry of the plain list (01, What demand 3 compares): a name, a kind and bytes
pub record PlainEntry : Type 0 where
  pub name : Bytes
  pub kind : ℕ
  pub content : Bytes

-- ---- the bytes of one entry, b being bytes 02 to 1F of its slot

-- the same under the offsets of document 01, which counts from byte 00 of the slot; bytes 00 and 01 read as 0
abbrev pub from_byte0 : Bytes → Bytes
from_byte0 b = 0 ∷ 0 ∷ b

-- byte i of the slot, from 02 to 1F
abbrev pub entry_byte : Bytes → ℕ → ℕ
entry_byte b i = byte (from_byte0 b) i

-- byte 02 is 0: the slot is empty, and the rest of it is ignored
abbrev pub is_empty : Bytes → Bool
is_empty b = eqb (entry_byte b 0x02) 0

-- a type byte: bit 7 is 1, bits 4 and 5 are 0, bit 6 (locked) may be either, and the low four bits are 1 SEQ, 2 PRG or 3 USR
unfoldable pub valid_type : ℕ → Bool
valid_type b = eqb (b / 128 % 2) 1 && (eqb (b / 16 % 4) 0 && (ltb 0 (b % 16) && ltb (b % 16) 4))

-- the kind: the low four bits of byte 02
abbrev pub kind_of : Bytes → ℕ
kind_of b = entry_byte b 0x02 % 16

-- bytes 05 to 14
abbrev pub name_field : Bytes → Bytes
name_field b = part 0x05 0x14 (from_byte0 b)

-- the name: those of bytes 05 to 14 that are not $A0
unfoldable pub name_of : Bytes → Bytes
name_of b = filter (λ c. not (eqb c 0xA0)) (name_field b)

-- a name filled up to 16 bytes with $A0
unfoldable pub padded : Bytes → Bytes
padded n = n ++ replicate (16 - length n) 0xA0

-- the name field is 1 to 16 bytes that are not $A0, then only $A0
unfoldable pub valid_name : Bytes → Bool
valid_name b = not (eqb (length (name_of b)) 0) && equal (name_field b) (padded (name_of b))

-- the number of sectors, bytes 1E and 1F, low byte first
abbrev pub count_of : Bytes → ℕ
count_of b = entry_byte b 0x1E + 256 * entry_byte b 0x1F

-- ---- the whole directory

-- slot j of the directory sector r, whose bytes are b and whose first slot has number n
unfoldable pub slot_in : Bytes → Address → ℕ → ℕ → Slot
slot_in b r n j = record { holder = r; index = j; number = n + j; bytes = part 0x02 0x1F (drop (32 * j) b) }

-- its eight slots of 32 bytes, from byte 0
unfoldable pub slots_in : Bytes → Address → ℕ → List Slot
slots_in b r n = map (slot_in b r n) (range 0 8)

module _ (g : Geometry) (d : Disk) where
  -- the directory's sectors in link order; bytes 0-1 of 18/0 are not trusted: it starts at 18/1 (01, The map)
  unfoldable pub directory_sectors : List Address
  directory_sectors = follow g (directory_link g) d (steps g) (to directory_start)

  -- the slots of these directory sectors, empty ones too, numbered from n
  abbrev pub slots_from : ℕ → List Address → List Slot
  slots_from n [] = []
  slots_from n (r ∷ l) = slots_in (d (sector_number g r)) r n ++ slots_from (n + 8) l

  -- the occupied slots of these directory sectors, in order
  abbrev pub occupied_in : List Address → List Slot
  occupied_in l = filter (λ s. not (is_empty s.bytes)) (slots_from 0 l)

  -- the occupied slots of the directory
  unfoldable pub occupied : List Slot
  occupied = occupied_in directory_sectors

  -- the link to a file's first sector, bytes 03-04; track 0 here is a bad link
  unfoldable pub first_link : Slot → Link
  first_link s = link_to g (entry_byte s.bytes 0x03) (entry_byte s.bytes 0x04)

  -- the file of an occupied slot
  unfoldable pub file_of : Slot → File
  file_of s = record { slot = s; sectors = follow g (file_link g) d (steps g) (first_link s) }

  -- the files in the order of their slots
  unfoldable pub files : List File
  files = map file_of occupied

  -- what the plain list has for a file: its name, its kind, the data along its chain
  unfoldable pub plain_entry_of : File → PlainEntry
  plain_entry_of f = record { name = name_of f.slot.bytes; kind = kind_of f.slot.bytes; content = chain_data g d f.sectors }

  -- the plain list of a disk
  unfoldable pub plain_list : List PlainEntry
  plain_list = map plain_entry_of files
