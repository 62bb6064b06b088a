-- The directory of track 18's bytes, as the code holds it (01, The directory; Order of the check, step 2).
-- In order: directory sectors; slots by number; the first slot that repeats a name; a slot found; what reading the directory gives.
-- Laws: proofs/SlotBytesLaws (one slot), SlotListLaws (the slots by number are d64spec's), RepeatLaws, Track18Laws (an image's track 18), ReadLaws.
use Rattle.std.specs.Prelude.{ℕ, zero, suc, ◌*◌, ◌-◌, ◌/◌, ◌%◌, ◌≤◌, ◌<◌, ◌≡◌, eqb, ltb, Bool, cond, not, ◌&&◌}
use Rattle.std.specs.Prelude.{List, [], ◌∷◌, ◌++◌, map, length, take, get_or, Option, Some, None, Result as CodeResult, Ok, Err}
use Rattle.d64spec.specs.Lists.{Bytes, All, filter, range, zeros, name_count}
use Rattle.d64spec.specs.Answers.{Address, address, wrong_size, bad_type, bad_name, duplicate_name, Result, refused, done, ◌>>◌, need}
use Rattle.d64spec.specs.Geometry.{Geometry, sectors_on, first_on}
use Rattle.d64spec.specs.Image.{disk}
use Rattle.d64spec.specs.Directory.{Slot, is_empty, entry_byte, valid_type, valid_name, name_field, name_of, slot_in}
use Rattle.d64spec.specs.Check.{check_directory}
use Rattle.d64spec.specs.Listing.{disk_of_track18}
use Rattle.answers.specs.declared.Fault.{Fault}
use Rattle.answers.specs.Faults.{fault_of}
use Rattle.owners.specs.OwnerTable.{directory_table}
use Rattle.owners.specs.Masks.{owned_mask}
use Rattle.directory.specs.declared.Directory.{Directory}

-- the first n of these sectors of track 18, as addresses
abbrev pub sectors_of : List ℕ → ℕ → List Address
sectors_of ss n = map (λ s. address 18 s) (take n ss)

-- slot k of the directory whose sectors on track 18 are ss: eight to a sector, in link order (01, Answer numbers)
unfoldable pub slot_at : Bytes → List ℕ → ℕ → Slot
slot_at b ss k = slot_in (disk b (get_or ss (k / 8) 0)) (address 18 (get_or ss (k / 8) 0)) (8 * (k / 8)) (k % 8)

-- the bytes 02 to 1F of slot k
abbrev pub slot_bytes : Bytes → List ℕ → ℕ → Bytes
slot_bytes b ss k = (slot_at b ss k).bytes

-- the occupied ones of the n slots from k on
unfoldable pub occupied_from : Bytes → List ℕ → ℕ → ℕ → List Slot
occupied_from b ss k n = filter (λ s. not (is_empty s.bytes)) (map (slot_at b ss) (range k n))

-- p is slot k, with its 30 bytes where track 18 is whole and the sector is one of its 19
pub record IsSlot (b : Bytes) (ss : List ℕ) (k : ℕ) (p : Bytes) : Type 0 where
  pub bytes : p ≡ slot_bytes b ss k
  pub full : length b ≡ 4864 → get_or ss (k / 8) 0 < 19 → length p ≡ 30

-- the name fields of the occupied slots below k, the last first
abbrev pub fields_below : Bytes → List ℕ → ℕ → List Bytes
fields_below b ss zero = []
fields_below b ss (suc k) = cond (is_empty (slot_bytes b ss k)) (fields_below b ss k) (name_field (slot_bytes b ss k) ∷ fields_below b ss k)

-- the names of the occupied slots below k, the last first
abbrev pub names_below : Bytes → List ℕ → ℕ → List Bytes
names_below b ss zero = []
names_below b ss (suc k) = cond (is_empty (slot_bytes b ss k)) (names_below b ss k) (name_of (slot_bytes b ss k) ∷ names_below b ss k)

-- slot k is occupied, and an occupied slot below it has the same name field
unfoldable pub repeats : Bytes → List ℕ → ℕ → Bool
repeats b ss k = not (is_empty (slot_bytes b ss k)) && ltb 0 (name_count (name_field (slot_bytes b ss k)) (fields_below b ss k))

-- the first of the n slots from k on that repeats a name field, or k + n where none does
abbrev pub first_repeated : Bytes → List ℕ → ℕ → ℕ → ℕ
first_repeated b ss k zero = k
first_repeated b ss k (suc n) = cond (repeats b ss k) k (first_repeated b ss (suc k) n)

-- the slot k that a search among those below the end met: none where it met the end
abbrev pub found : ℕ → ℕ → Option ℕ
found end k = cond (ltb k end) (Some k) None

-- kind and flags, name, name used by an earlier slot, of an occupied slot with bytes b (01, Order of the check, 3)
unfoldable pub entry_verdict : Bytes → Address → ℕ → Bool → Result (Unit {0})
entry_verdict b holder number repeated = do
  need (valid_type (entry_byte b 0x02)) (bad_type holder number)
  need (valid_name b) (bad_name holder number)
  need (not repeated) (duplicate_name holder number)

-- step 2 on track 18 alone: its size, then the directory along its links
unfoldable pub track_directory : Geometry → Bytes → Result (List Address)
track_directory g b = need (eqb (length b) (256 * sectors_on g 18)) wrong_size >> check_directory g (disk_of_track18 g b)

-- d is the directory of track 18's bytes b, in a layout whose track 18 has 19 sectors
pub record IsDirectory (g : Geometry) (b : Bytes) (d : Directory) : Type 0 where
  pub walked : track_directory g b ≡ done (sectors_of d.sectors d.count)
  pub count : d.count ≡ length (sectors_of d.sectors d.count)
  pub rest : d.sectors ≡ take d.count d.sectors ++ zeros (18 - d.count)
  pub few : d.count ≤ 18
  pub inside : All (λ s. s < 19) d.sectors
  pub repeated : d.repeated ≡ found (8 * d.count) (first_repeated b d.sectors 0 (8 * d.count))
  pub used : d.used ≡ owned_mask (directory_table g (sectors_of d.sectors d.count)) (first_on g 18) 19

-- what reading the directory of track 18's bytes b gives: the directory, or the fault of step 2
abbrev pub DirectoryRead : Geometry → Bytes → CodeResult Directory Fault → Type 0
DirectoryRead g b (Ok d) = IsDirectory g b d
DirectoryRead g b (Err f) = track_directory g b ≡ refused (fault_of f)
