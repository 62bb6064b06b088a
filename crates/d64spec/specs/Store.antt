-- Store (01, What the calls do): k sectors in house order, an entry in the first empty slot or in a new directory sector, and the map.
-- In order: the sectors taken; their bytes; where the entry goes; the entry; the disk after; the call.
-- Every refusal is decided before the first change. Byte by byte: specs/Changes.
use Rattle.std.specs.Prelude.{ℕ, suc, ◌+◌, ◌*◌, ◌-◌, ◌/◌, ◌%◌, cond, List, [], ◌∷◌, ◌++◌, length, take, drop, eqb, leb}
use Rattle.d64spec.specs.Lists.{Bytes, filter, splice, zeros}
use Rattle.d64spec.specs.Answers.{Address, wrong_size, bad_name_argument, bad_kind_argument, write_forbidden, name_exists, directory_full, disk_full, Result, done, ◌>>=◌, ◌>>◌, need, first}
use Rattle.d64spec.specs.Geometry.{Geometry, sector_number, directory_start}
use Rattle.d64spec.specs.Image.{Disk, disk, image, put}
use Rattle.d64spec.specs.Directory.{Slot, is_empty, padded, slots_from, directory_sectors, files}
use Rattle.d64spec.specs.Owner.{free_for_files, free_for_directory}
use Rattle.d64spec.specs.Map.{rewrite_map}
use Rattle.d64spec.specs.Check.{right_size, check_disk}
use Rattle.d64spec.specs.Reply.{Change, changed, valid_name_argument, storable_kind, writable, files_named}
use Rattle.d64spec.specs.Format.{empty_directory_sector}

-- ---- the data

-- the sectors that n bytes need: 1 for none, else n over 254 rounded up
unfoldable pub sectors_needed : ℕ → ℕ
sectors_needed n = cond (eqb n 0) 1 ((n + 253) / 254)

-- the sectors that a store of k sectors takes: the first k free ones in house order
unfoldable pub placement : Geometry → Disk → ℕ → List Address
placement g d k = take k (free_for_files g d)

-- the bytes laid along these sectors: 254 in each but the last, whose link is 00 n and whose unused bytes are 0
abbrev pub write_chain : Geometry → List Address → Bytes → Disk → Disk
write_chain g [] bs d = d
write_chain g (r ∷ []) bs d = put d (sector_number g r) (0 ∷ suc (length bs) ∷ (bs ++ zeros (254 - length bs)))
write_chain g (r ∷ q ∷ l) bs d = put (write_chain g (q ∷ l) (drop 254 bs) d) (sector_number g r) (q.track ∷ q.sector ∷ take 254 bs)

-- ---- the entry

-- where the new entry goes: an empty slot, or the first slot of a new directory sector
pub data SlotPlace : Type 0 where
  in_empty_slot : Slot → SlotPlace
  in_new_sector : Address → SlotPlace

-- the empty slots of the directory, in order
unfoldable pub empty_slots : Geometry → Disk → List Slot
empty_slots g d = filter (λ s. is_empty s.bytes) (slots_from g d 0 (directory_sectors g d))

-- the first empty slot, or else the lowest free sector of track 18
unfoldable pub slot_place_for : Geometry → Disk → Result SlotPlace
slot_place_for g d = elim (empty_slots g d) [
  | [] ↦ first directory_full (free_for_directory g d) >>= (λ r. done (in_new_sector r))
  | s ∷ l ↦ done (in_empty_slot s)
]

-- bytes 02-1F of the entry: $80 + kind, first sector, name, nine zeros, count
unfoldable pub new_entry : Bytes → ℕ → Address → ℕ → Bytes
new_entry name kind r k = (0x80 + kind) ∷ r.track ∷ r.sector ∷ (padded name ++ (zeros 9 ++ (k % 256 ∷ k / 256 ∷ [])))

-- the disk with other bytes 02-1F in slot j of the directory sector r; bytes 00-01 stay
unfoldable pub overwrite_slot : Geometry → Address → ℕ → Bytes → Disk → Disk
overwrite_slot g r j bs d = put d (sector_number g r) (splice (d (sector_number g r)) (32 * j + 2) bs)

-- the last of r and the others
unfoldable pub last_of : Address → List Address → Address
last_of r [] = r
last_of r (q ∷ l) = last_of q l

-- the directory with a new sector r, which becomes 00 FF and zeros; the previous last sector links to it
unfoldable pub grow_directory : Geometry → Disk → Address → Disk
grow_directory g d r =
    let q = last_of directory_start (directory_sectors g d) in
    put (put d (sector_number g r) empty_directory_sector) (sector_number g q) (splice (d (sector_number g q)) 0 (r.track ∷ r.sector ∷ []))

-- the disk with an entry at its place
unfoldable pub write_slot : Geometry → Disk → SlotPlace → Bytes → Disk
write_slot g d (in_empty_slot s) bs = overwrite_slot g s.holder s.index bs d
write_slot g d (in_new_sector r) bs = overwrite_slot g r 0 bs (grow_directory g d r)

-- ---- the whole

-- the disk after a store in given sectors, of which there is at least one
unfoldable pub stored_disk : Geometry → Disk → SlotPlace → List Address → Bytes → ℕ → Bytes → Disk
stored_disk g d place [] name kind bs = d
stored_disk g d place (r ∷ l) name kind bs =
    rewrite_map g (write_slot g (write_chain g (r ∷ l) bs d) place (new_entry name kind r (length (r ∷ l))))

-- the change of a store with its entry at this place; it reports the bytes handed in and their sectors
abbrev pub store_change : Geometry → Bytes → SlotPlace → Bytes → ℕ → Bytes → Change
store_change g img place name kind bs =
    let k = sectors_needed (length bs) in
    changed (image g (stored_disk g (disk img) place (placement g (disk img) k) name kind bs)) (length bs) k

-- store: refusals in document 01's order, then the changed image
unfoldable pub call_store : Geometry → Bytes → Bytes → ℕ → Bytes → Result Change
call_store g img name kind bs = do
  need (right_size g img) wrong_size
  need (valid_name_argument name) bad_name_argument
  need (storable_kind kind) bad_kind_argument
  check_disk g (disk img)
  need (writable g (disk img)) write_forbidden
  need (eqb (length (files_named name (files g (disk img)))) 0) name_exists
  place ← slot_place_for g (disk img)
  need (leb (sectors_needed (length bs)) (length (free_for_files g (disk img)))) disk_full
  done (store_change g img place name kind bs)
