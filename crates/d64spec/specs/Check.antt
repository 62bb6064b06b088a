-- The check in document 01's order, with the place of the first fault (01, Order of the check).
-- In order: an entry of the directory; an entry of the map; one occupied slot; the slots; the map; steps 2 to 4 on the sectors; steps 1 to 4 on an image.
-- What it accepts is said again with no order in specs/Accepted; that the two agree: proofs/ExactTheorem, `check-exact`.
use Rattle.std.specs.Prelude.{ℕ, ◌*◌, Bool, List, [], ◌∷◌, ◌++◌, map, length, eqb}
use Rattle.d64spec.specs.Lists.{Bytes, range, count, name_count}
use Rattle.d64spec.specs.Answers.{Address, address, wrong_size, bad_type, bad_name, duplicate_name, wrong_count, wrong_map_entry, Result, done, ◌>>=◌, ◌>>◌, need}
use Rattle.d64spec.specs.Geometry.{Geometry, sector_number, total, tracks, map_address, directory_start}
use Rattle.d64spec.specs.Image.{Disk, disk}
use Rattle.d64spec.specs.Chain.{to, file_link, directory_link, steps, walk}
use Rattle.d64spec.specs.Directory.{Slot, File, entry_byte, valid_type, valid_name, name_of, count_of, occupied_in, first_link}
use Rattle.d64spec.specs.Owner.{claims_of}
use Rattle.d64spec.specs.Map.{entry_correct, lowest_wrong}

-- kind and flags, name, name used by an earlier slot: what the check and the sleeve listing both ask of an occupied slot
unfoldable pub check_entry : List Bytes → Slot → Result (Unit {0})
check_entry names s = do
  need (valid_type (entry_byte s.bytes 0x02)) (bad_type s.holder s.number)
  need (valid_name s.bytes) (bad_name s.holder s.number)
  need (eqb (name_count (name_of s.bytes) names) 0) (duplicate_name s.holder s.number)

-- one track's entry in the map sector m, where `free` says which sectors are free; the place of a wrong one names its lowest wrong sector (02, §3)
abbrev pub check_track : Geometry → (Address → Bool) → Bytes → ℕ → Result (Unit {0})
check_track g free m t = need (entry_correct g free m t) (wrong_map_entry (address t (lowest_wrong g free m t)))

module _ (g : Geometry) (d : Disk) where
  -- one occupied slot: the entry, the chain link by link from the link that the directory sector holds, then the count
  unfoldable pub check_slot : List ℕ → List Bytes → Slot → Result (List Address)
  check_slot own names s = do
    check_entry names s
    l ← walk g (file_link g) d (steps g) own s.holder s.number (first_link g d s)
    need (eqb (count_of s.bytes) (length l)) (wrong_count s.holder s.number)
    done l

  -- the occupied slots in directory order, each with the sectors and the names of those before it
  abbrev pub check_slots : List ℕ → List Bytes → List Slot → Result (List File)
  check_slots own names [] = done []
  check_slots own names (s ∷ l) = do
    c ← check_slot own names s
    fs ← check_slots (map (sector_number g) c ++ own) (name_of s.bytes ∷ names) l
    done (record { slot = s; sectors = c } ∷ fs)

  -- the map, track by track
  abbrev pub check_map : (Address → Bool) → List ℕ → Result (Unit {0})
  check_map free [] = done tt
  check_map free (t ∷ l) = do
    check_track g free (d (sector_number g map_address)) t
    check_map free l

-- what a check that is done has met: the directory's sectors and the files
pub record DirectoryContents : Type 0 where
  pub walked : List Address
  pub found : List File

-- step 1: the size of the image
unfoldable pub right_size : Geometry → Bytes → Bool
right_size g img = eqb (length img) (256 * total g)

-- step 2: the directory, sector by sector along its links; 18/0 is owned from the start
unfoldable pub check_directory : Geometry → Disk → Result (List Address)
check_directory g d = walk g (directory_link g) d (steps g) (sector_number g map_address ∷ []) map_address 255 (to directory_start)

-- steps 2 to 4
unfoldable pub check_disk : Geometry → Disk → Result DirectoryContents
check_disk g d = do
  ds ← check_directory g d
  fs ← check_slots g d (sector_number g map_address ∷ map (sector_number g) ds) [] (occupied_in g d ds)
  check_map g d (λ r. eqb (count (sector_number g r) (claims_of g ds fs)) 0) (range 1 (tracks g))
  done (record { walked = ds; found = fs })

-- steps 1 to 4
unfoldable pub check_image : Geometry → Bytes → Result DirectoryContents
check_image g img = do
  need (right_size g img) wrong_size
  check_disk g (disk img)
