-- Scratch (01, What the calls do): the file's sectors and its slot zeroed, and its sectors free in the map. Byte by byte: specs/Changes.
use Rattle.std.specs.Prelude.{List, [], ◌∷◌, length}
use Rattle.d64spec.specs.Lists.{Bytes, zeros}
use Rattle.d64spec.specs.Answers.{Address, wrong_size, bad_name_argument, write_forbidden, not_found, Result, done, ◌>>=◌, ◌>>◌, need, first}
use Rattle.d64spec.specs.Geometry.{Geometry, sector_number}
use Rattle.d64spec.specs.Image.{Disk, disk, image, put}
use Rattle.d64spec.specs.Chain.{chain_data}
use Rattle.d64spec.specs.Directory.{File, files}
use Rattle.d64spec.specs.Map.{rewrite_map}
use Rattle.d64spec.specs.Check.{right_size, check_disk}
use Rattle.d64spec.specs.Reply.{Change, changed, valid_name_argument, writable, files_named}
use Rattle.d64spec.specs.Store.{overwrite_slot}

-- the disk with these sectors zeroed
abbrev pub clear_sectors : Geometry → List Address → Disk → Disk
clear_sectors g [] d = d
clear_sectors g (r ∷ l) d = put (clear_sectors g l d) (sector_number g r) (zeros 256)

-- the disk after a scratch of a file
unfoldable pub scratched_disk : Geometry → Disk → File → Disk
scratched_disk g d f = rewrite_map g (overwrite_slot g f.slot.holder f.slot.index (zeros 30) (clear_sectors g f.sectors d))

-- the change of a scratch of f; it reports the file's length and its number of sectors
abbrev pub scratch_change : Geometry → Bytes → File → Change
scratch_change g img f = changed (image g (scratched_disk g (disk img) f)) (length (chain_data g (disk img) f.sectors)) (length f.sectors)

-- scratch: refusals in document 01's order, then the changed image
unfoldable pub call_scratch : Geometry → Bytes → Bytes → Result Change
call_scratch g img name = do
  need (right_size g img) wrong_size
  need (valid_name_argument name) bad_name_argument
  check_disk g (disk img)
  need (writable g (disk img)) write_forbidden
  f ← first not_found (files_named name (files g (disk img)))
  done (scratch_change g img f)
