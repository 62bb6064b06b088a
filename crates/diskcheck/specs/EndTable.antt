-- Where each file's data end (01, Chains): for each slot the number of the last byte that its file uses in its last sector, and 0 where it holds no file.
-- In order: a chain's end; a table with the ends of files; the table of all files. Laws: proofs/EndLaws, CheckedLaws.
use Rattle.std.specs.Prelude.{ℕ, List, [], ◌∷◌, set}
use Rattle.d64spec.specs.Lists.{Bytes, byte, zeros}
use Rattle.d64spec.specs.Answers.{Address}
use Rattle.d64spec.specs.Geometry.{Geometry, sector_number, map_address}
use Rattle.d64spec.specs.Image.{disk}
use Rattle.d64spec.specs.Directory.{File}
use Rattle.d64spec.specs.Store.{last_of}

-- n of a chain: the second byte of its last sector, whose data are bytes 2 to n (01, Chains). A chain has a sector, so that 18/0 plays no part
unfoldable pub end_of : Geometry → Bytes → List Address → ℕ
end_of g img l = byte (disk img (sector_number g (last_of map_address l))) 1

-- the table with each file's end at the number of its slot
abbrev pub with_ends : Geometry → Bytes → List File → List ℕ → List ℕ
with_ends g img [] ends = ends
with_ends g img (f ∷ l) ends = with_ends g img l (set ends f.slot.number (end_of g img f.sectors))

-- WHERE EACH FILE ENDS, once all chains are walked
unfoldable pub end_table : Geometry → Bytes → List File → List ℕ
end_table g img fs = with_ends g img fs (zeros 144)
