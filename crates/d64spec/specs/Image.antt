-- An image is a list of bytes; a disk is its sectors by number (01, Tracks and sectors). But for the size (specs/Check) and track 18 alone
-- (specs/Listing), the modules after this one read an image by `disk` only, so that chains, owners and room never speak of offsets.
use Rattle.std.specs.Prelude.{ℕ, ◌*◌, cond, map, take, drop, eqb}
use Rattle.d64spec.specs.Lists.{Bytes, range, join}
use Rattle.d64spec.specs.Geometry.{Geometry, total}

-- the bytes of each sector, by its number
abbrev pub Disk : Type 0
Disk = ℕ → Bytes

-- sector n is the 256 bytes of the image that start at 256 times its number
unfoldable pub disk : Bytes → Disk
disk img n = take 256 (drop (256 * n) img)

-- the image that has these sectors
unfoldable pub image : Geometry → Disk → Bytes
image g d = join (map d (range 0 (total g)))

-- the disk with other bytes in sector n
unfoldable pub put : Disk → ℕ → Bytes → Disk
put d n s m = cond (eqb m n) s (d m)
