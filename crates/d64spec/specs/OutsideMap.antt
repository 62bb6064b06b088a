-- Bytes of 18/0 that are in no map entry of the layout (02, §8): with 40 tracks the entries of 36 to 40 stand elsewhere in SpeedDOS and in Dolphin, and the
-- bytes that the other one has them in are such. The check looks at none of them, and every call but a format leaves them; a format has 0 in all but
-- document 01's.
-- In order: a list of calls; disks that differ in such bytes; the bytes of the other layout's entries. The statements: proofs/OutsideTheorem.
use Rattle.std.specs.Prelude.{ℕ, ◌+◌, ◌≤◌, ◌<◌, ◌≡◌, List}
use Rattle.d64spec.specs.Lists.{All, Bytes, byte}
use Rattle.d64spec.specs.Geometry.{Geometry, map_address, sector_number, tracks}
use Rattle.d64spec.specs.Image.{Disk, disk}
use Rattle.d64spec.specs.Call.{Call, check, format, read, store, scratch}
use Rattle.d64spec.specs.Run.{Request, run}
use Rattle.d64spec.specs.Changes.{OutsideKept}

-- ---- a list of calls

-- any call but a format
abbrev pub NoFormat : Call → Type 0
NoFormat check = Unit {0}
NoFormat (format name i j) = ⊥
NoFormat (read name out) = Unit {0}
NoFormat (store name kind bytes) = Unit {0}
NoFormat (scratch name) = Unit {0}

-- after a list of such calls, refused ones included, each byte in no map entry is as it was
abbrev pub OutsideRun : Geometry → Bytes → List Request → Type 0
OutsideRun g img l = All (λ q. NoFormat q.call) l → OutsideKept g (disk img) (disk (run g img l))

-- ---- disks that differ in such bytes

-- two disks that are alike in every sector but 18/0, and there in the four bytes of each track's entry
pub record AlikeInMap (g : Geometry) (d e : Disk) : Type 0 where
  pub entries : (t i : ℕ) → 1 ≤ t → t ≤ tracks g → i < 4
      → byte (d (sector_number g map_address)) (g.map_at t + i) ≡ byte (e (sector_number g map_address)) (g.map_at t + i)
  pub other : (n : ℕ) → (n ≡ sector_number g map_address → ⊥) → d n ≡ e n

-- ---- the entries of tracks 36 to 40, five of four bytes each

-- the bytes that SpeedDOS has them in, and those of Dolphin
abbrev pub InSpeedDos : ℕ → Type 0
InSpeedDos i = (0xC0 ≤ i) × (i ≤ 0xD3)

abbrev pub InDolphin : ℕ → Type 0
InDolphin i = (0xAC ≤ i) × (i ≤ 0xBF)
