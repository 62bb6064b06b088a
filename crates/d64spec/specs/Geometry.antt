-- Tracks and sectors (01, Tracks and sectors; 02, §8): a record, so that another layout is another value.
-- In order: the layouts; a track's sectors; a sector's number; 18/0 and 18/1; the order in which a store takes sectors.
-- Tracks count from 1, sectors from 0; `0 ∷ g.counts` has a track's count at the track's own number. Laws: proofs/BoundLaws, AllocationLaws.
use Rattle.std.specs.Prelude.{ℕ, ◌+◌, ◌-◌, ◌*◌, ◌≤◌, ◌<◌, ◌≡◌, Bool, true, cond, ◌⊎◌, List, ◌∷◌, ◌++◌, map, length, take, get_or, replicate, ltb}
use Rattle.d64spec.specs.Lists.{sum, range, ascending, descending, join}
use Rattle.d64spec.specs.Answers.{Address, address}

-- a layout of the disk
pub record Geometry : Type 0 where
  pub counts : List ℕ  -- the sectors of track 1, of track 2, ..
  pub map_at : ℕ → ℕ  -- where a track's map entry starts in 18/0

-- document 01's table: 1-17 with 21, 18-24 with 19, 25-30 with 18, and the n tracks from 31 on with 17
abbrev pub zones : ℕ → List ℕ
zones n = replicate 17 21 ++ (replicate 7 19 ++ (replicate 6 18 ++ replicate n 17))

-- layout 0, document 01's: 35 tracks; track t's map entry is at 4t
unfoldable pub layout35 : Geometry
layout35 = record { counts = zones 5; map_at = λ t. 4 * t }

-- 40 tracks (02, §8): five more with 17 sectors each, whose map entries stand from byte `extra` of 18/0 on
unfoldable pub layout40 : ℕ → Geometry
layout40 extra = record { counts = zones 10; map_at = λ t. cond (ltb t 36) (4 * t) (extra + 4 * (t - 36)) }

-- layout 1, SpeedDOS: $C0 + 4(t-36)
unfoldable pub speed_dos : Geometry
speed_dos = layout40 0xC0

-- layout 2, Dolphin: $AC + 4(t-36)
unfoldable pub dolphin : Geometry
dolphin = layout40 0xAC

-- how many tracks
unfoldable pub tracks : Geometry → ℕ
tracks g = length g.counts

-- how many sectors in all
unfoldable pub total : Geometry → ℕ
total g = sum g.counts

-- how many sectors track t has: 0 where there is no such track
unfoldable pub sectors_on : Geometry → ℕ → ℕ
sectors_on g t = get_or (0 ∷ g.counts) t 0

-- all sectors of lower tracks: the number of track t's first sector
unfoldable pub first_on : Geometry → ℕ → ℕ
first_on g t = sum (take t (0 ∷ g.counts))

-- whether an address names a sector of the disk
unfoldable pub on_disk : Geometry → Address → Bool
on_disk g r = ltb r.sector (sectors_on g r.track)

-- a sector's number: all sectors of lower tracks plus its own
unfoldable pub sector_number : Geometry → Address → ℕ
sector_number g r = first_on g r.track + r.sector

-- the sectors of a track, upward
unfoldable pub sectors_of_track : Geometry → ℕ → List Address
sectors_of_track g t = map (λ s. address t s) (range 0 (sectors_on g t))

-- the sector of the block availability map (document 01's map), 18/0
abbrev pub map_address : Address
map_address = address 18 0

-- the directory's first sector, 18/1
abbrev pub directory_start : Address
directory_start = address 18 1

-- the order in which a store takes sectors (01, Store: house order): tracks 17 down to 1, then 19 up to the last. Track 18 is not in it
unfoldable pub allocation_tracks : Geometry → List ℕ
allocation_tracks g = descending 17 1 ++ ascending 19 (tracks g)

-- the same by sectors, upward on each track
unfoldable pub allocation_order : Geometry → List Address
allocation_order g = join (map (sectors_of_track g) (allocation_tracks g))

-- what the theorems ask of a layout: 18/1 is there, a bitmap of 24 bits suffices, and map entries lie behind byte 3 of 18/0,
-- before or behind the bytes $90 to $AA that a format writes, inside the sector and apart
pub record Valid (g : Geometry) : Type 0 where
  pub directory : on_disk g directory_start ≡ true
  pub small : (t : ℕ) → sectors_on g t ≤ 24
  pub map_past : (t : ℕ) → 1 ≤ t → t ≤ tracks g → 4 ≤ g.map_at t
  pub map_beside : (t : ℕ) → 1 ≤ t → t ≤ tracks g → (g.map_at t + 4 ≤ 0x90) ⊎ (0xAB ≤ g.map_at t)
  pub map_fits : (t : ℕ) → 1 ≤ t → t ≤ tracks g → g.map_at t + 4 ≤ 256
  pub map_apart : (t u : ℕ) → 1 ≤ t → t < u → u ≤ tracks g → (g.map_at t + 4 ≤ g.map_at u) ⊎ (g.map_at u + 4 ≤ g.map_at t)
