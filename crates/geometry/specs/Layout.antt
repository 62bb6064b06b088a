-- What the functions over the layouts promise (01, Tracks and sectors; 02, §8).
-- In order: the code's layout and address as those of the definitions; the table; tracks and numbers by it.
-- Laws: proofs/TableLaws, LentTableLaws, MapPlaceLaws.
use Rattle.std.specs.Prelude.{ℕ, ◌+◌, ◌≡◌, true, Option, None, Some, Result, Ok, Err, List, ◌∷◌, map, get_or, cond, ltb, leb, ◌&&◌, ◌-◌}
use Rattle.d64spec.specs.Answers.{Address as DiskAddress, address, Result as Outcome, refused, done, unknown_layout}
use Rattle.d64spec.specs.Geometry.{Geometry, layout35, speed_dos, dolphin, tracks, sectors_on, on_disk, sector_number}
use Rattle.geometry.specs.declared.Layout.{Layout}
use Rattle.geometry.specs.declared.Layout.TheVariants.{Tracks35, SpeedDos, Dolphin}
use Rattle.geometry.specs.declared.UnknownLayout.{UnknownLayout}
use Rattle.geometry.specs.declared.Address.{Address}
use Rattle.geometry.specs.declared.Track.{Track}
use Rattle.geometry.specs.declared.TheConstants.{TRACKS}

-- the layout that the code's enum names (02, §8)
abbrev pub geometry_of : Layout → Geometry
geometry_of Tracks35 = layout35
geometry_of SpeedDos = speed_dos
geometry_of Dolphin = dolphin

-- the layout that a number names, or 17 (02, §8)
abbrev pub numbered_by : Result Layout UnknownLayout → Outcome Geometry
numbered_by (Ok layout) = done (geometry_of layout)
numbered_by (Err e) = refused unknown_layout

-- where the map entry of track 36 stands in 18/0, if there is such a track (02, §8)
abbrev pub extra_of : Layout → Option ℕ
extra_of Tracks35 = None
extra_of SpeedDos = Some 0xC0
extra_of Dolphin = Some 0xAC

-- the address that the code's struct names (01, Tracks and sectors)
abbrev pub address_of : Address → DiskAddress
address_of at = address at.track at.sector

-- each track's sectors, from track 1 on, where there are 40 tracks (01: a table gives each track's sectors and its first sector number)
unfoldable pub counts : List ℕ
counts = map (λ row. row.0) TRACKS

-- the number of each track's first sector, from track 1 on
unfoldable pub firsts : List ℕ
firsts = map (λ row. row.1) TRACKS

-- track t's entry of a table from track 1 on, or 0 where there is none (01: a table of 35 entries; 02, §8: of 40)
unfoldable pub entry_by : List ℕ → ℕ → ℕ
entry_by l t = get_or (0 ∷ l) t 0

-- track t by a table of each track's sectors and a table of each track's first sector number, both of 40 entries from track 1 on
-- (01: a table gives each track's sectors and its first sector number); any other track has no sector
unfoldable pub track_by : List ℕ → List ℕ → ℕ → Track
track_by counts firsts t =
    cond (leb 1 t && leb t 40)
    (record { number = t; sectors = get_or counts (t - 1) 0; first = get_or firsts (t - 1) 0 })
    (record { number = t; sectors = 0; first = 0 })

-- track t: its sectors and the number of the first one, by the table; two zeros where the layout has no such track
unfoldable pub track_on : Geometry → ℕ → Track
track_on g t = record { number = t; sectors = sectors_on g t; first = cond (ltb (tracks g) t) 0 (entry_by firsts t) }

-- a sector's number, by a table of each track's first sector number from track 1 on
unfoldable pub number_by : List ℕ → DiskAddress → ℕ
number_by firsts r = entry_by firsts r.track + r.sector

-- a table of each track's sectors as the layout has it (01, Tracks and sectors)
pub record IsCounts (g : Geometry) (l : List ℕ) : Type 0 where
  pub agrees : (t : ℕ) → entry_by l t ≡ sectors_on g t

-- a table of each track's first sector number as the layout has it, where it is asked for sectors of the disk (01, Tracks and sectors)
pub record IsFirsts (g : Geometry) (l : List ℕ) : Type 0 where
  pub agrees : (r : DiskAddress) → on_disk g r ≡ true → number_by l r ≡ sector_number g r
