-- The layouts by their numbers (02, §8), and what they have in common.
-- In order: the layout that a number names; what every one of them has; the numbers that the papers give for each.
-- Laws: proofs/LayoutLaws; the calls that name one: specs/Host; theorems: LayoutOrder, LayoutTheorem.
use Rattle.std.specs.Prelude.{ℕ, zero, suc, ◌≤◌, ◌≡◌}
use Rattle.d64spec.specs.Answers.{Result, refused, done, unknown_layout}
use Rattle.d64spec.specs.Geometry.{Geometry, Valid, layout35, speed_dos, dolphin, tracks, total, sectors_on, sector_number, map_address}

-- THE LAYOUTS: 0 for 35 tracks, 1 for SpeedDOS, 2 for Dolphin, any other gives 17
unfoldable pub layout_numbered : ℕ → Result Geometry
layout_numbered zero = done layout35
layout_numbered (suc zero) = done speed_dos
layout_numbered (suc (suc zero)) = done dolphin
layout_numbered (suc (suc (suc n))) = refused unknown_layout

-- what every layout that has a number has: it is valid; 18/0 is sector 357, so byte 91,392; track 18 has 19 sectors, so 4,864 bytes; there are 35 to 40
-- tracks and up to 768 sectors
pub record Known (g : Geometry) : Type 0 where
  pub valid : Valid g
  pub map357 : sector_number g map_address ≡ 357
  pub on18 : sectors_on g 18 ≡ 19
  pub many : 35 ≤ tracks g
  pub few : tracks g ≤ 40
  pub past18 : 376 ≤ total g
  pub most : total g ≤ 768

-- the numbers that the papers give, said apart from the tables
pub record Sizes : Type 0 where
  pub track_total : ℕ  -- tracks
  pub sector_total : ℕ  -- sectors
  pub longest_chain : ℕ  -- the most sectors that a read reports (demand 3)
  pub free_sectors : ℕ  -- free off track 18 after a format
  pub longest_file : ℕ  -- the bytes that these sectors hold

-- 35 tracks (01, Tracks and sectors; Examples), and 40 (02, §8)
abbrev pub sizes_of : ℕ → Sizes
sizes_of zero = record { track_total = 35; sector_total = 683; longest_chain = 681; free_sectors = 664; longest_file = 168656 }
sizes_of (suc n) = record { track_total = 40; sector_total = 768; longest_chain = 766; free_sectors = 749; longest_file = 190246 }
