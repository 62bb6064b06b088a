-- Where a track's map entry stands, layout by layout (02, §8): at 4t, and from track 36 on behind the layout's own place.
use Prim.Native.Nat.{ℕ, ◌+◌, ◌-◌, ◌*◌, ◌≤◌}
use native.Mathlib.Omega.{arith}
use mathlib.Core.Path.{◌≡◌, refl}
use Rattle.std.specs.Prelude.{None, Some}
use Rattle.d64spec.specs.Geometry.{layout35, speed_dos, dolphin, tracks}
use Rattle.d64spec.proofs.LayoutLaws.{map-low, map-high, tracks35, tracks40}
use Rattle.geometry.specs.Layout.{geometry_of, extra_of}
use Rattle.geometry.specs.declared.Layout.{Layout}
use Rattle.geometry.specs.declared.Layout.TheVariants.{Tracks35, SpeedDos, Dolphin}

low35 : (t : ℕ) → layout35.map_at t ≡ 4 * t
unfolding layout35
low35 t = refl

pub place-low : (layout : Layout) (t : ℕ) → t ≤ 35 → (geometry_of layout).map_at t ≡ 4 * t
unfolding speed_dos dolphin
place-low Tracks35 t h = low35 t
place-low SpeedDos t h = map-low 0xC0 t h
place-low Dolphin t h = map-low 0xAC t h

pub place-high : (layout : Layout) {at : ℕ} (t : ℕ) → extra_of layout ≡ Some at → 36 ≤ t → (geometry_of layout).map_at t ≡ at + 4 * (t - 36)
unfolding speed_dos dolphin
place-high Tracks35 t e h = absurd (cc)
place-high SpeedDos {at} t e h = let k : 0xC0 ≡ at = cc in rw (← k) (map-high 0xC0 t h)
place-high Dolphin {at} t e h = let k : 0xAC ≡ at = cc in rw (← k) (map-high 0xAC t h)

-- how many tracks there are, by that place
pub tracks-without : (layout : Layout) → extra_of layout ≡ None → tracks (geometry_of layout) ≡ 35
tracks-without Tracks35 e = tracks35
tracks-without SpeedDos e = absurd (cc)
tracks-without Dolphin e = absurd (cc)

pub tracks-with : (layout : Layout) {at : ℕ} → extra_of layout ≡ Some at → tracks (geometry_of layout) ≡ 40
unfolding speed_dos dolphin
tracks-with Tracks35 e = absurd (cc)
tracks-with SpeedDos e = tracks40 0xC0
tracks-with Dolphin e = tracks40 0xAC

-- five entries from there on stand inside the sector
pub extra-small : (layout : Layout) {at : ℕ} → extra_of layout ≡ Some at → at + 20 ≤ 256
extra-small Tracks35 e = absurd (cc)
extra-small SpeedDos {at} e = let k : 0xC0 ≡ at = cc in omega arith
extra-small Dolphin {at} e = let k : 0xAC ≡ at = cc in omega arith
