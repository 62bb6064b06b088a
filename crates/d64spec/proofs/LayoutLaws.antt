-- The three layouts are valid, so that every theorem over a layout holds of each (02, §8).
-- In order: counts of sectors; 35 tracks; 40 tracks; every layout that has a number; their sizes.
use Prim.Native.Nat.{ℕ, zero, suc, ◌+◌, ◌*◌, ◌-◌, ◌≤◌}
use native.Mathlib.Omega.{arith}
use native.Mathlib.Decide.{dec_le}
use mathlib.Core.Path.{◌≡◌, refl}
use mathlib.Core.Bool.{Bool, true, ◌&&◌}
use mathlib.Core.Logic.{inl, inr}
use mathlib.Core.List.{List, [], ◌∷◌}
use lib.ListN.{get_or, length}
use lib.Dec.{leb}
use borrow.Author.Tests.{leb-true, lt-ltb, le-ltb}
use Rattle.d64spec.specs.Lists.{ascending, descending}
use Rattle.d64spec.specs.Answers.{done, refused, unknown_layout}
use Rattle.d64spec.specs.Geometry.{Geometry, Valid, allocation_order, allocation_tracks, layout35, layout40, speed_dos, dolphin, on_disk, sectors_of_track, sectors_on, first_on, sector_number, total, tracks}
use Rattle.d64spec.specs.Layouts.{layout_numbered, Known, sizes_of}
use Rattle.d64spec.proofs.MapLaws.{and-true}

-- none above 24
unfoldable below24 : List ℕ → Bool
below24 [] = true
below24 (x ∷ l) = leb x 24 && below24 l

below24-at : (l : List ℕ) → below24 l ≡ true → (t : ℕ) → get_or l t 0 ≤ 24
unfolding below24
below24-at [] e t = omega arith
below24-at (x ∷ l) e zero = leb-true x 24 (and-true (leb x 24) (below24 l) e).0
below24-at (x ∷ l) e (suc t) = below24-at l (and-true (leb x 24) (below24 l) e).1 t

-- ---- 35 tracks

pub valid35 : Valid layout35
unfolding layout35 on_disk sectors_on tracks below24
valid35 = record {
  directory = refl;
  small = λ t. below24-at (0 ∷ layout35.counts) refl t;
  map_past = λ t l h. omega arith;
  map_beside = λ t l h. inl (omega arith);
  map_fits = λ t l h. omega arith;
  map_apart = λ t u l m h. inl (omega arith);
}

pub tracks35 : tracks layout35 ≡ 35
unfolding tracks layout35
tracks35 = refl

pub sectors35 : total layout35 ≡ 683
unfolding total layout35
sectors35 = refl

pub known35 : Known layout35
unfolding layout35 sector_number first_on sectors_on tracks total
known35 = record { valid = valid35; map357 = refl; on18 = refl; many = omega arith; few = omega arith; past18 = omega arith; most = omega arith }

-- ---- 40 tracks

module _ (extra : ℕ) where
  pub tracks40 : tracks (layout40 extra) ≡ 40
  unfolding tracks layout40
  tracks40 = refl

  pub sectors40 : total (layout40 extra) ≡ 768
  unfolding total layout40
  sectors40 = refl

  -- where the entries of tracks 1 to 35 stand, and those of the others
  pub map-low : (t : ℕ) → t ≤ 35 → (layout40 extra).map_at t ≡ 4 * t
  unfolding layout40
  map-low t h = rw (lt-ltb t 36 (omega arith))

  pub map-high : (t : ℕ) → 36 ≤ t → (layout40 extra).map_at t ≡ extra + 4 * (t - 36)
  unfolding layout40
  map-high t h = rw (le-ltb t 36 (omega arith))

  -- valid where the entries of tracks 36 to 40 stand behind the name's bytes and inside the sector
  pub valid40 : 0xAB ≤ extra → extra + 20 ≤ 256 → Valid (layout40 extra)
  unfolding layout40 on_disk sectors_on below24
  valid40 low high = record {
    directory = refl;
    small = λ t. below24-at (0 ∷ (layout40 extra).counts) refl t;
    map_past = λ t l h. elim (dec_le t 35) [ yes k ↦ omega (arith, map-low t k) | no k ↦ omega (arith, map-high t (omega arith)) ];
    map_beside = λ t l h. elim (dec_le t 35) [ yes k ↦ inl (omega (arith, map-low t k)) | no k ↦ inr (omega (arith, map-high t (omega arith))) ];
    map_fits = λ t l h. elim (dec_le t 35) [ yes k ↦ omega (arith, map-low t k) | no k ↦ omega (arith, map-high t (omega arith), tracks40) ];
    map_apart = λ t u l m h. elim (dec_le u 35) [
      | yes k ↦ inl (omega (arith, map-low t (omega arith), map-low u k))
      | no k ↦ elim (dec_le t 35) [
        | yes j ↦ inl (omega (arith, map-low t j, map-high u (omega arith)))
        | no j ↦ inl (omega (arith, map-high t (omega arith), map-high u (omega arith)))
      ]
    ];
  }

  pub known40 : 0xAB ≤ extra → extra + 20 ≤ 256 → Known (layout40 extra)
  unfolding layout40 sector_number first_on sectors_on tracks total
  known40 low high = record {
    valid = valid40 low high;
    map357 = refl;
    on18 = refl;
    many = omega arith;
    few = omega arith;
    past18 = omega arith;
    most = omega arith;
  }

pub known-speed_dos : Known speed_dos
unfolding speed_dos
known-speed_dos = known40 0xC0 (omega arith) (omega arith)

pub known-dolphin : Known dolphin
unfolding dolphin
known-dolphin = known40 0xAC (omega arith) (omega arith)

-- ---- by number

-- what holds of 35 tracks, and of 40 wherever their entries stand, holds of every layout that has a number
pub by_number : (P : ℕ → Geometry → Type 0) → P 0 layout35 → ((n extra : ℕ) → 0xAB ≤ extra → extra + 20 ≤ 256 → P (suc n) (layout40 extra))
    → (n : ℕ) (g : Geometry) → layout_numbered n ≡ done g → P n g
unfolding layout_numbered speed_dos dolphin
by_number P p q zero g e = let z : layout35 ≡ g = cc in rw z at p
by_number P p q (suc zero) g e = let z : layout40 0xC0 ≡ g = cc in rw z at (q 0 0xC0 (omega arith) (omega arith))
by_number P p q (suc (suc zero)) g e = let z : layout40 0xAC ≡ g = cc in rw z at (q 1 0xAC (omega arith) (omega arith))
by_number P p q (suc (suc (suc n))) g e = absurd (let z : ◌≡◌ {A = ℕ} 0 1 = cc in omega arith)

-- a number names a layout, or 17
pub layout-cases : (P : Type 0) (n : ℕ) → ((g : Geometry) → layout_numbered n ≡ done g → P) → (layout_numbered n ≡ refused unknown_layout → P) → P
unfolding layout_numbered
layout-cases P zero f h = f layout35 refl
layout-cases P (suc zero) f h = f speed_dos refl
layout-cases P (suc (suc zero)) f h = f dolphin refl
layout-cases P (suc (suc (suc n))) f h = h refl

-- EVERY LAYOUT THAT HAS A NUMBER is known
pub known : (n : ℕ) (g : Geometry) → layout_numbered n ≡ done g → Known g
known n g e = by_number (λ m x. Known x) known35 (λ m extra l h. known40 extra l h) n g e

-- ---- the papers' numbers: 35 tracks and 683 sectors, 40 and 768

pub tracks-in : (n : ℕ) (g : Geometry) → layout_numbered n ≡ done g → tracks g ≡ (sizes_of n).track_total
tracks-in n g e = by_number (λ m x. tracks x ≡ (sizes_of m).track_total) tracks35 (λ m extra l h. tracks40 extra) n g e

pub sectors-in : (n : ℕ) (g : Geometry) → layout_numbered n ≡ done g → total g ≡ (sizes_of n).sector_total
sectors-in n g e = by_number (λ m x. total x ≡ (sizes_of m).sector_total) sectors35 (λ m extra l h. sectors40 extra) n g e

-- 664 and 749 of them are in house order
order35 : length (allocation_order layout35) ≡ 664
unfolding allocation_order allocation_tracks ascending descending sectors_of_track tracks layout35 sectors_on
order35 = refl

order40 : (extra : ℕ) → length (allocation_order (layout40 extra)) ≡ 749
unfolding allocation_order allocation_tracks ascending descending sectors_of_track tracks layout40 sectors_on
order40 extra = refl

pub order-in : (n : ℕ) (g : Geometry) → layout_numbered n ≡ done g → length (allocation_order g) ≡ (sizes_of n).free_sectors
order-in n g e = by_number (λ m x. length (allocation_order x) ≡ (sizes_of m).free_sectors) order35 (λ m extra l h. order40 extra) n g e
