-- The directory lies on track 18: a walk along it reads no other sector, so that track 18's bytes alone show what the whole image shows.
-- In order: where a directory link leads; disks that agree on track 18; an image and its track 18; track 18 in numbers.
-- The sectors of an image's track 18 one by one: d64spec's ListingTheorem (`track18-sectors`, `track18-length`).
use Prim.Native.Nat.{ℕ, zero, suc, ◌+◌, ◌≤◌, ◌<◌}
use native.Mathlib.Omega.{arith}
use mathlib.Core.Path.{◌≡◌, refl, ap, ◌∙◌}
use mathlib.Core.Bool.{Bool, true, false, cond, ◌&&◌}
use mathlib.Core.List.{List, [], ◌∷◌}
use lib.Dec.{eqb, ltb}
use borrow.Author.Tests.{ltb-true}
use Rattle.d64spec.specs.Lists.{Bytes, byte, member}
use Rattle.d64spec.specs.Answers.{Address, address, Result, refused, done, ◌>>=◌, already_owned}
use Rattle.d64spec.specs.Geometry.{Geometry, sector_number, first_on, sectors_on, on_disk, map_address, directory_start}
use Rattle.d64spec.specs.Image.{Disk, disk}
use Rattle.d64spec.specs.Chain.{Link, ends, to, bad, link_to, decode_directory_link, directory_link, steps, walk}
use Rattle.d64spec.specs.Check.{check_directory}
use Rattle.d64spec.specs.Listing.{bytes_of_track18, disk_of_track18}
use Rattle.d64spec.specs.Layouts.{Known}
use Rattle.d64spec.proofs.ListingTheorem.{track18-own}

-- ---- where a directory link leads

-- to a sector of track 18, which has n sectors, and not to 18/0, if to any
abbrev pub InDirectory : ℕ → Link → Type 0
InDirectory n ends = Unit {0}
InDirectory n bad = Unit {0}
InDirectory n (to r) = (r.track ≡ 18) × (1 ≤ r.sector) × (r.sector < n)

pub decoded-inside : (g : Geometry) (t s : ℕ) → InDirectory (sectors_on g 18) (decode_directory_link g t s)
unfolding decode_directory_link link_to on_disk
decoded-inside g zero s = tt
decoded-inside g (suc t) s = go (eqb (suc t) 18) (ltb 0 s) refl (ltb s (sectors_on g 18)) refl
  where
    go : (x y : Bool) → ltb 0 s ≡ y → (z : Bool) → ltb s (sectors_on g 18) ≡ z → InDirectory (sectors_on g 18) (cond (x && y) (cond z (to (address 18 s)) bad) bad)
    go false y p z q = tt
    go true false p z q = tt
    go true true p false q = tt
    go true true p true q = (refl, ltb-true 0 s p, ltb-true s (sectors_on g 18) q)

pub directory_link-inside : (g : Geometry) (b : Bytes) → InDirectory (sectors_on g 18) (directory_link g b)
unfolding directory_link
directory_link-inside g b = decoded-inside g (byte b 0) (byte b 1)

-- ---- disks that agree on track 18

-- these sectors are track 18's
abbrev pub SameTrack18 : Geometry → Disk → Disk → Type 0
SameTrack18 g d e = (n : ℕ) → sector_number g map_address ≤ n → n < sector_number g map_address + sectors_on g 18 → d n ≡ e n

module _ (g : Geometry) (d e : Disk) (same : SameTrack18 g d e) where
  -- a directory sector's bytes
  pub same-inside : (r : Address) → InDirectory (sectors_on g 18) (to r) → d (sector_number g r) ≡ e (sector_number g r)
  unfolding sector_number
  same-inside r i =
      let first : first_on g r.track ≡ first_on g 18 = ap (first_on g) i.0 in
      same (first_on g r.track + r.sector) (omega arith) (omega (arith, i.2))

  pub walk_same : (n : ℕ) (own : List ℕ) (holder : Address) (slot : ℕ) (k : Link) → InDirectory (sectors_on g 18) k
      → walk g (directory_link g) d n own holder slot k ≡ walk g (directory_link g) e n own holder slot k
  walk_same zero own holder slot k i = refl
  walk_same (suc n) own holder slot ends i = refl
  walk_same (suc n) own holder slot bad i = refl
  walk_same (suc n) own holder slot (to r) i =
      let k : Link = directory_link g (d (sector_number g r)) in
      ap (λ (w : Result (List Address)). next w (member (sector_number g r) own))
      (walk_same n (sector_number g r ∷ own) r slot k (directory_link-inside g (d (sector_number g r)))
      ∙ ap (λ (b : Bytes). walk g (directory_link g) e n (sector_number g r ∷ own) r slot (directory_link g b)) (same-inside r i))
    where
      next : Result (List Address) → Bool → Result (List Address)
      next w x = elim x [ true ↦ refused (already_owned holder slot) | false ↦ w >>= (λ l. done (r ∷ l)) ]

  pub directory-same : on_disk g directory_start ≡ true → check_directory g d ≡ check_directory g e
  unfolding check_directory on_disk
  directory-same on = walk_same (steps g) (sector_number g map_address ∷ []) map_address 255 (to directory_start) (refl, omega arith, ltb-true 1 (sectors_on g 18) on)

-- ---- an image and its track 18

pub image-track18 : (g : Geometry) (img : Bytes) → SameTrack18 g (disk_of_track18 g (bytes_of_track18 g img)) (disk img)
image-track18 g img = track18-own g img

-- THE DIRECTORY OF AN IMAGE is that of its track 18
pub directory-of-track18 : (g : Geometry) → Known g → (img : Bytes) → check_directory g (disk_of_track18 g (bytes_of_track18 g img)) ≡ check_directory g (disk img)
directory-of-track18 g kn img = directory-same g (disk_of_track18 g (bytes_of_track18 g img)) (disk img) (image-track18 g img) kn.valid.directory

-- ---- track 18 in numbers

-- where it has 19 sectors
module _ (g : Geometry) (nineteen : sectors_on g 18 ≡ 19) where
  pub on-18 : (s : ℕ) → on_disk g (address 18 s) ≡ ltb s 19
  unfolding on_disk
  on-18 s = ap (ltb s) nineteen

  pub decoded-inside18 : (t s : ℕ) → InDirectory 19 (decode_directory_link g t s)
  decoded-inside18 t s = rw nineteen at (decoded-inside g t s)

-- alike in all layouts that have a number
module _ (g : Geometry) (kn : Known g) where
  pub number-18 : (s : ℕ) → sector_number g (address 18 s) ≡ 357 + s
  unfolding sector_number
  number-18 s = omega (arith, kn.map357)
