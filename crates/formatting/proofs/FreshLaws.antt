-- The image of a fresh disk, as the code writes it (01, Format): zeros, then 18/1, then 18/0. For every layout.
use Prim.Native.Nat.{ℕ, ◌+◌, ◌*◌, ◌≤◌, ◌<◌}
use native.Mathlib.Omega.{arith}
use mathlib.Core.Path.{◌≡◌, sym, ap, ap₂, ◌∙◌}
use mathlib.Core.Bool.{cond}
use lib.ListN.{length, length-replicate}
use lib.Dec.{eqb}
use Rattle.d64spec.specs.Lists.{Bytes, join, zeros}
use Rattle.d64spec.specs.Geometry.{Geometry, Valid, directory_start, map_address, sector_number, total}
use Rattle.d64spec.specs.Image.{Disk, disk, image, put}
use Rattle.d64spec.specs.Format.{empty_directory_sector, formatted_disk, formatted_map}
use Rattle.d64spec.proofs.BoundLaws.{sector_number-lt, map_on}
use Rattle.d64spec.proofs.FormatLaws.{part-zeros}
use Rattle.d64spec.proofs.InPlaceLaws.{disk-image}
use Rattle.d64spec.specs.Layouts.{Known}
use Rattle.d64spec.proofs.SplitLaws.{map_range}
use Rattle.sectors.specs.Sectors.{with_sector}
use Rattle.sectors.proofs.SectorLaws.{disk-with_sector, length-with_sector}

-- an image looks only at the sectors of the disk
image-same : (g : Geometry) (d e : Disk) → ((n : ℕ) → n < total g → d n ≡ e n) → image g d ≡ image g e
unfolding image
image-same g d e h = ap join (map_range d e 0 (total g) (λ n l u. h n (omega arith)))

-- a sector of zeros
disk-zeros : (m n : ℕ) → 256 * n + 256 ≤ m → disk (zeros m) n ≡ zeros 256
unfolding disk
disk-zeros m n h = part-zeros m (256 * n) 256 h

-- as many zeros as are asked
pub filled : {p : Bytes} {n m : ℕ} → p ≡ zeros n → n ≡ m → p ≡ zeros m
filled zero same = zero ∙ ap zeros same

-- two sectors put on disks that agree at n
put_both : (d e : Disk) (a b : ℕ) (s t : Bytes) (n : ℕ) → d n ≡ e n → put (put d a s) b t n ≡ put (put e a s) b t n
unfolding put
put_both d e a b s t n h = ap (λ (x : Bytes). cond (eqb n b) t (cond (eqb n a) s x)) h

module _ (g : Geometry) (v : Valid g) (name : Bytes) (i j : ℕ) where
  -- ZEROS, 18/1 AND 18/0 are the formatted image
  pub fresh-image : {z z₁ z₂ : Bytes} {a b : ℕ} {s t : Bytes} → z ≡ zeros (256 * total g)
      → a ≡ sector_number g directory_start → s ≡ empty_directory_sector → z₁ ≡ with_sector z a s
      → b ≡ sector_number g map_address → t ≡ formatted_map g name i j → length t ≡ 256 → z₂ ≡ with_sector z₁ b t
      → z₂ ≡ image g (formatted_disk g name i j)
  unfolding formatted_disk
  fresh-image {z} {z₁} {z₂} {a} {b} {s} {t} zero at empty e₁ bt built full e₂ =
      let below : a < total g = omega (arith, sector_number-lt g directory_start v.directory) in
      let below' : b < total g = omega (arith, sector_number-lt g map_address (map_on g v.directory)) in
      let size : length z ≡ 256 * total g = ap length zero ∙ length-replicate {A = ℕ} (256 * total g) 0 in
      let size₁ : length z₁ ≡ 256 * total g = ap length e₁ ∙ length-with_sector z a s ∙ size in
      let size₂ : length z₂ ≡ 256 * total g = ap length e₂ ∙ length-with_sector z₁ b t ∙ size₁ in
      let d₁ : disk z₁ ≡ put (disk z) a s = ap disk e₁ ∙ disk-with_sector z a s (omega arith) (ap length empty) in
      let d₂ : disk z₂ ≡ put (put (disk z) a s) b t = ap disk e₂ ∙ disk-with_sector z₁ b t (omega arith) full ∙ ap (λ (d : Disk). put d b t) d₁ in
      sym (disk-image g z₂ size₂) ∙ ap (image g) d₂
      ∙ image-same g (put (put (disk z) a s) b t) (put (put (λ n. zeros 256) a s) b t)
      (λ n h. put_both (disk z) (λ n. zeros 256) a b s t n (ap (λ (x : Bytes). disk x n) zero ∙ disk-zeros (256 * total g) n (omega arith)))
      ∙ ap (image g) (ap₂ (λ (x : ℕ) (y : Bytes). put (put (λ n. zeros 256) x y) b t) at empty
      ∙ ap₂ (λ (x : ℕ) (y : Bytes). put (put (λ n. zeros 256) (sector_number g directory_start) empty_directory_sector) x y) bt built)

-- ---- the sectors by number, alike in all layouts

module _ (g : Geometry) (kn : Known g) where
  pub map-number : 357 ≡ sector_number g map_address
  map-number = sym kn.map357

  pub directory-number : 358 ≡ sector_number g directory_start
  unfolding sector_number
  directory-number = omega (arith, kn.map357)
