-- Sectors zeroed: these are zero, and all others stay.
use Prim.Native.Nat.{ℕ, ◌<◌}
use native.Mathlib.Omega.{arith}
use mathlib.Core.Path.{◌≡◌, refl, ◌∙◌}
use mathlib.Core.Bool.{Bool, true, false}
use mathlib.Core.List.{List, [], ◌∷◌, map}
use lib.ListN.{length-replicate}
use lib.Dec.{eqb}
use borrow.Author.Tests.{eq-eqb, eqb-true, eqb-false}
use Rattle.d64spec.specs.Lists.{All, count, indicator, zeros}
use Rattle.d64spec.specs.Answers.{Address}
use Rattle.d64spec.specs.Geometry.{Geometry, sector_number, total}
use Rattle.d64spec.specs.Image.{Disk, put}
use Rattle.d64spec.specs.Scratch.{clear_sectors}
use Rattle.d64spec.proofs.ImageLaws.{Whole, put_same, put_other, put_whole}

module _ (g : Geometry) where
  pub clear-other : (l : List Address) (d : Disk) (n : ℕ) → count n (map (sector_number g) l) ≡ 0 → clear_sectors g l d n ≡ d n
  clear-other [] d n h = refl
  clear-other (r ∷ l) d n h =
      put_other (clear_sectors g l d) (sector_number g r) (zeros 256) n (λ e. let z : indicator (eqb n (sector_number g r)) ≡ 1 = rw (eq-eqb n (sector_number g r) e) in omega arith)
      ∙ clear-other l d n (omega arith)

  pub clear_in : (l : List Address) (d : Disk) (n : ℕ) → 0 < count n (map (sector_number g) l) → clear_sectors g l d n ≡ zeros 256
  clear_in [] d n h = absurd (omega arith)
  clear_in (r ∷ l) d n h = go (eqb n (sector_number g r)) refl (λ k. clear_in l d n k)
    where
      go : (b : Bool) → eqb n (sector_number g r) ≡ b → (0 < count n (map (sector_number g) l) → clear_sectors g l d n ≡ zeros 256) → put (clear_sectors g l d) (sector_number g r) (zeros 256) n ≡ zeros 256
      go true t k = rw (eqb-true n (sector_number g r) t) (put_same (clear_sectors g l d) (sector_number g r) (zeros 256))
      go false t k = put_other (clear_sectors g l d) (sector_number g r) (zeros 256) n (eqb-false n (sector_number g r) t) ∙ k (let z : indicator (eqb n (sector_number g r)) ≡ 0 = rw t in omega arith)

  pub clear_whole : (l : List Address) (d : Disk) → All (λ x. x < total g) (map (sector_number g) l) → Whole g d → Whole g (clear_sectors g l d)
  clear_whole [] d a w = w
  clear_whole (r ∷ l) d a w = put_whole g (clear_sectors g l d) (sector_number g r) (zeros 256) (clear_whole l d a.1 w) a.0 (length-replicate {A = ℕ} 256 0)
