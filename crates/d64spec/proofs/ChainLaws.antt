-- Laws of chains.
use Prim.Native.Nat.{ℕ, zero, suc, ◌≤◌}
use native.Mathlib.Omega.{arith}
use native.Mathlib.Nat.{le_of_suc-le-suc}
use mathlib.Core.Path.{◌≡◌, refl, ap, ap₂}
use mathlib.Core.List.{List, [], ◌∷◌, ◌++◌}
use lib.ListN.{length}
use Rattle.d64spec.specs.Lists.{All, Bytes, part}
use Rattle.d64spec.specs.Answers.{Address}
use Rattle.d64spec.specs.Geometry.{Geometry, sector_number}
use Rattle.d64spec.specs.Image.{Disk}
use Rattle.d64spec.specs.Chain.{Chain, Link, bad, chain_data, ends, follow, to}

module _ (g : Geometry) (step : Bytes → Link) where
  -- a chain is what is met from its start
  pub chain-follow : (d : Disk) (n : ℕ) (k : Link) (l : List Address) → Chain g step d k l → length l ≤ n → follow g step d n k ≡ l
  chain-follow d zero k [] c h = refl
  chain-follow d zero k (r ∷ l) c h = absurd (omega arith)
  chain-follow d (suc n) k [] c h = rw c
  chain-follow d (suc n) k (r ∷ l) c h = rw c.0 (ap (λ (x : List Address). r ∷ x) (chain-follow d n (step (d (sector_number g r))) l c.1 (le_of_suc-le-suc h)))

  module _ (d e : Disk) where
    -- the links of these sectors are alike
    abbrev pub Alike : List Address → Type 0
    Alike l = All (λ r. step (d (sector_number g r)) ≡ step (e (sector_number g r))) l

    -- a chain whose links are alike on another disk is a chain there
    pub chain-frame : (k : Link) (l : List Address) → Alike l → Chain g step d k l → Chain g step e k l
    chain-frame k [] a c = c
    chain-frame k (r ∷ l) a c = (c.0, rw a.0 at (chain-frame (step (d (sector_number g r))) l a.1 c.1))

    pub follow-frame : (n : ℕ) (k : Link) → Alike (follow g step d n k) → follow g step e n k ≡ follow g step d n k
    follow-frame zero k a = refl
    follow-frame (suc n) ends a = refl
    follow-frame (suc n) bad a = refl
    follow-frame (suc n) (to r) a = rw (← a.0) (ap (λ (x : List Address). r ∷ x) (follow-frame n (step (d (sector_number g r))) a.1))

-- the data of a chain whose sectors are alike
pub data-frame : (g : Geometry) (d e : Disk) (l : List Address) → All (λ r. d (sector_number g r) ≡ e (sector_number g r)) l → chain_data g d l ≡ chain_data g e l
data-frame g d e [] a = refl
data-frame g d e (r ∷ []) a = rw a.0
data-frame g d e (r ∷ q ∷ l) a = ap₂ (λ (x y : Bytes). part 2 255 x ++ y) a.0 (data-frame g d e (q ∷ l) a.1)
