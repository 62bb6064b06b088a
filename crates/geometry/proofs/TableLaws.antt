-- The rule of the table, and what it says of the layouts (01, Tracks and sectors; 02, §8).
-- In order: the layouts are the front of the table; the running sum; a layout's counts; its first numbers. The rule is one test, `every-at` of Every.
use Prim.Native.Nat.{ℕ, zero, suc, ◌+◌, ◌-◌, ◌≤◌, ◌<◌}
use native.Mathlib.Omega.{arith}
use mathlib.Core.Path.{◌≡◌, refl, ap, ◌∙◌}
use mathlib.Core.Bool.{Bool}
use mathlib.Core.List.{List, [], ◌∷◌, ◌++◌}
use lib.ListN.{take, get_or, get_or-append, get_or-eq_default}
use lib.Seq.{get_or-take}
use lib.Dec.{eqb}
use borrow.Author.Tests.{eqb-true}
use Rattle.d64spec.specs.Lists.{sum}
use Rattle.d64spec.specs.Geometry.{Geometry, layout35, layout40, speed_dos, dolphin, tracks, total, sectors_on, first_on}
use Rattle.d64spec.specs.Layouts.{Known}
use Rattle.d64spec.proofs.LayoutLaws.{known35, known-speed_dos, known-dolphin, tracks35, tracks40, sectors35, sectors40}
use Rattle.geometry.specs.Layout.{geometry_of, counts, firsts}
use Rattle.geometry.specs.declared.Layout.{Layout}
use Rattle.geometry.specs.declared.Layout.TheVariants.{Tracks35, SpeedDos, Dolphin}
use Rattle.geometry.proofs.Every.{every-at}

-- ---- the layouts

-- EVERY LAYOUT IS KNOWN
pub known_of : (layout : Layout) → Known (geometry_of layout)
known_of Tracks35 = known35
known_of SpeedDos = known-speed_dos
known_of Dolphin = known-dolphin

-- how many tracks and sectors the layouts have
pub ruleset sizes = (tracks35, tracks40, sectors35, sectors40)

-- no layout has more than 768 sectors
pub most_of : (layout : Layout) → total (geometry_of layout) ≤ 768
most_of layout = (known_of layout).most

-- a geometry whose counts are the first of the table's
pub record Fronts (g : Geometry) : Type 0 where
  pub few : tracks g ≤ 40
  pub counts : g.counts ≡ take (tracks g) counts

fronts35 : Fronts layout35
unfolding layout35 tracks counts
fronts35 = record { few = omega arith; counts = refl }

fronts40 : (extra : ℕ) → Fronts (layout40 extra)
unfolding layout40 tracks counts
fronts40 extra = record { few = omega arith; counts = refl }

pub fronts : (layout : Layout) → Fronts (geometry_of layout)
unfolding speed_dos dolphin
fronts Tracks35 = fronts35
fronts SpeedDos = fronts40 0xC0
fronts Dolphin = fronts40 0xAC

-- ---- the running sum

-- where each track starts, and where the last one ends
abbrev pub bounds : List ℕ
bounds = firsts ++ (768 ∷ [])

runs : ℕ → ℕ → Bool
runs k x = eqb (get_or bounds (suc k) 0) (get_or bounds k 0 + x)

-- THE RUNNING SUM: each first number is the one before plus that track's sectors, and the last track ends at 768. One test over all rows
pub running-sum : (k : ℕ) → k < 40 → get_or bounds (suc k) 0 ≡ get_or bounds k 0 + get_or counts k 0
unfolding runs counts firsts
running-sum k h = eqb-true _ _ (every-at runs counts refl k h)

sum-take-suc : (l : List ℕ) (t : ℕ) → sum (take (suc t) l) ≡ sum (take t l) + get_or l t 0
sum-take-suc [] zero = refl
sum-take-suc [] (suc t) = refl
sum-take-suc (x ∷ l) zero = omega arith
sum-take-suc (x ∷ l) (suc t) = omega (arith, sum-take-suc l t)

-- ---- any layout

module _ (g : Geometry) where
  -- the same sum of the layout's counts
  first_on-suc : (t : ℕ) → first_on g (suc t) ≡ first_on g t + sectors_on g t
  unfolding first_on sectors_on
  first_on-suc t = sum-take-suc (0 ∷ g.counts) t

  first-start : first_on g 1 ≡ 0
  unfolding first_on
  first-start = refl

  -- there are no other tracks
  module _ (t : ℕ) where
    pub count_none : t < 1 → sectors_on g t ≡ 0
    unfolding sectors_on
    count_none h = let e : t ≡ 0 = omega arith in rw e refl

    pub count_past : tracks g < t → sectors_on g t ≡ 0
    unfolding sectors_on tracks
    count_past h = get_or-eq_default (0 ∷ g.counts) 0 {n = t} h

module _ (g : Geometry) (f : Fronts g) where
  -- the layout's counts are the table's
  pub count_at : (t : ℕ) → 1 ≤ t → t ≤ tracks g → sectors_on g t ≡ get_or counts (t - 1) 0
  unfolding sectors_on
  count_at t h l =
      let e : t ≡ suc (t - 1) = omega arith in
      ap (λ (x : ℕ). get_or (0 ∷ g.counts) x 0) e ∙ ap (λ (c : List ℕ). get_or c (t - 1) 0) f.counts ∙ get_or-take (tracks g) counts (t - 1) 0 (omega arith)

  bound_at : (k : ℕ) → k ≤ tracks g → first_on g (suc k) ≡ get_or bounds k 0
  unfolding firsts
  bound_at zero h = first-start g
  bound_at (suc k) h =
      let e : suc k - 1 ≡ k = omega arith in
      omega (
        arith,
        first_on-suc g (suc k),
        bound_at k (omega arith),
        running-sum k (omega (arith, f.few)),
        rw e at
            (count_at (suc k) (omega arith) (omega arith)),
      )

  pub first-at : (t : ℕ) → 1 ≤ t → t ≤ tracks g → first_on g t ≡ get_or firsts (t - 1) 0
  unfolding firsts
  first-at t h l =
      let e : t ≡ suc (t - 1) = omega arith in
      ap (first_on g) e ∙ bound_at (t - 1) (omega arith) ∙ get_or-append firsts (768 ∷ []) 0 (t - 1) (omega (arith, f.few))
