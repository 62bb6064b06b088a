-- The map's count bytes added, but for track 18's (01, Sleeve listing): they stand in two runs of 17 entries and, where the layout has 40 tracks, in a
-- third of 5. In order: sums; a run under way; runs of a layout's tracks; all tracks. Assumes nothing.
use Prim.Native.Nat.{ℕ, zero, suc, ◌+◌, ◌*◌, ◌≤◌, ◌<◌}
use native.Mathlib.Omega.{arith}
use native.Mathlib.Numerals.{add-one}
use mathlib.Core.Path.{◌≡◌, refl, sym, ap, ap₂, ◌∙◌}
use mathlib.Core.Bool.{not}
use mathlib.Core.List.{List, [], ◌∷◌, ◌++◌, map}
use lib.Dec.{eqb}
use Rattle.std.specs.Prelude.{None, Some}
use Rattle.d64spec.specs.Lists.{Bytes, byte, filter, range, sum}
use Rattle.d64spec.specs.Geometry.{Geometry, tracks}
use Rattle.d64spec.specs.Listing.{free_total}
use Rattle.d64spec.proofs.SumLaws.{sum-map-last}
use Rattle.d64spec.proofs.SplitLaws.{map-append}
use Rattle.geometry.specs.Layout.{geometry_of, extra_of}
use Rattle.geometry.specs.declared.Layout.{Layout}
use Rattle.geometry.proofs.MapPlaceLaws.{place-low, place-high, tracks-without, tracks-with}
use Rattle.sleeve.specs.Texts.{counts_from}

-- ---- sums

sum-append : (l m : List ℕ) → sum (l ++ m) ≡ sum l + sum m
sum-append [] m = omega arith
sum-append (x ∷ l) m = omega (arith, sum-append l m)

sum_both : (f : ℕ → ℕ) (l m : List ℕ) → sum (map f (l ++ m)) ≡ sum (map f l) + sum (map f m)
sum_both f l m = ap sum (map-append f l m) ∙ sum-append (map f l) (map f m)

-- two functions that agree along two ranges
sum-ranges : (f h : ℕ → ℕ) (a b n : ℕ) → ((i : ℕ) → i < n → f (a + i) ≡ h (b + i)) → sum (map f (range a n)) ≡ sum (map h (range b n))
sum-ranges f h a b zero same = refl
sum-ranges f h a b (suc n) same =
    sum-map-last f a n ∙ ap₂ (λ (x y : ℕ). x + y) (sum-ranges f h a b n (λ i l. same i (omega arith))) (same n (omega arith)) ∙ sym (sum-map-last h b n)

-- ---- a run of entries

counts-next : (m : Bytes) (at i : ℕ) → counts_from m at (i + 1) ≡ counts_from m at i + byte m (at + 4 * i)
unfolding counts_from
counts-next m at i =
    let z : 0 + i ≡ i = omega arith in
    ap (λ (n : ℕ). sum (map (λ i. byte m (at + 4 * i)) (range 0 n))) (add-one i)
    ∙ sum-map-last (λ i. byte m (at + 4 * i)) 0 i
    ∙ ap (λ (x : ℕ). sum (map (λ i. byte m (at + 4 * i)) (range 0 i)) + byte m (at + 4 * x)) z

-- what a run adds, where the entries are bytes
pub counts-small : (m : Bytes) → ((k : ℕ) → byte m k < 256) → (at n : ℕ) → counts_from m at n ≤ 255 * n
unfolding counts_from
counts-small m small at zero = omega arith
counts-small m small at (suc n) = omega (arith, sum-map-last (λ i. byte m (at + 4 * i)) 0 n, counts-small m small at n, small (at + 4 * (0 + n)))

-- the first i entries are added
pub record Adding (m : Bytes) (at sum i : ℕ) : Type 0 where
  pub small : sum ≤ 255 * i
  pub added : sum ≡ counts_from m at i

pub adding-start : (m : Bytes) (at : ℕ) → Adding m at 0 0
unfolding counts_from
adding-start m at = record { small = omega arith; added = refl }

module _ {m : Bytes} {at sum i : ℕ} (a : Adding m at sum i) where
  pub adding-moved : {sum' k : ℕ} → k ≡ at + 4 * i → byte m k < 256 → sum' ≡ sum + byte m k → Adding m at sum' (i + 1)
  adding-moved {sum'} {k} e b more =
      let same : byte m k ≡ byte m (at + 4 * i) = ap (byte m) e in
      record { small = omega (arith, a.small); added = omega (arith, a.added, counts-next m at i) }

-- ---- runs of a layout's tracks

-- the tracks from t on whose entries stand from `at` on
run : (g : Geometry) (m : Bytes) (t at n : ℕ) → ((i : ℕ) → i < n → g.map_at (t + i) ≡ at + 4 * i)
    → sum (map (λ t. byte m (g.map_at t)) (range t n)) ≡ counts_from m at n
unfolding counts_from
run g m t at n place =
    sum-ranges (λ t. byte m (g.map_at t)) (λ i. byte m (at + 4 * i)) t 0 n
    (λ i h. let z : i ≡ 0 + i = omega arith in ap (byte m) (place i h ∙ ap (λ (x : ℕ). at + 4 * x) z))

-- all tracks but 18, of 35 and of 40
tracks-of-35 : filter (λ t. not (eqb t 18)) (range 1 35) ≡ range 1 17 ++ range 19 17
tracks-of-35 = refl

tracks-of-40 : filter (λ t. not (eqb t 18)) (range 1 40) ≡ (range 1 17 ++ range 19 17) ++ range 36 5
tracks-of-40 = refl

module _ (layout : Layout) (m : Bytes) where
  abbrev g : Geometry
  g = geometry_of layout

  abbrev counted : ℕ → ℕ
  counted t = byte m (g.map_at t)

  total_of : (n : ℕ) (l : List ℕ) → tracks g ≡ n → filter (λ t. not (eqb t 18)) (range 1 n) ≡ l → free_total g m ≡ sum (map counted l)
  unfolding free_total
  total_of n l are but = ap (λ (n : ℕ). sum (map counted (filter (λ t. not (eqb t 18)) (range 1 n)))) are ∙ ap (λ (x : List ℕ). sum (map counted x)) but

  most : sum (map counted (range 1 17 ++ range 19 17)) ≡ counts_from m 4 17 + counts_from m 76 17
  most =
      sum_both counted (range 1 17) (range 19 17)
      ∙ ap₂ (λ (x y : ℕ). x + y)
      (run g m 1 4 17 (λ i h. place-low layout (1 + i) (omega arith) ∙ omega arith))
      (run g m 19 76 17 (λ i h. place-low layout (19 + i) (omega arith) ∙ omega arith))

  -- 35 TRACKS: two runs
  pub free-without : {a b : ℕ} → extra_of layout ≡ None → a ≡ counts_from m 4 17 → b ≡ counts_from m 76 17 → a + b ≡ free_total g m
  free-without none first second =
      ap₂ (λ (x y : ℕ). x + y) first second ∙ sym most ∙ sym (total_of 35 (range 1 17 ++ range 19 17) (tracks-without layout none) tracks-of-35)

  -- 40 TRACKS: a third
  pub free-with : {a b c extra : ℕ} → extra_of layout ≡ Some extra → a ≡ counts_from m 4 17 → b ≡ counts_from m 76 17 → c ≡ counts_from m extra 5
      → a + b + c ≡ free_total g m
  free-with {a} {b} {c} {extra} some first second third =
      ap₂ (λ (x y : ℕ). x + y) (ap₂ (λ (x y : ℕ). x + y) first second ∙ sym most)
      (third ∙ sym (run g m 36 extra 5 (λ i h. place-high layout (36 + i) some (omega arith) ∙ omega arith)))
      ∙ sym (sum_both counted (range 1 17 ++ range 19 17) (range 36 5))
      ∙ sym (total_of 40 ((range 1 17 ++ range 19 17) ++ range 36 5) (tracks-with layout some) tracks-of-40)
