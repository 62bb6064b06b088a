-- House order: sectors of the disk, each once, none of track 18.
use Prim.Native.Nat.{ℕ, zero, suc, ◌+◌, ◌-◌, ◌≤◌, ◌<◌}
use native.Mathlib.Omega.{arith}
use native.Mathlib.Decide.{dec_le}
use mathlib.Core.Path.{◌≡◌, refl, ap, ap₂, ◌∙◌}
use mathlib.Core.Bool.{Bool, true, false}
use mathlib.Core.List.{List, [], ◌∷◌, ◌++◌, map}
use lib.ListN.{take, get_or}
use lib.Dec.{eqb}
use borrow.Author.Tests.{eq-eqb, eqb-true, lt-ltb}
use Rattle.d64spec.specs.Lists.{All, ascending, count, countdown, descending, indicator, join, range, sum}
use Rattle.d64spec.specs.Answers.{Address, address}
use Rattle.d64spec.specs.Geometry.{Geometry, allocation_order, allocation_tracks, first_on, on_disk, sector_number, sectors_of_track, sectors_on, tracks}
use Rattle.d64spec.proofs.ListLaws.{count-append}
use Rattle.d64spec.proofs.BoundLaws.{all_append}
use Rattle.d64spec.proofs.SplitLaws.{map-append, map-map}

-- what a count says of an element
count-cases : (P : Type 0) (n x : ℕ) (l : List ℕ) → 0 < count n (x ∷ l) → (n ≡ x → P) → (0 < count n l → P) → P
count-cases P n x l h f k = go (eqb n x) refl
  where
    go : (b : Bool) → eqb n x ≡ b → P
    go true t = f (eqb-true n x t)
    go false t = k (let z : indicator (eqb n x) ≡ 0 = ap indicator t in omega arith)

-- ---- ranges

module _ (base n : ℕ) where
  shift_in : (a k : ℕ) → 0 < count n (map (λ s. base + s) (range a k)) → (base + a ≤ n) × (n < base + a + k)
  shift_in a zero h = absurd (omega arith)
  shift_in a (suc k) h =
      count-cases ((base + a ≤ n) × (n < base + a + suc k)) n (base + a) (map (λ s. base + s) (range (suc a) k)) h
      (λ e. (omega arith, omega arith)) (λ i. let r = shift_in (suc a) k i in (omega arith, omega arith))

  shift-few : (a k : ℕ) → count n (map (λ s. base + s) (range a k)) ≤ 1
  shift-few a zero = omega arith
  shift-few a (suc k) = go (eqb n (base + a)) refl (shift-few (suc a) k)
    where
      go : (b : Bool) → eqb n (base + a) ≡ b → count n (map (λ s. base + s) (range (suc a) k)) ≤ 1 → indicator b + count n (map (λ s. base + s) (range (suc a) k)) ≤ 1
      go true t i = elim (dec_le 1 (count n (map (λ s. base + s) (range (suc a) k)))) [
        | yes h ↦ let e : n ≡ base + a = eqb-true n (base + a) t in absurd (let r = shift_in (suc a) k h in omega arith)
        | no h ↦ omega arith
      ]
      go false t i = omega arith

fall-in : (n a k : ℕ) → k ≤ a → 0 < count n (countdown a k) → (n ≤ a) × (a < n + k)
fall-in n a zero p h = absurd (omega arith)
fall-in n a (suc k) p h =
    count-cases ((n ≤ a) × (a < n + suc k)) n a (countdown (a - 1) k) h (λ e. (omega arith, omega arith)) (λ i. let r = fall-in n (a - 1) k (omega arith) i in (omega arith, omega arith))

fall-few : (n a k : ℕ) → k ≤ a → count n (countdown a k) ≤ 1
fall-few n a zero p = omega arith
fall-few n a (suc k) p = go (eqb n a) refl (fall-few n (a - 1) k (omega arith))
  where
    go : (b : Bool) → eqb n a ≡ b → count n (countdown (a - 1) k) ≤ 1 → indicator b + count n (countdown (a - 1) k) ≤ 1
    go true t i = elim (dec_le 1 (count n (countdown (a - 1) k))) [
      | yes h ↦ let e : n ≡ a = eqb-true n a t in absurd (let r = fall-in n (a - 1) k (omega arith) h in omega arith)
      | no h ↦ omega arith
    ]
    go false t i = omega arith

range-is : (a k : ℕ) → map (λ s. 0 + s) (range a k) ≡ range a k
range-is a zero = refl
range-is a (suc k) = ap₂ (λ (x : ℕ) (l : List ℕ). x ∷ l) (omega arith) (range-is (suc a) k)

-- ---- tracks

sum_step : (l : List ℕ) (t u : ℕ) → t < u → sum (take t l) + get_or l t 0 ≤ sum (take u l)
sum_step [] zero zero h = omega arith
sum_step [] zero (suc u) h = omega arith
sum_step [] (suc t) zero h = omega arith
sum_step [] (suc t) (suc u) h = omega arith
sum_step (x ∷ l) t zero h = absurd (omega arith)
sum_step (x ∷ l) zero (suc u) h = omega arith
sum_step (x ∷ l) (suc t) (suc u) h = omega (arith, sum_step l t u (omega arith))

module _ (g : Geometry) where
  -- sector n is on track t
  pub record On (t n : ℕ) : Type 0 where
    pub low : first_on g t ≤ n
    pub high : n < first_on g t + sectors_on g t

  first_step : (t u : ℕ) → t < u → first_on g t + sectors_on g t ≤ first_on g u
  unfolding first_on sectors_on
  first_step t u h = sum_step (0 ∷ g.counts) t u h

  pub one-track : (t u n : ℕ) → On t n → On u n → t ≡ u
  one-track t u n a b = elim (dec_le t u) [
    | yes h ↦ elim (dec_le u t) [
      | yes k ↦ omega arith
      | no k ↦ absurd (omega (arith, first_step t u (omega arith), a.low, a.high, b.low, b.high))
    ]
    | no h ↦ absurd (omega (arith, first_step u t (omega arith), a.low, a.high, b.low, b.high))
  ]

  numbers : (t : ℕ) → map (sector_number g) (sectors_of_track g t) ≡ map (λ s. first_on g t + s) (range 0 (sectors_on g t))
  unfolding sectors_of_track sector_number
  numbers t = map-map (sector_number g) (λ s. address t s) (range 0 (sectors_on g t))

  pub track-on : (t n : ℕ) → 0 < count n (map (sector_number g) (sectors_of_track g t)) → On t n
  track-on t n h =
      let r = shift_in (first_on g t) n 0 (sectors_on g t) (rw (numbers t) at h) in record { low = omega arith; high = omega arith }

  track-few : (t n : ℕ) → count n (map (sector_number g) (sectors_of_track g t)) ≤ 1
  track-few t n = rw (numbers t) (shift-few (first_on g t) n 0 (sectors_on g t))

  -- the sectors of these tracks
  abbrev sectors : List ℕ → List Address
  sectors ts = join (map (sectors_of_track g) ts)

  count-track : (t : ℕ) (ts : List ℕ) (n : ℕ) → count n (map (sector_number g) (sectors (t ∷ ts))) ≡ count n (map (sector_number g) (sectors_of_track g t)) + count n (map (sector_number g) (sectors ts))
  count-track t ts n = ap (count n) (map-append (sector_number g) (sectors_of_track g t) (sectors ts)) ∙ count-append n (map (sector_number g) (sectors_of_track g t)) (map (sector_number g) (sectors ts))

  -- a sector of a track that is not among them
  none-on : (u n : ℕ) → On u n → (ts : List ℕ) → count u ts ≡ 0 → count n (map (sector_number g) (sectors ts)) ≡ 0
  none-on u n o [] h = refl
  none-on u n o (t ∷ ts) h =
      elim (dec_le 1 (count n (map (sector_number g) (sectors_of_track g t)))) [
        | yes k ↦ absurd (let z : indicator (eqb u t) ≡ 1 = rw (eq-eqb u t (one-track u t n o (track-on t n k))) in omega arith)
        | no k ↦ omega (arith, count-track t ts n, none-on u n o ts (omega arith))
      ]

  few_on : (ts : List ℕ) → ((t : ℕ) → count t ts ≤ 1) → (n : ℕ) → count n (map (sector_number g) (sectors ts)) ≤ 1
  few_on [] u n = omega arith
  few_on (t ∷ ts) u n =
      elim (dec_le 1 (count n (map (sector_number g) (sectors_of_track g t)))) [
        | yes k ↦ let z : indicator (eqb t t) ≡ 1 = rw (eq-eqb t t refl) in omega (arith, count-track t ts n, track-few t n, none-on t n (track-on t n k) ts (omega (arith, u t)))
        | no k ↦ omega (arith, count-track t ts n, few_on ts (λ t'. omega (arith, u t')) n)
      ]

  -- ---- house order

  -- the tracks in house order
  order_tracks : List ℕ
  order_tracks = countdown 17 17 ++ range 19 (tracks g - 18)

  tracks-are : allocation_tracks g ≡ order_tracks
  unfolding allocation_tracks ascending descending order_tracks
  tracks-are = let z : tracks g + 1 - 19 ≡ tracks g - 18 = omega arith in ap (λ (n : ℕ). countdown 17 17 ++ range 19 n) z

  range-few : (n a k : ℕ) → count n (range a k) ≤ 1
  range-few n a k = rw (← (range-is a k)) (shift-few 0 n a k)

  range-in : (n a k : ℕ) → 0 < count n (range a k) → (a ≤ n) × (n < a + k)
  range-in n a k h = let r = shift_in 0 n a k (rw (range-is a k) h) in (omega arith, omega arith)

  tracks-few : (t : ℕ) → count t order_tracks ≤ 1
  unfolding order_tracks
  tracks-few t =
      elim (dec_le 1 (count t (countdown 17 17))) [
        | yes k ↦ elim (dec_le 1 (count t (range 19 (tracks g - 18)))) [
          | yes h ↦ absurd (let x = fall-in t 17 17 (omega arith) k in let y = range-in t 19 (tracks g - 18) h in omega arith)
          | no h ↦ omega (arith, count-append t (countdown 17 17) (range 19 (tracks g - 18)), fall-few t 17 17 (omega arith))
        ]
        | no k ↦ omega (arith, count-append t (countdown 17 17) (range 19 (tracks g - 18)), range-few t 19 (tracks g - 18))
      ]

  no-18 : count 18 order_tracks ≡ 0
  unfolding order_tracks
  no-18 =
      elim (dec_le 1 (count 18 (range 19 (tracks g - 18)))) [
        | yes h ↦ absurd (let y = range-in 18 19 (tracks g - 18) h in omega arith)
        | no h ↦ omega (arith, count-append 18 (countdown 17 17) (range 19 (tracks g - 18)))
      ]

  pub order-few : (n : ℕ) → count n (map (sector_number g) (allocation_order g)) ≤ 1
  unfolding allocation_order
  order-few n = rw tracks-are (few_on order_tracks tracks-few n)

  pub order-18 : (n : ℕ) → On 18 n → count n (map (sector_number g) (allocation_order g)) ≡ 0
  unfolding allocation_order
  order-18 n o = rw tracks-are (none-on 18 n o order_tracks no-18)

  refs-on : (t a k : ℕ) → a + k ≤ sectors_on g t → All (λ r. on_disk g r ≡ true) (map (λ s. address t s) (range a k))
  unfolding on_disk
  refs-on t a zero h = tt
  refs-on t a (suc k) h = (lt-ltb a (sectors_on g t) (omega arith), refs-on t (suc a) k (omega arith))

  pub sectors-on : (t : ℕ) → All (λ r. on_disk g r ≡ true) (sectors_of_track g t)
  unfolding sectors_of_track
  sectors-on t = refs-on t 0 (sectors_on g t) (omega arith)

  all-on : (ts : List ℕ) → All (λ r. on_disk g r ≡ true) (sectors ts)
  all-on [] = tt
  all-on (t ∷ ts) = all_append (λ r. on_disk g r ≡ true) (sectors_of_track g t) (sectors ts) (sectors-on t) (all-on ts)

  pub order-on : All (λ r. on_disk g r ≡ true) (allocation_order g)
  unfolding allocation_order
  order-on = all-on (allocation_tracks g)
