-- One track's free sectors, taken by its bitmap (01, The map): what the loop over its sectors keeps.
-- In order: the bitmap halved from sector to sector; how many sectors are free; the loop. Assumes nothing.
use Prim.Native.Nat.{ℕ, zero, suc, ◌+◌, ◌-◌, ◌/◌, ◌%◌, ◌^◌, ◌≤◌, ◌<◌, min}
use native.Mathlib.Omega.{arith}
use native.Mathlib.Decide.{ℕ_discrete, dec_le}
use native.Mathlib.Numerals.{add-one}
use mathlib.Core.Path.{◌≡◌, refl, sym, ap, ap₂, ◌∙◌}
use mathlib.Core.List.{List, [], ◌∷◌, ◌++◌, map}
use lib.ListN.{length, take, drop, set, length-take, length-drop}
use lib.Pow.{shr-shr}
use lib.Seq.{take_all}
use borrow.Author.Tests.{ne_eqb}
use Rattle.d64spec.specs.Lists.{Bytes, filter, range, sum}
use Rattle.d64spec.specs.Bits.{bit_of}
use Rattle.d64spec.specs.Answers.{Address, address}
use Rattle.d64spec.specs.Geometry.{Geometry, sectors_on, sectors_of_track}
use Rattle.d64spec.specs.Layouts.{Known}
use Rattle.d64spec.proofs.SumLaws.{sum_same}
use Rattle.geometry.specs.declared.Address.{Address as Place}
use Rattle.bam.specs.MapEntry.{entry_bit, bitmap_of, free_in}
use Rattle.bam.proofs.ShapeLaws.{EntryShape}
use Rattle.bam.proofs.BitmapLaws.{bit-bitmap}
use Rattle.placement.specs.Placements.{PlacedFirst, put_first, place_of, marked_in, free_on_track}
use Rattle.placement.proofs.BehindLaws.{taken-more, put_one}

-- ---- the bitmap halved

-- the k sectors of track t from sector s on that its bitmap marks free
abbrev free_from : ℕ → ℕ → ℕ → ℕ → List Address
free_from m t s k = filter (marked_in m) (map (λ s. address t s) (range s k))

halved-more : (m s : ℕ) → m / 2 ^ s / 2 ≡ m / 2 ^ (s + 1)
halved-more m s = shr-shr m s 1

module _ (m t : ℕ) where
  -- a sector whose bit is 1, and one whose bit is not
  free-first : (s k : ℕ) → m / 2 ^ s % 2 ≡ 1 → free_from m t s (suc k) ≡ address t s ∷ free_from m t (s + 1) k
  unfolding marked_in
  free-first s k e = rw (e, add-one s)

  used-first : (s k : ℕ) → (m / 2 ^ s % 2 ≡ 1 → ⊥) → free_from m t s (suc k) ≡ free_from m t (s + 1) k
  unfolding marked_in
  used-first s k e = rw (ne_eqb (m / 2 ^ s % 2) 1 e, add-one s)

  -- ---- how many are free

  -- as many as there are ones
  length-free : (s k : ℕ) → length (free_from m t s k) ≡ sum (map (bit_of m) (range s k))
  unfolding bit_of
  length-free s zero = refl
  length-free s (suc k) =
      let rest : length (free_from m t (s + 1) k) ≡ sum (map (bit_of m) (range (suc s) k)) = rw (add-one s) (length-free (suc s) k) in
      elim (ℕ_discrete (m / 2 ^ s % 2) 1) [
        | yes e ↦ rw (free-first s k e) (omega arith)
        | no e ↦ rw (used-first s k e) (omega arith)
      ]

-- those of track t from sector s on
abbrev free_left : Geometry → ℕ → ℕ → ℕ → List Address
free_left g m t s = free_from m t s (sectors_on g t - s)

-- THE TRACK'S COUNT is how many of its sectors are free
counted-free : (g : Geometry) (kn : Known g) (e : Bytes) (t : ℕ) → EntryShape e → free_in e (sectors_on g t) ≡ length (free_left g (bitmap_of e) t 0)
unfolding free_in
counted-free g kn e t shape =
    let n : ℕ = sectors_on g t in
    let all : n - 0 ≡ n = omega arith in
    let ones : free_in e n ≡ sum (map (bit_of (bitmap_of e)) (range 0 n))
    = sum_same (entry_bit e) (bit_of (bitmap_of e)) 0 n (λ s l u. sym (bit-bitmap e shape s (omega (arith, kn.valid.small t)))) in
    rw all (ones ∙ sym (length-free (bitmap_of e) t 0 n))

-- ---- the loop

-- the sectors below s are passed: n of them are free, and stand at the start of the array; in all it will be as many as the count and the room say
pub record Taking (g : Geometry) (m t : ℕ) (at₀ : List Place) (end : ℕ) (at : List Place) (bits n s : ℕ) : Type 0 where
  pub few : n ≤ end
  pub ends : end ≡ min (length (free_left g m t 0)) (length at₀)
  pub halved : bits ≡ m / 2 ^ s
  pub left : free_left g m t s ≡ drop n (free_left g m t 0)
  pub places : at ≡ put_first (take n (free_left g m t 0)) at₀

-- a place is still to come: a sector is left for it, and there is room
pub record Coming (g : Geometry) (t : ℕ) (at₀ : List Place) (n s : ℕ) : Type 0 where
  pub sector : s < sectors_on g t
  pub small : s < 24
  pub room : n < length at₀

module _ (g : Geometry) (kn : Known g) {e : Bytes} (shape : EntryShape e) {at : List Place} where
  pub taking-start : {m t k free end n s : ℕ} → m ≡ bitmap_of e → free ≡ free_in e k → k ≡ sectors_on g t → end ≡ min free (length at) → n ≡ 0 → s ≡ 0
      → Taking g m t at end at m n s
  taking-start {m} {t} bitmap count own ends none first = rw (none, first, bitmap) (record {
    few = omega arith;
    ends = ends ∙ rw (count, own, counted-free g kn e t shape);
    halved = omega arith;
    left = refl;
    places = refl;
  })

module _ (g : Geometry) (kn : Known g) {m t : ℕ} {at₀ : List Place} {end : ℕ} {at : List Place} {bits n s : ℕ}
    (w : Taking g m t at₀ end at bits n s) where
  -- all of them
  abbrev all : List Address
  all = free_left g m t 0

  -- below the end, so that the loop never asks a sector that the track has not
  pub taking-coming : n < end → Coming g t at₀ n s
  taking-coming h =
      let none : sectors_on g t ≤ s → ⊥
      = λ l. (let z : sectors_on g t - s ≡ 0 = omega arith in omega (arith, w.ends, length-drop n all, ap length (rw z at w.left))) in
      record { sector = omega arith; small = omega (arith, kn.valid.small t); room = omega (arith, w.ends) }

  left-free : s < sectors_on g t → bits % 2 ≡ 1 → free_left g m t s ≡ address t s ∷ free_left g m t (s + 1)
  left-free h bit =
      let more : sectors_on g t - s ≡ suc (sectors_on g t - (s + 1)) = omega arith in
      rw more (free-first m t s (sectors_on g t - (s + 1)) (rw w.halved at bit))

  left-used : s < sectors_on g t → (bits % 2 ≡ 1 → ⊥) → free_left g m t s ≡ free_left g m t (s + 1)
  left-used h bit =
      let more : sectors_on g t - s ≡ suc (sectors_on g t - (s + 1)) = omega arith in
      rw more (used-first m t s (sectors_on g t - (s + 1)) (rw w.halved at bit))

  module _ {at' : List Place} {bits' n' s' : ℕ} (below : n < end) (h : Coming g t at₀ n s) where
    -- the next sector is free: it is put behind the others
    pub taking-free : {v : Place} → bits % 2 ≡ 1 → at' ≡ set at n v → v.track ≡ t → v.sector ≡ s → n' ≡ n + 1 → bits' ≡ bits / 2
        → s' ≡ s + 1 → Taking g m t at₀ end at' bits' n' s'
    taking-free {v = v} bit stored track sector next half after =
        let more = taken-more n all (address t s ∷ []) (free_left g m t (s + 1)) (sym w.left ∙ left-free h.sector bit) in
        let size : length (take n all) ≡ n = omega (arith, length-take n all, w.ends) in
        let put : set at n (place_of (address t s)) ≡ put_first (take n all ++ (address t s ∷ [])) at₀
        = rw w.places (put_one (take n all) (address t s) at₀ size h.room) in
        rw (next, after) (record {
          few = omega arith;
          ends = w.ends;
          halved = half ∙ rw w.halved (halved-more m s);
          left = sym more.1;
          places = stored ∙ ap₂ (λ (x y : ℕ). set at n (record { track = x; sector = y })) track sector ∙ put
              ∙ ap (λ (l : List Address). put_first l at₀) (sym more.0);
        })

    -- it is not: nothing is put
    pub taking-used : (bits % 2 ≡ 1 → ⊥) → at' ≡ at → n' ≡ n → bits' ≡ bits / 2 → s' ≡ s + 1 → Taking g m t at₀ end at' bits' n' s'
    taking-used bit same none half after =
        rw (same, none, after) (record {
          few = w.few;
          ends = w.ends;
          halved = half ∙ rw w.halved (halved-more m s);
          left = sym (left-used h.sector bit) ∙ w.left;
          places = w.places;
        })

  -- as many of them as there is room for
  all-taken : end ≤ n → take n all ≡ take (length at₀) all
  all-taken h = elim (dec_le (length all) (length at₀)) [
    | yes few ↦ take_all n all (omega (arith, w.ends)) ∙ sym (take_all (length at₀) all few)
    | no many ↦ let z : n ≡ length at₀ = omega (arith, w.ends, w.few) in ap (λ (k : ℕ). take k all) z
  ]

  -- at the end all are there
  pub taking-finished : {b : ℕ} → m ≡ b → end ≤ n → PlacedFirst (free_on_track g b t) at₀ n at
  unfolding free_on_track sectors_of_track
  taking-finished bitmap h =
      let whole : sectors_on g t - 0 ≡ sectors_on g t = omega arith in
      rw (← bitmap, ← whole) (record {
        count = omega (arith, w.ends, w.few, length-take (length at₀) all);
        places = w.places ∙ ap (λ (l : List Address). put_first l at₀) (all-taken h);
      })
