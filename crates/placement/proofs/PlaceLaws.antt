-- What a store may rely on where the map's marks are the disk's free sectors (01, Store; The map: a bit is 1 exactly where nobody owns the sector).
-- In order: the same sectors pass both tests; a place is its address; the sectors for a file; the place for the directory. Assumes nothing.
use Prim.Native.Nat.{ℕ, zero, suc, ◌+◌, ◌-◌, ◌≤◌, ◌<◌, min}
use native.Mathlib.Omega.{arith}
use Rattle.std.specs.Prelude.{Option, None, Some}
use mathlib.Core.Path.{◌≡◌, refl, sym, ap, ap₂, ◌∙◌}
use mathlib.Core.Bool.{Bool, true, cond}
use mathlib.Core.Logic.{◌↔◌}
use mathlib.Core.List.{List, [], ◌∷◌, ◌++◌, map, Memᴰ}
use lib.ListN.{length, take, get_or, length-append, length-take, length-map}
use lib.Seq.{take_at, take-length}
use Rattle.d64spec.specs.Lists.{All, filter, join, range, sum, ascending, descending}
use Rattle.d64spec.specs.Answers.{Address, address}
use Rattle.d64spec.specs.Geometry.{Geometry, tracks, total, sectors_on, first_on, on_disk, sectors_of_track, allocation_tracks, allocation_order}
use Rattle.d64spec.specs.Layouts.{Known}
use Rattle.d64spec.specs.Image.{Disk}
use Rattle.d64spec.specs.Owner.{is_free, free_for_files, free_for_directory}
use Rattle.d64spec.specs.Store.{placement}
use Rattle.d64spec.proofs.AllocationLaws.{order-on, sectors-on}
use Rattle.d64spec.proofs.ListingLaws.{filter-length}
use Rattle.d64spec.proofs.SplitLaws.{mem-filter, all-mem}
use Rattle.geometry.specs.Layout.{address_of}
use Rattle.geometry.specs.declared.Address.{Address as Place}
use Rattle.bam.specs.MapEntry.{Entries}
use Rattle.bam.specs.Bam.{marked_free}
use Rattle.bam.proofs.FillLaws.{length-map-range}
use Rattle.placement.specs.Placements.{Placed, place_of, free_places, first_places, first_place, directory_place}

-- ---- the same sectors

filter_alike : {A : Type 0} (P : A → Type 0) (p q : A → Bool) → ((x : A) → P x → p x ≡ q x) → (l : List A) → All P l → filter p l ≡ filter q l
filter_alike P p q same [] a = refl
filter_alike {A} P p q same (x ∷ l) a = ap₂ (λ (b : Bool) (m : List A). cond b (x ∷ m) m) (same x a.0) (filter_alike P p q same l a.1)

-- the map marks the sectors free that nobody owns (01, The map)
pub record MarksFree (g : Geometry) (es : Entries) (d : Disk) : Type 0 where
  pub agrees : (r : Address) → on_disk g r ≡ true → marked_free es r ≡ is_free g d r

-- ---- a place is its address

places-address : (l : List Address) → map address_of (map place_of l) ≡ l
places-address [] = refl
places-address (r ∷ l) = ap (λ (m : List Address). r ∷ m) (places-address l)

-- ---- the sectors for a file

sum-take-more : (l : List ℕ) (t : ℕ) → sum (take (suc t) l) ≡ sum (take t l) + get_or l t 0
sum-take-more [] zero = refl
sum-take-more [] (suc t) = refl
sum-take-more (x ∷ l) zero = omega arith
sum-take-more (x ∷ l) (suc t) = omega (arith, sum-take-more l t)

module _ (g : Geometry) where
  -- the sectors of tracks one behind the other, and of the tracks of a list
  sum-run : (a n : ℕ) → first_on g a + sum (map (sectors_on g) (range a n)) ≡ first_on g (a + n)
  unfolding first_on sectors_on
  sum-run a zero = let z : a + 0 ≡ a = omega arith in omega (arith, ap (first_on g) z)
  sum-run a (suc n) =
      let z : suc a + n ≡ a + suc n = omega arith in
      omega (arith, sum-run (suc a) n, sum-take-more (0 ∷ g.counts) a, ap (first_on g) z)

  length-sectors : (ts : List ℕ) → length (join (map (sectors_of_track g) ts)) ≡ sum (map (sectors_on g) ts)
  unfolding sectors_of_track
  length-sectors [] = refl
  length-sectors (t ∷ ts) =
      let rest : List Address = join (map (sectors_of_track g) ts) in
      omega (arith, length-append (sectors_of_track g t) rest, length-sectors ts, length-map-range (λ s. address t s) 0 (sectors_on g t))

  -- all tracks
  first_past : first_on g (tracks g + 1) ≡ total g
  unfolding first_on total tracks
  first_past =
      let z : tracks g + 1 ≡ suc (length g.counts) = omega arith in
      omega (arith, ap (λ (n : ℕ). sum (take n (0 ∷ g.counts))) z, ap sum (take-length g.counts))

  first-none : first_on g 1 ≡ 0
  unfolding first_on
  first-none = refl

sum-down : (f : ℕ → ℕ) → sum (map f (descending 17 1)) ≡ sum (map f (range 1 17))
unfolding descending
sum-down f = omega arith

sum_both : (f : ℕ → ℕ) (a b : List ℕ) → sum (map f (a ++ b)) ≡ sum (map f a) + sum (map f b)
sum_both f [] b = omega arith
sum_both f (x ∷ a) b = omega (arith, sum_both f a b)

-- every sector but those of track 18
order-many : (g : Geometry) (kn : Known g) → length (allocation_order g) + sectors_on g 18 ≡ total g
unfolding allocation_order allocation_tracks ascending
order-many g kn =
    let f : ℕ → ℕ = sectors_on g in
    let z : 19 + (tracks g + 1 - 19) ≡ tracks g + 1 = omega (arith, kn.many) in
    omega (
      arith,
      length-sectors g (allocation_tracks g),
      sum_both f (descending 17 1) (ascending 19 (tracks g)),
      sum-down f,
      sum-run g 1 17,
      sum-run g 18 1,
      sum-run g 19 (tracks g + 1 - 19),
      ap (first_on g) z,
      first_past g,
      first-none g,
    )

-- there are never more than 749 of them
pub few-places : (g : Geometry) (kn : Known g) (d : Disk) → length (free_for_files g d) ≤ 749
unfolding free_for_files
few-places g kn d = omega (arith, filter-length (is_free g d) (allocation_order g), order-many g kn, kn.on18, kn.most)

module _ (g : Geometry) (kn : Known g) {es : Entries} {d : Disk} (marks : MarksFree g es d) where
  free-places : free_places g es ≡ free_for_files g d
  unfolding free_places free_for_files
  free-places = filter_alike (λ r. on_disk g r ≡ true) (marked_free es) (is_free g d) marks.agrees (allocation_order g) (order-on g)

  pub places-taken : (wanted room : ℕ) → wanted ≤ room → first_places g es wanted room ≡ placement g d wanted
  unfolding first_places placement
  places-taken wanted room h = let z : min wanted room ≡ wanted = omega arith in rw (z, free-places)

  module _ {wanted : ℕ} {at : List Place} {r : ℕ} {at' : List Place} (room : wanted ≤ length at) (p : Placed g es wanted at r at') where
    pub places_count : r ≡ min wanted (length (free_for_files g d))
    unfolding placement
    places_count = p.count ∙ ap length (places-taken wanted (length at) room) ∙ length-take wanted (free_for_files g d)

    -- fewer than are wanted exactly where so few are free
    pub places-few : (r < wanted) ↔ (length (free_for_files g d) < wanted)
    places-few = ((λ h. omega (arith, places_count)), (λ h. omega (arith, places_count)))

    -- else the places at the start of the array are the sectors that a store takes
    pub places-named : wanted ≤ length (free_for_files g d) → map address_of (take wanted at') ≡ placement g d wanted
    unfolding placement
    places-named h =
        let l : List Address = placement g d wanted in
        let many : length (map place_of l) ≡ wanted = length-map l place_of ∙ length-take wanted (free_for_files g d) ∙ omega arith in
        rw (p.places, places-taken wanted (length at) room) (ap (map address_of) (take_at (map place_of l) _ wanted many) ∙ places-address l)

-- ---- the place for the directory

-- a sector of track 18
abbrev Of18 : Address → Type 0
Of18 r = (r.track ≡ 18) × (r.sector < 19)

sectors-18 : (s k : ℕ) → s + k ≤ 19 → All Of18 (map (λ s. address 18 s) (range s k))
sectors-18 s zero h = tt
sectors-18 s (suc k) h = ((refl, omega arith), sectors-18 (suc s) k (omega arith))

all-18 : (g : Geometry) (kn : Known g) → All Of18 (sectors_of_track g 18)
unfolding sectors_of_track
all-18 g kn = sectors-18 0 (sectors_on g 18) (omega (arith, kn.on18))

-- this place is the lowest free sector of track 18
pub record LowestPlace (g : Geometry) (d : Disk) (at : Place) : Type 0 where
  pub others : List Address
  pub free : free_for_directory g d ≡ address_of at ∷ others
  pub track : at.track ≡ 18
  pub small : at.sector < 19

module _ (g : Geometry) (kn : Known g) {es : Entries} {d : Disk} (marks : MarksFree g es d) where
  directory-first : directory_place g es ≡ first_place (free_for_directory g d)
  unfolding directory_place free_for_directory
  directory-first =
      ap first_place (filter_alike (λ r. on_disk g r ≡ true) (marked_free es) (is_free g d) marks.agrees (sectors_of_track g 18) (sectors-on g 18))

  lowest : (r : Address) (l : List Address) → free_for_directory g d ≡ r ∷ l → LowestPlace g d (place_of r)
  unfolding free_for_directory
  lowest r l e =
      let at : Memᴰ r (r ∷ l) = mathlib.Core.List.Memᴰ.head refl in
      let of : Of18 r = all-mem Of18 (mem-filter (is_free g d) (sectors_of_track g 18) (rw e at)).0 (all-18 g kn) in
      record { others = l; free = e; track = of.0; small = of.1 }

  -- none exactly where none is free
  pub directory-none : (directory_place g es ≡ None) ↔ (free_for_directory g d ≡ [])
  unfolding first_place
  directory-none = ((λ z. go (free_for_directory g d) refl (sym directory-first ∙ z)), (λ e. directory-first ∙ rw e))
    where
      go : (l : List Address) → free_for_directory g d ≡ l → first_place (free_for_directory g d) ≡ None → free_for_directory g d ≡ []
      go [] e z = e
      go (r ∷ l) e z = let y : Some (place_of r) ≡ None = rw e at z in absurd (cc)

  -- else the lowest one
  pub directory-lowest : {at : Place} → directory_place g es ≡ Some at → LowestPlace g d at
  unfolding first_place
  directory-lowest {at} some = go (free_for_directory g d) refl (sym directory-first ∙ some)
    where
      go : (l : List Address) → free_for_directory g d ≡ l → first_place (free_for_directory g d) ≡ Some at → LowestPlace g d at
      go [] e z = let y : ◌≡◌ {A = Option Place} None (Some at) = rw e at z in absurd (cc)
      go (r ∷ l) e z = let y : Some (place_of r) ≡ Some at = rw e at z in let q : place_of r ≡ at = cc in rw (← q) (lowest r l e)
