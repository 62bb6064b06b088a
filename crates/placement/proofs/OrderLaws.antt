-- The free sectors of the allocation order, track by track (01, Store: house order; The map): what the loop over the tracks keeps.
-- In order: the order's tracks by index; a track's free sectors, by the map and by its entry; the loop; the directory's place. Assumes nothing.
use Prim.Native.Nat.{ℕ, zero, suc, ◌+◌, ◌-◌, ◌≤◌, ◌<◌, min}
use native.Mathlib.Omega.{arith}
use native.Mathlib.Decide.{dec_le}
use native.Mathlib.Numerals.{add-one}
use Rattle.std.specs.Prelude.{None, Some}
use mathlib.Core.Path.{◌≡◌, refl, sym, ap, ◌∙◌}
use mathlib.Core.Bool.{Bool}
use mathlib.Core.List.{List, [], ◌∷◌, ◌++◌, map, append_assoc}
use lib.ListN.{length, take, drop, get_or, length-append, length-take, length-drop, take-append-drop, drop_of_length-le, get_or-append}
use lib.Seq.{drop-cons, get_or-append-add, take_all}
use lib.Dec.{eqb}
use borrow.Author.Tests.{eqb-true}
use Rattle.d64spec.specs.Lists.{Bytes, ascending, descending, filter, join, range}
use Rattle.d64spec.specs.Bits.{bit_of}
use Rattle.d64spec.specs.Answers.{Address, address}
use Rattle.d64spec.specs.Geometry.{Geometry, tracks, sectors_on, sectors_of_track, allocation_tracks, allocation_order}
use Rattle.d64spec.specs.Layouts.{Known}
use Rattle.d64spec.proofs.SplitLaws.{filter-append}
use Rattle.geometry.proofs.Every.{every-at}
use Rattle.bam.specs.MapEntry.{Entries, bitmap_of}
use Rattle.bam.specs.Bam.{entry_of, marked_free}
use Rattle.geometry.specs.declared.Address.{Address as Place}
use Rattle.placement.specs.Placements.{OrderTrack, PlacedFirst, Placed, put_first, marked_in}
use Rattle.placement.specs.Placements.{free_on_track, free_places, first_places, first_place, directory_place}
use Rattle.placement.proofs.BehindLaws.{taken-more, length-put, put-behind}

-- ---- the order's tracks by index

range_at : (a n i : ℕ) → i < n → get_or (range a n) i 0 ≡ a + i
range_at a zero i h = absurd (omega arith)
range_at a (suc n) zero h = omega arith
range_at a (suc n) (suc i) h = omega (arith, range_at (suc a) n i (omega arith))

length-range : (a n : ℕ) → length (range a n) ≡ n
length-range a zero = refl
length-range a (suc n) = ap suc (length-range (suc a) n)

down_is : ℕ → ℕ → Bool
down_is i t = eqb t (17 - i)

module _ (g : Geometry) (kn : Known g) where
  -- all tracks but one
  order-length : length (allocation_tracks g) + 1 ≡ tracks g
  unfolding allocation_tracks ascending descending
  order-length =
      omega (arith, length-append (descending 17 1) (ascending 19 (tracks g)), length-range 19 (tracks g + 1 - 19), kn.many)

  -- THE ORDER BY INDEX: 17 down to 1, one test over these tracks; then 19 up to the last
  at-down : (i : ℕ) → i < 17 → get_or (allocation_tracks g) i 0 ≡ 17 - i
  unfolding allocation_tracks descending down_is
  at-down i h = get_or-append (descending 17 1) (ascending 19 (tracks g)) 0 i h ∙ eqb-true _ _ (every-at down_is (descending 17 1) refl i h)

  at_up : (i : ℕ) → 17 ≤ i → i + 1 < tracks g → get_or (allocation_tracks g) i 0 ≡ i + 2
  unfolding allocation_tracks ascending descending
  at_up i low h =
      let z : i ≡ length (descending 17 1) + (i - 17) = omega arith in
      let y : 19 + (i - 17) ≡ i + 2 = omega arith in
      ap (λ (k : ℕ). get_or (allocation_tracks g) k 0) z ∙ get_or-append-add (descending 17 1) (ascending 19 (tracks g)) (i - 17) 0
      ∙ range_at 19 (tracks g + 1 - 19) (i - 17) (omega arith) ∙ y

  module _ {i t : ℕ} where
    pub order-down : i < 17 → t ≡ 17 - i → OrderTrack g i t
    order-down h e = record { track = e ∙ sym (at-down i h); low = omega arith; high = omega (arith, kn.many) }

    pub order-up : 17 ≤ i → i + 1 < tracks g → t ≡ i + 2 → OrderTrack g i t
    order-up low h e = record { track = e ∙ sym (at_up i low h); low = omega arith; high = omega arith }

-- ---- a track's free sectors

module _ (g : Geometry) (es : Entries) where
  free-same : (t s k : ℕ) → filter (marked_free es) (map (λ s. address t s) (range s k))
      ≡ filter (marked_in (bitmap_of (entry_of es t))) (map (λ s. address t s) (range s k))
  unfolding marked_free marked_in bit_of
  free-same t s zero = refl
  free-same t s (suc k) = rw (free-same t (suc s) k)

  -- by the map, and by the track's own entry
  pub free-on-track : (t : ℕ) → filter (marked_free es) (sectors_of_track g t) ≡ free_on_track g (bitmap_of (entry_of es t)) t
  unfolding free_on_track sectors_of_track
  free-on-track t = free-same t 0 (sectors_on g t)

  -- the free sectors of these tracks
  abbrev free_on_tracks : List ℕ → List Address
  free_on_tracks ts = filter (marked_free es) (join (map (sectors_of_track g) ts))

  -- from index i of the order on: those of its track first
  free-from : Known g → (i t : ℕ) → i + 1 < tracks g → OrderTrack g i t
      → free_on_tracks (drop i (allocation_tracks g)) ≡ free_on_track g (bitmap_of (entry_of es t)) t ++ free_on_tracks (drop (i + 1) (allocation_tracks g))
  free-from kn i t h o =
      let order : List ℕ = allocation_tracks g in
      let first : drop i order ≡ t ∷ drop (i + 1) order = rw (o.track, add-one i) (drop-cons order i 0 (omega (arith, order-length g kn))) in
      ap free_on_tracks first ∙ filter-append (marked_free es) (sectors_of_track g t) (join (map (sectors_of_track g) (drop (i + 1) order)))
      ∙ ap (λ (l : List Address). l ++ free_on_tracks (drop (i + 1) order)) (free-on-track t)

-- ---- the loop

-- the first i tracks of the order are passed: `have` of their free sectors stand at the start of the array, all where fewer than are wanted
pub record Placing (g : Geometry) (es : Entries) (at₀ : List Place) (want : ℕ) (at : List Place) (have i : ℕ) : Type 0 where
  pub passed : i + 1 ≤ tracks g
  pub room : want ≤ length at₀
  pub few : have ≤ want
  pub some : have ≤ length (free_places g es)
  pub left : have < want → free_on_tracks g es (drop i (allocation_tracks g)) ≡ drop have (free_places g es)
  pub places : at ≡ put_first (take have (free_places g es)) at₀

pub placing-start : (g : Geometry) (kn : Known g) → (es : Entries) (at : List Place) (want : ℕ) → want ≤ length at → Placing g es at want at 0 0
unfolding free_places allocation_order
placing-start g kn es at want h = record {
  passed = omega (arith, kn.many);
  room = h;
  few = omega arith;
  some = omega arith;
  left = λ below. refl;
  places = refl;
}

module _ (g : Geometry) (kn : Known g) {es : Entries} {at₀ : List Place} {want : ℕ} {at : List Place} {have i : ℕ} (w : Placing g es at₀ want at have i) where
  -- all free sectors off track 18
  abbrev all : List Address
  all = free_places g es

  length-taken : length (take have all) ≡ have
  length-taken = omega (arith, length-take have all, w.some)

  pub length-placed : length at ≡ length at₀
  length-placed = ap length w.places ∙ length-put (take have all) at₀ (omega (arith, length-taken, w.few, w.room))

  -- the next track's free sectors, in the part of the array behind those that are there, up to as many as are wanted
  module _ (e : Bytes) {t r : ℕ} {q at' : List Place} (below : have < want) (h : i + 1 < tracks g) (o : OrderTrack g i t)
      (p : PlacedFirst (free_on_track g (bitmap_of e) t) (take (want - have) (drop have at)) r q)
      (back : at' ≡ take have at ++ (q ++ drop (want - have) (drop have at))) (own : e ≡ entry_of es t) where
    abbrev part : List Place
    part = take (want - have) (drop have at)

    abbrev free : List Address
    free = free_on_track g (bitmap_of e) t

    abbrev rest : List Address
    rest = free_on_tracks g es (drop (i + 1) (allocation_tracks g))

    -- those that have room
    abbrev put : List Address
    put = take (want - have) free

    length-part : length part ≡ want - have
    length-part = omega (arith, length-take (want - have) (drop have at), length-drop have at, length-placed, w.room)

    count : r ≡ length put
    count = p.count ∙ ap (λ (n : ℕ). length (take n free)) length-part

    few-put : length put ≤ want - have
    few-put = omega (arith, length-take (want - have) free)

    behind : drop have all ≡ put ++ (drop (want - have) free ++ rest)
    behind = sym (w.left below) ∙ rw own (free-from g es kn i t h o) ∙ ap (λ (l : List Address). l ++ rest) (sym (take-append-drop (want - have) free))
        ∙ append_assoc put (drop (want - have) free) rest

    more : (take (have + r) all ≡ take have all ++ put) × (drop (have + r) all ≡ drop (want - have) free ++ rest)
    more = rw count (taken-more have all put (drop (want - have) free ++ rest) behind)

    puts : q ≡ put_first put part
    puts = p.places ∙ ap (λ (n : ℕ). put_first (take n free) part) length-part

    stands : at' ≡ put_first (take have all ++ put) at₀
    stands = back ∙ rw (puts, w.places) (put-behind (take have all) put (want - have) at₀ length-taken (omega (arith, w.few, w.room)) few-put)

    pub placing-moved : Placing g es at₀ want at' (have + r) (i + 1)
    placing-moved = record {
      passed = omega arith;
      room = w.room;
      few = omega (arith, count, few-put);
      some = omega (arith, count, w.some, ap length behind, length-drop have all, length-append put (drop (want - have) free ++ rest));
      left = λ l.
          let none : drop (want - have) free ≡ [] = drop_of_length-le free {i = want - have} (omega (arith, count, length-take (want - have) free)) in
          sym (more.1 ∙ ap (λ (x : List Address). x ++ rest) none);
      places = stands ∙ ap (λ (l : List Address). put_first l at₀) (sym more.0);
    }

  -- the same of a part that ends at n, which is where as many as are wanted end
  pub placing-moved-to : (e : Bytes) {t r n : ℕ} {q at' : List Place} → have < want → i + 1 < tracks g → OrderTrack g i t
      → PlacedFirst (free_on_track g (bitmap_of e) t) (take (n - have) (drop have at)) r q
      → at' ≡ take have at ++ (q ++ drop (n - have) (drop have at)) → n ≡ want → e ≡ entry_of es t → Placing g es at₀ want at' (have + r) (i + 1)
  placing-moved-to e below h o p back to own = placing-moved e below h o (rw to at p) (rw to at back) own

  -- as many as are wanted, or all of them
  placed : {wanted : ℕ} → want ≡ min wanted (length at₀) → take have all ≡ take want all → Placed g es wanted at₀ have at
  unfolding first_places
  placed {wanted} e same =
      let first : take have all ≡ take (min wanted (length at₀)) all = same ∙ ap (λ (n : ℕ). take n all) e in
      record { count = sym length-taken ∙ ap length first; places = w.places ∙ ap (λ (l : List Address). put_first l at₀) first }

  pub placing-full : {wanted : ℕ} → want ≡ min wanted (length at₀) → have ≡ want → Placed g es wanted at₀ have at
  placing-full e z = placed e (ap (λ (n : ℕ). take n all) z)

  -- all tracks are passed
  pub placing-finished : {wanted : ℕ} → want ≡ min wanted (length at₀) → tracks g ≤ i + 1 → Placed g es wanted at₀ have at
  placing-finished e h = elim (dec_le want have) [
    | yes full ↦ placing-full e (omega (arith, w.few))
    | no below ↦
        let none : drop i (allocation_tracks g) ≡ [] = drop_of_length-le (allocation_tracks g) {i = i} (omega (arith, order-length g kn)) in
        let end : length all ≤ have = omega (arith, ap length (rw none at (w.left (omega arith))), length-drop have all) in
        placed e (take_all have all end ∙ sym (take_all want all (omega arith)))
  ]

-- ---- the directory's place

-- by the first of these sectors, put into one place
first-placed : (l : List Address) (d : Place) {at : Place} {r : ℕ} {out : List Place} → PlacedFirst l (at ∷ []) r out → r ≡ 1
    → Some (get_or out 0 d) ≡ first_place l
unfolding first_place
first-placed [] d p one = absurd (omega (arith, p.count))
first-placed (x ∷ l) d p one = ap (λ (o : List Place). Some (get_or o 0 d)) p.places

none-placed : (l : List Address) {at : Place} {r : ℕ} {out : List Place} → PlacedFirst l (at ∷ []) r out → (r ≡ 1 → ⊥) → None ≡ first_place l
unfolding first_place
none-placed [] p none = refl
none-placed (x ∷ l) p none = absurd (none p.count)

module _ (g : Geometry) (es : Entries) (e : Bytes) (t : ℕ) {at : Place} {r : ℕ} {out : List Place}
    (p : PlacedFirst (free_on_track g (bitmap_of e) t) (at ∷ []) r out) (own : e ≡ entry_of es 18) (track : t ≡ 18) where
  directory-free : first_place (free_on_track g (bitmap_of e) t) ≡ directory_place g es
  unfolding directory_place
  directory-free = ap first_place (rw (own, track) (sym (free-on-track g es 18)))

  pub directory-placed : (d : Place) → r ≡ 1 → Some (get_or out 0 d) ≡ directory_place g es
  directory-placed d one = first-placed _ d p one ∙ directory-free

  pub directory-full : (r ≡ 1 → ⊥) → None ≡ directory_place g es
  directory-full none = none-placed _ p none ∙ directory-free
