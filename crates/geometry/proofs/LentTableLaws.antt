-- Tracks and numbers by the table, which is every layout's, and by tables that are lent (specs/Layout: entry_by, track_on, track_by, number_by).
-- In order: a track's entry, and a track, by cases; a row of the table; the table gives a layout's counts and numbers; a table filled with a layout's
-- counts; a track of the layout.
use Prim.Native.Nat.{ℕ, zero, suc, ◌+◌, ◌-◌, ◌≤◌, ◌<◌}
use native.Mathlib.Omega.{arith}
use native.Mathlib.Decide.{dec_le}
use Rattle.std.specs.Prelude.{ltb}
use mathlib.Core.Path.{◌≡◌, refl, ap, sym, ◌∙◌}
use mathlib.Core.Bool.{true, false}
use mathlib.Core.List.{List, ◌∷◌, [], ◌++◌}
use lib.ListN.{length, get_or, get_or-eq_default, get_or-map, set, length-set}
use lib.Seq.{get_or-set_same, get_or-set_other}
use borrow.Author.Count.{below_more}
use borrow.Author.Tests.{ltb-true, lt-ltb, le-ltb, lt-leb, le-leb}
use Rattle.d64spec.specs.Lists.{zeros}
use Rattle.d64spec.specs.Answers.{Address, address}
use Rattle.d64spec.specs.Geometry.{Geometry, layout35, layout40, tracks, sectors_on, on_disk, sector_number}
use Rattle.geometry.specs.declared.Layout.{Layout}
use Rattle.geometry.specs.declared.Track.{Track}
use Rattle.geometry.specs.declared.TheConstants.{TRACKS, FIRST}
use Rattle.geometry.specs.Layout.{geometry_of, counts, firsts, entry_by, track_on, number_by, IsCounts, IsFirsts, track_by}
use Rattle.geometry.proofs.TableLaws.{fronts, count_none, count_past, count_at, first-at}

module _ (l : List ℕ) (t : ℕ) where
  pub entry_by-none : t < 1 → entry_by l t ≡ 0
  unfolding entry_by
  entry_by-none h = let e : t ≡ 0 = omega arith in rw e

  pub entry_by-past : length l < t → entry_by l t ≡ 0
  unfolding entry_by
  entry_by-past h = get_or-eq_default (0 ∷ l) 0 {n = t} h

  pub entry_by-at : 1 ≤ t → entry_by l t ≡ get_or l (t - 1) 0
  unfolding entry_by
  entry_by-at h = let e : t ≡ suc (t - 1) = omega arith in ap (λ (x : ℕ). get_or (0 ∷ l) x 0) e

-- an entry, whatever the table
pub ruleset entries = (entry_by-none, entry_by-past, entry_by-at)

-- a track by cases
module _ (counts firsts : List ℕ) (t : ℕ) where
  pub track_by-none : t < 1 → track_by counts firsts t ≡ record { number = t; sectors = 0; first = 0 }
  unfolding track_by
  track_by-none h = rw (lt-leb 1 t h)

  pub track_by-past : 40 < t → track_by counts firsts t ≡ record { number = t; sectors = 0; first = 0 }
  unfolding track_by
  track_by-past h = rw (le-leb 1 t (omega arith), lt-leb t 40 h)

  pub track_by-at : {i : ℕ} → 1 ≤ t → t ≤ 40 → i ≡ t - 1 → track_by counts firsts t ≡ record { number = t; sectors = get_or counts i 0; first = get_or firsts i 0 }
  unfolding track_by
  track_by-at low high is = rw (is, le-leb 1 t low, le-leb t 40 high)

-- a track, whatever the tables
pub ruleset tracks_by = (track_by-none, track_by-past, track_by-at)

-- the table's row of a track stands at t - 1
module _ (t : ℕ) (low : 1 ≤ t) where
  pub row-sectors : (get_or TRACKS (t - 1) (0, 0)).0 ≡ entry_by counts t
  unfolding counts
  row-sectors = sym (entry_by-at counts t low ∙ get_or-map (λ (row : ℕ × ℕ). row.0) TRACKS (t - 1) (0, 0))

  pub row-first : (get_or TRACKS (t - 1) (0, 0)).1 ≡ entry_by firsts t
  unfolding firsts
  row-first = sym (entry_by-at firsts t low ∙ get_or-map (λ (row : ℕ × ℕ). row.1) TRACKS (t - 1) (0, 0))

-- there is none below track 1, and none past track 40
module _ (t : ℕ) (off : 1 ≤ t → 40 < t) where
  entry-off : (l : List ℕ) → length l ≡ 40 → entry_by l t ≡ 0
  entry-off l e = elim (dec_le 1 t) [ yes low ↦ entry_by-past l t (omega (arith, off low)) | no none ↦ entry_by-none l t (omega arith) ]

  pub count-off : entry_by counts t ≡ 0
  unfolding counts
  count-off = entry-off counts refl

  pub first-off : entry_by firsts t ≡ 0
  unfolding firsts
  first-off = entry-off firsts refl

-- what a row says of a track
pub ruleset rows = (row-sectors, row-first, count-off, first-off)

-- a sector of the disk lies on one of its tracks
pub tracks-of-on_disk : (g : Geometry) (r : Address) → on_disk g r ≡ true → (1 ≤ r.track) × (r.track ≤ tracks g)
unfolding on_disk
tracks-of-on_disk g r on =
    let h : r.sector < sectors_on g r.track = ltb-true _ _ on in
    let some : r.track < 1 → ⊥ = λ l. omega (arith, count_none g r.track l) in
    let few : tracks g < r.track → ⊥ = λ l. omega (arith, count_past g r.track l) in
    (omega arith, omega arith)

-- THE TABLE IS EVERY LAYOUT'S: on the tracks that the layout has, its counts
pub count-known : (layout : Layout) (t : ℕ) → t ≤ tracks (geometry_of layout) → entry_by counts t ≡ sectors_on (geometry_of layout) t
count-known layout zero h = entry_by-none counts 0 (omega arith) ∙ sym (count_none (geometry_of layout) 0 (omega arith))
count-known layout (suc t) h = entry_by-at counts (suc t) (omega arith) ∙ sym (count_at (geometry_of layout) (fronts layout) (suc t) (omega arith) h)

-- .. and none past the last one
pub ruleset counted = (count-known, count_past)

-- a track that the layout does not have, and one that it has, by the table
pub track-off : (layout : Layout) (t : ℕ) → (1 ≤ t → tracks (geometry_of layout) < t) → record { number = t; sectors = 0; first = 0 } ≡ track_on (geometry_of layout) t
unfolding track_on
track-off layout t off = elim (dec_le 1 t) [
  | yes low ↦ rw (count_past (geometry_of layout) t (off low), lt-ltb (tracks (geometry_of layout)) t (off low)) refl
  | no none ↦
      let h : t < 1 = omega arith in
      rw (count_none (geometry_of layout) t h, entry_by-none firsts t h, le-ltb (tracks (geometry_of layout)) t (omega arith)) refl
]

pub track-at : (layout : Layout) (t : ℕ) {i : ℕ} → 1 ≤ t → t ≤ tracks (geometry_of layout) → i ≡ t - 1
    → record { number = t; sectors = (get_or TRACKS i (0, 0)).0; first = (get_or TRACKS i (0, 0)).1 } ≡ track_on (geometry_of layout) t
unfolding track_on
track-at layout t low high own = rw (own, row-sectors t low, row-first t low, count-known layout t high, le-ltb (tracks (geometry_of layout)) t high) refl

-- no layout has more than 40 tracks
pub few_of : (layout : Layout) → tracks (geometry_of layout) ≤ 40
few_of layout = (fronts layout).few

-- a track, whichever it is
pub ruleset on_track = (few_of, track-off, track-at)

-- .. and a sector of the disk has its number by the table
pub number-known : (layout : Layout) (r : Address) → on_disk (geometry_of layout) r ≡ true → number_by firsts r ≡ sector_number (geometry_of layout) r
unfolding number_by sector_number
number-known layout r on =
    let k = tracks-of-on_disk (geometry_of layout) r on in
    ap (λ (x : ℕ). x + r.sector) (entry_by-at firsts r.track k.0 ∙ sym (first-at (geometry_of layout) (fronts layout) r.track k.0 k.1))

-- a table of counts with zeros behind it
more-zeros : (l : List ℕ) (n t : ℕ) → get_or (l ++ zeros n) t 0 ≡ get_or l t 0
more-zeros [] zero t = refl
more-zeros [] (suc n) zero = refl
more-zeros [] (suc n) (suc t) = more-zeros [] n t
more-zeros (x ∷ l) n zero = refl
more-zeros (x ∷ l) n (suc t) = more-zeros l n t

-- the same said of tables of counts and of first numbers
pub counts-35 : IsCounts layout35 (layout35.counts ++ zeros 5)
unfolding entry_by sectors_on
counts-35 = record { agrees = λ t. more-zeros (0 ∷ layout35.counts) 5 t }

pub counts-40 : (extra : ℕ) → IsCounts (layout40 extra) counts
unfolding layout40 entry_by sectors_on counts
counts-40 extra = record { agrees = λ t. refl }

pub firsts-of : (layout : Layout) → IsFirsts (geometry_of layout) firsts
firsts-of layout = record { agrees = number-known layout }

-- the constant that callers lend is the table's column
pub first-table : FIRST ≡ firsts
unfolding firsts
first-table = refl

-- a table that is filled with a layout's counts: those of the first i tracks
pub record Counting (g : Geometry) (l : List ℕ) (i : ℕ) : Type 0 where
  pub size : length l ≡ 40
  pub counted : (k : ℕ) → k < i → get_or l k 0 ≡ sectors_on g (k + 1)

module _ {g : Geometry} where
  pub counting-start : (l : List ℕ) → length l ≡ 40 → Counting g l 0
  counting-start l size = record { size = size; counted = λ k h. absurd (omega arith) }

  pub counting-moved : {l : List ℕ} {i x : ℕ} → Counting g l i → i < 40 → x ≡ sectors_on g (i + 1) → Counting g (set l i x) (i + 1)
  counting-moved {l} {i} {x} c h e = record {
    size = length-set l i x ∙ c.size;
    counted = below_more _ i
        (λ k b. get_or-set_other l i k x 0 (λ q. omega arith) ∙ c.counted k b)
        (get_or-set_same l i x 0 (omega (arith, c.size)) ∙ e);
  }

pub counting-finished : (layout : Layout) {l : List ℕ} {i : ℕ} → Counting (geometry_of layout) l i → 40 ≤ i → IsCounts (geometry_of layout) l
counting-finished layout {l} {i} c h = record {
  agrees = λ t. elim (dec_le 1 t) [
    | no none ↦ entry_by-none l t (omega arith) ∙ sym (count_none (geometry_of layout) t (omega arith))
    | yes low ↦ elim (dec_le t 40) [
      | yes high ↦
          let at : t - 1 + 1 ≡ t = omega arith in
          entry_by-at l t low ∙ c.counted (t - 1) (omega arith) ∙ ap (sectors_on (geometry_of layout)) at
      | no past ↦ entry_by-past l t (omega (arith, c.size)) ∙ sym (count_past (geometry_of layout) t (omega (arith, few_of layout)))
    ]
  ];
}

-- A TRACK AS A LAYOUT HAS IT: its sectors, and the numbers of those on the disk
pub record IsTrack (g : Geometry) (on : Track) : Type 0 where
  pub count : on.sectors ≡ sectors_on g on.number
  pub first : (s : ℕ) → on_disk g (address on.number s) ≡ true → on.first + s ≡ sector_number g (address on.number s)

-- by tables that agree with the layout, whichever it is
module _ {g : Geometry} (few : tracks g ≤ 40) where
  pub track-known : {counts firsts : List ℕ} {on : Track} {t : ℕ} → IsCounts g counts → IsFirsts g firsts → on ≡ track_by counts firsts t
      → (on.number ≡ t) × IsTrack g on
  unfolding number_by
  track-known {counts} {firsts} {on} {t} cs fs is = elim (dec_le 1 t) [
    | no below ↦ rw (is, track_by-none counts firsts t (omega arith)) (
      refl,
      record {
        count = sym (count_none g t (omega arith));
        first = λ s at. let z : ⊥ = below (tracks-of-on_disk g (address t s) at).0 in absurd z;
      },
    )
    | yes low ↦ elim (dec_le t 40) [
      | no above ↦ rw (is, track_by-past counts firsts t (omega arith)) (
        refl,
        record {
          count = sym (count_past g t (omega arith));
          first = λ s at. let z : ⊥ = omega (arith, (tracks-of-on_disk g (address t s) at).1) in absurd z;
        },
      )
      | yes high ↦ rw (is, track_by-at counts firsts t low high refl) (
        refl,
        record {
          count = sym (entry_by-at counts t low) ∙ cs.agrees t;
          first = λ s at. ap (λ (x : ℕ). x + s) (sym (entry_by-at firsts t low)) ∙ fs.agrees (address t s) at;
        },
      )
    ]
  ]

-- .. and as the code has it
pub track-on-known : (layout : Layout) {on : Track} {t : ℕ} → on ≡ track_on (geometry_of layout) t → (on.number ≡ t) × IsTrack (geometry_of layout) on
unfolding track_on number_by
track-on-known layout {on} {t} is =
    let none : (s : ℕ) → on_disk (geometry_of layout) (address t s) ≡ true → ltb (tracks (geometry_of layout)) t ≡ false =
    λ s at. le-ltb (tracks (geometry_of layout)) t (tracks-of-on_disk (geometry_of layout) (address t s) at).1 in
    rw is (refl, record { count = refl; first = λ s at. rw (none s at) (number-known layout (address t s) at) })
