-- A map sector read run by run. In order: what a run reads; one entry more; all runs of a layout; a sector that is not whole. Assumes nothing.
use Prim.Native.Nat.{ℕ, zero, suc, ◌+◌, ◌-◌, ◌*◌, ◌≤◌, ◌<◌, min}
use native.Mathlib.Omega.{arith}
use native.Mathlib.Decide.{dec_le}
use mathlib.Core.Path.{◌≡◌, refl, sym, ap, ◌∙◌}
use mathlib.Core.List.{[]}
use Rattle.std.specs.Prelude.{None, Some}
use lib.ListN.{length, take, drop, get_or, set, replicate, length-take, length-set, length-replicate, get_or-replicate, get_or-eq_default}
use lib.Seq.{get_or-take, get_or-set_same, get_or-set_other}
use Rattle.d64spec.specs.Lists.{Bytes, byte, splice, zeros}
use Rattle.d64spec.specs.Geometry.{Geometry}
use Rattle.d64spec.specs.Layouts.{Known}
use Rattle.d64spec.proofs.SpliceLaws.{splice-in, splice-after}
use Rattle.geometry.specs.declared.Layout.{Layout}
use Rattle.geometry.specs.Layout.{geometry_of, extra_of}
use Rattle.geometry.proofs.TableLaws.{known_of}
use Rattle.geometry.proofs.MapPlaceLaws.{place-low, place-high, tracks-without, tracks-with}
use Rattle.parts.specs.Overwrites.{overwritten}
use Rattle.parts.proofs.OverwriteLaws.{overwritten-inside}
use Rattle.bam.specs.MapEntry.{Entries}
use Rattle.bam.specs.MapSector.{four_bytes, map_entry, map_entries, with_run}
use Rattle.bam.proofs.SectorLaws.{entries-known, map-entries-same}

-- ---- a run

module _ (m : Bytes) where
  length_run : (i n at : ℕ) (es : Entries) → length (with_run m i n at es) ≡ length es
  unfolding with_run
  length_run i zero at es = refl
  length_run i (suc n) at es = length_run (suc i) n (at + 4) (set es i (four_bytes m at)) ∙ length-set es i (four_bytes m at)

  -- entries before it and past it stay
  run-before : (i n at : ℕ) (es : Entries) (j : ℕ) → j < i → get_or (with_run m i n at es) j [] ≡ get_or es j []
  unfolding with_run
  run-before i zero at es j h = refl
  run-before i (suc n) at es j h =
      run-before (suc i) n (at + 4) (set es i (four_bytes m at)) j (omega arith) ∙ get_or-set_other es i j (four_bytes m at) [] (λ q. omega arith)

  run_past : (i n at : ℕ) (es : Entries) (j : ℕ) → i + n ≤ j → get_or (with_run m i n at es) j [] ≡ get_or es j []
  unfolding with_run
  run_past i zero at es j h = refl
  run_past i (suc n) at es j h =
      run_past (suc i) n (at + 4) (set es i (four_bytes m at)) j (omega arith) ∙ get_or-set_other es i j (four_bytes m at) [] (λ q. omega arith)

  run_in : (i n at : ℕ) (es : Entries) → i + n ≤ length es → (k : ℕ) → k < n → get_or (with_run m i n at es) (i + k) [] ≡ four_bytes m (at + 4 * k)
  unfolding with_run
  run_in i zero at es room k h = absurd (omega arith)
  run_in i (suc n) at es room zero h =
      let z : i + 0 ≡ i = omega arith in
      let y : at ≡ at + 4 * 0 = omega arith in
      ap (λ (x : ℕ). get_or (with_run m i (suc n) at es) x []) z
      ∙ run-before (suc i) n (at + 4) (set es i (four_bytes m at)) i (omega arith)
      ∙ get_or-set_same es i (four_bytes m at) [] (omega arith) ∙ ap (four_bytes m) y
  run_in i (suc n) at es room (suc k) h =
      let z : i + suc k ≡ suc i + k = omega arith in
      let y : at + 4 + 4 * k ≡ at + 4 * suc k = omega arith in
      ap (λ (x : ℕ). get_or (with_run m i (suc n) at es) x []) z
      ∙ run_in (suc i) n (at + 4) (set es i (four_bytes m at)) (omega (arith, length-set es i (four_bytes m at))) k (omega arith)
      ∙ ap (four_bytes m) y

-- ---- one entry more

-- the entries before i are read: with those that are left the map is the one that the whole run makes
pub record Loading (m : Bytes) (first last at : ℕ) (es₀ es : Entries) (i : ℕ) : Type 0 where
  pub low : first ≤ i
  pub high : i ≤ last
  pub left : with_run m i (last - i) (at + 4 * (i - first)) es ≡ with_run m first (last - first) at es₀

module _ {m : Bytes} {first last at : ℕ} where
  pub loading-moved : {es₀ es : Entries} {i : ℕ} → Loading m first last at es₀ es i → i < last → {a : ℕ} → a ≡ at + 4 * (i - first)
      → Loading m first last at es₀ (set es i (four_bytes m a)) (i + 1)
  unfolding with_run
  loading-moved {es₀} {es} {i} s h {a} place =
      let more : last - i ≡ suc (last - (i + 1)) = omega arith in
      let next : at + 4 * (i + 1 - first) ≡ a + 4 = omega (arith, s.low) in
      let after : i + 1 ≡ suc i = omega arith in
      record {
        low = omega (arith, s.low);
        high = omega arith;
        left = rw (next, after) (rw (more, ← place, after) at s.left);
      }

  pub loading-finished : {es₀ es : Entries} {i : ℕ} → Loading m first last at es₀ es i → last ≤ i → es ≡ with_run m first (last - first) at es₀
  unfolding with_run
  loading-finished {es₀} {es} {i} s h =
      let none : last - i ≡ 0 = omega arith in
      ap (λ (n : ℕ). with_run m i n (at + 4 * (i - first)) es) (sym none) ∙ s.left

-- ---- a layout

-- the map before anything is loaded
abbrev pub no_entries : Entries
no_entries = replicate 40 (zeros 4)

module _ (layout : Layout) (m : Bytes) where
  abbrev of : Geometry
  of = geometry_of layout

  -- tracks 1 to 35
  abbrev front : Entries
  front = with_run m 0 35 4 no_entries

  length_front : length front ≡ 40
  length_front = length_run m 0 35 4 no_entries ∙ length-replicate 40 (zeros 4)

  front-in : (i : ℕ) → i < 35 → get_or front i [] ≡ map_entry of m (i + 1)
  unfolding map_entry
  front-in i h =
      let z : 4 + 4 * i ≡ of.map_at (i + 1) = omega (arith, place-low layout (i + 1) (omega arith)) in
      let y : i ≡ 0 + i = omega arith in
      ap (λ (x : ℕ). get_or front x []) y ∙ run_in m 0 35 4 no_entries (omega (arith, length-replicate 40 (zeros 4))) i h ∙ ap (four_bytes m) z

  front-past : (i : ℕ) → 35 ≤ i → i < 40 → get_or front i [] ≡ zeros 4
  front-past i l h = run_past m 0 35 4 no_entries i l ∙ get_or-replicate 40 i (zeros 4) [] h

  -- tracks 36 to 40, from byte q on
  extra-in : {q : ℕ} → extra_of layout ≡ Some q → (i : ℕ) → 35 ≤ i → i < 40 → get_or (with_run m 35 5 q front) i [] ≡ map_entry of m (i + 1)
  unfolding map_entry
  extra-in {q} some i l h =
      let z : i ≡ 35 + (i - 35) = omega arith in
      let y : q + 4 * (i - 35) ≡ of.map_at (i + 1) = omega (arith, place-high layout (i + 1) some (omega arith)) in
      ap (λ (x : ℕ). get_or (with_run m 35 5 q front) x []) z
      ∙ run_in m 35 5 q front (omega (arith, length_front)) (i - 35) (omega arith) ∙ ap (four_bytes m) y

  -- THE MAP OF A LAYOUT with one run
  pub loaded-front : {es : Entries} {a n p : ℕ} → es ≡ with_run m a n p no_entries → a ≡ 0 → n ≡ 35 → p ≡ 4 → extra_of layout ≡ None → es ≡ map_entries of m
  loaded-front is az nz pz none =
      let few = tracks-without layout none in
      (rw (az, nz, pz) at is)
      ∙ entries-known of (known_of layout) m front length_front (λ i h. front-in i (omega arith)) (λ i l h. front-past i (omega arith) h)

  -- THE MAP OF A LAYOUT with two
  pub loaded-both : {es es' : Entries} {a n p a' n' p' q : ℕ} → es ≡ with_run m a n p no_entries → es' ≡ with_run m a' n' p' es
      → a ≡ 0 → n ≡ 35 → p ≡ 4 → a' ≡ 35 → n' ≡ 5 → p' ≡ q → extra_of layout ≡ Some q
      → es' ≡ map_entries of m
  loaded-both {es} {es'} {q = q} is is' az nz pz az' nz' pz' some =
      let forty = tracks-with layout some in
      let all : Entries = with_run m 35 5 q front in
      (rw (rw (az, nz, pz) at is, az', nz', pz') at is')
      ∙ entries-known of (known_of layout) m all (length_run m 35 5 q front ∙ length_front)
      (λ i h. elim (dec_le 35 i) [
        | yes l ↦ extra-in some i l (omega arith)
        | no l ↦ run-before m 35 5 q front i (omega arith) ∙ front-in i (omega arith)
      ])
      (λ i l h. absurd (omega arith))

-- ---- a sector that is not whole

-- what a sector has of 256 bytes, copied over zeros: bytes past its end read as 0, so that the map is the same
pub loaded-copied : (g : Geometry) (kn : Known g) (m : Bytes) {c w : Bytes} → c ≡ take 256 (drop 0 m)
    → w ≡ overwritten (zeros 256) 0 c → map_entries g w ≡ map_entries g m
loaded-copied g kn m {c} {w} clip over = map-entries-same g kn w m (λ i h. ap (λ (l : Bytes). byte l i) is ∙ elim (dec_le (length c) i) [
  | yes past ↦
      splice-after (zeros 256) 0 c room i (omega arith) ∙ get_or-replicate 256 i 0 0 h
      ∙ sym (get_or-eq_default m 0 {n = i} (omega (arith, size)))
  | no inside ↦
      let z : i ≡ 0 + i = omega arith in
      ap (byte (splice (zeros 256) 0 c)) z ∙ splice-in (zeros 256) 0 c room i (omega arith)
      ∙ ap (λ (l : Bytes). byte l i) clip ∙ get_or-take 256 m i 0 h
])
  where
    size : length c ≡ min 256 (length m)
    size = ap length clip ∙ length-take 256 m

    room : 0 + length c ≤ length (zeros 256)
    room = omega (arith, size)

    is : w ≡ splice (zeros 256) 0 c
    is = over ∙ overwritten-inside (zeros 256) 0 c room
