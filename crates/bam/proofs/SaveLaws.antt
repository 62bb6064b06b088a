-- A map written into its sector run by run. In order: one entry more; all runs of a layout. What the sector then is to document 01's definitions:
-- StoredLaws. Assumes nothing.
use Prim.Native.Nat.{ℕ, zero, suc, ◌+◌, ◌-◌, ◌*◌, ◌≤◌, ◌<◌}
use native.Mathlib.Omega.{arith}
use mathlib.Core.Path.{◌≡◌, refl, sym, ap, ap₂, ◌∙◌}
use mathlib.Core.List.{[]}
use Rattle.std.specs.Prelude.{None, Some}
use lib.ListN.{length, get_or}
use borrow.Author.Tests.{eq-eqb, ne_eqb}
use Rattle.d64spec.specs.Lists.{Bytes, range, splice}
use Rattle.d64spec.specs.Geometry.{Geometry}
use Rattle.geometry.specs.declared.Layout.{Layout}
use Rattle.geometry.specs.Layout.{geometry_of, extra_of}
use Rattle.geometry.proofs.MapPlaceLaws.{place-low, place-high, tracks-without, tracks-with}
use Rattle.bam.specs.MapEntry.{Entries}
use Rattle.bam.specs.MapSector.{entered, stored_entries, stored_run}

-- ---- one entry more

-- the entries before i are written: with those that are left the sector is the one that the whole run makes
pub record Storing (es : Entries) (first last at : ℕ) (m₀ m : Bytes) (i : ℕ) : Type 0 where
  pub low : first ≤ i
  pub high : i ≤ last
  pub size : length m ≡ length m₀
  pub left : stored_run es i (last - i) (at + 4 * (i - first)) m ≡ stored_run es first (last - first) at m₀

module _ {es : Entries} {first last at : ℕ} where
  pub storing-moved : {m₀ m m' : Bytes} {i : ℕ} → Storing es first last at m₀ m i → i < last → {a : ℕ} → m' ≡ splice m a (get_or es i [])
      → a ≡ at + 4 * (i - first) → length m' ≡ length m → Storing es first last at m₀ m' (i + 1)
  unfolding stored_run
  storing-moved {m₀} {m} {m'} {i} s h {a} is place size =
      let more : last - i ≡ suc (last - (i + 1)) = omega arith in
      let next : at + 4 * (i + 1 - first) ≡ a + 4 = omega (arith, s.low) in
      let after : i + 1 ≡ suc i = omega arith in
      record {
        low = omega (arith, s.low);
        high = omega arith;
        size = size ∙ s.size;
        left = rw (next, after, is) (rw (more, ← place, after) at s.left);
      }

  pub storing-finished : {m₀ m : Bytes} {i : ℕ} → Storing es first last at m₀ m i → last ≤ i → m ≡ stored_run es first (last - first) at m₀
  unfolding stored_run
  storing-finished {m₀} {m} {i} s h =
      let none : last - i ≡ 0 = omega arith in
      ap (λ (n : ℕ). stored_run es i n (at + 4 * (i - first)) m) (sym none) ∙ s.left

-- ---- a layout

module _ (g : Geometry) (es : Entries) where
  -- tracks whose entries stand behind one another
  entered-run : (i n at : ℕ) → ((k : ℕ) → k < n → g.map_at (suc (i + k)) ≡ at + 4 * k) → (m : Bytes) → stored_run es i n at m ≡ entered g es (range (suc i) n) m
  unfolding stored_run
  entered-run i zero at places m = refl
  entered-run i (suc n) at places m =
      let here : at ≡ g.map_at (suc i) = (let z : i + 0 ≡ i = omega arith in omega (arith, rw z at (places 0 (omega arith)))) in
      let self : i ≡ suc i - 1 = omega arith in
      ap₂ (λ (x j : ℕ). stored_run es (suc i) n (at + 4) (splice m x (get_or es j []))) here self
      ∙ entered-run (suc i) n (at + 4)
      (λ k h. let z : i + suc k ≡ suc i + k = omega arith in omega (arith, rw z at (places (suc k) (omega arith))))
      (splice m (g.map_at (suc i)) (get_or es (suc i - 1) []))

  entered-more : (a n k : ℕ) (m : Bytes) → entered g es (range (a + n) k) (entered g es (range a n) m) ≡ entered g es (range a (n + k)) m
  entered-more a zero k m =
      let z : a + 0 ≡ a = omega arith in
      let y : k ≡ 0 + k = omega arith in
      ap₂ (λ (x j : ℕ). entered g es (range x j) m) z y
  entered-more a (suc n) k m =
      let z : a + suc n ≡ suc a + n = omega arith in
      ap (λ (x : ℕ). entered g es (range x k) (entered g es (range a (suc n)) m)) z
      ∙ entered-more (suc a) n k (splice m (g.map_at a) (get_or es (a - 1) []))
      ∙ ap (λ (j : ℕ). entered g es (range a j) m) (let y : suc (n + k) ≡ suc n + k = omega arith in y)

pub stored_other : (g : Geometry) (es : Entries) (m : Bytes) → (length m ≡ 256 → ⊥) → stored_entries g es m ≡ m
unfolding stored_entries
stored_other g es m h = simp (ne_eqb (length m) 256 h)

module _ (layout : Layout) (es : Entries) (m : Bytes) (whole : length m ≡ 256) where
  abbrev of : Geometry
  of = geometry_of layout

  front-entered : stored_run es 0 35 4 m ≡ entered of es (range 1 35) m
  front-entered = entered-run of es 0 35 4 (λ k h. omega (arith, place-low layout (suc (0 + k)) (omega arith))) m

  -- THE MAP SECTOR OF A LAYOUT with one run
  pub stored-front : {m' : Bytes} {a n p : ℕ} → m' ≡ stored_run es a n p m → a ≡ 0 → n ≡ 35 → p ≡ 4 → extra_of layout ≡ None → m' ≡ stored_entries of es m
  unfolding stored_entries
  stored-front is az nz pz none =
      let few = tracks-without layout none in
      (rw (az, nz, pz) at is) ∙ front-entered ∙ sym (simp (eq-eqb (length m) 256 whole, few))

  -- THE MAP SECTOR OF A LAYOUT with two
  pub stored-both : {m' m'' : Bytes} {a n p a' n' p' q : ℕ} → m' ≡ stored_run es a n p m → m'' ≡ stored_run es a' n' p' m'
      → a ≡ 0 → n ≡ 35 → p ≡ 4 → a' ≡ 35 → n' ≡ 5 → p' ≡ q → extra_of layout ≡ Some q
      → m'' ≡ stored_entries of es m
  unfolding stored_entries
  stored-both {m'} {m''} {q = q} is is' az nz pz az' nz' pz' some =
      let forty = tracks-with layout some in
      let front : Bytes = entered of es (range 1 35) m in
      (rw (az', nz', pz') at is')
      ∙ ap (stored_run es 35 5 q) ((rw (az, nz, pz) at is) ∙ front-entered)
      ∙ entered-run of es 35 5 q (λ k h. omega (arith, place-high layout (suc (35 + k)) some (omega arith))) front
      ∙ entered-more of es 1 35 5 m ∙ sym (simp (eq-eqb (length m) 256 whole, forty))
