-- A map by value whose entries are all as expected, stored, is the rewritten map sector. In order: bytes put beside others; the entries; the sector.
-- Assumes nothing.
use Prim.Native.Nat.{ℕ, zero, suc, ◌+◌, ◌-◌, ◌≤◌, ◌<◌}
use native.Mathlib.Omega.{arith}
use native.Mathlib.Decide.{dec_le}
use mathlib.Core.Path.{◌≡◌, refl, sym, ap, ap₂, ◌∙◌}
use mathlib.Core.Bool.{Bool}
use mathlib.Core.Logic.{⊎_elim}
use mathlib.Core.List.{[]}
use lib.ListN.{length, get_or}
use lib.Seq.{ext_get_or}
use borrow.Author.Tests.{eq-eqb}
use Rattle.d64spec.specs.Lists.{Bytes, byte, range, splice}
use Rattle.d64spec.specs.Answers.{Address}
use Rattle.d64spec.specs.Geometry.{Geometry, Valid, tracks}
use Rattle.d64spec.specs.Map.{expected_entry, with_entries}
use Rattle.d64spec.proofs.SpliceLaws.{length-splice, splice-before, splice-in, splice-after}
use Rattle.d64spec.proofs.MapWriteLaws.{entry_length}
use Rattle.bam.specs.MapEntry.{Entries}
use Rattle.bam.specs.MapSector.{entered, stored_entries}
use Rattle.bam.specs.Bam.{entry_of}
use Rattle.bam.specs.Expected.{Expects}

-- ---- bytes put beside others

-- x at a, and y further on at b: in either order
module _ (s : Bytes) (a : ℕ) (x : Bytes) (b : ℕ) (y : Bytes) (apart : a + length x ≤ b) (fits : b + length y ≤ length s) where
  fits-x : a + length x ≤ length s
  fits-x = omega arith

  fits-y : b + length y ≤ length (splice s a x)
  fits-y = omega (arith, length-splice s a x fits-x)

  fits-x' : a + length x ≤ length (splice s b y)
  fits-x' = omega (arith, length-splice s b y fits)

  swap_at : (j : ℕ) → byte (splice (splice s a x) b y) j ≡ byte (splice (splice s b y) a x) j
  swap_at j = elim (dec_le b j) [
    | yes past-b ↦ elim (dec_le (b + length y) j) [
      | yes past ↦
          splice-after (splice s a x) b y fits-y j past ∙ splice-after s a x fits-x j (omega arith)
          ∙ sym (splice-after (splice s b y) a x fits-x' j (omega arith) ∙ splice-after s b y fits j past)
      | no inside ↦
          let z : b + (j - b) ≡ j = omega arith in
          ap (byte (splice (splice s a x) b y)) (sym z) ∙ splice-in (splice s a x) b y fits-y (j - b) (omega arith)
          ∙ sym (splice-after (splice s b y) a x fits-x' j (omega arith) ∙ ap (byte (splice s b y)) (sym z) ∙ splice-in s b y fits (j - b) (omega arith))
    ]
    | no before-b ↦ splice-before (splice s a x) b y fits-y j (omega arith) ∙ elim (dec_le a j) [
      | yes past-a ↦ elim (dec_le (a + length x) j) [
        | yes past ↦ splice-after s a x fits-x j past ∙ sym (splice-after (splice s b y) a x fits-x' j past ∙ splice-before s b y fits j (omega arith))
        | no inside ↦
            let z : a + (j - a) ≡ j = omega arith in
            ap (byte (splice s a x)) (sym z) ∙ splice-in s a x fits-x (j - a) (omega arith)
            ∙ sym (ap (byte (splice (splice s b y) a x)) (sym z) ∙ splice-in (splice s b y) a x fits-x' (j - a) (omega arith))
      ]
      | no before-a ↦
          splice-before s a x fits-x j (omega arith)
          ∙ sym (splice-before (splice s b y) a x fits-x' j (omega arith) ∙ splice-before s b y fits j (omega arith))
    ]
  ]

  splice-swap : splice (splice s a x) b y ≡ splice (splice s b y) a x
  splice-swap =
      ext_get_or 0 (splice (splice s a x) b y) (splice (splice s b y) a x)
      (length-splice (splice s a x) b y fits-y ∙ length-splice s a x fits-x
      ∙ sym (length-splice (splice s b y) a x fits-x' ∙ length-splice s b y fits))
      (λ j h. swap_at j)

-- ---- the entries

module _ (g : Geometry) (valid : Valid g) (free : Address → Bool) (m : Bytes) {es : Entries} (expects : Expects g free m es) where
  -- track t's entry
  abbrev entry : ℕ → Bytes
  entry t = get_or es (t - 1) []

  entry-is : (t : ℕ) → 1 ≤ t → t ≤ tracks g → entry t ≡ expected_entry g free m t
  unfolding entry_of
  entry-is t low high = expects.entry t low high

  length-entry : (t : ℕ) → 1 ≤ t → t ≤ tracks g → length (entry t) ≡ 4
  length-entry t low high = ap length (entry-is t low high) ∙ entry_length g valid free m t

  -- the entries of two tracks, in either order
  entries-swap : (w : Bytes) → length w ≡ 256 → (t u : ℕ) → 1 ≤ t → t < u → u ≤ tracks g
      → splice (splice w (g.map_at t) (entry t)) (g.map_at u) (entry u) ≡ splice (splice w (g.map_at u) (entry u)) (g.map_at t) (entry t)
  entries-swap w whole t u low less high =
      let x = length-entry t low (omega arith) in
      let y = length-entry u (omega arith) high in
      ⊎_elim
      (λ before. splice-swap w (g.map_at t) (entry t) (g.map_at u) (entry u) (omega arith) (omega (arith, valid.map_fits u (omega arith) high)))
      (λ behind. sym (splice-swap w (g.map_at u) (entry u) (g.map_at t) (entry t) (omega arith) (omega (arith, valid.map_fits t low (omega arith)))))
      (valid.map_apart t u low less high)

  -- a track's entry first, or after those of higher tracks
  entered-behind : (a n : ℕ) (w : Bytes) → length w ≡ 256 → (t : ℕ) → 1 ≤ t → t < a → a + n ≤ tracks g + 1
      → entered g es (range a n) (splice w (g.map_at t) (entry t)) ≡ splice (entered g es (range a n) w) (g.map_at t) (entry t)
  entered-behind a zero w whole t low less fits = refl
  entered-behind a (suc n) w whole t low less fits =
      let y = length-entry a (omega arith) (omega arith) in
      let more : length (splice w (g.map_at a) (entry a)) ≡ 256
      = length-splice w (g.map_at a) (entry a) (omega (arith, valid.map_fits a (omega arith) (omega arith))) ∙ whole in
      ap (entered g es (range (suc a) n)) (entries-swap w whole t a low less (omega arith))
      ∙ entered-behind (suc a) n (splice w (g.map_at a) (entry a)) more t low (omega arith) (omega arith)

  entered-expected : length m ≡ 256 → (a n : ℕ) → 1 ≤ a → a + n ≤ tracks g + 1 → entered g es (range a n) m ≡ with_entries g free m (range a n)
  entered-expected whole a zero low fits = refl
  entered-expected whole a (suc n) low fits =
      entered-behind (suc a) n m whole a low (omega arith) (omega arith)
      ∙ ap₂ (λ (w e : Bytes). splice w (g.map_at a) e) (entered-expected whole (suc a) n (omega arith) (omega arith)) (entry-is a low (omega arith))

  -- ---- the sector

  pub stored-follows : length m ≡ 256 → stored_entries g es m ≡ with_entries g free m (range 1 (tracks g))
  unfolding stored_entries
  stored-follows whole = (simp (eq-eqb (length m) 256 whole)) ∙ entered-expected whole 1 (tracks g) (omega arith) (omega arith)
