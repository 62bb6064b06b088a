-- The map by value of a map sector: its entries are the sector's, and their bits are document 01's. Assumes nothing.
use Prim.Native.Nat.{ℕ, zero, suc, ◌+◌, ◌-◌, ◌/◌, ◌%◌, ◌≤◌, ◌<◌}
use native.Mathlib.Omega.{arith}
use native.Mathlib.Decide.{dec_le}
use mathlib.Core.Path.{◌≡◌, refl, sym, ap, ◌∙◌}
use mathlib.Core.List.{[], ◌++◌, map}
use lib.ListN.{length, get_or, replicate, length-append, length-replicate, get_or-replicate, get_or-append}
use lib.Seq.{get_or-append-add, ext_get_or}
use Rattle.d64spec.specs.Lists.{Bytes, byte, range, zeros}
use Rattle.d64spec.specs.Bits.{bit_of}
use Rattle.d64spec.specs.Geometry.{Geometry, tracks}
use Rattle.d64spec.specs.Layouts.{Known}
use Rattle.d64spec.specs.Map.{map_bit}
use Rattle.d64spec.proofs.ListLaws.{get_or-map-range}
use Rattle.bam.specs.MapEntry.{Entries, entry_bit}
use Rattle.bam.proofs.ShapeLaws.{EntryShape}
use Rattle.bam.specs.MapSector.{four_bytes, map_entry, map_entries}
use Rattle.bam.proofs.FillLaws.{length-map-range}
use Rattle.bam.specs.Bam.{entry_of}

-- ---- one entry

module _ (g : Geometry) (m : Bytes) (t : ℕ) where
  byte-map-entry : (j : ℕ) → j < 4 → byte (map_entry g m t) j ≡ byte m (g.map_at t + j)
  unfolding map_entry four_bytes
  byte-map-entry zero h = let z : g.map_at t ≡ g.map_at t + 0 = omega arith in ap (byte m) z
  byte-map-entry (suc zero) h = refl
  byte-map-entry (suc (suc zero)) h = refl
  byte-map-entry (suc (suc (suc zero))) h = refl
  byte-map-entry (suc (suc (suc (suc j)))) h = absurd (omega arith)

  pub count-map-entry : byte (map_entry g m t) 0 ≡ byte m (g.map_at t)
  unfolding map_entry four_bytes
  count-map-entry = refl

  pub map-entry-shaped : ((k : ℕ) → byte m k < 256) → EntryShape (map_entry g m t)
  unfolding map_entry four_bytes
  map-entry-shaped bytes = record { four = refl; small = small }
    where
      small : (j : ℕ) → byte (map_entry g m t) j < 256
      small zero = bytes (g.map_at t)
      small (suc zero) = bytes (g.map_at t + 1)
      small (suc (suc zero)) = bytes (g.map_at t + 2)
      small (suc (suc (suc zero))) = bytes (g.map_at t + 3)
      small (suc (suc (suc (suc j)))) = omega arith

  pub bit-map-entry : (s : ℕ) → s < 24 → entry_bit (map_entry g m t) s ≡ map_bit g m t s
  unfolding entry_bit map_bit
  bit-map-entry s h =
      let z : g.map_at t + (1 + s / 8) ≡ g.map_at t + 1 + s / 8 = omega arith in
      ap (λ (x : ℕ). bit_of x (s % 8)) (byte-map-entry (1 + s / 8) (omega arith) ∙ ap (byte m) z)

-- ---- all of them

module _ (g : Geometry) (kn : Known g) (m : Bytes) where
  -- those of the layout's tracks
  abbrev own : Entries
  own = map (map_entry g m) (range 1 (tracks g))

  length-own : length own ≡ tracks g
  length-own = length-map-range (map_entry g m) 1 (tracks g)

  -- and zeros for the others
  abbrev rest : Entries
  rest = replicate (40 - tracks g) (zeros 4)

  pub length-map-entries : length (map_entries g m) ≡ 40
  unfolding map_entries
  length-map-entries = omega (arith, length-append own rest, length-own, length-replicate (40 - tracks g) (zeros 4), kn.few)

  pub entry-at-map-entries : (i : ℕ) → i < tracks g → get_or (map_entries g m) i [] ≡ map_entry g m (i + 1)
  unfolding map_entries
  entry-at-map-entries i h =
      let z : 1 + i ≡ i + 1 = omega arith in
      get_or-append own rest [] i (omega (arith, length-own)) ∙ get_or-map-range (map_entry g m) 1 (tracks g) i [] h ∙ ap (map_entry g m) z

  entry-past-map-entries : (i : ℕ) → tracks g ≤ i → i < 40 → get_or (map_entries g m) i [] ≡ zeros 4
  unfolding map_entries
  entry-past-map-entries i l h =
      let z : length own + (i - tracks g) ≡ i = omega (arith, length-own) in
      ap (λ (k : ℕ). get_or (own ++ rest) k []) (sym z) ∙ get_or-append-add own rest (i - tracks g) []
      ∙ get_or-replicate (40 - tracks g) (i - tracks g) (zeros 4) [] (omega arith)

  pub entry-map-entries : (t : ℕ) → 1 ≤ t → t ≤ tracks g → entry_of (map_entries g m) t ≡ map_entry g m t
  unfolding entry_of
  entry-map-entries t low high =
      let z : t - 1 + 1 ≡ t = omega arith in
      entry-at-map-entries (t - 1) (omega arith) ∙ ap (map_entry g m) z

  -- they are known one by one
  pub entries-known : (es : Entries) → length es ≡ 40 → ((i : ℕ) → i < tracks g → get_or es i [] ≡ map_entry g m (i + 1))
      → ((i : ℕ) → tracks g ≤ i → i < 40 → get_or es i [] ≡ zeros 4)
      → es ≡ map_entries g m
  entries-known es size own_is rest-is = ext_get_or [] es (map_entries g m) (size ∙ sym length-map-entries) (λ i h. elim (dec_le (tracks g) i) [
    | yes past ↦ rest-is i past (omega arith) ∙ sym (entry-past-map-entries i past (omega arith))
    | no own ↦ own_is i (omega arith) ∙ sym (entry-at-map-entries i (omega arith))
  ])

-- of a map sector only its 256 bytes are read
module _ (g : Geometry) (kn : Known g) (m m' : Bytes) (same : (i : ℕ) → i < 256 → byte m i ≡ byte m' i) where
  entry-same : (t : ℕ) → 1 ≤ t → t ≤ tracks g → map_entry g m t ≡ map_entry g m' t
  unfolding map_entry four_bytes
  entry-same t low high =
      let fits = kn.valid.map_fits t low high in
      let a : ℕ = g.map_at t in
      rw (same a (omega arith), same (a + 1) (omega arith), same (a + 2) (omega arith), same (a + 3) (omega arith)) refl

  pub map-entries-same : map_entries g m ≡ map_entries g m'
  map-entries-same =
      entries-known g kn m' (map_entries g m) (length-map-entries g kn m)
      (λ i h. entry-at-map-entries g kn m i h ∙ entry-same (i + 1) (omega arith) (omega arith))
      (λ i l h. entry-past-map-entries g kn m i l h)
