-- 18/0 of a fresh disk, as the code puts it together (01, Format). In order: the runs of bytes beside the map; the map's entries; 18/0 with them.
use Prim.Native.Nat.{ℕ, zero, suc, ◌+◌, ◌-◌, ◌/◌, ◌%◌, ◌≤◌}
use native.Mathlib.Omega.{arith}
use mathlib.Core.Path.{◌≡◌, refl, sym, ap, ap₂, ◌∙◌, fun_ext}
use mathlib.Core.Bool.{Bool, true, false, cond}
use mathlib.Core.List.{List, [], ◌∷◌, ◌++◌, map}
use lib.ListN.{length, take, get_or, length-replicate}
use lib.Seq.{take_all}
use Rattle.d64spec.specs.Lists.{Bytes, byte, ascending, equal, range, splice, zeros}
use Rattle.d64spec.specs.Bits.{bit_of}
use Rattle.d64spec.specs.Answers.{Address, address}
use Rattle.d64spec.specs.Geometry.{Geometry, speed_dos, tracks, sectors_on, sector_number, map_address, directory_start}
use Rattle.d64spec.specs.Layouts.{Known}
use Rattle.d64spec.specs.Directory.{padded}
use Rattle.d64spec.specs.Map.{map_bit, expected_bit, bitmap_byte, expected_entry, with_entries}
use Rattle.d64spec.specs.Format.{format_header, formatted_map, free_after_format}
use Rattle.d64spec.proofs.ListLaws.{eq-of-equal, get_or-map-range}
use Rattle.d64spec.proofs.SpliceLaws.{length-splice}
use Rattle.d64spec.proofs.FormatLaws.{header-same, padded-length}
use Rattle.d64spec.proofs.BitLaws.{zero_bit_lem}
use Rattle.d64spec.proofs.FormatTheorem.{fresh-entry}
use Rattle.geometry.specs.declared.Layout.TheVariants.{SpeedDos}
use Rattle.geometry.proofs.TableLaws.{Fronts, fronts, count_at, first-at}
use Rattle.geometry.proofs.MapPlaceLaws.{tracks-with}
use Rattle.parts.specs.Overwrites.{overwritten}
use Rattle.parts.proofs.OverwriteLaws.{overwritten-inside}
use Rattle.bam.specs.MapEntry.{Entries}
use Rattle.bam.specs.MapSector.{stored_entries}
use Rattle.bam.specs.Bam.{entry_of}
use Rattle.bam.specs.Expected.{Expects}
use Rattle.bam.proofs.StoredLaws.{stored-follows}

-- ---- the runs of bytes

-- three runs, one after the other
runs-written : (s a b c : Bytes) {s₁ s₂ s₃ : Bytes} → length s ≡ 256 → length a ≡ 4 → length b ≡ 16 → length c ≡ 11
    → s₁ ≡ overwritten s 0x00 a → s₂ ≡ overwritten s₁ 0x90 b → s₃ ≡ overwritten s₂ 0xA0 c → s₃ ≡ splice (splice (splice s 0x00 a) 0x90 b) 0xA0 c
runs-written s a b c {s₁} {s₂} {s₃} size la lb lc e₁ e₂ e₃ =
    let w₁ : s₁ ≡ splice s 0x00 a = e₁ ∙ overwritten-inside s 0x00 a (omega arith) in
    let size₁ : length s₁ ≡ 256 = ap length w₁ ∙ length-splice s 0x00 a (omega arith) ∙ size in
    let w₂ : s₂ ≡ splice s₁ 0x90 b = e₂ ∙ overwritten-inside s₁ 0x90 b (omega arith) in
    let size₂ : length s₂ ≡ 256 = ap length w₂ ∙ length-splice s₁ 0x90 b (omega arith) ∙ size₁ in
    e₃ ∙ overwritten-inside s₂ 0xA0 c (omega arith) ∙ ap (λ (x : Bytes). splice x 0xA0 c) (w₂ ∙ ap (λ (x : Bytes). splice x 0x90 b) w₁)

module _ (name : Bytes) (i j : ℕ) (short : length name ≤ 16) where
  -- 18/0 BUT FOR THE MAP: document 01's runs of bytes, with the name filled up
  pub header-written : {p m₁ m₂ m₃ : Bytes} → m₁ ≡ overwritten (zeros 256) 0x00 (0x12 ∷ 0x01 ∷ 0x41 ∷ 0x00 ∷ [])
      → p ≡ take 16 (padded name) → m₂ ≡ overwritten m₁ 0x90 p
      → m₃ ≡ overwritten m₂ 0xA0 (0xA0 ∷ 0xA0 ∷ i ∷ j ∷ 0xA0 ∷ 0x32 ∷ 0x41 ∷ 0xA0 ∷ 0xA0 ∷ 0xA0 ∷ 0xA0 ∷ []) → m₃ ≡ format_header name i j
  unfolding format_header
  header-written {p} {m₁} {m₂} {m₃} e₁ named e₂ e₃ =
      let field : p ≡ padded name = named ∙ take_all 16 (padded name) (omega (arith, padded-length name short)) in
      runs-written (zeros 256) (0x12 ∷ 0x01 ∷ 0x41 ∷ 0x00 ∷ []) (padded name) (0xA0 ∷ 0xA0 ∷ i ∷ j ∷ 0xA0 ∷ 0x32 ∷ 0x41 ∷ 0xA0 ∷ 0xA0 ∷ 0xA0 ∷ 0xA0 ∷ [])
      (length-replicate {A = ℕ} 256 0) refl (padded-length name short) refl
      e₁ (e₂ ∙ ap (overwritten m₁ 0x90) field) e₃

-- ---- the map

-- the entry of track t on a fresh disk of 40 tracks
abbrev longest : ℕ → Bytes
longest t = expected_entry speed_dos (free_after_format speed_dos) (zeros 256) t

-- the tracks, from t on, whose entry is not that
unfoldable pub wrong_tracks : ℕ → Entries → List ℕ
wrong_tracks t [] = []
wrong_tracks t (e ∷ es) = cond (equal e (longest t)) [] (t ∷ []) ++ wrong_tracks (suc t) es

entries_from : (t : ℕ) (es : Entries) → wrong_tracks t es ≡ [] → es ≡ map longest (range t (length es))
unfolding wrong_tracks
entries_from t [] none = refl
entries_from t (e ∷ es) none = go (equal e (longest t)) refl (entries_from (suc t) es) none
  where
    rest : Entries
    rest = map longest (range (suc t) (length es))

    go : (b : Bool) → equal e (longest t) ≡ b → (wrong_tracks (suc t) es ≡ [] → es ≡ rest) → cond b [] (t ∷ []) ++ wrong_tracks (suc t) es ≡ []
        → ◌≡◌ {A = Entries} (e ∷ es) (longest t ∷ rest)
    go true same more h = ap₂ (λ (y : Bytes) (l : Entries). y ∷ l) (eq-of-equal e (longest t) same) (more h)
    go false same more h = absurd (let z : ◌≡◌ {A = ℕ} 0 1 = cc in omega arith)

longest-tracks : tracks speed_dos ≡ 40
longest-tracks = tracks-with SpeedDos refl

-- a map sector of zeros has no mark
zeros-byte : (n k : ℕ) → byte (zeros n) k ≡ 0
zeros-byte zero k = refl
zeros-byte (suc n) zero = refl
zeros-byte (suc n) (suc k) = zeros-byte n k

zeros-bit : (g : Geometry) (t s : ℕ) → map_bit g (zeros 256) t s ≡ 0
unfolding map_bit
zeros-bit g t s = ap (λ (x : ℕ). bit_of x (s % 8)) (zeros-byte 256 (g.map_at t + 1 + s / 8)) ∙ zero_bit_lem (s % 8)

-- in every layout a track that it has is the longest layout's: its sectors, and their numbers
module _ (g : Geometry) (kn : Known g) (f : Fronts g) where
  same_count : (t : ℕ) → 1 ≤ t → t ≤ tracks g → sectors_on g t ≡ sectors_on speed_dos t
  same_count t low high = count_at g f t low high ∙ sym (count_at speed_dos (fronts SpeedDos) t low (omega (arith, longest-tracks, f.few)))

  same_number : (r : Address) → 1 ≤ r.track → r.track ≤ tracks g → sector_number g r ≡ sector_number speed_dos r
  unfolding sector_number
  same_number r low high =
      ap (λ (n : ℕ). n + r.sector)
      (first-at g f r.track low high ∙ sym (first-at speed_dos (fronts SpeedDos) r.track low (omega (arith, longest-tracks, f.few))))

  same-free : (r : Address) → 1 ≤ r.track → r.track ≤ tracks g → free_after_format g r ≡ free_after_format speed_dos r
  unfolding free_after_format
  same-free r low high =
      rw (
        same_number r low high,
        same_number map_address (omega arith) (omega (arith, kn.many)),
        same_number directory_start (omega arith) (omega (arith, kn.many)),
      )

  same_bit : (t s : ℕ) → 1 ≤ t → t ≤ tracks g
      → expected_bit g (free_after_format g) (zeros 256) t s ≡ expected_bit speed_dos (free_after_format speed_dos) (zeros 256) t s
  unfolding expected_bit
  same_bit t s low high =
      rw (same_count t low high, same-free (address t s) low high, zeros-bit g t s, zeros-bit speed_dos t s) refl

  same-entry : (t : ℕ) → 1 ≤ t → t ≤ tracks g → expected_entry g (free_after_format g) (zeros 256) t ≡ longest t
  unfolding expected_entry bitmap_byte
  same-entry t low high =
      let bits : expected_bit g (free_after_format g) (zeros 256) t ≡ expected_bit speed_dos (free_after_format speed_dos) (zeros 256) t
      = fun_ext (λ s. same_bit t s low high) in
      rw (bits, same_count t low high) refl

  -- THE MAP OF A FRESH DISK: 40 entries, none of them wrong
  pub fresh-entries : (es : Entries) → length es ≡ 40 → wrong_tracks 1 es ≡ [] → Expects g (free_after_format g) (zeros 256) es
  unfolding entry_of
  fresh-entries es size none = record {
    size = size;
    entry = λ t low high.
        let z : 1 + (t - 1) ≡ t = omega arith in
        ap (λ (l : Entries). get_or l (t - 1) []) (entries_from 1 es none ∙ ap (λ (n : ℕ). map longest (range 1 n)) size)
        ∙ get_or-map-range longest 1 40 (t - 1) [] (omega (arith, f.few)) ∙ ap longest z ∙ sym (same-entry t low high);
  }

-- ---- 18/0 with the map

module _ (g : Geometry) (kn : Known g) (name : Bytes) (i j : ℕ) (short : length name ≤ 16) where
  -- 18/0 WITH THE MAP, its entries stored over the header
  pub map-stored : {h m : Bytes} {es : Entries} → length h ≡ 256 → h ≡ format_header name i j → Expects g (free_after_format g) (zeros 256) es
      → m ≡ stored_entries g es h
      → m ≡ formatted_map g name i j
  unfolding formatted_map ascending
  map-stored {h} {m} {es} size e built stored =
      let free : Address → Bool = free_after_format g in
      let expects : Expects g free h es = record {
        size = built.size;
        entry = λ t low high.
            built.entry t low high ∙ sym (fresh-entry g kn.valid name i j short t low high)
            ∙ ap (λ (x : Bytes). expected_entry g free x t) (sym (e ∙ header-same name i j short));
      } in
      let all : tracks g ≡ tracks g + 1 - 1 = omega arith in
      stored ∙ stored-follows g kn.valid free h expects size ∙ ap₂ (λ (x : Bytes) (n : ℕ). with_entries g free x (range 1 n)) e all
