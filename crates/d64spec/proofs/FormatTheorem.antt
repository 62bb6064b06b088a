-- A formatted disk has the bytes that document 01 lists, and is ready for use (01, Format). The papers' numbers, for the layout of a number: 664 or 749 free.
use Prim.Native.Nat.{ℕ, zero, suc, ◌+◌, ◌-◌, ◌/◌, ◌%◌, ◌≤◌, ◌<◌}
use native.Mathlib.Omega.{arith}
use native.Mathlib.Decide.{dec_le}
use mathlib.Core.Path.{◌≡◌, refl, sym, ap, ap₂, ◌∙◌, fun_ext}
use mathlib.Core.Bool.{Bool, true, false, cond, not}
use mathlib.Core.Logic.{◌⊎◌, inl, inr, ⊎_elim, ◌↔◌}
use mathlib.Core.List.{[], ◌∷◌, ◌++◌, map}
use lib.ListN.{get_or-append, length-replicate, length, take, drop, length-take, length-drop}
use lib.Seq.{take_at, drop_at, drop-drop, ext_get_or, get_or-take, get_or-drop}
use lib.Dec.{eqb, ltb}
use borrow.Author.Tests.{eq-eqb, ltb-true, ne_eqb}
use Rattle.d64spec.specs.Lists.{All, Bytes, byte, count, filter, indicator, member, part, zeros}
use Rattle.d64spec.specs.Answers.{Address, address, done}
use Rattle.d64spec.specs.Geometry.{Geometry, Valid, allocation_order, directory_start, first_on, layout35, layout40, map_address, on_disk, sector_number, sectors_of_track, sectors_on, total, tracks}
use Rattle.d64spec.specs.Layouts.{Known, layout_numbered, sizes_of}
use Rattle.d64spec.specs.Image.{Disk, disk}
use Rattle.d64spec.specs.Directory.{padded}
use Rattle.d64spec.specs.Owner.{claim_count, free_for_directory, free_for_files, is_free}
use Rattle.d64spec.specs.Bits.{binary, bit_of}
use Rattle.d64spec.specs.Map.{bitmap_byte, expected_bit, expected_entry, map_bit, rewrite_map}
use Rattle.d64spec.specs.Reply.{Change}
use Rattle.d64spec.specs.Format.{call_format, empty_directory_sector, free_after_format}
use Rattle.d64spec.specs.Call.{attempt, format, output_buffer, perform}
use Rattle.d64spec.specs.Facts.{Formatted, FormattedMap}
use Rattle.d64spec.proofs.ListLaws.{filter-all}
use Rattle.d64spec.proofs.FrameLaws.{all-of-count}
use Rattle.d64spec.proofs.BitLaws.{zero_bit_lem}
use Rattle.d64spec.proofs.BoundLaws.{sector_number-lt, map_on}
use Rattle.d64spec.proofs.SpliceLaws.{part_same}
use Rattle.d64spec.proofs.ImageLaws.{Whole}
use Rattle.d64spec.proofs.MapWriteLaws.{entry_length, expected-entry-same, rewrite-accepted, rewrite-claims, rewrite-holds, rewrite-other, rewrite-past, rewrite-whole}
use Rattle.d64spec.proofs.AllocationLaws.{one-track, order-18}
use Rattle.d64spec.proofs.FormatLaws.{blank_disk, blank-claims, blank-dir, blank-map, blank-other, blank-sound, blank-whole, free-same, header, padded-length}
use Rattle.d64spec.proofs.FormatReady.{formatted-disk, format-ready}
use Rattle.d64spec.proofs.MapBytes.{map_other}
use Rattle.d64spec.proofs.RefusalLaws.{zero-change}
use Rattle.d64spec.proofs.LayoutLaws.{by_number, known, order-in}

-- ---- the header, by its offsets

byte-zeros : (n i : ℕ) → byte (zeros n) i ≡ 0
byte-zeros zero i = refl
byte-zeros (suc n) zero = refl
byte-zeros (suc n) (suc i) = byte-zeros n i

-- what stands behind the name
abbrev behind : ℕ → ℕ → Bytes
behind i j = (0xA0 ∷ 0xA0 ∷ i ∷ j ∷ 0xA0 ∷ 0x32 ∷ 0x41 ∷ 0xA0 ∷ 0xA0 ∷ 0xA0 ∷ 0xA0 ∷ []) ++ zeros 0x55

module _ (name : Bytes) (i j : ℕ) (short : length name ≤ 16) where
  header-name : part 0x90 0x9F (header name i j) ≡ padded name
  unfolding header
  header-name = take_at (padded name) (behind i j) 16 (padded-length name short)

  header-behind : (k : ℕ) → drop (0xA0 + k) (header name i j) ≡ drop k (behind i j)
  unfolding header
  header-behind k = sym (drop-drop k 0xA0 (header name i j)) ∙ ap (drop k) (drop_at (padded name) (behind i j) 16 (padded-length name short))

  header-low : (k : ℕ) → k < 0x8C → byte (header name i j) (suc (suc (suc (suc k)))) ≡ 0
  unfolding header
  header-low k l = get_or-append (zeros 0x8C) (padded name ++ behind i j) 0 k (omega (arith, length-replicate {A = ℕ} 0x8C 0)) ∙ byte-zeros 0x8C k

  header-high : (k : ℕ) → byte (header name i j) (0xAB + k) ≡ 0
  header-high k = sym (get_or-drop 0xAB (header name i j) k 0) ∙ ap (λ (x : Bytes). byte x k) (header-behind 11) ∙ byte-zeros 0x55 k

  header-rest : (k : ℕ) → 0x04 ≤ k → (k < 0x90) ⊎ (0xAA < k) → byte (header name i j) k ≡ 0
  header-rest k l (inl h) = let z : k ≡ suc (suc (suc (suc (k - 4)))) = omega arith in ap (byte (header name i j)) z ∙ header-low (k - 4) (omega arith)
  header-rest k l (inr h) = let z : k ≡ 0xAB + (k - 0xAB) = omega arith in ap (byte (header name i j)) z ∙ header-high (k - 0xAB)

-- ---- 18/0

-- a byte that is 0 has no bits
bit-of-none : (g : Geometry) (m : Bytes) (t s : ℕ) → byte m (g.map_at t + 1 + s / 8) ≡ 0 → map_bit g m t s ≡ 0
unfolding map_bit
bit-of-none g m t s e = ap (λ (x : ℕ). bit_of x (s % 8)) e ∙ zero_bit_lem (s % 8)

module _ (g : Geometry) (v : Valid g) (name : Bytes) (i j : ℕ) (short : length name ≤ 16) where
  -- the formatted disk
  abbrev d : Disk
  d = rewrite_map g (blank_disk g name i j)

  -- its 18/0
  abbrev m : Bytes
  m = d (sector_number g map_address)

  whole : Whole g d
  whole = rewrite-whole g v (blank_disk g name i j) (blank-whole g v name i j short) (blank-sound g v name i j short)

  map_below : sector_number g map_address < total g
  map_below = sector_number-lt g map_address (map_on g v.directory)

  -- a byte in no map entry is the header's
  map-byte : (k : ℕ) → ((t : ℕ) → 1 ≤ t → t ≤ tracks g → (k < g.map_at t) ⊎ (g.map_at t + 4 ≤ k)) → byte m k ≡ byte (header name i j) k
  map-byte k h = map_other g v (blank_disk g name i j) ((blank-whole g v name i j short).full (sector_number g map_address) map_below) k h
      ∙ ap (λ (x : Bytes). byte x k) (blank-map g name i j)

  -- and so is a part before or behind them
  map-part : (k n : ℕ) → ((t : ℕ) → 1 ≤ t → t ≤ tracks g → (k + n ≤ g.map_at t) ⊎ (g.map_at t + 4 ≤ k)) → take n (drop k m) ≡ take n (drop k (header name i j))
  map-part k n h =
      part_same m (header name i j) k n
      (whole.full (sector_number g map_address) map_below ∙ sym
      (ap length (sym (blank-map g name i j)) ∙ (blank-whole g v name i j short).full (sector_number g map_address) map_below))
      (λ x l u. map-byte x (λ t a b. ⊎_elim (λ c. inl (omega arith)) (λ c. inr (omega arith)) (h t a b)))

  -- a part from $90 to $AA
  map-named : (k n : ℕ) → 0x90 ≤ k → k + n ≤ 0xAB → take n (drop k m) ≡ take n (drop k (header name i j))
  map-named k n l u = map-part k n (λ t a b. ⊎_elim (λ c. inr (omega arith)) (λ c. inl (omega arith)) (v.map_beside t a b))

  -- where the map's entries lie, the header is 0
  header-bit : (t s : ℕ) → 1 ≤ t → t ≤ tracks g → s < 24 → map_bit g (header name i j) t s ≡ 0
  header-bit t s l h b =
      bit-of-none g (header name i j) t s
      (header-rest name i j short (g.map_at t + 1 + s / 8) (omega (arith, v.map_past t l h))
      (⊎_elim (λ c. inl (omega arith)) (λ c. inr (omega arith)) (v.map_beside t l h)))

  -- bits past a track's last sector are 0
  pub formatted-spare : (t s : ℕ) → 1 ≤ t → t ≤ tracks g → sectors_on g t ≤ s → s < 24 → map_bit g m t s ≡ 0
  formatted-spare t s l h past b =
      rewrite-past g v (blank_disk g name i j) (blank-whole g v name i j short) (blank-sound g v name i j short) t s l h past b
      ∙ ap (λ (x : Bytes). map_bit g x t s) (blank-map g name i j) ∙ header-bit t s l h b

  -- the entry of a map sector that was all 0
  pub fresh-entry : (t : ℕ) → 1 ≤ t → t ≤ tracks g → expected_entry g (free_after_format g) (header name i j) t ≡ expected_entry g (free_after_format g) (zeros 256) t
  unfolding expected_bit
  fresh-entry t l h =
      expected-entry-same g v (free_after_format g) (free_after_format g) (header name i j) (zeros 256) t
      (λ s b. ap (cond (ltb s (sectors_on g t)) _) (header-bit t s l h b ∙ sym (bit-of-none g (zeros 256) t s (byte-zeros 256 (g.map_at t + 1 + s / 8)))))

  map-entry : (t : ℕ) → 1 ≤ t → t ≤ tracks g → part (g.map_at t) (g.map_at t + 3) m ≡ expected_entry g (free_after_format g) (zeros 256) t
  map-entry t l h =
      let old : Bytes = blank_disk g name i j (sector_number g map_address) in
      let e : Bytes = expected_entry g (is_free g (blank_disk g name i j)) old t in
      let p : Bytes = take 4 (drop (g.map_at t) m) in
      let n : g.map_at t + 3 + 1 - g.map_at t ≡ 4 = omega arith in
      let size : length p ≡ 4 = length-take 4 (drop (g.map_at t) m)
      ∙ omega (arith, length-drop (g.map_at t) m, whole.full (sector_number g map_address) map_below, v.map_fits t l h) in
      ap (λ (k : ℕ). take k (drop (g.map_at t) m)) n
      ∙ ext_get_or 0 p e (size ∙ sym (entry_length g v (is_free g (blank_disk g name i j)) old t))
      (λ k b. get_or-take 4 (drop (g.map_at t) m) k 0 (omega arith) ∙ get_or-drop (g.map_at t) m k 0
      ∙ rewrite-holds g v (blank_disk g name i j) (blank-whole g v name i j short) (blank-sound g v name i j short) t l h k (omega arith))
      ∙ ap₂ (λ (f : Address → Bool) (x : Bytes). expected_entry g f x t) (sym (free-same g v name i j short)) (blank-map g name i j) ∙ fresh-entry t l h

  claims : (n : ℕ) → claim_count g d n ≡ indicator (eqb n (sector_number g map_address)) + indicator (eqb n (sector_number g directory_start))
  claims n = rewrite-claims g v (blank_disk g name i j) (blank-whole g v name i j short) (blank-sound g v name i j short) n ∙ blank-claims g v name i j short n

  -- a sector with the number of sector x of track 18 is that sector
  same_place : (t s x : ℕ) → s < sectors_on g t → x < sectors_on g 18 → sector_number g (address t s) ≡ sector_number g (address 18 x) → (t ≡ 18) × (s ≡ x)
  unfolding sector_number
  same_place t s x b c e =
      let z : t ≡ 18 = one-track g t 18 (first_on g t + s) (record { low = omega arith; high = omega arith })
      (record { low = omega arith; high = omega arith }) in
      (z, let y : first_on g t ≡ first_on g 18 = ap (first_on g) z in omega arith)

  map-free : (t s : ℕ) → 1 ≤ t → t ≤ tracks g → s < sectors_on g t → (map_bit g m t s ≡ 1) ↔ ((t ≡ 18) × (s ≤ 1) → ⊥)
  unfolding on_disk
  map-free t s l h b = (
    (λ e w.
        let o : claim_count g d n ≡ 0 = mark.0 e in
        elim (dec_le 1 s) [
          | yes k ↦ let z : indicator (eqb n (sector_number g directory_start)) ≡ 1 = rw (eq-eqb n (sector_number g directory_start) (same w 1 (omega arith))) in
              omega (arith, claims n)
          | no k ↦ let z : indicator (eqb n (sector_number g map_address)) ≡ 1 = rw (eq-eqb n (sector_number g map_address) (same w 0 (omega arith))) in
              omega (arith, claims n)
        ]),
    (λ w. mark.1 (claims n ∙ (rw (apart 0 (omega arith) w (omega (arith, big)), apart 1 (omega arith) w big)))),
  )
    where
      n : ℕ
      n = sector_number g (address t s)

      big : 1 < sectors_on g 18
      big = ltb-true 1 (sectors_on g 18) v.directory

      mark : (map_bit g m t s ≡ 1) ↔ (claim_count g d n ≡ 0)
      mark = ((rewrite-accepted g v (blank_disk g name i j) (blank-whole g v name i j short) (blank-sound g v name i j short)).marks t l h).free s b

      same : (t ≡ 18) × (s ≤ 1) → (x : ℕ) → s ≡ x → n ≡ sector_number g (address 18 x)
      same w x e = rw (w.0, e) refl

      apart : (x : ℕ) → x ≤ 1 → ((t ≡ 18) × (s ≤ 1) → ⊥) → x < sectors_on g 18 → eqb n (sector_number g (address 18 x)) ≡ false
      apart x u w c = ne_eqb n (sector_number g (address 18 x)) (λ e. w (let p = same_place t s x b c e in (p.0, omega arith)))

  formatted-map : FormattedMap g name i j m
  unfolding header
  formatted-map = record {
    start = map-part 0x00 4 (λ t a b. inl (omega (arith, v.map_past t a b)));
    named = map-named 0x90 16 (omega arith) (omega arith) ∙ header-name name i j short;
    after_name = map-named 0xA0 2 (omega arith) (omega arith) ∙ ap (take 2) (header-behind name i j short 0);
    id = map-named 0xA2 2 (omega arith) (omega arith) ∙ ap (take 2) (header-behind name i j short 2);
    after_id = map-named 0xA4 1 (omega arith) (omega arith) ∙ ap (take 1) (header-behind name i j short 4);
    type = map-named 0xA5 2 (omega arith) (omega arith) ∙ ap (take 2) (header-behind name i j short 5);
    after_type = map-named 0xA7 4 (omega arith) (omega arith) ∙ ap (take 4) (header-behind name i j short 7);
    entry = map-entry;
    free = map-free;
    spare = formatted-spare;
    rest = λ k l c h. map-byte k (λ t a b. ⊎_elim (λ x. inl x) (λ x. inr (omega arith)) (h t a b)) ∙ header-rest name i j short k l c;
  }

  dir-apart : sector_number g directory_start ≡ sector_number g map_address → ⊥
  unfolding sector_number
  dir-apart e = omega arith

  formatted-directory : d (sector_number g directory_start) ≡ empty_directory_sector
  formatted-directory = rewrite-other g (blank_disk g name i j) (sector_number g directory_start) dir-apart ∙ blank-dir g v name i j short

  formatted-other : (n : ℕ) → n < total g → (n ≡ sector_number g map_address → ⊥) → (n ≡ sector_number g directory_start → ⊥) → d n ≡ zeros 256
  formatted-other n h p q = rewrite-other g (blank_disk g name i j) n p ∙ blank-other g v name i j short n h q p

  -- the sectors that are free
  formatted-is_free : ◌≡◌ {A = Address → Bool} (is_free g d) (free_after_format g)
  formatted-is_free =
      fun_ext (λ r. ap (λ (k : ℕ). eqb k 0) (rewrite-claims g v (blank_disk g name i j) (blank-whole g v name i j short) (blank-sound g v name i j short)
      (sector_number g r)))
      ∙ sym (free-same g v name i j short)

  -- off track 18, and on it
  formatted-free : free_for_files g d ≡ filter (free_after_format g) (allocation_order g)
  unfolding free_for_files
  formatted-free = ap (λ (p : Address → Bool). filter p (allocation_order g)) formatted-is_free

  formatted-free18 : free_for_directory g d ≡ filter (free_after_format g) (sectors_of_track g 18)
  unfolding free_for_directory
  formatted-free18 = ap (λ (p : Address → Bool). filter p (sectors_of_track g 18)) formatted-is_free

-- A FORMATTED DISK HAS THESE BYTES: every byte of the image after a format that is done
pub format-bytes : (g : Geometry) → Valid g → (img name : Bytes) (id1 id2 : ℕ) (ch : Change) → call_format g img name id1 id2 ≡ done ch
    → Formatted g name id1 id2 ch.image_after
format-bytes g v img name id1 id2 ch e =
    let z = formatted-disk g v img name id1 id2 ch e in
    let r = format-ready g v img name id1 id2 ch e in
    record {
      size = r.accepted.size;
      directory = rw z.1 (formatted-directory g v name id1 id2 z.0);
      map = rw z.1 (formatted-map g v name id1 id2 z.0);
      other = rw z.1 (formatted-other g v name id1 id2 z.0);
      ready = r;
    }

-- the image after a format answered 0
pub format-answered : (g : Geometry) → Valid g → (img name : Bytes) (id1 id2 : ℕ) → (perform g img (format name id1 id2)).answer.number ≡ 0
    → Formatted g name id1 id2 (perform g img (format name id1 id2)).change.image_after
unfolding perform attempt output_buffer
format-answered g v img name id1 id2 e =
    format-bytes g v img name id1 id2 (perform g img (format name id1 id2)).change (zero-change img [] (call_format g img name id1 id2) e)

-- ---- in the layout of a number

-- no sector of house order is 18/0 or 18/1, so that all of them are free
order-free : (g : Geometry) → Valid g → All (λ r. free_after_format g r ≡ true) (allocation_order g)
unfolding free_after_format sector_number on_disk
order-free g v = all-of-count g (λ m. not (member m (sector_number g map_address ∷ sector_number g directory_start ∷ [])) ≡ true) (allocation_order g) (λ m h.
    rw (ne_eqb m (sector_number g map_address) (apart m h 0 (omega arith)), ne_eqb m (sector_number g directory_start) (apart m h 1 (omega arith))) refl)
  where
    big : 1 < sectors_on g 18
    big = ltb-true 1 (sectors_on g 18) v.directory

    apart : (m : ℕ) → 0 < count m (map (sector_number g) (allocation_order g)) → (x : ℕ) → x ≤ 1 → m ≡ first_on g 18 + x → ⊥
    apart m h x u e = omega (arith, order-18 g m (record { low = omega arith; high = omega (arith, big) }))

-- track 18: the sectors that are free, and the entry
free35 : length (filter (free_after_format layout35) (sectors_of_track layout35 18)) ≡ 17
unfolding sectors_of_track free_after_format layout35 sectors_on sector_number first_on
free35 = refl

free40 : (extra : ℕ) → length (filter (free_after_format (layout40 extra)) (sectors_of_track (layout40 extra) 18)) ≡ 17
unfolding sectors_of_track free_after_format layout40 sectors_on sector_number first_on
free40 extra = refl

-- the entry of track t stands where the layout has it, and is the one of a formatted disk
abbrev Stands : Geometry → Bytes → ℕ → Type 0
Stands g m t = part (g.map_at t) (g.map_at t + 3) m ≡ expected_entry g (free_after_format g) (zeros 256) t

entry35 : (m : Bytes) → Stands layout35 m 18 → part 0x48 0x4B m ≡ 0x11 ∷ 0xFC ∷ 0xFF ∷ 0x07 ∷ []
unfolding expected_entry expected_bit bitmap_byte binary map_bit bit_of free_after_format layout35 sectors_on sector_number first_on
entry35 m h = h

entry40 : (extra : ℕ) (m : Bytes) → Stands (layout40 extra) m 18 → part 0x48 0x4B m ≡ 0x11 ∷ 0xFC ∷ 0xFF ∷ 0x07 ∷ []
unfolding expected_entry expected_bit bitmap_byte binary map_bit bit_of free_after_format layout40 sectors_on sector_number first_on
entry40 extra m h = h

module _ (n : ℕ) (g : Geometry) (named : layout_numbered n ≡ done g) where
  -- 664 sectors off track 18 are free with 35 tracks, and 749 with 40 (01, Examples; 02, §8)
  pub format-free : (img name : Bytes) (id1 id2 : ℕ) (ch : Change) → call_format g img name id1 id2 ≡ done ch
      → length (free_for_files g (disk ch.image_after)) ≡ (sizes_of n).free_sectors
  format-free img name id1 id2 ch e =
      let v : Valid g = (known n g named).valid in
      let z = formatted-disk g v img name id1 id2 ch e in
      rw z.1 (ap length (formatted-free g v name id1 id2 z.0 ∙ filter-all (free_after_format g) (allocation_order g) (order-free g v)) ∙ order-in n g named)

  -- 17 sectors of track 18 are free
  pub format-free17 : (img name : Bytes) (id1 id2 : ℕ) (ch : Change) → call_format g img name id1 id2 ≡ done ch
      → length (free_for_directory g (disk ch.image_after)) ≡ 17
  format-free17 img name id1 id2 ch e =
      let v : Valid g = (known n g named).valid in
      let z = formatted-disk g v img name id1 id2 ch e in
      rw z.1 (ap length (formatted-free18 g v name id1 id2 z.0)
      ∙ by_number (λ m x. length (filter (free_after_format x) (sectors_of_track x 18)) ≡ 17) free35 (λ m extra l h. free40 extra) n g named)

  -- track 18's entry, at 4 * 18, is 11 FC FF 07 (01, Examples)
  pub format-entry18 : (img name : Bytes) (id1 id2 : ℕ) (ch : Change) → call_format g img name id1 id2 ≡ done ch
      → part 0x48 0x4B (disk ch.image_after (sector_number g map_address)) ≡ 0x11 ∷ 0xFC ∷ 0xFF ∷ 0x07 ∷ []
  format-entry18 img name id1 id2 ch e =
      let k : Known g = known n g named in
      by_number (λ i x. (m : Bytes) → Stands x m 18 → part 0x48 0x4B m ≡ 0x11 ∷ 0xFC ∷ 0xFF ∷ 0x07 ∷ []) entry35 (λ i extra l h. entry40 extra) n g named
      (disk ch.image_after (sector_number g map_address)) ((format-bytes g k.valid img name id1 id2 ch e).map.entry 18 (omega arith)
      (omega (arith, k.many)))
