-- The bytes of the map's sector: those in no track's entry, and those in the entry of a track whose sectors keep their owners, are as they were.
-- In order: entries are bytes; bytes outside them; the entry that a byte is in; a disk whose map is written, byte by byte.
use Prim.Native.Nat.{ℕ, zero, suc, ◌+◌, ◌*◌, ◌-◌, ◌≤◌, ◌<◌}
use native.Mathlib.Omega.{arith}
use native.Mathlib.Decide.{dec_le}
use mathlib.Core.Path.{◌≡◌, refl, sym, ap, ◌∙◌, subst}
use mathlib.Core.Bool.{Bool, true, false}
use mathlib.Core.Logic.{◌⊎◌, inl, inr, ⊎_elim}
use mathlib.Core.List.{List, map}
use lib.ListN.{length, get_or}
use lib.Dec.{eqb}
use borrow.Author.Tests.{eqb-true, eqb-false}
use Rattle.d64spec.specs.Lists.{Bytes, byte, count, range, splice}
use Rattle.d64spec.specs.Answers.{Address, address}
use Rattle.d64spec.specs.Geometry.{Geometry, Valid, map_address, sector_number, sectors_on, tracks}
use Rattle.d64spec.specs.Image.{Disk}
use Rattle.d64spec.specs.Owner.{Among, claim_count, is_free}
use Rattle.d64spec.specs.Map.{bitmap_byte, expected_bit, expected_entry, map_bit, rewrite_map, with_entries}
use Rattle.d64spec.specs.Accepted.{AcceptedDisk}
use Rattle.d64spec.specs.Changes.{InEntryOf, OtherBits}
use Rattle.d64spec.proofs.SumLaws.{sum-map-le}
use Rattle.d64spec.proofs.BitLaws.{binary-lt}
use Rattle.d64spec.proofs.ListLaws.{zero-of-none}
use Rattle.d64spec.proofs.MapLaws.{sum-of-mark}
use Rattle.d64spec.proofs.BoundLaws.{sector_number-lt, map_on}
use Rattle.d64spec.proofs.SpliceLaws.{splice-before, splice-in, splice-after}
use Rattle.d64spec.proofs.FrameLaws.{Sound}
use Rattle.d64spec.proofs.ImageLaws.{Whole, put_same}
use Rattle.d64spec.proofs.MapWriteLaws.{expected-le, entry_length, written-length, rewrite-other, rewrite-claims, rewrite-past, rewrite-accepted}
use Rattle.d64spec.proofs.MapEntryLaws.{same-entry}

-- byte i is not in the entry of track t
abbrev pub Beside : Geometry → ℕ → ℕ → Type 0
Beside g i t = (i < g.map_at t) ⊎ (g.map_at t + 4 ≤ i)

-- ---- entries are bytes

module _ (g : Geometry) (v : Valid g) (free : Address → Bool) (old : Bytes) where
  bitmap-small : (t j : ℕ) → bitmap_byte g free old t j < 256
  unfolding bitmap_byte
  bitmap-small t j = binary-lt (λ i. expected_bit g free old t (8 * j + i)) (λ i. expected-le g v free old t (8 * j + i)) 8

  entry-small : (t i : ℕ) → get_or (expected_entry g free old t) i 0 < 256
  unfolding expected_entry
  entry-small t zero = omega (arith, sum-map-le (expected_bit g free old t) (expected-le g v free old t) 0 (sectors_on g t), v.small t)
  entry-small t (suc zero) = bitmap-small t 0
  entry-small t (suc (suc zero)) = bitmap-small t 1
  entry-small t (suc (suc (suc zero))) = bitmap-small t 2
  entry-small t (suc (suc (suc (suc i)))) = omega arith

  written_small : length old ≡ 256 → ((i : ℕ) → byte old i < 256) → (a n : ℕ) → 1 ≤ a → a + n ≤ tracks g + 1 → (i : ℕ)
      → byte (with_entries g free old (range a n)) i < 256
  written_small e s a zero p q i = s i
  written_small e s a (suc n) p q i =
      let w : Bytes = with_entries g free old (range (suc a) n) in
      let b : Bytes = expected_entry g free old a in
      let fits : g.map_at a + length b ≤ length w
      = omega (arith, entry_length g v free old a, v.map_fits a p (omega arith), written-length g v free old e (suc a) n (omega arith) (omega arith)) in
      let ih : byte w i < 256 = written_small e s (suc a) n (omega arith) (omega arith) i in
      elim (dec_le (g.map_at a) i) [
        | yes h ↦ elim (dec_le (g.map_at a + 4) i) [
          | yes k ↦ omega (arith, splice-after w (g.map_at a) b fits i (omega (arith, entry_length g v free old a)))
          | no k ↦
              let z : g.map_at a + (i - g.map_at a) ≡ i = omega arith in
              subst (λ (x : ℕ). byte (splice w (g.map_at a) b) x < 256) z
              (omega (arith, splice-in w (g.map_at a) b fits (i - g.map_at a) (omega (arith, entry_length g v free old a)), entry-small a (i - g.map_at a)))
        ]
        | no h ↦ omega (arith, splice-before w (g.map_at a) b fits i (omega arith))
      ]

  -- a byte in no track's entry
  written-other : length old ≡ 256 → (a n : ℕ) → 1 ≤ a → a + n ≤ tracks g + 1 → (i : ℕ)
      → ((t : ℕ) → a ≤ t → t < a + n → Beside g i t) → byte (with_entries g free old (range a n)) i ≡ byte old i
  written-other e a zero p q i h = refl
  written-other e a (suc n) p q i h =
      let w : Bytes = with_entries g free old (range (suc a) n) in
      let b : Bytes = expected_entry g free old a in
      let fits : g.map_at a + length b ≤ length w
      = omega (arith, entry_length g v free old a, v.map_fits a p (omega arith), written-length g v free old e (suc a) n (omega arith) (omega arith)) in
      let ih : byte w i ≡ byte old i = written-other e (suc a) n (omega arith) (omega arith) i (λ t l u. h t (omega arith) (omega arith)) in
      ⊎_elim
      (λ c. splice-before w (g.map_at a) b fits i c ∙ ih)
      (λ c. splice-after w (g.map_at a) b fits i (omega (arith, entry_length g v free old a)) ∙ ih)
      (h a (omega arith) (omega arith))

pub map_other : (g : Geometry) → Valid g → (d : Disk) → length (d (sector_number g map_address)) ≡ 256 → (i : ℕ)
    → ((t : ℕ) → 1 ≤ t → t ≤ tracks g → Beside g i t) → byte (rewrite_map g d (sector_number g map_address)) i ≡ byte (d (sector_number g map_address)) i
unfolding rewrite_map
map_other g v d e i h =
    ap (λ (x : Bytes). byte x i) (put_same d (sector_number g map_address) (with_entries g (is_free g d) (d (sector_number g map_address)) (range 1 (tracks g))))
    ∙ written-other g v (is_free g d) (d (sector_number g map_address)) e 1 (tracks g) (omega arith) (omega arith) i (λ t l u. h t l (omega arith))

rewrite-small : (g : Geometry) → Valid g → (d : Disk) → length (d (sector_number g map_address)) ≡ 256 → ((i : ℕ) → byte (d (sector_number g map_address)) i < 256) → (i : ℕ) → byte (rewrite_map g d (sector_number g map_address)) i < 256
unfolding rewrite_map
rewrite-small g v d e s i =
    rw (put_same d (sector_number g map_address) (with_entries g (is_free g d) (d (sector_number g map_address)) (range 1 (tracks g)))) (written_small g v (is_free g d) (d (sector_number g map_address)) e s 1 (tracks g) (omega arith) (omega arith) i)

-- ---- the entry that a byte is in

-- the track, one of the first n, whose entry byte i is in
record Entry (g : Geometry) (i n : ℕ) : Type 0 where
  track : ℕ
  first : 1 ≤ track
  last : track ≤ n
  low : g.map_at track ≤ i
  high : i ≤ g.map_at track + 3

find-entry : (g : Geometry) (i n : ℕ) → Entry g i n ⊎ ((t : ℕ) → 1 ≤ t → t ≤ n → Beside g i t)
find-entry g i zero = inr (λ t l u. absurd (omega arith))
find-entry g i (suc n) =
    elim (dec_le (g.map_at (suc n)) i) [
      | yes h ↦ elim (dec_le (g.map_at (suc n) + 4) i) [
        | yes k ↦ further (inr k) (find-entry g i n)
        | no k ↦ inl (record { track = suc n; first = omega arith; last = omega arith; low = h; high = omega arith })
      ]
      | no h ↦ further (inl (omega arith)) (find-entry g i n)
    ]
  where
    further : Beside g i (suc n) → Entry g i n ⊎ ((t : ℕ) → 1 ≤ t → t ≤ n → Beside g i t) → Entry g i (suc n) ⊎ ((t : ℕ) → 1 ≤ t → t ≤ suc n → Beside g i t)
    further c (inl e) = inl (record { track = e.track; first = e.first; last = omega arith; low = e.low; high = e.high })
    further c (inr f) = inr (λ t l u. elim (dec_le t n) [ yes m ↦ f t l m | no m ↦ let z : t ≡ suc n = omega arith in rw z c ])

-- ---- a disk whose map is written

-- what a call has made of the disk d before it writes the map: a sound disk where these sectors alone have other owners than before
pub record Prepared (g : Geometry) (d d2 : Disk) (l : List Address) : Type 0 where
  pub whole : Whole g d2
  pub sound : Sound g d2
  pub unmapped : d2 (sector_number g map_address) ≡ d (sector_number g map_address)
  pub owners : (n : ℕ) → count n (map (sector_number g) l) ≡ 0 → claim_count g d n ≡ claim_count g d2 n

module _ (g : Geometry) (v : Valid g) (d d2 : Disk) (l : List Address) (a : AcceptedDisk g d) (p : Prepared g d d2 l) where
  -- the number of 18/0
  abbrev m : ℕ
  m = sector_number g map_address

  full2 : length (d2 m) ≡ 256
  full2 = p.whole.full m (sector_number-lt g map_address (map_on g v.directory))

  after : AcceptedDisk g (rewrite_map g d2)
  after = rewrite-accepted g v d2 p.whole p.sound

  same-owner : (n : ℕ) → (Among g n l → ⊥) → claim_count g d n ≡ claim_count g (rewrite_map g d2) n
  same-owner n out = p.owners n (zero-of-none (count n (map (sector_number g) l)) out) ∙ sym (rewrite-claims g v d2 p.whole p.sound n)

  -- a bit that is not that of one of these sectors, and every bit past a track's last sector
  pub rewritten-bits : OtherBits g l d (rewrite_map g d2)
  rewritten-bits t s low high b out = elim (dec_le (sectors_on g t) s) [
    | yes k ↦ rewrite-past g v d2 p.whole p.sound t s low high k b ∙ ap (λ (x : Bytes). map_bit g x t s) p.unmapped
    | no k ↦
        let on : s < sectors_on g t = omega arith in
        let was = sum-of-mark g v d a.once t s ((a.marks t low high).free s on) in
        let is = sum-of-mark g v (rewrite_map g d2) after.once t s ((after.marks t low high).free s on) in
        omega (arith, same-owner (sector_number g (address t s)) (out on))
  ]

  module _ (small : (i : ℕ) → byte (d m) i < 256) where
    -- a byte of 18/0 that is in the entry of no track with one of these sectors
    map-rest : (i : ℕ) → (InEntryOf g l m i → ⊥) → byte (rewrite_map g d2 m) i ≡ byte (d m) i
    map-rest i out = ⊎_elim at-track (λ f. map_other g v d2 full2 i f ∙ ap (λ (x : Bytes). byte x i) p.unmapped) (find-entry g i (tracks g))
      where
        at-track : Entry g i (tracks g) → byte (rewrite_map g d2 m) i ≡ byte (d m) i
        at-track e =
            let t : ℕ = e.track in
            let z : g.map_at t + (i - g.map_at t) ≡ i = omega arith in
            let bits : (s : ℕ) → s < 24 → map_bit g (rewrite_map g d2 m) t s ≡ map_bit g (d m) t s
            = λ s b. rewritten-bits t s e.first e.last b
            (λ on k. out (record { holder = refl; track = t; sector = s; on = on; among = k; low = e.low; high = e.high })) in
            subst (λ (x : ℕ). byte (rewrite_map g d2 m) x ≡ byte (d m) x) z
            (same-entry g v (rewrite_map g d2 m) (d m) t (rewrite-small g v d2 full2 (λ k. rw p.unmapped (small k))) small bits
            (after.marks t e.first e.last).free_count (a.marks t e.first e.last).free_count (i - g.map_at t) (omega arith))

    -- a byte that was left before the map is written, and is in no such entry, is as it was
    pub rewritten-rest : (n i : ℕ) → (InEntryOf g l n i → ⊥) → byte (d2 n) i ≡ byte (d n) i → byte (rewrite_map g d2 n) i ≡ byte (d n) i
    rewritten-rest n i out left = go (eqb n m) refl
      where
        go : (c : Bool) → eqb n m ≡ c → byte (rewrite_map g d2 n) i ≡ byte (d n) i
        go true t =
            let z : n ≡ m = eqb-true n m t in subst (λ (x : ℕ). (InEntryOf g l x i → ⊥) → byte (rewrite_map g d2 x) i ≡ byte (d x) i) (sym z) (map-rest i) out
        go false t = ap (λ (x : Bytes). byte x i) (rewrite-other g d2 n (eqb-false n m t)) ∙ left
