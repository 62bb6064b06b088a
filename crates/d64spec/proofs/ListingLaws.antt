-- The listing: never longer than 6,234 bytes, so that a buffer of that length always suffices (01, Sleeve listing).
use Prim.Native.Nat.{ℕ, zero, suc, ◌+◌, ◌*◌, ◌-◌, ◌/◌, ◌%◌, ◌≤◌, ◌<◌}
use native.Mathlib.Omega.{arith}
use mathlib.Core.Path.{◌≡◌, refl, sym, ap, ◌∙◌, subst}
use mathlib.Core.Bool.{Bool, true, false, cond, not, ◌&&◌}
use mathlib.Core.List.{List, [], ◌∷◌, ◌++◌, map}
use lib.ListN.{length, take, drop, length-append, length-take, length-map}
use lib.Dec.{eqb, ltb, leb}
use borrow.Author.Tests.{eq-eqb, ne_eqb, eqb-true, eqb-false, le-leb, ltb-true}
use Rattle.d64spec.specs.Lists.{All, Bytes, byte, count, filter, indicator, join}
use Rattle.d64spec.specs.Answers.{Address, Fault, address, answer_of, done, refused, wrong_buffer, wrong_size}
use Rattle.d64spec.specs.Layouts.{Known}
use Rattle.d64spec.specs.Geometry.{Geometry, Valid, directory_start, first_on, map_address, on_disk, sector_number, sectors_on}
use Rattle.d64spec.specs.Image.{Disk}
use Rattle.d64spec.specs.Chain.{Chain, Link, bad, decode_directory_link, directory_link, ends, link_to, steps, to, walk}
use Rattle.d64spec.specs.Directory.{Slot, is_empty, occupied_in, slots_from, slots_in}
use Rattle.d64spec.specs.Check.{check_directory}
use Rattle.d64spec.specs.Listing.{Listed, call_listing, digit, disk_of_track18, free_total, head_frame, line, list_slots, listing_text, slot_frame}
use Rattle.d64spec.proofs.ResultLaws.{need-done, then-done, bind_done, done_inj}
use Rattle.d64spec.proofs.PigeonholeLaws.{pigeon}
use Rattle.d64spec.proofs.WalkLaws.{Walked, walk-sound}
use Rattle.d64spec.proofs.BoundLaws.{directory_link-on, map_on}
use Rattle.d64spec.proofs.OutcomeLaws.{Refusals, OfEntry, bind-outcome, then-outcome, need-outcome, walk-refusals, list_slots-refusals}

-- ---- the directory stays on track 18

-- a step to a sector of track 18, if to any
abbrev pub On18 : Geometry → Link → Type 0
On18 g ends = Unit {0}
On18 g bad = Unit {0}
On18 g (to r) = (r.track ≡ 18) × (r.sector < sectors_on g 18)

link-18 : (g : Geometry) (b : Bytes) → On18 g (directory_link g b)
unfolding directory_link decode_directory_link link_to on_disk
link-18 g b = go (byte b 0) (byte b 1)
  where
    cases : (s : ℕ) (y z : Bool) → ltb s (sectors_on g 18) ≡ z → On18 g (cond y (cond z (to (address 18 s)) bad) bad)
    cases s false z e = tt
    cases s true false e = tt
    cases s true true e = (refl, ltb-true s (sectors_on g 18) e)

    go : (t s : ℕ) → On18 g (decode_directory_link g t s)
    go zero s = tt
    go (suc t) s = cases s (eqb (suc t) 18 && ltb 0 s) (ltb s (sectors_on g 18)) refl

pub chain-18 : (g : Geometry) (d : Disk) (k : Link) (l : List Address) → On18 g k → Chain g (directory_link g) d k l → All (λ r. On18 g (to r)) l
chain-18 g d k [] o c = tt
chain-18 g d k (r ∷ l) o c = (rw c.0 at o, chain-18 g d (directory_link g (d (sector_number g r))) l (link-18 g (d (sector_number g r))) c.1)

shift-eqb : (f i s : ℕ) → eqb i s ≡ eqb (f + i) (f + s)
shift-eqb f i s = go (eqb i s) refl
  where
    go : (b : Bool) → eqb i s ≡ b → eqb i s ≡ eqb (f + i) (f + s)
    go true t = t ∙ sym (eq-eqb (f + i) (f + s) (omega (arith, eqb-true i s t)))
    go false t = t ∙ sym (ne_eqb (f + i) (f + s) (λ e. eqb-false i s t (omega arith)))

-- sectors of track 18, counted by their places on it
count-18 : (g : Geometry) (i : ℕ) (l : List Address) → All (λ r. On18 g (to r)) l → count i (map (λ r. r.sector) l) ≡ count (first_on g 18 + i) (map (sector_number g) l)
unfolding sector_number
count-18 g i [] a = refl
count-18 g i (r ∷ l) a =
    let z : first_on g r.track ≡ first_on g 18 = ap (first_on g) a.0.0 in
    let y : indicator (eqb i r.sector) ≡ indicator (eqb (first_on g 18 + i) (first_on g r.track + r.sector)) = rw z (ap indicator (shift-eqb (first_on g 18) i r.sector)) in
    omega (arith, count-18 g i l a.1)

below-18 : (g : Geometry) (l : List Address) → All (λ r. On18 g (to r)) l → All (λ x. x < sectors_on g 18) (map (λ r. r.sector) l)
below-18 g [] a = tt
below-18 g (r ∷ l) a = (a.0.1, below-18 g l a.1)

-- a directory that a walk finds leaves out 18/0
pub directory-few : (g : Geometry) → Valid g → (d : Disk) (l : List Address) → Walked g (directory_link g) d (sector_number g map_address ∷ []) (to directory_start) l → 1 + length l ≤ sectors_on g 18
unfolding on_disk sector_number
directory-few g v d l w =
    let on : 1 < sectors_on g 18 = ltb-true 1 (sectors_on g 18) v.directory in
    let a : All (λ r. On18 g (to r)) l = chain-18 g d (to directory_start) l (refl, on) w.chain in
    let few : (i : ℕ) → count i (0 ∷ map (λ r. r.sector) l) ≤ 1 = λ i. once i (w.once (first_on g 18 + i)) a in
    omega (arith, pigeon (sectors_on g 18) (0 ∷ map (λ r. r.sector) l) (omega arith, below-18 g l a) few, length-map l (λ (r : Address). r.sector))
  where
    once : (i : ℕ) → (count (first_on g 18 + i) (sector_number g map_address ∷ []) ≤ 1 → count (first_on g 18 + i) (map (sector_number g) l) + count (first_on g 18 + i) (sector_number g map_address ∷ []) ≤ 1)
        → All (λ r. On18 g (to r)) l → indicator (eqb i 0) + count i (map (λ r. r.sector) l) ≤ 1
    once i h a =
        let z : indicator (eqb i 0) ≡ indicator (eqb (first_on g 18 + i) (first_on g 18 + 0)) = ap indicator (shift-eqb (first_on g 18) i 0) in
        omega (arith, count-18 g i l a, h (below (eqb (first_on g 18 + i) (first_on g 18 + 0))))
      where
        below : (b : Bool) → indicator b + 0 ≤ 1
        below true = omega arith
        below false = omega arith

-- ---- the length of the text

pub line-length : (b : Bytes) → length (line b) ≡ 2 * length b + 1
unfolding line
line-length b = length-append (join (map (λ c. digit (c / 16) ∷ digit (c % 16) ∷ []) b)) (10 ∷ []) ∙ ap (λ (n : ℕ). n + 1) (go b)
  where
    go : (b : Bytes) → length (join (map (λ c. digit (c / 16) ∷ digit (c % 16) ∷ []) b)) ≡ 2 * length b
    go [] = refl
    go (c ∷ b) = omega (arith, go b)

frame-length : (b : Bytes) → length (slot_frame b) ≤ 21
unfolding slot_frame
frame-length b = omega (arith, length-append (take 19 b) (take 2 (drop 28 b)), length-take 19 b, length-take 2 (drop 28 b))

lines-length : (ss : List Slot) → length (join (map (λ s. line (slot_frame s.bytes)) ss)) ≤ 43 * length ss
lines-length [] = omega arith
lines-length (s ∷ ss) =
    omega (arith, lines-length ss, line-length (slot_frame s.bytes), frame-length s.bytes, length-append (line (slot_frame s.bytes)) (join (map (λ s. line (slot_frame s.bytes)) ss)))

text-length : (g : Geometry) (d : Disk) (ss : List Slot) → length (listing_text g d ss) ≤ 42 + 43 * length ss
unfolding listing_text head_frame
text-length g d ss =
    let m : Bytes = d (sector_number g map_address) in
    let n : ℕ = free_total g m in
    let h : Bytes = take 16 (drop 0x90 m) ++ take 2 (drop 0xA2 m) in
    let k : Bytes = n / 256 ∷ n % 256 ∷ [] in
    let b : Bytes = join (map (λ s. line (slot_frame s.bytes)) ss) in
    omega (
      arith,
      length-append (line h) (b ++ line k),
      length-append b (line k),
      line-length h,
      line-length k,
      lines-length ss,
      length-append (take 16 (drop 0x90 m)) (take 2 (drop 0xA2 m)),
      length-take 16 (drop 0x90 m),
      length-take 2 (drop 0xA2 m),
    )

pub filter-length : {A : Type 0} (p : A → Bool) (l : List A) → length (filter p l) ≤ length l
filter-length p [] = omega arith
filter-length p (x ∷ l) = go (p x) (filter-length p l)
  where
    go : (b : Bool) → length (filter p l) ≤ length l → length (cond b (x ∷ filter p l) (filter p l)) ≤ suc (length l)
    go true h = omega arith
    go false h = omega arith

pub slots_length : (g : Geometry) (d : Disk) (n : ℕ) (l : List Address) → length (slots_from g d n l) ≡ 8 * length l
unfolding slots_in
slots_length g d n [] = refl
slots_length g d n (r ∷ l) = omega (arith, length-append (slots_in (d (sector_number g r)) r n) (slots_from g d (n + 8) l), slots_length g d (n + 8) l)

-- the most that a listing can have: 37 bytes, 43 for each of eight slots in each sector but 18/0, and 5
abbrev pub longest : Geometry → ℕ
longest g = 42 + 344 * (sectors_on g 18 - 1)

module _ (g : Geometry) (v : Valid g) (b : Bytes) where
  -- track 18's sectors
  abbrev d : Disk
  d = disk_of_track18 g b

  -- the occupied slots of these directory sectors
  abbrev slots : List Address → List Slot
  slots ds = occupied_in g d ds

  text-bound : (ds : List Address) → walk g (directory_link g) d (steps g) (sector_number g map_address ∷ []) map_address 255 (to directory_start) ≡ done ds → length (listing_text g d (slots ds)) ≤ longest g
  text-bound ds e =
      omega (arith, text-length g d (slots ds), filter-length (λ s. not (is_empty s.bytes)) (slots_from g d 0 ds), slots_length g d 0 ds, directory-few g v d ds (walk-sound g (directory_link g) d (steps g) (sector_number g map_address ∷ []) map_address 255 (to directory_start) ds e))

  -- A LISTING IS NO LONGER
  pub listing-bound : (out : Bytes) (l : Listed) → call_listing g b out ≡ done l → l.reported_length ≤ longest g
  unfolding call_listing check_directory
  listing-bound out l e =
      let h1 = need-done (eqb (length b) (256 * sectors_on g 18)) wrong_size _ l e in
      let h2 = bind_done (walk g (directory_link g) d (steps g) (sector_number g map_address ∷ []) map_address 255 (to directory_start)) _ l h1.1 in
      let h3 = then-done (list_slots [] (slots h2.0)) _ l h2.2 in
      let h4 = need-done (leb (length (listing_text g d (slots h2.0))) (length out)) wrong_buffer _ l h3.2 in
      let z : l.reported_length ≡ length (listing_text g d (slots h2.0)) = ap (λ (x : Listed). x.reported_length) (sym (done_inj h4.1)) in
      omega (arith, text-bound h2.0 h2.1)

-- ---- when the buffer is too short

-- no refusal with 16
abbrev Not16 : Fault → Type 0
Not16 f = f ≡ wrong_buffer → ⊥

never-16 : {f : Fault} (n : ℕ) → (answer_of f).number ≡ n → n < 16 → Not16 f
never-16 n e h z = let k : (answer_of wrong_buffer).number ≡ n = rw z at e in omega arith

entry-16 : (s : Slot) → OfEntry Not16 s
entry-16 s = record { type = never-16 4 refl (omega arith); name = never-16 5 refl (omega arith); duplicate = never-16 6 refl (omega arith) }

-- SO MUCH ALWAYS SUFFICES
pub listing-fits : (g : Geometry) → Valid g → (b out : Bytes) → longest g ≤ length out → call_listing g b out ≡ refused wrong_buffer → ⊥
unfolding call_listing check_directory
listing-fits g v b out h e = subst (Refusals Not16) e never refl
  where
    entries-16 : (l : List Slot) → All (OfEntry Not16) l
    entries-16 [] = tt
    entries-16 (s ∷ l) = (entry-16 s, entries-16 l)

    never : Refusals Not16 (call_listing g b out)
    never =
        need-outcome Not16 (λ x. Unit {0}) (eqb (length b) (256 * sectors_on g 18)) wrong_size _ (never-16 1 refl (omega arith))
        (λ s. bind-outcome Not16 (λ x. Unit {0}) (walk g (directory_link g) (disk_of_track18 g b) (steps g) (sector_number g map_address ∷ []) map_address 255 (to directory_start)) _
        (walk-refusals Not16 g (directory_link g) (directory_link-on g) (disk_of_track18 g b) 255 (λ r o. (never-16 2 refl (omega arith), never-16 3 refl (omega arith))) (steps g) (sector_number g map_address ∷ []) map_address (to directory_start) (map_on g v.directory) v.directory)
        (λ ds e. then-outcome Not16 (λ x. Unit {0}) (list_slots [] (slots g v b ds)) _ (list_slots-refusals Not16 [] (slots g v b ds) (entries-16 (slots g v b ds)))
        (λ x e'. rw (le-leb (length (listing_text g (disk_of_track18 g b) (slots g v b ds))) (length out) (omega (arith, text-bound g v b ds e))) tt)))

-- ---- the layouts that have a number

module _ {g : Geometry} (k : Known g) where
  longest-known : longest g ≡ 6234
  longest-known = omega (arith, k.on18)

  pub listing-6234 : (b out : Bytes) (l : Listed) → call_listing g b out ≡ done l → l.reported_length ≤ 6234
  listing-6234 b out l e = rw longest-known at (listing-bound g k.valid b out l e)

  pub buffer-6234 : (b out : Bytes) → 6234 ≤ length out → call_listing g b out ≡ refused wrong_buffer → ⊥
  buffer-6234 b out h = listing-fits g k.valid b out (rw longest-known h)
