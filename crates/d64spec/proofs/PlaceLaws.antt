-- The place of every refusal is a sector of the disk, or none, and three bytes hold it (01, Answer numbers).
use Prim.Native.Nat.{ℕ, zero, suc, ◌*◌, ◌/◌, ◌≤◌, ◌<◌}
use native.Mathlib.Omega.{arith}
use native.Mathlib.Decide.{dec_le}
use mathlib.Core.Path.{◌≡◌, refl, sym, ap, ◌∙◌}
use mathlib.Core.Bool.{Bool, true, not}
use mathlib.Core.List.{List, [], ◌∷◌, ◌++◌, map, Memᴰ}
use lib.ListN.{length, get_or, get_or-eq_default}
use lib.Dec.{eqb}
use borrow.Author.Tests.{ltb-true, lt-ltb}
use Rattle.d64spec.specs.Lists.{All, Bytes, count, range}
use Rattle.d64spec.specs.Answers.{Address, Fault, answer_of, done, placed, unplaced, wrong_count}
use Rattle.d64spec.specs.Geometry.{Geometry, Valid, directory_start, map_address, on_disk, sector_number, sectors_on, tracks}
use Rattle.d64spec.specs.Image.{Disk}
use Rattle.d64spec.specs.Chain.{directory_link, file_link, steps, to, walk}
use Rattle.d64spec.specs.Directory.{Slot, count_of, first_link, is_empty, name_of, occupied_in, slots_from}
use Rattle.d64spec.specs.Owner.{claims_of}
use Rattle.d64spec.specs.Map.{entry_correct, lowest_wrong, wrong_bits}
use Rattle.d64spec.specs.Check.{check_directory, check_disk, check_entry, check_map, check_slot, check_slots}
use Rattle.d64spec.specs.Facts.{AnswerFits}
use Rattle.d64spec.proofs.MapLaws.{wrong_first}
use Rattle.d64spec.proofs.BoundLaws.{directory_link-on, file_link-on, map_on}
use Rattle.d64spec.proofs.WalkLaws.{Walked, walk-sound}
use Rattle.d64spec.proofs.MapLaws.{range_all}
use Rattle.d64spec.proofs.CheckLaws.{first_link-on}
use Rattle.d64spec.proofs.SplitLaws.{mem-filter}
use Rattle.d64spec.proofs.OutcomeLaws.{Refusals, OfEntry, bind-outcome, then-outcome, need-outcome, walk-refusals, entry-refusals}
use Rattle.d64spec.proofs.ListingLaws.{On18, chain-18, slots_length}
use Rattle.d64spec.proofs.SlotBounds.{mem-at, slots-checked, slots-numbered}

-- ---- lists

module _ {A : Type 0} (P : A → Type 0) where
  pub all-of-mem : (l : List A) → ((x : A) → Memᴰ x l → P x) → All P l
  all-of-mem [] f = tt
  all-of-mem (x ∷ l) f = (f x (Memᴰ.head refl), all-of-mem l (λ y m. f y (Memᴰ.tail m)))

  pub all-at : (l : List A) → All P l → (i : ℕ) (z : A) → i < length l → P (get_or l i z)
  all-at [] a i z h = absurd (omega arith)
  all-at (x ∷ l) a zero z h = a.0
  all-at (x ∷ l) a (suc i) z h = all-at l a.1 i z (omega arith)

-- ---- places

-- a refusal's answer fits
abbrev pub FaultFits : Fault → Type 0
FaultFits f = AnswerFits (answer_of f)

-- an answer without a place
pub plain_fits : (n : ℕ) → n ≤ 17 → AnswerFits (unplaced n)
plain_fits n h = record { number = h; track = omega arith; sector = omega arith; slot = omega arith }

-- a track that has a sector is one of the tracks
track-le : (g : Geometry) (r : Address) → on_disk g r ≡ true → r.track ≤ tracks g
unfolding on_disk sectors_on tracks
track-le g r h =
    let s : r.sector < get_or (0 ∷ g.counts) r.track 0 = ltb-true r.sector (get_or (0 ∷ g.counts) r.track 0) h in
    elim (dec_le r.track (length g.counts)) [
      | yes k ↦ k
      | no k ↦ absurd (omega (arith, get_or-eq_default (0 ∷ g.counts) 0 {n = r.track} (omega arith)))
    ]

sector-lt : (g : Geometry) → Valid g → (r : Address) → on_disk g r ≡ true → r.sector < 24
unfolding on_disk
sector-lt g v r h = omega (arith, v.small r.track, ltb-true r.sector (sectors_on g r.track) h)

-- what the place of a wrong map entry names fits a byte: one of the track's sectors, or 255
lowest-small : (g : Geometry) → Valid g → (free : Address → Bool) (m : Bytes) (t : ℕ) → lowest_wrong g free m t < 256
lowest-small g v free m t = go (wrong_bits g free m t) refl
  where
    go : (l : List ℕ) → wrong_bits g free m t ≡ l → get_or l 0 255 < 256
    go [] e = omega arith
    go (s ∷ l) e = let low = wrong_first g free m t s l e in omega (arith, low.high, low.element, v.small t)

on-of-18 : (g : Geometry) (r : Address) → On18 g (to r) → on_disk g r ≡ true
unfolding on_disk
on-of-18 g r o = rw o.0 (lt-ltb r.sector (sectors_on g 18) o.1)

module _ (g : Geometry) (v : Valid g) (few : tracks g < 256) where
  -- an answer that names a sector of the disk
  placed-fits : (n : ℕ) (r : Address) (s : ℕ) → n ≤ 17 → on_disk g r ≡ true → s < 256 → AnswerFits (placed n r s)
  placed-fits n r s h o b = record { number = h; track = omega (arith, track-le g r o); sector = omega (arith, sector-lt g v r o); slot = b }

  -- the walk's refusals
  chain_fits : (slot : ℕ) → slot < 256 → (r : Address) → on_disk g r ≡ true → AnswerFits (placed 2 r slot) × AnswerFits (placed 3 r slot)
  chain_fits slot b r o = (placed-fits 2 r slot (omega arith) o b, placed-fits 3 r slot (omega arith) o b)

  -- a slot that an answer can name
  pub record SlotFits (s : Slot) : Type 0 where
    pub holder : on_disk g s.holder ≡ true
    pub number : s.number < 256

  pub entry-fits : (s : Slot) → SlotFits s → OfEntry FaultFits s
  entry-fits s f = record {
    type = placed-fits 4 s.holder s.number (omega arith) f.holder f.number;
    name = placed-fits 5 s.holder s.number (omega arith) f.holder f.number;
    duplicate = placed-fits 6 s.holder s.number (omega arith) f.holder f.number;
  }

  module _ (d : Disk) where
    slot-fits : (ds : List Address) → check_directory g d ≡ done ds → (s : Slot) → Memᴰ s (slots_from g d 0 ds) → SlotFits s
    unfolding check_directory on_disk
    slot-fits ds e s m =
        let w : Walked g (directory_link g) d (sector_number g map_address ∷ []) (to directory_start) ds = walk-sound g (directory_link g) d (steps g) (sector_number g map_address ∷ []) map_address 255 (to directory_start) ds e in
        let on : All (λ r. On18 g (to r)) ds = chain-18 g d (to directory_start) ds (refl, ltb-true 1 (sectors_on g 18) v.directory) w.chain in
        let r = mem-at s m in
        let i : ℕ = r.0 in
        let b : i < 8 * length ds = omega (arith, r.1, slots_length g d 0 ds) in
        let z : s.holder ≡ get_or ds (i / 8) directory_start = ap (λ (x : Slot). x.holder) (sym r.2) ∙ (slots-numbered g d ds i s b).holder in
        record {
          holder = rw z (on-of-18 g (get_or ds (i / 8) directory_start) (all-at (λ r. On18 g (to r)) ds on (i / 8) directory_start (omega arith)));
          number = omega (arith, slots-checked g v d ds e s m, v.small 18);
        }

    -- the occupied slots of a directory that passes the check
    pub slots-fit : (ds : List Address) → check_directory g d ≡ done ds → All SlotFits (occupied_in g d ds)
    slots-fit ds e = all-of-mem SlotFits (occupied_in g d ds) (λ s m. slot-fits ds e s (mem-filter (λ s. not (is_empty s.bytes)) (slots_from g d 0 ds) m).0)

    pub check_directory-fits : Refusals FaultFits (check_directory g d)
    unfolding check_directory
    check_directory-fits =
        walk-refusals FaultFits g (directory_link g) (directory_link-on g) d 255 (chain_fits 255 (omega arith)) (steps g) (sector_number g map_address ∷ []) map_address (to directory_start) (map_on g v.directory) v.directory

    check_slot-fits : (own : List ℕ) (names : List Bytes) (s : Slot) → SlotFits s → Refusals FaultFits (check_slot g d own names s)
    unfolding check_slot
    check_slot-fits own names s f =
        then-outcome FaultFits (λ x. Unit {0}) (check_entry names s) _ (entry-refusals FaultFits names s (entry-fits s f))
        (λ x e. bind-outcome FaultFits (λ x. Unit {0}) (walk g (file_link g) d (steps g) own s.holder s.number (first_link g d s)) _
        (walk-refusals FaultFits g (file_link g) (file_link-on g) d s.number (chain_fits s.number f.number) (steps g) own s.holder (first_link g d s) f.holder (first_link-on g d s))
        (λ l e'. need-outcome FaultFits (λ x. Unit {0}) (eqb (count_of s.bytes) (length l)) (wrong_count s.holder s.number) (done l) (placed-fits 7 s.holder s.number (omega arith) f.holder f.number) (λ n. tt)))

    check_slots-fits : (own : List ℕ) (names : List Bytes) (l : List Slot) → All SlotFits l → Refusals FaultFits (check_slots g d own names l)
    check_slots-fits own names [] a = tt
    check_slots-fits own names (s ∷ l) a =
        bind-outcome FaultFits (λ x. Unit {0}) (check_slot g d own names s) _ (check_slot-fits own names s a.0)
        (λ c e. bind-outcome FaultFits (λ x. Unit {0}) (check_slots g d (map (sector_number g) c ++ own) (name_of s.bytes ∷ names) l) _ (check_slots-fits (map (sector_number g) c ++ own) (name_of s.bytes ∷ names) l a.1) (λ fs e'. tt))

    check_map-fits : (free : Address → Bool) (l : List ℕ) → All (λ t. t ≤ tracks g) l → Refusals FaultFits (check_map g d free l)
    check_map-fits free [] a = tt
    check_map-fits free (t ∷ l) a =
        need-outcome FaultFits (λ x. Unit {0}) (entry_correct g free (d (sector_number g map_address)) t) _ _
        (record { number = omega arith; track = omega (arith, a.0); sector = lowest-small g v free (d (sector_number g map_address)) t; slot = omega arith })
        (λ e. check_map-fits free l a.1)

    -- steps 2 to 4
    pub check_disk-fits : Refusals FaultFits (check_disk g d)
    unfolding check_disk
    check_disk-fits =
        bind-outcome FaultFits (λ x. Unit {0}) (check_directory g d) _ check_directory-fits
        (λ ds e. bind-outcome FaultFits (λ x. Unit {0}) (check_slots g d (sector_number g map_address ∷ map (sector_number g) ds) [] (occupied_in g d ds)) _
        (check_slots-fits (sector_number g map_address ∷ map (sector_number g) ds) [] (occupied_in g d ds) (slots-fit ds e))
        (λ fs e'. then-outcome FaultFits (λ x. Unit {0}) (check_map g d (λ r. eqb (count (sector_number g r) (claims_of g ds fs)) 0) (range 1 (tracks g))) _
        (check_map-fits (λ r. eqb (count (sector_number g r) (claims_of g ds fs)) 0) (range 1 (tracks g)) (range_all (λ t. t ≤ tracks g) 1 (tracks g) (λ t l h. omega arith)))
        (λ x e''. tt)))
