-- A file scratched, but for the map: its sectors and its slot are zeroed. The map: proofs/ScratchedLaws.
use Prim.Native.Nat.{ℕ, ◌+◌, ◌*◌, ◌≤◌, ◌<◌}
use native.Mathlib.Omega.{arith}
use mathlib.Core.Path.{◌≡◌, refl, sym, ap, ap₂, ◌∙◌}
use mathlib.Core.Bool.{Bool, true, false, cond, not}
use mathlib.Core.List.{List, [], ◌∷◌, ◌++◌, map}
use lib.ListN.{drop, length-replicate}
use lib.Dec.{eqb}
use borrow.Author.Tests.{eq-eqb, eqb-true}
use Rattle.d64spec.specs.Lists.{All, Bytes, byte, count, equal, filter, indicator, name_count, part, zeros}
use Rattle.d64spec.specs.Answers.{Address}
use Rattle.d64spec.specs.Geometry.{Geometry, Valid, directory_start, map_address, sector_number, total}
use Rattle.d64spec.specs.Image.{Disk}
use Rattle.d64spec.specs.Chain.{directory_link, file_link, steps, to}
use Rattle.d64spec.specs.Directory.{File, PlainEntry, Slot, directory_sectors, entry_byte, file_of, files, first_link, is_empty, name_of, occupied, plain_entry_of, plain_list, slots_from}
use Rattle.d64spec.specs.Owner.{Among, claim_count, claim_list, claims_of, file_claims}
use Rattle.d64spec.specs.Accepted.{ValidEntry}
use Rattle.d64spec.specs.Store.{overwrite_slot}
use Rattle.d64spec.specs.Scratch.{clear_sectors}
use Rattle.d64spec.specs.Changes.{InSlot}
use Rattle.d64spec.proofs.ListLaws.{count-append, zero-of-none, equal-refl}
use Rattle.d64spec.proofs.BoundLaws.{all_append, follow-on, file_link-on, directory_link-on, link_to-on}
use Rattle.d64spec.proofs.ChainLaws.{chain-frame}
use Rattle.d64spec.proofs.FrameLaws.{Sound, Agree, all-of-count, all_map, same-directory, same-slots, same-files, same-valid-entries, same-plain_list}
use Rattle.d64spec.proofs.ImageLaws.{Whole}
use Rattle.d64spec.proofs.SplitLaws.{Split, all-front, all_back, filter-append, map-append}
use Rattle.d64spec.proofs.MapBytes.{Prepared}
use Rattle.d64spec.proofs.SlotLaws.{with_bytes, slot_whole, slot-other, slot-link, slot-written, slot-rest, slots-written, Placed}
use Rattle.d64spec.proofs.ClearLaws.{clear-other, clear_whole}

-- the claims of files before, of one, and behind
pub claims-apart : (g : Geometry) (n : ℕ) (a b : List File) → count n (file_claims g (a ++ b)) ≡ count n (file_claims g a) + count n (file_claims g b)
claims-apart g n [] b = omega arith
claims-apart g n (f ∷ a) b =
    omega (arith, claims-apart g n a b, count-append n (map (sector_number g) f.sectors) (file_claims g (a ++ b)), count-append n (map (sector_number g) f.sectors) (file_claims g a))

pub claim_count-of : (g : Geometry) (d : Disk) (n : ℕ) → claim_count g d n ≡ indicator (eqb n (sector_number g map_address)) + count n (map (sector_number g) (directory_sectors g d)) + count n (file_claims g (files g d))
unfolding claim_count claim_list claims_of
claim_count-of g d n = omega (arith, count-append n (map (sector_number g) (directory_sectors g d)) (file_claims g (files g d)))

pub names_apart : (n : Bytes) (a b : List Bytes) → name_count n (a ++ b) ≡ name_count n a + name_count n b
names_apart n [] b = omega arith
names_apart n (x ∷ a) b = omega (arith, names_apart n a b)

pub of-count : (P : ℕ → Type 0) (l : List ℕ) → All P l → (n : ℕ) → 0 < count n l → P n
of-count P [] a n h = absurd (omega arith)
of-count P (x ∷ l) a n h = go (eqb n x) refl (λ k. of-count P l a.1 n k)
  where
    go : (b : Bool) → eqb n x ≡ b → (0 < count n l → P n) → P n
    go true t k = rw (eqb-true n x t) a.0
    go false t k = k (let z : indicator (eqb n x) ≡ 0 = rw t in omega arith)

pub directory-on : (g : Geometry) → Valid g → (d : Disk) → All (λ x. x < total g) (map (sector_number g) (directory_sectors g d))
unfolding directory_sectors
directory-on g v d = follow-on g (directory_link g) (directory_link-on g) d (steps g) (to directory_start) v.directory

-- entries of other names are kept
others : (g : Geometry) (d : Disk) (n : Bytes) (l : List File) → name_count n (map (λ f. name_of f.slot.bytes) l) ≡ 0
    → filter (λ x. not (equal n x.name)) (map (plain_entry_of g d) l) ≡ map (plain_entry_of g d) l
unfolding plain_entry_of
others g d n [] h = refl
others g d n (f ∷ l) h = go (equal n (name_of f.slot.bytes)) h (λ k. others g d n l k)
  where
    go : (b : Bool) → indicator b + name_count n (map (λ f. name_of f.slot.bytes) l) ≡ 0
        → (name_count n (map (λ f. name_of f.slot.bytes) l) ≡ 0 → filter (λ x. not (equal n x.name)) (map (plain_entry_of g d) l) ≡ map (plain_entry_of g d) l)
        → cond (not b) (plain_entry_of g d f ∷ filter (λ x. not (equal n x.name)) (map (plain_entry_of g d) l)) (filter (λ x. not (equal n x.name)) (map (plain_entry_of g d) l)) ≡ plain_entry_of g d f ∷ map (plain_entry_of g d) l
    go true e k = absurd (omega arith)
    go false e k = ap (λ (z : List PlainEntry). plain_entry_of g d f ∷ z) (k (omega arith))

-- the entry of that name is not
gone : (g : Geometry) (d : Disk) (n : Bytes) (f : File) (l : List PlainEntry) → equal n (name_of f.slot.bytes) ≡ true
    → filter (λ x. not (equal n x.name)) (plain_entry_of g d f ∷ l) ≡ filter (λ x. not (equal n x.name)) l
unfolding plain_entry_of
gone g d n f l t = rw t

-- a slot that is used
abbrev pub is_occupied : Slot → Bool
is_occupied s = not (is_empty s.bytes)

-- an occupied slot among those of the directory
pub record OccupiedSlot (g : Geometry) (d : Disk) : Type 0 where
  pub slot : Slot
  pub split : Split slot (slots_from g d 0 (directory_sectors g d))
  pub used : is_occupied slot ≡ true
  pub placed : Placed g (directory_sectors g d) slot

-- the file of such a slot scratched, but for the map
module _ (g : Geometry) (v : Valid g) (d : Disk) (w : Whole g d) (a : Sound g d) (o : OccupiedSlot g d) where
  -- the slot
  abbrev s : Slot
  s = o.slot

  -- the slots before it
  abbrev front : List Slot
  front = o.split.front

  -- the slots behind it
  abbrev back : List Slot
  back = o.split.back

  -- the file
  abbrev f : File
  f = file_of g d s

  -- its sectors, by number
  abbrev own : List ℕ
  own = map (sector_number g) f.sectors

  -- the files before it
  abbrev before : List File
  before = map (file_of g d) (filter is_occupied front)

  -- the files behind it
  abbrev behind : List File
  behind = map (file_of g d) (filter is_occupied back)

  -- without the file's sectors
  abbrev pub d1 : Disk
  d1 = clear_sectors g f.sectors d

  -- and without its slot
  abbrev pub d2 : Disk
  d2 = overwrite_slot g s.holder s.index (zeros 30) d1

  occupied-is : occupied g d ≡ filter is_occupied front ++ s ∷ filter is_occupied back
  unfolding occupied
  occupied-is = ap (filter is_occupied) o.split.whole ∙ filter-append is_occupied front (s ∷ back) ∙ ap (λ (c : Bool). filter is_occupied front ++ cond c (s ∷ filter is_occupied back) (filter is_occupied back)) o.used

  files-are : files g d ≡ before ++ f ∷ behind
  unfolding files
  files-are = ap (map (file_of g d)) occupied-is ∙ map-append (file_of g d) (filter is_occupied front) (s ∷ filter is_occupied back)

  -- who owns a sector
  claims-are : (n : ℕ) → claim_count g d n ≡ indicator (eqb n (sector_number g map_address)) + count n (map (sector_number g) (directory_sectors g d)) + count n (file_claims g before) + count n own + count n (file_claims g behind)
  unfolding claim_count claim_list claims_of
  claims-are n =
      let e : count n (file_claims g (files g d)) ≡ count n (file_claims g (before ++ f ∷ behind)) = ap (λ (x : List File). count n (file_claims g x)) files-are in
      omega (arith, count-append n (map (sector_number g) (directory_sectors g d)) (file_claims g (files g d)), claims-apart g n before (f ∷ behind), count-append n own (file_claims g behind))

  one-owner : (n : ℕ) → indicator (eqb n (sector_number g map_address)) + count n (map (sector_number g) (directory_sectors g d)) + count n (file_claims g before) + count n own + count n (file_claims g behind) ≤ 1
  one-owner n = omega (arith, claims-are n, a.once n)

  own_on : All (λ x. x < total g) own
  unfolding file_of first_link
  own_on = follow-on g (file_link g) (file_link-on g) d (steps g) (first_link g d s) (link_to-on g (entry_byte s.bytes 0x03) (entry_byte s.bytes 0x04))

  whole1 : Whole g d1
  whole1 = clear_whole g f.sectors d own_on w

  -- the directory's sectors are not the file's
  directory-alike : All (λ r. d (sector_number g r) ≡ d1 (sector_number g r)) (directory_sectors g d)
  directory-alike = all-of-count g (λ n. d n ≡ d1 n) (directory_sectors g d) (λ n h. sym (clear-other g f.sectors d n (omega (arith, one-owner n))))

  dirs1 : directory_sectors g d1 ≡ directory_sectors g d
  dirs1 = same-directory g d d1 (all_map (λ r h. ap (directory_link g) h) (directory_sectors g d) directory-alike)

  slots1 : slots_from g d1 0 (directory_sectors g d) ≡ front ++ s ∷ back
  slots1 = same-slots g d d1 0 (directory_sectors g d) directory-alike ∙ o.split.whole

  at_on : sector_number g s.holder < total g
  at_on = of-count (λ x. x < total g) (map (sector_number g) (directory_sectors g d)) (directory-on g v d) (sector_number g s.holder) o.placed.sector

  at_once : count (sector_number g s.holder) (map (sector_number g) (directory_sectors g d)) ≤ 1
  at_once = omega (arith, one-owner (sector_number g s.holder))

  whole2 : Whole g d2
  whole2 = slot_whole g d1 whole1 s.holder at_on s.index o.placed.place (zeros 30) (length-replicate {A = ℕ} 30 0)

  links2 : (n : ℕ) → directory_link g (d1 n) ≡ directory_link g (d2 n)
  links2 = slot-link g d1 whole1 s.holder at_on s.index o.placed.place (zeros 30) (length-replicate {A = ℕ} 30 0)

  all-links : (l : List Address) → All (λ r. directory_link g (d1 (sector_number g r)) ≡ directory_link g (d2 (sector_number g r))) l
  all-links [] = tt
  all-links (r ∷ l) = (links2 (sector_number g r), all-links l)

  pub dirs2 : directory_sectors g d2 ≡ directory_sectors g d
  dirs2 = same-directory g d1 d2 (all-links (directory_sectors g d1)) ∙ dirs1

  slots2 : slots_from g d2 0 (directory_sectors g d) ≡ front ++ with_bytes s (zeros 30) ∷ back
  slots2 =
      slots-written g d1 whole1 s.holder at_on s.index o.placed.place (zeros 30) (length-replicate {A = ℕ} 30 0) (directory_sectors g d) s front back slots1 refl refl at_once

  occupied2 : occupied g d2 ≡ filter is_occupied front ++ filter is_occupied back
  unfolding occupied
  occupied2 = ap (λ (l : List Address). filter is_occupied (slots_from g d2 0 l)) dirs2 ∙ ap (filter is_occupied) slots2 ∙ filter-append is_occupied front (with_bytes s (zeros 30) ∷ back)

  -- a sector that is not the directory's
  pub sector2 : (n : ℕ) → count n (map (sector_number g) (directory_sectors g d)) ≡ 0 → d2 n ≡ d1 n
  sector2 n h =
      slot-other g d1 whole1 s.holder at_on s.index o.placed.place (zeros 30) (length-replicate {A = ℕ} 30 0) n
      (λ e. let z : 0 < count n (map (sector_number g) (directory_sectors g d)) = rw e o.placed.sector in omega arith)

  -- nor the file's
  other2 : (n : ℕ) → count n own ≡ 0 → count n (map (sector_number g) (directory_sectors g d)) ≡ 0 → d n ≡ d2 n
  other2 n h k = sym (sector2 n k ∙ clear-other g f.sectors d n h)

  agree2 : Agree g d d2 (file_claims g (before ++ behind))
  agree2 n h = other2 n (omega (arith, one-owner n, claims-apart g n before behind)) (omega (arith, one-owner n, claims-apart g n before behind))

  both : map (file_of g d) (filter is_occupied front ++ filter is_occupied back) ≡ before ++ behind
  both = map-append (file_of g d) (filter is_occupied front) (filter is_occupied back)

  files2 : files g d2 ≡ before ++ behind
  unfolding files
  files2 =
      ap (map (file_of g d2)) occupied2
      ∙ same-files g d d2 (filter is_occupied front ++ filter is_occupied back) (λ n h. agree2 n (rw (← both) h))
      ∙ both

  pub claims2 : (n : ℕ) → claim_count g d2 n + count n own ≡ claim_count g d n
  claims2 n =
      omega (
        arith,
        claim_count-of g d2 n,
        claims-are n,
        claims-apart g n before behind,
        ap (λ (l : List Address). count n (map (sector_number g) l)) dirs2,
        ap (λ (l : List File). count n (file_claims g l)) files2,
      )

  -- the name of a file
  abbrev name : File → Bytes
  name x = name_of x.slot.bytes

  names-are : (n : Bytes) → name_count n (map name (before ++ f ∷ behind)) ≡ name_count n (map name before) + (indicator (equal n (name f)) + name_count n (map name behind))
  names-are n = ap (name_count n) (map-append name before (f ∷ behind)) ∙ names_apart n (map name before) (map name (f ∷ behind))

  pub sound2 : Sound g d2
  sound2 =
      let r : All (ValidEntry g d) (before ++ f ∷ behind) = rw files-are at a.entry in
      record {
        directory = rw dirs2 (chain-frame g (directory_link g) d d2 (to directory_start) (directory_sectors g d) (all_map (λ q h. ap (directory_link g) h ∙ links2 (sector_number g q)) (directory_sectors g d) directory-alike) a.directory);
        entry = rw files2 (same-valid-entries g d d2 (before ++ behind) agree2
            (all_append (ValidEntry g d) before behind (all-front (ValidEntry g d) before (f ∷ behind) r) (all_back (ValidEntry g d) before (f ∷ behind) r).1));
        names = λ n. rw files2 (omega (
          arith,
          a.names n,
          ap (λ (l : List File). name_count n (map name l)) files-are,
          names-are n,
          ap (name_count n) (map-append name before behind),
          names_apart n (map name before) (map name behind),
        ));
        once = λ n. omega (arith, claims2 n, a.once n);
      }

  plain_list2 : plain_list g d2 ≡ map (plain_entry_of g d) before ++ map (plain_entry_of g d) behind
  unfolding plain_list
  plain_list2 = ap (map (plain_entry_of g d2)) files2 ∙ same-plain_list g d d2 (before ++ behind) agree2 ∙ map-append (plain_entry_of g d) before behind

  plain_list-are : plain_list g d ≡ map (plain_entry_of g d) before ++ plain_entry_of g d f ∷ map (plain_entry_of g d) behind
  unfolding plain_list
  plain_list-are = ap (map (plain_entry_of g d)) files-are ∙ map-append (plain_entry_of g d) before (f ∷ behind)

  -- the files of other names
  pub kept-plain_list : filter (λ x. not (equal (name_of s.bytes) x.name)) (plain_list g d) ≡ plain_list g d2
  unfolding file_of
  kept-plain_list =
      let n : Bytes = name_of s.bytes in
      let self : indicator (equal n n) ≡ 1 = rw (equal-refl n) in
      let few = a.names n in
      let few' : name_count n (map name (files g d)) ≡ name_count n (map name (before ++ f ∷ behind)) = ap (λ (l : List File). name_count n (map name l)) files-are in
      ap (filter (λ x. not (equal n x.name))) plain_list-are
      ∙ filter-append (λ x. not (equal n x.name)) (map (plain_entry_of g d) before) (plain_entry_of g d f ∷ map (plain_entry_of g d) behind)
      ∙ ap₂ (λ (x y : List PlainEntry). x ++ y) (others g d n before (omega (arith, names-are n)))
      (gone g d n f (map (plain_entry_of g d) behind) (equal-refl n) ∙ others g d n behind (omega (arith, names-are n)))
      ∙ sym plain_list2

  -- ---- what is left to do, and every byte so far

  pub prepared2 : Prepared g d d2 f.sectors
  prepared2 =
      let m : ℕ = sector_number g map_address in
      let self : indicator (eqb m m) ≡ 1 = rw (eq-eqb m m refl) in
      record { whole = whole2; sound = sound2; unmapped = sym (other2 m (omega (arith, one-owner m)) (omega (arith, one-owner m))); owners = λ n h. omega (arith, claims2 n) }

  pub slot2 : part 0x02 0x1F (drop (32 * s.index) (d2 (sector_number g s.holder))) ≡ zeros 30
  slot2 = slot-written g d1 whole1 s.holder at_on s.index o.placed.place (zeros 30) (length-replicate {A = ℕ} 30 0)

  pub rest2 : (n i : ℕ) → (Among g n f.sectors → ⊥) → (InSlot g s.holder s.index n i → ⊥) → byte (d2 n) i ≡ byte (d n) i
  rest2 n i out out' =
      slot-rest g d1 whole1 s.holder at_on s.index o.placed.place (zeros 30) (length-replicate {A = ℕ} 30 0) n i out'
      ∙ ap (λ (x : Bytes). byte x i) (clear-other g f.sectors d n (zero-of-none (count n own) out))
