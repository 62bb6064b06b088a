-- The owner table names the owner of each sector: its entry is an owner's number exactly where that owner owns the sector.
-- In order: entries after marking; two owners of a disk have two numbers; the table of an accepted disk; 35 tracks. Computed: OwnerNumberTable.
use Prim.Native.Nat.{ℕ, zero, suc, ◌*◌, ◌≤◌, ◌<◌}
use native.Mathlib.Omega.{arith}
use native.Mathlib.Decide.{dec_le, ℕ_discrete}
use mathlib.Core.Path.{◌≡◌, refl, sym, ap, ◌∙◌, subst}
use mathlib.Core.Logic.{◌↔◌}
use mathlib.Core.List.{List, [], ◌∷◌, map, Memᴰ}
use lib.ListN.{get_or, set, length, length-set, length-replicate}
use lib.Seq.{get_or-set_same, get_or-set_other}
use lib.Dec.{eqb}
use borrow.Author.Tests.{ne_eqb, eq-eqb}
use Rattle.d64spec.specs.Lists.{Bytes, count, indicator, zeros}
use Rattle.d64spec.specs.Answers.{Address}
use Rattle.d64spec.specs.Layouts.{Known}
use Rattle.d64spec.specs.Geometry.{Geometry, Valid, sector_number, total, map_address}
use Rattle.d64spec.specs.Image.{Disk, disk}
use Rattle.d64spec.specs.Directory.{Slot, File, directory_sectors, slots_from, occupied, file_of, files}
use Rattle.d64spec.specs.Owner.{Among, Owner, Owns, claim_count, claim_list, file_claims, nobody, the_directory, the_file, the_map}
use Rattle.d64spec.specs.Accepted.{Accepted, AcceptedDisk}
use Rattle.d64spec.proofs.BoundLaws.{claims-on, map_on, sector_number-lt}
use Rattle.d64spec.proofs.ScratchLaws.{claim_count-of, of-count}
use Rattle.d64spec.proofs.SlotBounds.{mem-at, slots-numbered, slots-accepted-known}
use Rattle.d64spec.proofs.SplitLaws.{mem-filter, mem-map}
use Rattle.d64spec.proofs.ListingLaws.{slots_length}
use Rattle.d64spec.proofs.OwnerTheorem.{claims-some, count-file, map-claims, one-owner}
use Rattle.owners.specs.OwnerTable.{map_owner, directory_owner, file_owner, owner_number, OwnerOf, with_owner, with_files, map_table, directory_table, owner_table}
use Rattle.owners.proofs.TableLaws.{length-with_owner}
use Rattle.owners.proofs.ClaimLaws.{length-map_table, length-directory_table}

-- ---- entries after marking

-- a sector that is not marked keeps its entry
get_or-with_owner-other : (id n : ℕ) (l own : List ℕ) → count n l ≡ 0 → get_or (with_owner id l own) n 0 ≡ get_or own n 0
get_or-with_owner-other id n [] own h = refl
get_or-with_owner-other id n (x ∷ l) own h =
    let other : n ≡ x → ⊥ = λ e. let z : indicator (eqb n x) ≡ 1 = ap indicator (eq-eqb n x e) in omega arith in
    get_or-with_owner-other id n l (set own x id) (omega arith) ∙ get_or-set_other own x n id 0 other

-- a sector that is marked has the owner's number
get_or-with_owner-same : (id n : ℕ) (l own : List ℕ) → n < length own → 0 < count n l → get_or (with_owner id l own) n 0 ≡ id
get_or-with_owner-same id n [] own b h = absurd (omega arith)
get_or-with_owner-same id n (x ∷ l) own b h = elim (dec_le 1 (count n l)) [
  | yes k ↦ get_or-with_owner-same id n l (set own x id) (omega (arith, length-set own x id)) k
  | no k ↦
      get_or-with_owner-other id n l (set own x id) (omega arith)
      ∙ elim (ℕ_discrete n x) [
        | yes e ↦ ap (λ (i : ℕ). get_or (set own x id) i 0) e ∙ get_or-set_same own x id 0 (subst (λ (i : ℕ). i < length own) e b)
        | no e ↦ absurd (let z : indicator (eqb n x) ≡ 0 = ap indicator (ne_eqb n x e) in omega arith)
      ]
]

module _ (g : Geometry) (n : ℕ) where
  -- a sector of no file keeps its entry
  get_or-with_files-other : (fs : List File) (own : List ℕ) → count n (file_claims g fs) ≡ 0 → get_or (with_files g fs own) n 0 ≡ get_or own n 0
  get_or-with_files-other [] own h = refl
  get_or-with_files-other (f ∷ fs) own h =
      let s : List ℕ = map (sector_number g) f.sectors in
      get_or-with_files-other fs (with_owner (file_owner f.slot.number) s own) (omega (arith, count-file g n f fs))
      ∙ get_or-with_owner-other (file_owner f.slot.number) n s own (omega (arith, count-file g n f fs))

  -- a sector that one file alone claims has that file's number
  get_or-with_files-same : {f : File} (fs : List File) (own : List ℕ) → n < length own → count n (file_claims g fs) ≤ 1 → Memᴰ f fs → Among g n f.sectors
      → get_or (with_files g fs own) n 0 ≡ file_owner f.slot.number
  get_or-with_files-same {f = f} [] own b u m h = elim m [ ]
  get_or-with_files-same {f = f} (y ∷ fs) own b u (Memᴰ.head e) h =
      let s : List ℕ = map (sector_number g) y.sectors in
      let here : Among g n y.sectors = subst (λ (x : File). Among g n x.sectors) e h in
      get_or-with_files-other fs (with_owner (file_owner y.slot.number) s own) (omega (arith, count-file g n y fs))
      ∙ get_or-with_owner-same (file_owner y.slot.number) n s own b here
      ∙ ap (λ (x : File). file_owner x.slot.number) (sym e)
  get_or-with_files-same {f = f} (y ∷ fs) own b u (Memᴰ.tail m) h =
      let s : List ℕ = map (sector_number g) y.sectors in
      let id : ℕ = file_owner y.slot.number in
      get_or-with_files-same {f = f} fs (with_owner id s own) (omega (arith, length-with_owner id s own)) (omega (arith, count-file g n y fs)) m h

get_or-zeros : (t n : ℕ) → get_or (zeros t) n 0 ≡ 0
get_or-zeros zero n = refl
get_or-zeros (suc t) zero = refl
get_or-zeros (suc t) (suc n) = get_or-zeros t n

-- ---- two owners have two numbers

module _ (g : Geometry) (d : Disk) where
  -- the slot of a file is one of the directory's, and the file is that slot's
  slot-of-file : (f : File) → Memᴰ f (files g d) → Memᴰ f.slot (slots_from g d 0 (directory_sectors g d)) × (file_of g d f.slot ≡ f)
  unfolding files occupied file_of
  slot-of-file f m =
      let l : List Slot = slots_from g d 0 (directory_sectors g d) in
      let a = mem-map (file_of g d) (occupied g d) m in
      let e : a.0 ≡ f.slot = ap (λ (x : File). x.slot) a.2 in
      subst (λ (s : Slot). Memᴰ s l × (file_of g d s ≡ f)) e ((mem-filter _ l a.1).0, a.2)

  -- a slot stands at its number
  slot-at-number : (l : List Address) (z s : Slot) → Memᴰ s (slots_from g d 0 l) → get_or (slots_from g d 0 l) s.number z ≡ s
  slot-at-number l z s m =
      let r = mem-at z m in
      let b : r.0 < 8 * length l = omega (arith, r.1, slots_length g d 0 l) in
      let e : s.number ≡ r.0 = ap (λ (x : Slot). x.number) (sym r.2) ∙ (slots-numbered g d l r.0 z b).number in
      ap (λ (i : ℕ). get_or (slots_from g d 0 l) i z) e ∙ r.2

  -- TWO FILES OF A DISK HAVE TWO SLOTS
  pub file-of-slot : (f f' : File) → Memᴰ f (files g d) → Memᴰ f' (files g d) → f.slot.number ≡ f'.slot.number → f ≡ f'
  file-of-slot f f' m m' e =
      let l : List Address = directory_sectors g d in
      let a = slot-of-file f m in
      let b = slot-of-file f' m' in
      let slots : f.slot ≡ f'.slot =
      sym (slot-at-number l f.slot f.slot a.0)
      ∙ ap (λ (i : ℕ). get_or (slots_from g d 0 l) i f.slot) e
      ∙ slot-at-number l f.slot f'.slot b.0 in
      sym a.1 ∙ ap (file_of g d) slots ∙ b.1

  -- TWO OWNERS OF A DISK HAVE TWO NUMBERS
  pub owner_number-inj : (o o' : Owner) → OwnerOf g d o → OwnerOf g d o' → owner_number o ≡ owner_number o' → o ≡ o'
  owner_number-inj nobody nobody m m' e = refl
  owner_number-inj nobody the_map m m' e = absurd (omega arith)
  owner_number-inj nobody the_directory m m' e = absurd (omega arith)
  owner_number-inj nobody (the_file f) m m' e = absurd (omega arith)
  owner_number-inj the_map nobody m m' e = absurd (omega arith)
  owner_number-inj the_map the_map m m' e = refl
  owner_number-inj the_map the_directory m m' e = absurd (omega arith)
  owner_number-inj the_map (the_file f) m m' e = absurd (omega arith)
  owner_number-inj the_directory nobody m m' e = absurd (omega arith)
  owner_number-inj the_directory the_map m m' e = absurd (omega arith)
  owner_number-inj the_directory the_directory m m' e = refl
  owner_number-inj the_directory (the_file f) m m' e = absurd (omega arith)
  owner_number-inj (the_file f) nobody m m' e = absurd (omega arith)
  owner_number-inj (the_file f) the_map m m' e = absurd (omega arith)
  owner_number-inj (the_file f) the_directory m m' e = absurd (omega arith)
  owner_number-inj (the_file f) (the_file f') m m' e = ap the_file (file-of-slot f f' m m' (omega arith))

  -- who owns a sector is an owner of this disk
  owner-of-owns : (n : ℕ) (o : Owner) → Owns g d o n → OwnerOf g d o
  owner-of-owns n nobody h = tt
  owner-of-owns n the_map h = tt
  owner-of-owns n the_directory h = tt
  owner-of-owns n (the_file f) h = h.0

-- ---- the table of an accepted disk

module _ (g : Geometry) (v : Valid g) (d : Disk) where
  -- a claimed sector is on the disk
  claimed-lt : (n : ℕ) → 0 < claim_count g d n → n < total g
  unfolding claim_count
  claimed-lt n h = of-count (λ x. x < total g) (claim_list g d) (claims-on g d v) n h

  map-lt : sector_number g map_address < length (zeros (total g))
  map-lt = omega (arith, sector_number-lt g map_address (map_on g v.directory), length-replicate {A = ℕ} (total g) 0)

  module _ (n : ℕ) where
    -- the entry of a sector that no file claims is the one that the directory's walk left
    entry-of-no-file : count n (file_claims g (files g d)) ≡ 0
        → get_or (owner_table g (directory_sectors g d) (files g d)) n 0 ≡ get_or (directory_table g (directory_sectors g d)) n 0
    unfolding owner_table
    entry-of-no-file h = get_or-with_files-other g n (files g d) (directory_table g (directory_sectors g d)) h

    -- and where the directory does not either, the one before that walk
    entry-of-no-chain : count n (map (sector_number g) (directory_sectors g d)) ≡ 0 → count n (file_claims g (files g d)) ≡ 0
        → get_or (owner_table g (directory_sectors g d) (files g d)) n 0 ≡ get_or (set (zeros (total g)) (sector_number g map_address) map_owner) n 0
    unfolding directory_table map_table
    entry-of-no-chain k h = entry-of-no-file h ∙ get_or-with_owner-other directory_owner n (map (sector_number g) (directory_sectors g d)) (map_table g) k

    -- THE ENTRY OF A SECTOR IS ITS OWNER'S NUMBER
    pub entry-of-owner : claim_count g d n ≤ 1 → (o : Owner) → Owns g d o n → get_or (owner_table g (directory_sectors g d) (files g d)) n 0 ≡ owner_number o
    unfolding owner_table directory_table
    entry-of-owner once nobody h =
        let other : n ≡ sector_number g map_address → ⊥ = λ e. omega (arith, claim_count-of g d n, map-claims g d n e) in
        entry-of-no-chain (omega (arith, claim_count-of g d n)) (omega (arith, claim_count-of g d n))
        ∙ get_or-set_other (zeros (total g)) (sector_number g map_address) n map_owner 0 other
        ∙ get_or-zeros (total g) n
    entry-of-owner once the_map h =
        entry-of-no-chain (omega (arith, claim_count-of g d n, map-claims g d n h)) (omega (arith, claim_count-of g d n, map-claims g d n h))
        ∙ ap (λ (i : ℕ). get_or (set (zeros (total g)) (sector_number g map_address) map_owner) i 0) h
        ∙ get_or-set_same (zeros (total g)) (sector_number g map_address) map_owner 0 map-lt
    entry-of-owner once the_directory h =
        entry-of-no-file (omega (arith, claim_count-of g d n))
        ∙ get_or-with_owner-same directory_owner n (map (sector_number g) (directory_sectors g d)) (map_table g)
        (omega (arith, length-map_table g, claimed-lt n (omega (arith, claim_count-of g d n)))) h
    entry-of-owner once (the_file f) h =
        let some : 0 < count n (file_claims g (files g d)) = claims-some g n (files g d) h.0 h.1 in
        get_or-with_files-same g n (files g d) (directory_table g (directory_sectors g d))
        (omega (arith, length-directory_table g (directory_sectors g d), claimed-lt n (omega (arith, claim_count-of g d n))))
        (omega (arith, claim_count-of g d n)) h.0 h.1

  -- THE TABLE SAYS WHO OWNS EACH SECTOR: its entry is an owner's number exactly where that owner owns the sector
  pub table-names-owner : AcceptedDisk g d → (n : ℕ) (o : Owner) → OwnerOf g d o
      → (get_or (owner_table g (directory_sectors g d) (files g d)) n 0 ≡ owner_number o) ↔ Owns g d o n
  table-names-owner a n o m =
      let w = one-owner g d a n in
      let of-this : OwnerOf g d w.owner = owner-of-owns g d n w.owner w.owns in
      let entry : get_or (owner_table g (directory_sectors g d) (files g d)) n 0 ≡ owner_number w.owner = entry-of-owner n (a.once n) w.owner w.owns in (
        (λ e. subst (λ (x : Owner). Owns g d x n) (owner_number-inj g d w.owner o of-this m (sym entry ∙ e)) w.owns),
        entry-of-owner n (a.once n) o,
      )

-- ---- the layouts that have a number: numbers are 0 to 146

module _ {g : Geometry} (k : Known g) where
  pub owner_number-le : (img : Bytes) → Accepted g img → (o : Owner) → OwnerOf g (disk img) o → owner_number o ≤ 146
  owner_number-le img a nobody m = omega arith
  owner_number-le img a the_map m = omega arith
  owner_number-le img a the_directory m = omega arith
  owner_number-le img a (the_file f) m = omega (arith, slots-accepted-known k img a f.slot (slot-of-file g (disk img) f m).0)
