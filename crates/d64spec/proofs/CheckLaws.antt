-- Steps 2 to 4 of the check are done exactly for an accepted disk: `disk-sound`, `disk-complete`.
use Prim.Native.Nat.{ℕ, ◌+◌, ◌≤◌}
use native.Mathlib.Omega.{arith}
use mathlib.Core.Path.{◌≡◌, refl, sym, ap₂, ◌∙◌, subst}
use mathlib.Core.Bool.{Bool, true, false}
use mathlib.Core.List.{List, [], ◌∷◌, ◌++◌, map}
use lib.ListN.{length}
use lib.Dec.{eqb}
use borrow.Author.Tests.{eqb-true, eq-eqb}
use Rattle.d64spec.specs.Lists.{All, Bytes, count, equal, indicator, name_count, range}
use Rattle.d64spec.specs.Answers.{Address, bad_name, bad_type, done, duplicate_name, wrong_count}
use Rattle.d64spec.specs.Geometry.{Geometry, Valid, directory_start, map_address, sector_number, tracks}
use Rattle.d64spec.specs.Image.{Disk}
use Rattle.d64spec.specs.Chain.{directory_link, file_link, steps, to, walk}
use Rattle.d64spec.specs.Directory.{File, Slot, count_of, directory_sectors, entry_byte, file_of, files, first_link, name_of, occupied, occupied_in, valid_name, valid_type}
use Rattle.d64spec.specs.Owner.{claim_count, claim_list, claims_of, file_claims, is_free}
use Rattle.d64spec.specs.Check.{DirectoryContents, check_directory, check_disk, check_entry, check_map, check_slot, check_slots}
use Rattle.d64spec.specs.Accepted.{AcceptedDisk, MarksFree, ValidEntry}
use Rattle.d64spec.proofs.SumLaws.{indicator-le}
use Rattle.d64spec.proofs.ListLaws.{count-append, equal-refl, eq-of-equal}
use Rattle.d64spec.proofs.ResultLaws.{need-done, then-done, bind_done, done_inj, need-true}
use Rattle.d64spec.proofs.BoundLaws.{OnDisk, link_to-on, file_link-on, directory_link-on}
use Rattle.d64spec.proofs.MapLaws.{range_at, range_all, map-sound, map-complete}
use Rattle.d64spec.proofs.WalkLaws.{Walked, walk-sound, walk-complete, chain-short, chain-met}

-- ---- the slots

-- one more name, which no name before is
pub name-one : (x : Bytes) (names : List Bytes) → name_count x names ≡ 0 → (n : Bytes) → name_count n names ≤ 1 → name_count n (x ∷ names) ≤ 1
name-one x names e n h = go (equal n x) refl
  where
    go : (b : Bool) → equal n x ≡ b → indicator b + name_count n names ≤ 1
    go true t = rw (eq-of-equal n x t) (omega arith)
    go false t = omega arith

-- the name of a file
abbrev pub slot_name : File → Bytes
slot_name f = name_of f.slot.bytes

-- what an entry that passes the check says
pub record EntrySound (names : List Bytes) (s : Slot) : Type 0 where
  pub type : valid_type (entry_byte s.bytes 0x02) ≡ true
  pub name : valid_name s.bytes ≡ true
  pub new : name_count (name_of s.bytes) names ≡ 0

pub entry-sound : (names : List Bytes) (s : Slot) (x : Unit {0}) → check_entry names s ≡ done x → EntrySound names s
unfolding check_entry
entry-sound names s x e =
    let h1 = need-done (valid_type (entry_byte s.bytes 0x02)) (bad_type s.holder s.number) _ x e in
    let h2 = need-done (valid_name s.bytes) (bad_name s.holder s.number) _ x h1.1 in
    record { type = h1.0; name = h2.0; new = eqb-true _ _ (need-true (eqb (name_count (name_of s.bytes) names) 0) (duplicate_name s.holder s.number) x h2.1) }

pub entry-complete : (names : List Bytes) (s : Slot) → EntrySound names s → check_entry names s ≡ done tt
unfolding check_entry
entry-complete names s h = rw (h.type, h.name, eq-eqb (name_count (name_of s.bytes) names) 0 h.new)

module _ (g : Geometry) (d : Disk) where
  -- what a slot that passes the check says
  record SlotSound (own : List ℕ) (names : List Bytes) (s : Slot) (l : List Address) : Type 0 where
    right : ValidEntry g d (record { slot = s; sectors = l })
    new : name_count (name_of s.bytes) names ≡ 0
    once : (m : ℕ) → count m own ≤ 1 → count m (map (sector_number g) l) + count m own ≤ 1

  slot-sound : (own : List ℕ) (names : List Bytes) (s : Slot) (l : List Address) → check_slot g d own names s ≡ done l → SlotSound own names s l
  unfolding check_slot
  slot-sound own names s l e =
      let h3 = then-done (check_entry names s) _ l e in
      let h = entry-sound names s h3.0 h3.1 in
      let h4 = bind_done (walk g (file_link g) d (steps g) own s.holder s.number (first_link g d s)) _ l h3.2 in
      let h5 = need-done (eqb (count_of s.bytes) (length h4.0)) (wrong_count s.holder s.number) _ l h4.2 in
      let z : h4.0 ≡ l = done_inj h5.1 in
      let w : Walked g (file_link g) d own (first_link g d s) l = rw z at (walk-sound g (file_link g) d (steps g) own s.holder s.number (first_link g d s) h4.0 h4.1) in
      record {
        right = record { type = h.type; name = h.name; chain = w.chain; sector_count = eqb-true _ _ (rw z at h5.0) };
        new = h.new;
        once = w.once;
      }

  -- what slots that pass the check say
  pub record SlotsSound (own : List ℕ) (names : List Bytes) (ss : List Slot) (fs : List File) : Type 0 where
    pub files : fs ≡ map (file_of g d) ss
    pub right : All (ValidEntry g d) fs
    pub once : (m : ℕ) → count m (file_claims g fs) + count m own ≤ 1
    pub differ : (n : Bytes) → name_count n names ≤ 1 → name_count n (map slot_name fs) + name_count n names ≤ 1

  pub first_link-on : (s : Slot) → OnDisk g (first_link g d s)
  unfolding first_link
  first_link-on s = link_to-on g (entry_byte s.bytes 0x03) (entry_byte s.bytes 0x04)

  -- the sectors that a slot's check gives are those of its file
  pub slot-met : (own : List ℕ) (names : List Bytes) (s : Slot) (l : List Address) → ((m : ℕ) → count m own ≤ 1) → check_slot g d own names s ≡ done l → (file_of g d s).sectors ≡ l
  unfolding file_of
  slot-met own names s l u e =
      let w = slot-sound own names s l e in
      chain-met g (file_link g) d (file_link-on g) (first_link g d s) l (first_link-on s) w.right.chain (λ m. omega (arith, w.once m (u m)))

  pub slots-sound : (own : List ℕ) (names : List Bytes) (ss : List Slot) (fs : List File) → ((m : ℕ) → count m own ≤ 1)
      → check_slots g d own names ss ≡ done fs → SlotsSound own names ss fs
  unfolding file_of
  slots-sound own names [] fs u e = rw (← (done_inj e)) (record { files = refl; right = tt; once = λ m. omega (arith, u m); differ = λ n h. omega arith })
  slots-sound own names (s ∷ ss) fs u e =
      let h1 = bind_done (check_slot g d own names s) _ fs e in
      let l : List Address = h1.0 in
      let w = slot-sound own names s l h1.1 in
      let u' : (m : ℕ) → count m (map (sector_number g) l ++ own) ≤ 1 = λ m. omega (arith, count-append m (map (sector_number g) l) own, w.once m (u m)) in
      let h2 = bind_done (check_slots g d (map (sector_number g) l ++ own) (name_of s.bytes ∷ names) ss) _ fs h1.2 in
      let r = slots-sound (map (sector_number g) l ++ own) (name_of s.bytes ∷ names) ss h2.0 u' h2.1 in
      let met : (file_of g d s).sectors ≡ l = slot-met own names s l u h1.1 in
      rw (← (done_inj h2.2)) (record {
        files = ap₂ (λ (a : List Address) (b : List File). record { slot = s; sectors = a } ∷ b) (sym met) r.files;
        right = (w.right, r.right);
        once = λ m. omega (arith, r.once m, count-append m (map (sector_number g) l) own, count-append m (map (sector_number g) l) (file_claims g h2.0));
        differ = λ n h. omega (arith, r.differ n (name-one (name_of s.bytes) names w.new n h));
      })

  slot-complete : (own : List ℕ) (names : List Bytes) (s : Slot) (l : List Address) → ValidEntry g d (record { slot = s; sectors = l })
      → name_count (name_of s.bytes) names ≡ 0 → ((m : ℕ) → count m (map (sector_number g) l) + count m own ≤ 1) → check_slot g d own names s ≡ done l
  unfolding check_slot
  slot-complete own names s l r e o =
      let short = chain-short g (file_link g) d (file_link-on g) (first_link g d s) l (first_link-on s) r.chain (λ m. omega (arith, o m)) in
      rw (entry-complete names s (record { type = r.type; name = r.name; new = e }))
      (rw (walk-complete g (file_link g) d (steps g) own s.holder s.number (first_link g d s) l r.chain o (omega arith))
      (rw (eq-eqb (count_of s.bytes) (length l) r.sector_count)))

  slots-complete : (own : List ℕ) (names : List Bytes) (ss : List Slot) → All (ValidEntry g d) (map (file_of g d) ss)
      → ((m : ℕ) → count m (file_claims g (map (file_of g d) ss)) + count m own ≤ 1)
      → ((n : Bytes) → name_count n (map slot_name (map (file_of g d) ss)) + name_count n names ≤ 1)
      → check_slots g d own names ss ≡ done (map (file_of g d) ss)
  unfolding file_of
  slots-complete own names [] r o u = refl
  slots-complete own names (s ∷ ss) r o u =
      let f : File = file_of g d s in
      let c : (m : ℕ) → count m (map (sector_number g) f.sectors ++ own) ≡ count m (map (sector_number g) f.sectors) + count m own = λ m. count-append m (map (sector_number g) f.sectors) own in
      let c' : (m : ℕ) → count m (file_claims g (f ∷ map (file_of g d) ss)) ≡ count m (map (sector_number g) f.sectors) + count m (file_claims g (map (file_of g d) ss))
      = λ m. count-append m (map (sector_number g) f.sectors) (file_claims g (map (file_of g d) ss)) in
      let self : indicator (equal (name_of s.bytes) (name_of s.bytes)) ≡ 1 = rw (equal-refl (name_of s.bytes)) in
      rw (slot-complete own names s f.sectors r.0 (omega (arith, u (name_of s.bytes))) (λ m. omega (arith, o m, c' m)))
      (rw (slots-complete (map (sector_number g) f.sectors ++ own) (name_of s.bytes ∷ names) ss r.1 (λ m. omega (arith, o m, c m, c' m)) (λ n. omega (arith, u n))))

-- ---- the whole

module _ (g : Geometry) (v : Valid g) (d : Disk) where
  -- the directory and the files, read with no check
  abbrev pub contents : DirectoryContents
  contents = record { walked = directory_sectors g d; found = files g d }

  -- the claims before the files'
  abbrev base : List Address → List ℕ
  base ds = sector_number g map_address ∷ map (sector_number g) ds

  -- the occupied slots of these directory sectors
  abbrev slots_of : List Address → List Slot
  slots_of ds = occupied_in g d ds

  -- a sector that these claims leave free
  abbrev free_by : List Address → List File → Address → Bool
  free_by ds fs r = eqb (count (sector_number g r) (claims_of g ds fs)) 0

  base-once : (ds : List Address) → Walked g (directory_link g) d (sector_number g map_address ∷ []) (to directory_start) ds → (m : ℕ) → count m (base ds) ≤ 1
  base-once ds w m = omega (arith, w.once m (omega (arith, indicator-le (eqb m (sector_number g map_address)))))

  directory-met : (ds : List Address) → Walked g (directory_link g) d (sector_number g map_address ∷ []) (to directory_start) ds → directory_sectors g d ≡ ds
  unfolding directory_sectors
  directory-met ds w = chain-met g (directory_link g) d (directory_link-on g) (to directory_start) ds v.directory w.chain (λ m. omega (arith, base-once ds w m))

  pub claims-are : (m : ℕ) → claim_count g d m ≡ count m (base (directory_sectors g d)) + count m (file_claims g (files g d))
  unfolding claim_count claim_list claims_of
  claims-are m = omega (arith, count-append m (map (sector_number g) (directory_sectors g d)) (file_claims g (files g d)))

  at-files : Walked g (directory_link g) d (sector_number g map_address ∷ []) (to directory_start) (directory_sectors g d) → SlotsSound g d (base (directory_sectors g d)) [] (occupied g d) (files g d)
      → (x : Unit {0}) → check_map g d (is_free g d) (range 1 (tracks g)) ≡ done x → AcceptedDisk g d
  at-files w r x e =
      let u : (m : ℕ) → claim_count g d m ≤ 1 = λ m. omega (arith, claims-are m, r.once m) in
      record {
        directory = w.chain;
        entry = r.right;
        names = λ n. omega (arith, r.differ n (omega arith));
        once = u;
        marks = λ t l h. range_at (MarksFree g d) 1 (tracks g) (map-sound g v d u (range 1 (tracks g)) x e) t l (omega arith);
      }

  at-directory : Walked g (directory_link g) d (sector_number g map_address ∷ []) (to directory_start) (directory_sectors g d) → (fs : List File)
      → check_slots g d (base (directory_sectors g d)) [] (slots_of (directory_sectors g d)) ≡ done fs
      → (x : Unit {0}) → check_map g d (free_by (directory_sectors g d) fs) (range 1 (tracks g)) ≡ done x → AcceptedDisk g d × (fs ≡ files g d)
  unfolding files occupied claim_count claim_list
  at-directory w fs s x e =
      let r = slots-sound g d (base (directory_sectors g d)) [] (slots_of (directory_sectors g d)) fs (base-once (directory_sectors g d) w) s in
      let z : fs ≡ files g d = r.files in
      (at-files w (rw z at r) x (subst (λ (f : List File). check_map g d (free_by (directory_sectors g d) f) (range 1 (tracks g)) ≡ done x) z e), z)

  assemble : (ds : List Address) → directory_sectors g d ≡ ds → Walked g (directory_link g) d (sector_number g map_address ∷ []) (to directory_start) ds → (fs : List File)
      → check_slots g d (base ds) [] (slots_of ds) ≡ done fs
      → (x : Unit {0}) → check_map g d (free_by ds fs) (range 1 (tracks g)) ≡ done x → AcceptedDisk g d × (fs ≡ files g d)
  assemble ds z =
      subst (λ (ds : List Address). Walked g (directory_link g) d (sector_number g map_address ∷ []) (to directory_start) ds → (fs : List File)
      → check_slots g d (base ds) [] (slots_of ds) ≡ done fs
      → (x : Unit {0}) → check_map g d (free_by ds fs) (range 1 (tracks g)) ≡ done x → AcceptedDisk g d × (fs ≡ files g d)) z at-directory

  pub disk-sound : (c : DirectoryContents) → check_disk g d ≡ done c → AcceptedDisk g d × (contents ≡ c)
  unfolding check_disk check_directory
  disk-sound c e =
      let h1 = bind_done (walk g (directory_link g) d (steps g) (sector_number g map_address ∷ []) map_address 255 (to directory_start)) _ c e in
      let ds : List Address = h1.0 in
      let w = walk-sound g (directory_link g) d (steps g) (sector_number g map_address ∷ []) map_address 255 (to directory_start) ds h1.1 in
      let h2 = bind_done (check_slots g d (base ds) [] (slots_of ds)) _ c h1.2 in
      let fs : List File = h2.0 in
      let h3 = then-done (check_map g d (free_by ds fs) (range 1 (tracks g))) _ c h2.2 in
      let r = assemble ds (directory-met ds w) w fs h2.1 h3.0 h3.1 in
      (r.0, ap₂ (λ (a : List Address) (b : List File). record { walked = a; found = b }) (directory-met ds w) (sym r.1) ∙ done_inj h3.2)

  pub disk-complete : AcceptedDisk g d → check_disk g d ≡ done contents
  unfolding check_disk check_directory files occupied claim_count claim_list
  disk-complete a =
      let o : (m : ℕ) → count m (file_claims g (files g d)) + count m (base (directory_sectors g d)) ≤ 1 = λ m. omega (arith, claims-are m, a.once m) in
      let short = chain-short g (directory_link g) d (directory_link-on g) (to directory_start) (directory_sectors g d) v.directory a.directory (λ m. omega (arith, o m)) in
      rw (walk-complete g (directory_link g) d (steps g) (sector_number g map_address ∷ []) map_address 255 (to directory_start) (directory_sectors g d) a.directory (λ m. omega (arith, o m)) (omega arith))
      (rw (slots-complete g d (base (directory_sectors g d)) [] (slots_of (directory_sectors g d)) a.entry o (λ n. omega (arith, a.names n)))
      (rw (map-complete g v d a.once (range 1 (tracks g)) (range_all (MarksFree g d) 1 (tracks g) (λ t l h. a.marks t l (omega arith))))))
