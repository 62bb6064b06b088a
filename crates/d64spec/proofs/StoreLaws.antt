-- A file stored: in any free sectors, and wherever its entry goes.
use Prim.Native.Nat.{ℕ, ◌+◌, ◌≤◌, ◌<◌}
use native.Mathlib.Omega.{arith}
use mathlib.Core.Path.{◌≡◌, refl, sym, ap, ap₂, ◌∙◌}
use mathlib.Core.Bool.{Bool, true, false, cond, not}
use mathlib.Core.List.{List, ◌∷◌, ◌++◌, map, Perm, perm_middle, Memᴰ}
use lib.ListN.{length}
use lib.Dec.{eqb}
use borrow.Author.Tests.{eq-eqb}
use Rattle.d64spec.specs.Lists.{All, Bytes, byte, count, equal, filter, indicator, name_count}
use Rattle.d64spec.specs.Answers.{Address}
use Rattle.d64spec.specs.Geometry.{Geometry, Valid, directory_start, map_address, on_disk, sector_number}
use Rattle.d64spec.specs.Image.{Disk}
use Rattle.d64spec.specs.Chain.{Chain, chain_data, directory_link, file_link, follow, link_to, steps, to}
use Rattle.d64spec.specs.Directory.{File, PlainEntry, Slot, count_of, directory_sectors, entry_byte, file_of, files, first_link, is_empty, kind_of, name_of, occupied, plain_entry_of, plain_list, slots_from, valid_name, valid_type}
use Rattle.d64spec.specs.Owner.{Among, claim_count, file_claims}
use Rattle.d64spec.specs.Map.{rewrite_map}
use Rattle.d64spec.specs.Accepted.{ValidEntry}
use Rattle.d64spec.specs.Reply.{storable_kind, valid_name_argument}
use Rattle.d64spec.specs.Store.{SlotPlace, new_entry, write_chain}
use Rattle.d64spec.specs.Changes.{DataWritten, EntryWrites, EntryWritten, added_sectors}
use Rattle.d64spec.proofs.ListLaws.{count-append, zero-of-none, eq-of-equal}
use Rattle.d64spec.proofs.BoundLaws.{all_append, file_link-on}
use Rattle.d64spec.proofs.WalkLaws.{chain-met}
use Rattle.d64spec.proofs.FrameLaws.{Sound, Agree, same-files, same-valid-entries, same-plain_list}
use Rattle.d64spec.proofs.ImageLaws.{Whole}
use Rattle.d64spec.proofs.SplitLaws.{filter-append, map-append, all-front, all_back, mem-mid}
use Rattle.d64spec.proofs.MapWriteLaws.{rewrite-plain_list, rewrite-claims, rewrite-other, rewrite-files}
use Rattle.d64spec.proofs.MapBytes.{Prepared}
use Rattle.d64spec.proofs.ScratchLaws.{is_occupied, claim_count-of, claims-apart, names_apart}
use Rattle.d64spec.proofs.WriteChainLaws.{Fits, link-is, write_chain-other, write_chain-written, written-agree, written-chain, written-data}
use Rattle.d64spec.proofs.EntryLaws.{entry-type, entry-used, entry-kind, entry-name, entry-name-right, entry-count}

-- d2 is d1 with an entry at its place in the directory, which may have grown
pub record Entered (g : Geometry) (d d1 d2 : Disk) (entry : Bytes) (place : SlotPlace) : Type 0 where
  pub front : List Slot
  pub back : List Slot
  pub slot : Slot
  pub whole : Whole g d2
  pub directory : Chain g (directory_link g) d2 (to directory_start) (directory_sectors g d2)
  pub grown : (n : ℕ) → count n (map (sector_number g) (directory_sectors g d2)) ≡ count n (map (sector_number g) (directory_sectors g d)) + count n (map (sector_number g) (added_sectors place))
  pub slots : slots_from g d2 0 (directory_sectors g d2) ≡ front ++ slot ∷ back
  pub bytes : slot.bytes ≡ entry
  pub old : filter is_occupied front ++ filter is_occupied back ≡ occupied g d
  pub other : (n : ℕ) → count n (map (sector_number g) (directory_sectors g d2)) ≡ 0 → d2 n ≡ d1 n
  -- the entry stands there on each disk with the same directory
  pub written : (x : Disk) → ((n : ℕ) → 0 < count n (map (sector_number g) (directory_sectors g d2)) → x n ≡ d2 n) → EntryWritten g d x place entry
  pub rest : (n i : ℕ) → (EntryWrites g d place n i → ⊥) → byte (d2 n) i ≡ byte (d1 n) i

-- what a store of x in the sectors l leaves, with its entry at this place; d2 is the disk before the map is written
pub record StoreLeaves (g : Geometry) (d d2 : Disk) (place : SlotPlace) (l : List Address) (bs : Bytes) (x : PlainEntry) : Type 0 where
  pub prepared : Prepared g d d2 (added_sectors place ++ l)
  pub holds : Perm (plain_list g (rewrite_map g d2)) (x ∷ plain_list g d)
  -- each sector taken has one owner more
  pub owned : (n : ℕ) → claim_count g d2 n ≡ claim_count g d n + count n (map (sector_number g) l) + count n (map (sector_number g) (added_sectors place))
  pub claims : (n : ℕ) → claim_count g d n ≤ claim_count g (rewrite_map g d2) n
  pub kept : (n : ℕ) → claim_count g (rewrite_map g d2) n ≡ 0 → rewrite_map g d2 n ≡ d n
  pub laid : DataWritten g (rewrite_map g d2) l x.content
  pub entry : EntryWritten g d (rewrite_map g d2) place bs
  -- the file is there, under its name, in these sectors, with these bytes
  pub file : File
  pub there : Memᴰ file (files g (rewrite_map g d2))
  pub named : name_of file.slot.bytes ≡ x.name
  pub sectors : file.sectors ≡ l
  pub content : chain_data g (rewrite_map g d2) l ≡ x.content
  pub rest : (n i : ℕ) → (Among g n l → ⊥) → (EntryWrites g d place n i → ⊥) → byte (d2 n) i ≡ byte (d n) i

module _ (g : Geometry) (v : Valid g) (d : Disk) (a : Sound g d) (r : Address) (l : List Address) (on : All (λ x. on_disk g x ≡ true) (r ∷ l)) (place : SlotPlace)
    (room : (n : ℕ) → claim_count g d n + count n (map (sector_number g) (r ∷ l)) + count n (map (sector_number g) (added_sectors place)) ≤ 1)
    (bs : Bytes) (fits : Fits (r ∷ l) (length bs)) (name : Bytes) (kind : ℕ) (asked : valid_name_argument name ≡ true) (kind-asked : storable_kind kind ≡ true)
    (new : name_count name (map (λ f. name_of f.slot.bytes) (files g d)) ≡ 0)
    (d2 : Disk) (e : Entered g d (write_chain g (r ∷ l) bs d) d2 (new_entry name kind r (length (r ∷ l))) place) where
  -- the directory's new sector, by number
  abbrev extra : List ℕ
  extra = map (sector_number g) (added_sectors place)

  -- the sectors taken
  abbrev refs : List Address
  refs = r ∷ l

  -- the disk with the data laid out
  abbrev d1 : Disk
  d1 = write_chain g refs bs d

  -- the slot of the entry
  abbrev s : Slot
  s = e.slot

  -- the files before it
  abbrev before : List File
  before = map (file_of g d) (filter is_occupied e.front)

  -- the files behind it
  abbrev behind : List File
  behind = map (file_of g d) (filter is_occupied e.back)

  -- the new file
  abbrev f : File
  f = record { slot = s; sectors = refs }

  s-used : is_occupied s ≡ true
  s-used = ap (λ (x : Bytes). not (is_empty x)) e.bytes ∙ entry-used name kind r (length refs) asked kind-asked

  occupied2 : occupied g d2 ≡ filter is_occupied e.front ++ s ∷ filter is_occupied e.back
  unfolding occupied
  occupied2 = ap (filter is_occupied) e.slots ∙ filter-append is_occupied e.front (s ∷ e.back) ∙ ap (λ (c : Bool). filter is_occupied e.front ++ cond c (s ∷ filter is_occupied e.back) (filter is_occupied e.back)) s-used

  files-are : files g d ≡ before ++ behind
  unfolding files
  files-are = ap (map (file_of g d)) (sym e.old) ∙ map-append (file_of g d) (filter is_occupied e.front) (filter is_occupied e.back)

  claims-are : (n : ℕ) → claim_count g d n ≡ indicator (eqb n (sector_number g map_address)) + count n (map (sector_number g) (directory_sectors g d)) + count n (file_claims g (before ++ behind))
  claims-are n = claim_count-of g d n ∙ ap (λ (x : List File). indicator (eqb n (sector_number g map_address)) + count n (map (sector_number g) (directory_sectors g d)) + count n (file_claims g x)) files-are

  agree2 : Agree g d d2 (file_claims g (before ++ behind))
  agree2 n h = sym (e.other n (omega (arith, e.grown n, room n, claims-are n)) ∙ write_chain-other g refs bs d n (omega (arith, room n, claims-are n)))

  -- the new file's sectors
  refs-stay : (n : ℕ) → 0 < count n (map (sector_number g) refs) → d1 n ≡ d2 n
  refs-stay n h = sym (e.other n (omega (arith, e.grown n, room n, claims-are n)))

  refs-once : (n : ℕ) → count n (map (sector_number g) refs) ≤ 1
  refs-once n = omega (arith, room n)

  start2 : first_link g d2 s ≡ to r
  unfolding first_link new_entry
  start2 = ap (λ (x : Bytes). link_to g (entry_byte x 0x03) (entry_byte x 0x04)) e.bytes ∙ link-is g r on.0

  laid2 : DataWritten g d2 refs bs
  laid2 = written-agree g d1 d2 refs bs refs-stay (write_chain-written g r l bs d refs-once)

  chain2 : Chain g (file_link g) d2 (to r) refs
  chain2 = written-chain g d2 r l bs on laid2

  file2 : file_of g d2 s ≡ f
  unfolding file_of
  file2 =
      ap (λ (x : List Address). record { slot = s; sectors = x })
      (ap (follow g (file_link g) d2 (steps g)) start2 ∙ chain-met g (file_link g) d2 (file_link-on g) (to r) refs on.0 chain2 refs-once)

  files2 : files g d2 ≡ before ++ f ∷ behind
  unfolding files
  files2 =
      ap (map (file_of g d2)) occupied2
      ∙ map-append (file_of g d2) (filter is_occupied e.front) (s ∷ filter is_occupied e.back)
      ∙ ap₂ (λ (x y : List File). x ++ y) (same-files g d d2 (filter is_occupied e.front) (λ n h. agree2 n (omega (arith, claims-apart g n before behind))))
      (ap₂ (λ (x : File) (y : List File). x ∷ y) file2 (same-files g d d2 (filter is_occupied e.back) (λ n h. agree2 n (omega (arith, claims-apart g n before behind)))))

  pub claims2 : (n : ℕ) → claim_count g d2 n ≡ claim_count g d n + count n (map (sector_number g) refs) + count n extra
  claims2 n =
      omega (
        arith,
        claim_count-of g d2 n,
        claims-are n,
        e.grown n,
        ap (λ (x : List File). count n (file_claims g x)) files2,
        claims-apart g n before (f ∷ behind),
        claims-apart g n before behind,
        count-append n (map (sector_number g) refs) (file_claims g behind),
      )

  right2 : ValidEntry g d2 f
  right2 = record {
    type = ap (λ (x : Bytes). valid_type (entry_byte x 0x02)) e.bytes ∙ entry-type name kind r (length refs) asked kind-asked;
    name = ap valid_name e.bytes ∙ entry-name-right name kind r (length refs) asked kind-asked;
    chain = rw start2 chain2;
    sector_count = ap count_of e.bytes ∙ entry-count name kind r (length refs) asked kind-asked;
  }

  f-name : name_of s.bytes ≡ name
  f-name = ap name_of e.bytes ∙ entry-name name kind r (length refs) asked kind-asked

  -- the name of a file
  abbrev name_in : File → Bytes
  name_in x = name_of x.slot.bytes

  names2 : (n : Bytes) → name_count n (map name_in (before ++ f ∷ behind)) ≤ 1
  names2 n = go (equal n (name_in f)) refl
    where
      c : name_count n (map name_in (before ++ f ∷ behind)) ≡ name_count n (map name_in before) + (indicator (equal n (name_in f)) + name_count n (map name_in behind))
      c = ap (name_count n) (map-append name_in before (f ∷ behind)) ∙ names_apart n (map name_in before) (map name_in (f ∷ behind))

      o : name_count n (map name_in (files g d)) ≡ name_count n (map name_in before) + name_count n (map name_in behind)
      o = ap (λ (x : List File). name_count n (map name_in x)) files-are ∙ ap (name_count n) (map-append name_in before behind) ∙ names_apart n (map name_in before) (map name_in behind)

      go : (b : Bool) → equal n (name_in f) ≡ b → name_count n (map name_in (before ++ f ∷ behind)) ≤ 1
      go true t =
          let z : name_count n (map name_in (files g d)) ≡ 0 = ap (λ (x : Bytes). name_count x (map name_in (files g d))) (eq-of-equal n (name_in f) t ∙ f-name) ∙ new in
          let y : indicator (equal n (name_in f)) ≡ 1 = ap indicator t in
          omega (arith, c, o)
      go false t = let y : indicator (equal n (name_in f)) ≡ 0 = ap indicator t in omega (arith, c, o, a.names n)

  pub sound2 : Sound g d2
  sound2 =
      let q : All (ValidEntry g d) (before ++ behind) = rw files-are at a.entry in
      let q2 : All (ValidEntry g d2) (before ++ behind) = same-valid-entries g d d2 (before ++ behind) agree2 q in
      record {
        directory = e.directory;
        entry = rw files2 (all_append (ValidEntry g d2) before (f ∷ behind) (all-front (ValidEntry g d2) before behind q2) (right2, all_back (ValidEntry g d2) before behind q2));
        names = λ n. rw files2 (names2 n);
        once = λ n. omega (arith, claims2 n, room n);
      }

  -- the new file's entry
  abbrev pub made : PlainEntry
  made = record { name = name; kind = kind; content = bs }

  entry2 : plain_entry_of g d2 f ≡ made
  unfolding plain_entry_of
  entry2 =
      let k : kind_of s.bytes ≡ kind = ap kind_of e.bytes ∙ entry-kind name kind r (length refs) asked kind-asked in
      ap₂ (λ (x : Bytes) (y : ℕ). record { name = x; kind = y; content = chain_data g d2 refs }) f-name k
      ∙ ap (λ (x : Bytes). record { name = name; kind = kind; content = x }) (written-data g d2 refs bs laid2 fits)

  plain_list2 : plain_list g d2 ≡ map (plain_entry_of g d) before ++ made ∷ map (plain_entry_of g d) behind
  unfolding plain_list
  plain_list2 =
      ap (map (plain_entry_of g d2)) files2 ∙ map-append (plain_entry_of g d2) before (f ∷ behind)
      ∙ ap₂ (λ (x y : List PlainEntry). x ++ y) (same-plain_list g d d2 before (λ n h. agree2 n (omega (arith, claims-apart g n before behind))))
      (ap₂ (λ (x : PlainEntry) (y : List PlainEntry). x ∷ y) entry2 (same-plain_list g d d2 behind (λ n h. agree2 n (omega (arith, claims-apart g n before behind)))))

  plain_list-are : plain_list g d ≡ map (plain_entry_of g d) before ++ map (plain_entry_of g d) behind
  unfolding plain_list
  plain_list-are = ap (map (plain_entry_of g d)) files-are ∙ map-append (plain_entry_of g d) before behind

  -- ---- and the map

  map-self : indicator (eqb (sector_number g map_address) (sector_number g map_address)) ≡ 1
  map-self = rw (eq-eqb (sector_number g map_address) (sector_number g map_address) refl)

  prepared2 : Prepared g d d2 (added_sectors place ++ refs)
  prepared2 =
      let m : ℕ = sector_number g map_address in
      record {
        whole = e.whole;
        sound = sound2;
        unmapped = e.other m (omega (arith, e.grown m, room m, claims-are m, map-self)) ∙ write_chain-other g refs bs d m (omega (arith, room m, claims-are m, map-self));
        owners = λ n h. omega (arith, claims2 n, ap (count n) (map-append (sector_number g) (added_sectors place) refs), count-append n extra (map (sector_number g) refs));
      }

  -- a sector with an owner other than the map is left by it
  map-leaves : (n : ℕ) → 0 < count n (map (sector_number g) (directory_sectors g d2)) + count n (map (sector_number g) refs) → rewrite_map g d2 n ≡ d2 n
  map-leaves n h = rewrite-other g d2 n (λ z. let y : indicator (eqb n (sector_number g map_address)) ≡ 1 = rw (eq-eqb n (sector_number g map_address) z) in omega (arith, e.grown n, room n, claims-are n))

  store-claims : (n : ℕ) → claim_count g (rewrite_map g d2) n ≡ claim_count g d n + count n (map (sector_number g) refs) + count n extra
  store-claims n = rewrite-claims g v d2 e.whole sound2 n ∙ claims2 n

  laid3 : DataWritten g (rewrite_map g d2) refs bs
  laid3 = written-agree g d2 (rewrite_map g d2) refs bs (λ n h. sym (map-leaves n (omega arith))) laid2

  pub store-leaves : StoreLeaves g d d2 place refs (new_entry name kind r (length refs)) made
  store-leaves = record {
    prepared = prepared2;
    holds = rw (rewrite-plain_list g v d2 e.whole sound2, plain_list2, plain_list-are) (perm_middle (map (plain_entry_of g d) before) (map (plain_entry_of g d) behind));
    owned = claims2;
    claims = λ n. omega (arith, store-claims n);
    kept = λ n h.
        let o : claim_count g d n + count n (map (sector_number g) refs) + count n extra ≡ 0 = sym (store-claims n) ∙ h in
        rewrite-other g d2 n (λ z. let y : indicator (eqb n (sector_number g map_address)) ≡ 1 = rw (eq-eqb n (sector_number g map_address) z) in omega (arith, claims-are n))
        ∙ e.other n (omega (arith, e.grown n, claims-are n)) ∙ write_chain-other g refs bs d n (omega arith);
    laid = laid3;
    entry = e.written (rewrite_map g d2) (λ n h. map-leaves n (omega arith));
    file = f;
    there = rw (rewrite-files g v d2 e.whole sound2, files2) (mem-mid before f behind);
    named = f-name;
    sectors = refl;
    content = written-data g (rewrite_map g d2) refs bs laid3 fits;
    rest = λ n i out out'. e.rest n i out' ∙ ap (λ (x : Bytes). byte x i) (write_chain-other g refs bs d n (zero-of-none (count n (map (sector_number g) refs)) out));
  }
