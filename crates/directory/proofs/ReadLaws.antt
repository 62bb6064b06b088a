-- What reading the directory gives: refused by its size, refused on the walk, or read (specs/Directories, `DirectoryRead`).
-- In order: the table before the walk; a walk told with its table; in every layout; what is read. Assumes nothing.
use mathlib.Core.Path.{◌≡◌, refl, sym, ap, ◌∙◌}
use mathlib.Core.List.{List, [], ◌∷◌, map}
use Rattle.std.specs.Prelude.{Option}
use Prim.Native.Nat.{ℕ, ◌*◌}
use native.Mathlib.Omega.{arith}
use lib.ListN.{length, set, take, length-map}
use lib.Seq.{length-take-le}
use borrow.Author.Tests.{eq-eqb, ne_eqb}
use Rattle.d64spec.specs.Lists.{Bytes, zeros}
use Rattle.d64spec.specs.Bits.{binary}
use Rattle.d64spec.specs.Answers.{Address, address, Result, refused, done}
use Rattle.d64spec.specs.Answers as answer
use Rattle.d64spec.specs.Geometry.{Geometry, total, sectors_on, sector_number, first_on, map_address, directory_start}
use Rattle.d64spec.specs.Chain.{to, directory_link, steps, walk}
use Rattle.d64spec.specs.Check.{check_directory}
use Rattle.d64spec.specs.Listing.{disk_of_track18}
use Rattle.d64spec.proofs.ResultLaws.{done_inj}
use Rattle.answers.specs.declared.Fault.{Fault}
use Rattle.answers.specs.declared.Fault.TheVariants.{WrongSize}
use Rattle.answers.specs.Faults.{fault_of}
use Rattle.owners.specs.OwnerTable.{owned, with_owner, directory_owner, map_table, directory_table}
use Rattle.owners.specs.Masks.{owned_bit, owned_mask}
use Rattle.directory.specs.declared.Directory.{Directory}
use Rattle.directory.specs.declared.walk.Walk.{Walk}
use Rattle.directory.specs.Directories.{IsDirectory, first_repeated, found, track_directory}
use Rattle.directory.specs.Walks.{layout18, Marked, marked, directory_walk, IsWalk}
use Rattle.directory.proofs.Layout18Laws.{first-18, directory-18, used-18}

-- ---- the table before the walk

-- 18/0 is the map's, and nothing else has an owner
abbrev pub start_table : List ℕ
start_table = set (zeros 19) 0 1

owned-start : owned start_table ≡ sector_number layout18 map_address ∷ []
unfolding owned sector_number first_on layout18
owned-start = refl

map_table-18 : map_table layout18 ≡ start_table
unfolding map_table total sector_number first_on layout18
map_table-18 = refl

-- nobody owns anything of track 18 but 18/0
pub start-used : 1 ≡ owned_mask start_table 0 19
unfolding owned_mask owned_bit binary
start-used = refl

-- ---- a walk told with its table

-- what is refused has that fault
marked_refused : (own : List ℕ) (f : answer.Fault) (x : Result (List Address)) → marked own x ≡ refused f → x ≡ refused f
unfolding marked
marked_refused own f (refused g) e = cc
marked_refused own f (done ds) e = cc

-- what is done has these sectors and this table
record Told (own : List ℕ) (m : Marked) (x : Result (List Address)) : Type 0 where
  sectors : x ≡ done m.sectors
  table : m.table ≡ with_owner directory_owner (map (sector_number layout18) m.sectors) own

marked-done : (own : List ℕ) (m : Marked) (x : Result (List Address)) → marked own x ≡ done m → Told own m x
unfolding marked
marked-done own m (refused f) e = cc
marked-done own m (done ds) e =
    let same = done_inj (sym e) in
    record {
      sectors = ap (λ (x : Marked). done x.sectors) (sym same);
      table = ap (λ (x : Marked). x.table) same ∙ ap (λ (x : Marked). with_owner directory_owner (map (sector_number layout18) x.sectors) own) (sym same);
    }

-- ---- step 2

module _ (b : Bytes) where
  -- another size is refused first
  wrong_size_lem : (length b ≡ 4864 → ⊥) → track_directory layout18 b ≡ refused (fault_of WrongSize)
  unfolding track_directory sectors_on layout18 fault_of
  wrong_size_lem h = rw (ne_eqb (length b) 4864 h)

  -- else it is the walk from the table
  walk_start : length b ≡ 4864
      → track_directory layout18 b ≡ walk layout18 (directory_link layout18) (disk_of_track18 layout18 b) (steps layout18) (owned start_table) map_address 255
      (to directory_start)
  unfolding track_directory sectors_on layout18 check_directory
  walk_start h = rw (eq-eqb (length b) 4864 h) (ap (λ (own : List ℕ). walk layout18 (directory_link layout18) (disk_of_track18 layout18 b)
      (steps layout18) own map_address 255 (to directory_start)) (sym owned-start))

-- ---- in every layout

-- what is read of track 18 alone is read in every layout whose track 18 has 19 sectors
read-in : {b : Bytes} {d : Directory} → IsDirectory layout18 b d → (g : Geometry) → sectors_on g 18 ≡ 19 → IsDirectory g b d
read-in {b} {d} is g nineteen =
    record {
      walked = directory-18 g nineteen b ∙ is.walked;
      count = is.count;
      rest = is.rest;
      few = is.few;
      inside = is.inside;
      repeated = is.repeated;
      used = is.used ∙ sym (used-18 g nineteen (take d.count d.sectors));
    }

-- ---- what is read

module _ (b : Bytes) where
  -- THE SIZE is asked first
  pub read-wrong-size : (length b ≡ 4864 → ⊥) → (g : Geometry) → sectors_on g 18 ≡ 19 → track_directory g b ≡ refused (fault_of WrongSize)
  read-wrong-size h g nineteen = directory-18 g nineteen b ∙ wrong_size_lem b h

  module _ (size : length b ≡ 4864) (own : List ℕ) (start : own ≡ start_table) where
    -- A WALK THAT IS REFUSED refuses the directory
    pub read-walk-refused : (f : Fault) → directory_walk b own ≡ refused (fault_of f)
        → (g : Geometry) → sectors_on g 18 ≡ 19 → track_directory g b ≡ refused (fault_of f)
    read-walk-refused f told g nineteen =
        directory-18 g nineteen b ∙ walk_start b size ∙ marked_refused start_table (fault_of f) _ (rw start at told)

    -- A WALK THAT IS DONE gives its sectors and its table
    pub read-walk-done : {own' : List ℕ} {w : Walk} → IsWalk b own w own' → length w.sectors ≡ 18
        → {k : Option ℕ} → k ≡ found (8 * w.count) (first_repeated b w.sectors 0 (8 * w.count))
        → (g : Geometry) → sectors_on g 18 ≡ 19
        → IsDirectory g b (record { sectors = w.sectors; count = w.count; repeated = k; used = w.used })
    unfolding directory_table
    read-walk-done {w = w} is long first =
        let t = marked-done start_table _ _ (rw start at is.told) in
        read-in (record {
          walked = walk_start b size ∙ t.sectors;
          count = sym (length-map (take w.count w.sectors) (λ s. address 18 s) ∙ length-take-le w.count w.sectors (omega (arith, is.few)));
          rest = is.rest;
          few = is.few;
          inside = is.inside;
          repeated = first;
          used = rw (first-18, map_table-18) (is.used ∙ ap (λ (o : List ℕ). owned_mask o 0 19) t.table);
        })
