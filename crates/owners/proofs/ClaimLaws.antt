-- The check's owner tables say what the definition's lists of claims say, for every layout that has 18/0.
-- In order: lengths; who is owned before, after the directory, after all files; a sector is free by the table exactly where nobody claims it.
use Prim.Native.Nat.{ℕ, zero, suc, ◌<◌}
use native.Mathlib.Omega.{arith}
use mathlib.Core.Path.{◌≡◌, refl, sym, ap, ◌∙◌, subst}
use mathlib.Core.Bool.{Bool, true, false, not}
use mathlib.Core.List.{List, [], ◌∷◌, ◌++◌, map}
use lib.ListN.{length, get_or, length-set, length-replicate}
use lib.Dec.{eqb, ltb}
use borrow.Author.Tests.{ne_eqb, lt-ltb}
use Rattle.d64spec.specs.Lists.{All, count, zeros}
use Rattle.d64spec.specs.Answers.{Address}
use Rattle.d64spec.specs.Geometry.{Geometry, sector_number, total, map_address}
use Rattle.d64spec.specs.Directory.{File}
use Rattle.d64spec.specs.Owner.{file_claims, claims_of}
use Rattle.d64spec.proofs.ListLaws.{count-append}
use Rattle.owners.specs.OwnerTable.{owned, owned_from, free_by, with_owner, with_files, file_owner, map_owner, directory_owner, map_table, directory_table, owner_table}
use Rattle.owners.proofs.TableLaws.{Alike, member-owned, alike-of-counts, alike-append, alike_set, length-with_owner, alike-with_owner}
use Rattle.owners.proofs.SlotsTable.{FileOn}

-- ---- lengths

module _ (g : Geometry) where
  pub length-map_table : length (map_table g) ≡ total g
  unfolding map_table
  length-map_table = length-set (zeros (total g)) (sector_number g map_address) map_owner ∙ length-replicate {A = ℕ} (total g) 0

  pub length-directory_table : (ds : List Address) → length (directory_table g ds) ≡ total g
  unfolding directory_table
  length-directory_table ds = length-with_owner directory_owner (map (sector_number g) ds) (map_table g) ∙ length-map_table

-- ---- who is owned

-- nobody in a table of zeros
none_owned : (i n : ℕ) → owned_from i (zeros n) ≡ []
none_owned i zero = refl
none_owned i (suc n) = none_owned (suc i) n

-- the files' sectors beside those that had an owner
pub files-alike : (g : Geometry) (fs : List File) (own : List ℕ) → length own ≡ total g → All (FileOn g) fs → Alike (file_claims g fs ++ owned own) (owned (with_files g fs own))
files-alike g [] own h a m = refl
files-alike g (f ∷ fs) own h a m =
    let s : List ℕ = map (sector_number g) f.sectors in
    let c : List ℕ = file_claims g fs in
    let id : ℕ = file_owner f.slot.number in
    alike-of-counts ((s ++ c) ++ owned own) (c ++ (s ++ owned own))
    (λ n. omega (arith, count-append n (s ++ c) (owned own), count-append n s c, count-append n c (s ++ owned own), count-append n s (owned own))) m
    ∙ alike-append c (s ++ owned own) (owned (with_owner id s own)) (alike-with_owner id (omega arith) s own (subst (λ (t : ℕ). All (λ x. x < t) s) (sym h) a.0)) m
    ∙ files-alike g fs (with_owner id s own) (length-with_owner id s own ∙ h) a.1 m

module _ (g : Geometry) (map-lt : sector_number g map_address < total g) where
  -- 18/0 alone before the directory is walked
  pub map-alike : Alike (sector_number g map_address ∷ []) (owned (map_table g))
  unfolding map_table owned
  map-alike m =
      let size : length (zeros (total g)) ≡ total g = length-replicate {A = ℕ} (total g) 0 in
      ap (λ (l : List ℕ). ltb 0 (count m (sector_number g map_address ∷ l))) (sym (none_owned 0 (total g)))
      ∙ alike_set (zeros (total g)) (sector_number g map_address) map_owner (omega arith) (omega arith) m

  module _ (ds : List Address) (on : All (λ x. x < total g) (map (sector_number g) ds)) where
    marked-alike : Alike (map (sector_number g) ds ++ (sector_number g map_address ∷ [])) (owned (directory_table g ds))
    unfolding directory_table
    marked-alike m =
        let s : List ℕ = map (sector_number g) ds in
        alike-append s (sector_number g map_address ∷ []) (owned (map_table g)) map-alike m
        ∙ alike-with_owner directory_owner (omega arith) s (map_table g) (subst (λ (t : ℕ). All (λ x. x < t) s) (sym (length-map_table g)) on) m

    -- AFTER THE DIRECTORY IS WALKED: 18/0 and the directory's sectors
    pub directory-alike : Alike (sector_number g map_address ∷ map (sector_number g) ds) (owned (directory_table g ds))
    directory-alike m =
        let s : List ℕ = map (sector_number g) ds in
        let o : ℕ = sector_number g map_address in
        alike-of-counts (o ∷ s) (s ++ (o ∷ [])) (λ n. omega (arith, count-append n s (o ∷ []))) m ∙ marked-alike m

    module _ (fs : List File) (files-on : All (FileOn g) fs) where
      -- AFTER ALL CHAINS ARE WALKED: the claims of the map, the directory and the files
      pub claims-alike : Alike (claims_of g ds fs) (owned (owner_table g ds fs))
      unfolding claims_of owner_table
      claims-alike m =
          let s : List ℕ = map (sector_number g) ds in
          let f : List ℕ = file_claims g fs in
          let o : ℕ = sector_number g map_address in
          alike-of-counts (o ∷ (s ++ f)) (f ++ (o ∷ s)) (λ n. omega (arith, count-append n s f, count-append n f (o ∷ s))) m
          ∙ alike-append f (o ∷ s) (owned (directory_table g ds)) directory-alike m
          ∙ files-alike g fs (directory_table g ds) (length-directory_table g ds) files-on m

-- ---- free sectors

none-claims : (c : ℕ) → eqb c 0 ≡ not (ltb 0 c)
none-claims zero = refl
none-claims (suc c) = ne_eqb (suc c) 0 (λ z. omega arith) ∙ sym (ap not (lt-ltb 0 (suc c) (omega arith)))

not-not : (b : Bool) → not (not b) ≡ b
not-not true = refl
not-not false = refl

-- free by a table: no member of a list that is alike
pub free_by-alike : (g : Geometry) (l own : List ℕ) → Alike l (owned own) → (r : Address) → free_by g own r ≡ eqb (count (sector_number g r) l) 0
unfolding free_by
free_by-alike g l own h r =
    let n : ℕ = sector_number g r in
    sym (none-claims (count n l) ∙ ap not (h n ∙ member-owned own n) ∙ not-not (eqb (get_or own n 0) 0))

-- FREE BY THE OWNER TABLE exactly where nobody claims it
pub free_by-claims : (g : Geometry) → sector_number g map_address < total g → (ds : List Address) → All (λ x. x < total g) (map (sector_number g) ds)
    → (fs : List File) → All (FileOn g) fs → (r : Address) → free_by g (owner_table g ds fs) r ≡ eqb (count (sector_number g r) (claims_of g ds fs)) 0
free_by-claims g map-lt ds on fs files-on r = free_by-alike g (claims_of g ds fs) (owner_table g ds fs) (claims-alike g map-lt ds on fs files-on) r
