-- The whole check: the size, the directory of track 18, then the slots and the map, each with the tables that the step before it left (01, Order of
-- the check).
-- In order: the definition's check with the tables; the slots, then the map; refused images; steps 3 and 4 from the directory's owners; images whose
-- track 18 the code has read; the owner table that is left.
use Prim.Native.Nat.{ℕ, zero, suc, ◌*◌, ◌≤◌, ◌<◌}
use native.Mathlib.Omega.{arith}
use mathlib.Core.Path.{◌≡◌, refl, sym, ap, ap₂, ◌∙◌}
use mathlib.Core.Bool.{Bool, true}
use mathlib.Core.List.{List, [], ◌∷◌, map}
use lib.ListN.{length, set, take, drop}
use lib.Dec.{eqb}
use Rattle.std.specs.Prelude.{Result as CodeResult, Ok, Err}
use borrow.Author.Tests.{eq-eqb, ne_eqb}
use Rattle.d64spec.specs.Lists.{Bytes, All, count, range, zeros}
use Rattle.d64spec.specs.Answers.{Address, Fault, Result, refused, done, ◌>>=◌, ◌>>◌}
use Rattle.d64spec.specs.Geometry.{Geometry, sector_number, sectors_on, total, tracks, map_address, directory_start, on_disk}
use Rattle.d64spec.specs.Layouts.{Known}
use Rattle.d64spec.specs.Image.{disk}
use Rattle.d64spec.specs.Chain.{to, directory_link, steps}
use Rattle.d64spec.specs.Directory.{Slot, File, occupied_in}
use Rattle.d64spec.specs.Owner.{claims_of}
use Rattle.d64spec.specs.Check.{DirectoryContents, check_directory, check_slots, check_map, check_disk, check_image, right_size}
use Rattle.d64spec.specs.Listing.{bytes_of_track18}
use Rattle.d64spec.proofs.ResultLaws.{done_inj, refused≢done}
use Rattle.d64spec.proofs.BoundLaws.{directory_link-on}
use Rattle.d64spec.proofs.ListingTheorem.{track18-length}
use Rattle.geometry.proofs.LentTableLaws.{tracks-of-on_disk}
use Rattle.answers.specs.declared.Fault as code
use Rattle.answers.specs.declared.Fault.TheVariants.{WrongSize}
use Rattle.answers.specs.Faults.{fault_of, verdict_of, where_fine}
use Rattle.owners.specs.OwnerTable.{owned, free_by, directory_table, owner_table}
use Rattle.owners.specs.Masks.{Masks, unmarked}
use Rattle.owners.proofs.MaskLaws.{masks-free}
use Rattle.owners.proofs.WalkTable.{walk-lt}
use Rattle.owners.proofs.SlotsTable.{slots-alike, slots-lt}
use Rattle.owners.proofs.ClaimLaws.{length-directory_table, directory-alike, free_by-claims}
use Rattle.directory.specs.declared.Directory.{Directory}
use Rattle.directory.specs.Directories.{sectors_of, track_directory, IsDirectory}
use Rattle.directory.proofs.Track18Laws.{directory-of-track18}
use Rattle.mapcheck.specs.MapChecks.{map_verdict}
use Rattle.mapcheck.proofs.StepLaws.{verdict-same, map-free-same}
use Rattle.diskcheck.specs.EndTable.{end_table}
use Rattle.diskcheck.specs.SlotChecks.{image_occupied, Tables, tables, tables_with_files, slots_step, SlotsReady}
use Rattle.diskcheck.specs.ImageChecks.{Found, found_in, IsChecked, map_step, rest_step, tables_before, OwnersReady}
use Rattle.diskcheck.proofs.MaskLaws.{masks-directory}
use Rattle.diskcheck.proofs.TrackLaws.{map-lent, sectors_of-whole, occupied-by-track18}

-- ---- the definition's check with the tables

map-lt : (g : Geometry) → Known g → sector_number g map_address < total g
map-lt g kn = omega (arith, kn.map357, kn.past18)

-- the directory's sectors and the tables, where a check finds no fault
record Filled : Type 0 where
  directory : List Address
  tables : Tables

-- the same from what the definition's check of an image has met
unfoldable filled_in : Geometry → Bytes → Result DirectoryContents → Result Filled
filled_in g img (refused f) = refused f
filled_in g img (done c) =
    done (record { directory = c.walked; tables = tables (owner_table g c.walked c.found) (end_table g img c.found) })

-- what is handed back of it
abbrev handed : Filled → Found
handed f = record { directory = f.directory; ends = f.tables.ends }

found-handed : (g : Geometry) (img : Bytes) (x : Result DirectoryContents) → found_in g img x ≡ (filled_in g img x >>= (λ f. done (handed f)))
unfolding found_in filled_in
found-handed g img (refused f) = refl
found-handed g img (done c) = refl

-- what is refused is refused
filled-refused : (g : Geometry) (img : Bytes) (x : Result DirectoryContents) {f : Fault} → filled_in g img x ≡ refused f → x ≡ refused f
unfolding filled_in
filled-refused g img (refused x) e = cc
filled-refused g img (done c) {f} e = refused≢done f _ (sym e)

filled-then : (g : Geometry) (img : Bytes) (x : Result (Unit {0})) (c : DirectoryContents) → filled_in g img (x >> done c) ≡ (x >> filled_in g img (done c))
unfolding filled_in
filled-then g img (refused f) c = refl
filled-then g img (done u) c = refl

module _ (g : Geometry) (kn : Known g) (img : Bytes) where
  -- step 3 after a directory of these sectors, from the table with its owners
  abbrev slots_after : List Address → Result (List File)
  slots_after ds = check_slots g (disk img) (owned (directory_table g ds)) [] (occupied_in g (disk img) ds)

  -- the tables with the directory's owners
  abbrev walked_tables : List Address → Tables
  walked_tables ds = tables (directory_table g ds) (zeros 144)

  -- step 4 with tables, and what is found
  abbrev map_after : List Address → Tables → Result Filled
  map_after ds t = map_step g img t.owners >> done (record { directory = ds; tables = t })

  -- both
  abbrev after_directory : List Address → Result Filled
  after_directory ds = tables_with_files g img (walked_tables ds) (slots_after ds) >>= (λ t. map_after ds t)

  -- nobody claims the sector
  abbrev unclaimed : List Address → List File → Address → Bool
  unclaimed ds fs r = eqb (count (sector_number g r) (claims_of g ds fs)) 0

  -- step 4 as the definition has it, after these files
  abbrev after_files : List Address → Result (List File) → Result DirectoryContents
  after_files ds x = x >>= (λ fs. check_map g (disk img) (unclaimed ds fs) (range 1 (tracks g)) >> done (record { walked = ds; found = fs }))

  -- step 3 as the definition has it, from the claims of the map and the directory
  abbrev slots_from_claims : List Address → Result (List File)
  slots_from_claims ds = check_slots g (disk img) (sector_number g map_address ∷ map (sector_number g) ds) [] (occupied_in g (disk img) ds)

  module _ (ds : List Address) (on : All (λ x. x < total g) (map (sector_number g) ds)) where
    files-found : (x : Result (List File)) → slots_after ds ≡ x
        → filled_in g img (after_files ds x) ≡ (tables_with_files g img (walked_tables ds) x >>= (λ t. map_after ds t))
    unfolding filled_in tables_with_files owner_table end_table
    files-found (refused f) e = refl
    files-found (done fs) e =
        let files-on = slots-lt g (disk img) (owned (directory_table g ds)) [] (occupied_in g (disk img) ds) fs e in
        filled-then g img (check_map g (disk img) (unclaimed ds fs) (range 1 (tracks g))) (record { walked = ds; found = fs })
        ∙ ap (λ (x : Result (Unit {0})). x >> done (record { directory = ds; tables = tables (owner_table g ds fs) (end_table g img fs) }))
        (sym (map-free-same g (λ r h. free_by-claims g (map-lt g kn) ds on fs files-on r) (disk img) (range 1 (tracks g))))

    slots-found : filled_in g img (after_files ds (slots_from_claims ds)) ≡ after_directory ds
    slots-found =
        let o : List ℕ = sector_number g map_address ∷ map (sector_number g) ds in
        ap (λ (x : Result (List File)). filled_in g img (after_files ds x))
        (slots-alike g (disk img) o (owned (directory_table g ds)) [] (occupied_in g (disk img) ds) (directory-alike g (map-lt g kn) ds on))
        ∙ files-found (slots_after ds) refl

  -- the directory's sectors are on the disk
  directory-on : {ds : List Address} → check_directory g (disk img) ≡ done ds → All (λ x. x < total g) (map (sector_number g) ds)
  unfolding check_directory
  directory-on {ds} e =
      walk-lt g (directory_link g) (disk img) (directory_link-on g) (steps g)
      (sector_number g map_address ∷ []) map_address 255 (to directory_start) ds kn.valid.directory e

  -- THE DEFINITION'S CHECK is the directory's walk, then the rest from the table with its owners
  disk-found : filled_in g img (check_disk g (disk img)) ≡ (check_directory g (disk img) >>= (λ ds. after_directory ds))
  unfolding check_disk check_directory filled_in
  disk-found = go (check_directory g (disk img)) refl
    where
      go : (w : Result (List Address)) → check_directory g (disk img) ≡ w
          → filled_in g img (w >>= (λ ds. after_files ds (slots_from_claims ds))) ≡ (w >>= (λ ds. after_directory ds))
      go (refused f) e = refl
      go (done ds) e =
          slots-found ds (directory-on e)

  -- the rest by slot numbers
  rest-found : (ss : List ℕ) (n : ℕ) → All (λ s. s < 19) ss → n ≤ length ss
      → after_directory (sectors_of ss n)
      ≡ (rest_step g img (walked_tables (sectors_of ss n)) ss n >>= (λ t. done (record { directory = sectors_of ss n; tables = t })))
  unfolding rest_step slots_step
  rest-found ss n inside whole =
      let ds : List Address = sectors_of ss n in
      let own : List ℕ = directory_table g ds in
      ap (λ (l : List Slot). tables_with_files g img (walked_tables ds) (check_slots g (disk img) (owned own) [] l) >>= (λ t. map_after ds t))
      (occupied-by-track18 g kn img ss n inside whole)
      ∙ regroup (tables_with_files g img (walked_tables ds) (check_slots g (disk img) (owned own) [] (image_occupied g img ss 0 (8 * n))))
      (λ t. map_step g img t.owners) (λ t. record { directory = ds; tables = t })
    where
      regroup : (x : Result Tables) (m : Tables → Result (Unit {0})) (f : Tables → Filled)
          → (x >>= (λ o. m o >> done (f o))) ≡ ((x >>= (λ o. m o >> done o)) >>= (λ o. done (f o)))
      regroup (refused e) m f = refl
      regroup (done o) m f = go (m o)
        where
          go : (r : Result (Unit {0})) → (r >> done (f o)) ≡ ((r >> done o) >>= (λ o. done (f o)))
          go (refused e) = refl
          go (done u) = refl

-- ---- the slots, then the map, as the code has them

-- the map of an image is 18/0, as it is lent
pub map-checked : (g : Geometry) → Known g → (img used : Bytes) {m : Bytes} {r : Result (Unit {0})} → r ≡ map_verdict g m used
    → m ≡ take 256 (drop 91392 img) → r ≡ map_verdict g (disk img (sector_number g map_address)) used
map-checked g kn img used told lent = told ∙ ap (λ (b : Bytes). map_verdict g b used) (lent ∙ map-lent g kn img)

-- mask and table say the same of each sector of the disk
masks-free-known : (g : Geometry) → Known g → {own used : List ℕ} → Masks g own used → (r : Address) → on_disk g r ≡ true
    → unmarked used r ≡ free_by g own r
masks-free-known g kn masks r on = let h = tracks-of-on_disk g r on in masks-free g masks r on h.0 (omega (arith, h.1, kn.few))

module _ (g : Geometry) (kn : Known g) (img : Bytes) (t : Tables) (ss : List ℕ) (n : ℕ) (t' : Tables) where
  -- a fault of step 3
  pub slots-refused : (f : code.Fault) → where_fine (Err f) t' ≡ slots_step g img t ss 0 (8 * n) → where_fine (Err f) t' ≡ rest_step g img t ss n
  unfolding where_fine rest_step
  slots-refused f e = ap (λ (x : Result Tables). x >>= (λ o. map_step g img o.owners >> done o)) e

  -- no fault there: the map decides
  pub slots-fine : (v : CodeResult (Unit {0}) code.Fault) (used : Bytes) → where_fine (Ok tt) t' ≡ slots_step g img t ss 0 (8 * n) → Masks g t'.owners used
      → verdict_of v ≡ map_verdict g (disk img (sector_number g map_address)) used → where_fine v t' ≡ rest_step g img t ss n
  unfolding where_fine rest_step verdict_of
  slots-fine v used e masks decides =
      given v
      ∙ ap (λ (x : Result (Unit {0})). x >> done t')
      (decides ∙ verdict-same g kn (disk img) used (free_by g t'.owners) (λ r on. masks-free-known g kn masks r on))
      ∙ ap (λ (x : Result Tables). x >>= (λ o. map_step g img o.owners >> done o)) e
    where
      given : (v : CodeResult (Unit {0}) code.Fault) → where_fine v t' ≡ (verdict_of v >> done t')
      given (Ok u) = refl
      given (Err f) = refl

-- ---- the tables before the check, and its first step

-- the first of so many zeros
pub take-zeros : (m n : ℕ) → n ≤ m → take n (zeros m) ≡ zeros n
take-zeros m zero h = refl
take-zeros zero (suc n) h = absurd (omega arith)
take-zeros (suc m) (suc n) h = ap (λ (l : List ℕ). 0 ∷ l) (take-zeros m n (omega arith))

-- step 1
pub size-wrong : (g : Geometry) (img : Bytes) → (length img ≡ 256 * total g → ⊥) → check_image g img ≡ refused (fault_of WrongSize)
unfolding check_image right_size fault_of
size-wrong g img h = rw (ne_eqb (length img) (256 * total g) h)

-- ---- steps 3 and 4 from the directory's owners

module _ (g : Geometry) (kn : Known g) {img : Bytes} {t : Tables} {d : Directory} (ready : OwnersReady g img t d) where
  -- what they ask of the tables and the masks
  pub owners-ready : {own ends used : List ℕ} → own ≡ directory_table g (sectors_of d.sectors d.count) → ends ≡ t.ends → used ≡ set (zeros 40) 17 d.used
      → SlotsReady g img (tables own ends) used d
  owners-ready is same at = record {
    kept = record {
      size = ready.size;
      long = ap length is ∙ length-directory_table g (sectors_of d.sectors d.count);
      room = ap length (same ∙ ready.endless);
      masks = rw (is, at) (masks-directory g kn d.sectors d.count ready.inside ready.used);
    };
    inside = ready.inside;
    few = ready.few;
    first = ready.first;
  }

  -- those tables are the ones before the files
  pub owners-before : {own ends : List ℕ} → own ≡ directory_table g (sectors_of d.sectors d.count) → ends ≡ t.ends
      → tables own ends ≡ tables_before g d.sectors d.count
  unfolding tables_before
  owners-before is same = ap₂ (λ (x y : List ℕ). tables x y) is (same ∙ ready.endless)

-- ---- images of the right size, whose track 18 the code has read

size-right : (g : Geometry) (kn : Known g) (img : Bytes) → length img ≡ 256 * total g
    → filled_in g img (check_image g img) ≡ (check_directory g (disk img) >>= (λ ds. after_directory g kn img ds))
unfolding check_image right_size
size-right g kn img size = rw (eq-eqb (length img) (256 * total g) size) (disk-found g kn img)

-- what the definition finds after a directory of these sectors
rest-filled : (g : Geometry) → Known g → (img : Bytes) → length img ≡ 256 * total g → (ss : List ℕ) (n : ℕ) → All (λ s. s < 19) ss → n ≤ length ss
    → check_directory g (disk img) ≡ done (sectors_of ss n)
    → (rest_step g img (tables_before g ss n) ss n >>= (λ t. done (record { directory = sectors_of ss n; tables = t }))) ≡ filled_in g img (check_image g img)
unfolding tables_before
rest-filled g kn img size ss n inside whole walked = sym (rest-found g kn img ss n inside whole) ∙ sym (size-right g kn img size ∙ rw walked)

module _ (g : Geometry) (kn : Known g) (img : Bytes) (size : length img ≡ 256 * total g) where
  directory-same : track_directory g (bytes_of_track18 g img) ≡ check_directory g (disk img)
  unfolding track_directory
  directory-same =
      let long : length (bytes_of_track18 g img) ≡ 256 * sectors_on g 18 = track18-length kn img size ∙ sym (ap (λ (n : ℕ). 256 * n) kn.on18) in
      rw (eq-eqb (length (bytes_of_track18 g img)) (256 * sectors_on g 18) long) (directory-of-track18 g kn img)

  -- a fault of step 2
  pub directory-refused : {f : Fault} → track_directory g (bytes_of_track18 g img) ≡ refused f → check_image g img ≡ refused f
  directory-refused e = filled-refused g img (check_image g img) (size-right g kn img size ∙ rw (sym directory-same ∙ e))

  module _ {d : Directory} (read : IsDirectory g (bytes_of_track18 g img) d) where
    whole : d.count ≤ length d.sectors
    whole = sectors_of-whole d.sectors d.count read.count

    -- what steps 3 and 4 ask: a table with no owner and one with no end
    pub directory-ready : {own ends : List ℕ} → own ≡ zeros (total g) → ends ≡ zeros 144 → OwnersReady g img (tables own ends) d
    directory-ready bare endless = record {
      size = size;
      bare = bare;
      endless = endless;
      inside = read.inside;
      few = read.few;
      whole = whole;
      first = read.repeated;
      used = read.used;
    }

    -- what the definition finds, by steps 3 and 4 from the directory's owners
    filled-rest : {r : Result Tables} → r ≡ rest_step g img (tables_before g d.sectors d.count) d.sectors d.count
        → (r >>= (λ t. done (record { directory = sectors_of d.sectors d.count; tables = t }))) ≡ filled_in g img (check_image g img)
    filled-rest e =
        ap (λ (x : Result Tables). x >>= (λ t. done (record { directory = sectors_of d.sectors d.count; tables = t }))) e
        ∙ rest-filled g kn img size d.sectors d.count read.inside whole (sym directory-same ∙ read.walked)

    module _ (own ends : List ℕ) where
      -- a fault of step 3 or 4
      pub rest-refused : (f : code.Fault) → where_fine (Err f) (tables own ends) ≡ rest_step g img (tables_before g d.sectors d.count) d.sectors d.count
          → check_image g img ≡ refused (fault_of f)
      unfolding where_fine
      rest-refused f e = filled-refused g img (check_image g img) (sym (filled-rest e))

      -- no fault
      pub checked-fine : where_fine (Ok tt) (tables own ends) ≡ rest_step g img (tables_before g d.sectors d.count) d.sectors d.count
          → IsChecked g img (record { sectors = d.sectors; count = d.count; ends = ends })
      unfolding where_fine
      checked-fine e = record {
        told = found-handed g img (check_image g img) ∙ ap (λ (x : Result Filled). x >>= (λ f. done (handed f))) (sym (filled-rest e));
        count = read.count;
        rest = read.rest;
        few = read.few;
        inside = read.inside;
      }

-- ---- the owner table that is left

-- THE TABLE after steps 3 and 4 of an image without a fault is that of its directory and its files
pub owners-left : (g : Geometry) → Known g → (img : Bytes) (ss : List ℕ) (n : ℕ) (c : DirectoryContents) (t : Tables) → length img ≡ 256 * total g
    → All (λ s. s < 19) ss → n ≤ length ss → check_directory g (disk img) ≡ done (sectors_of ss n) → check_image g img ≡ done c
    → rest_step g img (tables_before g ss n) ss n ≡ done t → t.owners ≡ owner_table g c.walked c.found
unfolding filled_in
owners-left g kn img ss n c t size inside whole walked found e =
    let same = ap (λ (x : Result Tables). x >>= (λ t. done (record { directory = sectors_of ss n; tables = t }))) (sym e)
    ∙ rest-filled g kn img size ss n inside whole walked ∙ ap (filled_in g img) found in
    ap (λ (f : Filled). f.tables.owners) (done_inj same)
