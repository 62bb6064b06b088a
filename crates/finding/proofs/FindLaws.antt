-- The slot of a file by its name or by its position, and the first empty slot (01, Read; Tell; Store): the searches over the slots, and which file
-- of the definitions the slot found is. In order: the searches, by name, empty, by position; how far a search goes; the file found.
use Prim.Native.Nat.{ℕ, zero, suc, ◌+◌, ◌≤◌, ◌<◌}
use native.Mathlib.Omega.{arith}
use native.Mathlib.Numerals.{add-one}
use mathlib.Core.Path.{◌≡◌, refl, sym, ◌∙◌}
use mathlib.Core.Bool.{Bool, true, false, cond, not, ◌&&◌, and-false}
use mathlib.Core.List.{List, ◌∷◌, map}
use lib.ListN.{length, drop}
use borrow.Author.Tests.{lt-ltb, le-ltb}
use Rattle.std.specs.Prelude.{Option, Some, None, slice_get}
use Rattle.std.specs.Option.{option_map}
use Rattle.std.specs.List.{range_with_len, find, filter}
use Rattle.d64spec.specs.Lists.{Bytes, All, equal}
use Rattle.d64spec.specs.Answers.{not_found, Result, refused, done, first}
use Rattle.d64spec.specs.Geometry.{Geometry}
use Rattle.d64spec.specs.Image.{disk}
use Rattle.d64spec.specs.Directory.{Slot, File, is_empty, name_field, padded, valid_name, file_of}
use Rattle.d64spec.specs.Listing.{bytes_of_track18}
use Rattle.d64spec.specs.Reply.{valid_name_argument, files_named}
use Rattle.names.proofs.NameLaws.{equal-padded-misfit, equal-name_field-padded}
use Rattle.directory.specs.Directories.{slot_bytes, occupied_from, found}
use Rattle.diskcheck.specs.SlotChecks.{image_slot, image_occupied}
use Rattle.finding.specs.FileSlots.{holds_file, slot_named, slot_placed, slot_empty}

-- ---- the searches, over the numbers of the slots

-- a number found, as it is
pub as-found : (r : Option ℕ) → r ≡ option_map (λ k. k) r
as-found None = refl
as-found (Some k) = refl

-- a search that stops at the first number which passes a test finds it, or none below the end
module _ (test : ℕ → Bool) (search_from : ℕ → ℕ → ℕ) (stops : (k : ℕ) → search_from k 0 ≡ k)
    (goes : (k n : ℕ) → search_from k (suc n) ≡ cond (test k) k (search_from (suc k) n)) where
  find-found : (end n k : ℕ) → k + n ≡ end → find test (range_with_len k n) ≡ found end (search_from k n)
  find-found end zero k e = rw (stops k, le-ltb k end (omega arith))
  find-found end (suc n) k e = rw (goes k n, add-one) (go (test k) _ (find-found end n (suc k) (omega arith)))
    where
      go : (t : Bool) {r : Option ℕ} (i : ℕ) → r ≡ found end i → cond t (Some k) r ≡ found end (cond t k i)
      go true i is = rw (lt-ltb k end (omega arith))
      go false i is = is

module _ (b ss : List ℕ) where
  pub named-by_find : (name : Bytes) (end : ℕ) → find (holds_file b ss name) (range_with_len 0 end) ≡ found end (slot_named b ss name 0 end)
  named-by_find name end = find-found (holds_file b ss name) (slot_named b ss name) (λ k. refl) (λ k n. refl) end end 0 (omega arith)

  pub empty-by_find : (end : ℕ) → find (λ k. is_empty (slot_bytes b ss k)) (range_with_len 0 end) ≡ found end (slot_empty b ss 0 end)
  empty-by_find end = find-found (λ k. is_empty (slot_bytes b ss k)) (slot_empty b ss) (λ k. refl) (λ k n. refl) end end 0 (omega arith)

  -- the occupied one at a position
  pub placed-by_nth : (position end n k : ℕ) → k + n ≡ end
      → slice_get (filter (λ k. not (is_empty (slot_bytes b ss k))) (range_with_len k n)) position ≡ found end (slot_placed b ss position k n)
  placed-by_nth zero end zero k e = rw (le-ltb k end (omega arith))
  placed-by_nth (suc p) end zero k e = rw (le-ltb k end (omega arith))
  placed-by_nth zero end (suc n) k e = rw add-one (go (is_empty (slot_bytes b ss k)) _ _ (placed-by_nth zero end n (suc k) (omega arith)))
    where
      go : (t : Bool) (l : List ℕ) (i : ℕ) → slice_get l 0 ≡ found end i → slice_get (cond (not t) (k ∷ l) l) 0 ≡ found end (cond t i k)
      go true l i is = is
      go false l i is = rw (lt-ltb k end (omega arith))
  placed-by_nth (suc p) end (suc n) k e =
      rw add-one (go (is_empty (slot_bytes b ss k)) _ _ _ (placed-by_nth (suc p) end n (suc k) (omega arith)) (placed-by_nth p end n (suc k) (omega arith)))
    where
      go : (t : Bool) (l : List ℕ) (i j : ℕ) → slice_get l (suc p) ≡ found end i → slice_get l p ≡ found end j
          → slice_get (cond (not t) (k ∷ l) l) (suc p) ≡ found end (cond t i j)
      go true l i j same less = same
      go false l i j same less = less

  -- the same, counted to a number that is the position
  pub placed-at : (position end : ℕ) {at : ℕ} → at ≡ position
      → slice_get (filter (λ k. not (is_empty (slot_bytes b ss k))) (range_with_len 0 end)) at ≡ found end (slot_placed b ss position 0 end)
  placed-at position end e = rw e (placed-by_nth position end end 0 (omega arith))

-- ---- how far a search goes

module _ (b ss : List ℕ) where
  -- no name field holds a name of more than 16 bytes
  pub named-long : (name : Bytes) → 16 < length name → (k n : ℕ) → slot_named b ss name k n ≡ k + n
  unfolding holds_file
  named-long name long k zero = omega arith
  named-long name long k (suc n) =
      rw (equal-padded-misfit (slot_bytes b ss k) name (λ e h. omega arith), and-false) (named-long name long (suc k) n ∙ omega arith)

  pub none-long : (name : Bytes) → 16 < length name → (end : ℕ) → None ≡ found end (slot_named b ss name 0 end)
  none-long name long end = rw (named-long name long 0 end, le-ltb (0 + end) end (omega arith))

  pub slot_named-le : (name : Bytes) (k n : ℕ) → slot_named b ss name k n ≤ k + n
  slot_named-le name k zero = omega arith
  slot_named-le name k (suc n) = go (holds_file b ss name k) (slot_named-le name (suc k) n)
    where
      go : (t : Bool) {r : ℕ} → r ≤ suc k + n → cond t k r ≤ k + suc n
      go true h = omega arith
      go false h = omega arith

  pub slot_empty-le : (k n : ℕ) → slot_empty b ss k n ≤ k + n
  slot_empty-le k zero = omega arith
  slot_empty-le k (suc n) = go (is_empty (slot_bytes b ss k)) (slot_empty-le (suc k) n)
    where
      go : (t : Bool) {r : ℕ} → r ≤ suc k + n → cond t k r ≤ k + suc n
      go true h = omega arith
      go false h = omega arith

-- ---- the file found

-- the file of the slot found, or 13 where none is
abbrev pub file_found : Geometry → Bytes → List ℕ → Option ℕ → Result File
file_found g img ss None = refused not_found
file_found g img ss (Some i) = done (file_of g (disk img) (image_slot g img ss i))

module _ (g : Geometry) (img : Bytes) (ss : List ℕ) where
  -- the files of the occupied slots among the n from k on
  abbrev pub files_from : ℕ → ℕ → List File
  files_from k n = map (file_of g (disk img)) (image_occupied g img ss k n)

  pub named-found : (name : Bytes) → valid_name_argument name ≡ true → (end n k : ℕ) → k + n ≡ end
      → All (λ s. valid_name s.bytes ≡ true) (image_occupied g img ss k n)
      → first not_found (files_named name (files_from k n)) ≡ file_found g img ss (found end (slot_named (bytes_of_track18 g img) ss name k n))
  unfolding files_named file_of first holds_file occupied_from
  named-found name asked end zero k e valid = rw (le-ltb k end (omega arith))
  named-found name asked end (suc n) k e valid = go (is_empty x.bytes) valid (λ a. named-found name asked end n (suc k) (omega arith) a)
    where
      x : Slot
      x = image_slot g img ss k

      rest : List Slot
      rest = image_occupied g img ss (suc k) n

      next : ℕ
      next = slot_named (bytes_of_track18 g img) ss name (suc k) n

      named : (t : Bool) → equal (name_field x.bytes) (padded name) ≡ t → valid_name x.bytes ≡ true
          → first not_found (files_named name (map (file_of g (disk img)) rest)) ≡ file_found g img ss (found end next)
          → first not_found (files_named name (map (file_of g (disk img)) (x ∷ rest))) ≡ file_found g img ss (found end (cond t k next))
      named true is v ih = rw (sym (equal-name_field-padded x.bytes name v asked) ∙ is) (rw (lt-ltb k end (omega arith)))
      named false is v ih = rw (sym (equal-name_field-padded x.bytes name v asked) ∙ is) ih

      go : (b : Bool) → All (λ s. valid_name s.bytes ≡ true) (cond (not b) (x ∷ rest) rest)
          → (All (λ s. valid_name s.bytes ≡ true) rest
          → first not_found (files_named name (map (file_of g (disk img)) rest)) ≡ file_found g img ss (found end next))
          → first not_found (files_named name (map (file_of g (disk img)) (cond (not b) (x ∷ rest) rest)))
          ≡ file_found g img ss (found end (cond (not b && equal (name_field x.bytes) (padded name)) k next))
      go true a ih = ih a
      go false a ih = named (equal (name_field x.bytes) (padded name)) refl a.0 (ih a.1)

  pub placed-found : (end n position k : ℕ) → k + n ≡ end
      → first not_found (drop position (files_from k n)) ≡ file_found g img ss (found end (slot_placed (bytes_of_track18 g img) ss position k n))
  unfolding first occupied_from
  placed-found end zero zero k e = rw (le-ltb k end (omega arith))
  placed-found end zero (suc p) k e = rw (le-ltb k end (omega arith))
  placed-found end (suc n) zero k e = go (is_empty (image_slot g img ss k).bytes) (placed-found end n zero (suc k) (omega arith))
    where
      rest : List Slot
      rest = image_occupied g img ss (suc k) n

      go : (b : Bool)
          → first not_found (map (file_of g (disk img)) rest) ≡ file_found g img ss (found end (slot_placed (bytes_of_track18 g img) ss zero (suc k) n))
          → first not_found (map (file_of g (disk img)) (cond (not b) (image_slot g img ss k ∷ rest) rest))
          ≡ file_found g img ss (found end (cond b (slot_placed (bytes_of_track18 g img) ss zero (suc k) n) k))
      go true ih = ih
      go false ih = rw (lt-ltb k end (omega arith))
  placed-found end (suc n) (suc p) k e =
      go (is_empty (image_slot g img ss k).bytes) (placed-found end n (suc p) (suc k) (omega arith)) (placed-found end n p (suc k) (omega arith))
    where
      rest : List Slot
      rest = image_occupied g img ss (suc k) n

      go : (b : Bool)
          → first not_found (drop (suc p) (map (file_of g (disk img)) rest))
          ≡ file_found g img ss (found end (slot_placed (bytes_of_track18 g img) ss (suc p) (suc k) n))
          → first not_found (drop p (map (file_of g (disk img)) rest)) ≡ file_found g img ss (found end (slot_placed (bytes_of_track18 g img) ss p (suc k) n))
          → first not_found (drop (suc p) (map (file_of g (disk img)) (cond (not b) (image_slot g img ss k ∷ rest) rest)))
          ≡ file_found g img ss
          (found end (cond b (slot_placed (bytes_of_track18 g img) ss (suc p) (suc k) n) (slot_placed (bytes_of_track18 g img) ss p (suc k) n)))
      go true same ih = same
      go false same ih = ih
