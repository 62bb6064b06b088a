-- The first empty slot of a checked image (01, Store): where the search for it ends, it is the first of the definitions' empty slots.
-- In order: the slots by their numbers; the image, whose directory has the first `count` sectors of ss.
use Prim.Native.Nat.{ℕ, zero, suc, ◌+◌, ◌*◌, ◌≤◌, ◌<◌}
use native.Mathlib.Omega.{arith}
use mathlib.Core.Path.{◌≡◌, refl, sym, ap, ◌∙◌}
use mathlib.Core.Bool.{Bool, true, false, cond}
use mathlib.Core.List.{List, [], ◌∷◌, map}
use lib.ListN.{length}
use Rattle.d64spec.specs.Lists.{Bytes, filter, range}
use Rattle.d64spec.specs.Answers.{Address}
use Rattle.d64spec.specs.Geometry.{Geometry}
use Rattle.d64spec.specs.Layouts.{Known}
use Rattle.d64spec.specs.Image.{disk}
use Rattle.d64spec.specs.Directory.{Slot, is_empty, slots_from, directory_sectors}
use Rattle.d64spec.specs.Listing.{bytes_of_track18}
use Rattle.d64spec.specs.Store.{empty_slots}
use Rattle.directory.specs.Directories.{sectors_of, slot_at, slot_bytes}
use Rattle.diskcheck.specs.SlotChecks.{image_slot}
use Rattle.diskcheck.proofs.TrackLaws.{track18-lent, slots-by-track18}
use Rattle.finding.specs.FileSlots.{slot_empty, CheckedSlots}
use Rattle.finding.proofs.CheckedSlotLaws.{lent_track18}

-- ---- slots by number

module _ (b ss : List ℕ) where
  -- the empty ones of the n slots from k on
  abbrev empty_from : ℕ → ℕ → List Slot
  empty_from k n = filter (λ s. is_empty s.bytes) (map (slot_at b ss) (range k n))

  none_from : (n k : ℕ) → k + n ≤ slot_empty b ss k n → empty_from k n ≡ []
  none_from zero k h = refl
  none_from (suc n) k h = go (is_empty (slot_bytes b ss k)) h (λ l. none_from n (suc k) l)
    where
      go : (t : Bool) {next : ℕ} → k + suc n ≤ cond t k next → (suc k + n ≤ next → empty_from (suc k) n ≡ [])
          → cond t (slot_at b ss k ∷ empty_from (suc k) n) (empty_from (suc k) n) ≡ []
      go true h rest = absurd (omega arith)
      go false h rest = rest (omega arith)

  some-from : (n k : ℕ) → slot_empty b ss k n < k + n → (l : List Slot) × (empty_from k n ≡ slot_at b ss (slot_empty b ss k n) ∷ l)
  some-from zero k h = absurd (omega arith)
  some-from (suc n) k h = go (is_empty (slot_bytes b ss k)) h (λ l. some-from n (suc k) l)
    where
      go : (t : Bool) {next : ℕ} → cond t k next < k + suc n → (next < suc k + n → (l : List Slot) × (empty_from (suc k) n ≡ slot_at b ss next ∷ l))
          → (l : List Slot) × (cond t (slot_at b ss k ∷ empty_from (suc k) n) (empty_from (suc k) n) ≡ slot_at b ss (cond t k next) ∷ l)
      go true h rest = (empty_from (suc k) n, refl)
      go false h rest = rest (omega arith)

module _ (g : Geometry) (kn : Known g) where
  -- ---- the image

  module _ {img ss : List ℕ} (count : ℕ) (there : CheckedSlots g img ss (8 * count))
      (sectors : sectors_of ss count ≡ directory_sectors g (disk img)) (whole : count ≤ length ss) where
    slots-empty : empty_slots g (disk img) ≡ empty_from (bytes_of_track18 g img) ss 0 (8 * count)
    unfolding empty_slots
    slots-empty =
        ap (λ (ds : List Address). filter (λ s. is_empty s.bytes) (slots_from g (disk img) 0 ds)) (sym sectors)
        ∙ ap (filter (λ s. is_empty s.bytes)) (slots-by-track18 g kn img ss count there.inside whole)

    module _ {k : ℕ} (is : k ≡ slot_empty (lent_track18 img) ss 0 (8 * count)) where
      same : k ≡ slot_empty (bytes_of_track18 g img) ss 0 (8 * count)
      same = is ∙ ap (λ (b : Bytes). slot_empty b ss 0 (8 * count)) (track18-lent g kn img)

      -- NO SLOT IS EMPTY
      pub empty-none : 8 * count ≤ k → empty_slots g (disk img) ≡ []
      empty-none h = slots-empty ∙ none_from (bytes_of_track18 g img) ss (8 * count) 0 (omega (arith, same))

      -- THE FIRST EMPTY SLOT
      pub empty-some : k < 8 * count → (l : List Slot) × (empty_slots g (disk img) ≡ image_slot g img ss k ∷ l)
      empty-some h =
          let s = some-from (bytes_of_track18 g img) ss (8 * count) 0 (omega (arith, same)) in
          (s.0, slots-empty ∙ s.1 ∙ ap (λ (i : ℕ). image_slot g img ss i ∷ s.0) (sym same))
