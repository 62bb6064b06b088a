-- The occupied slots by number: the first of those from k on, and how long their lines are.
-- In order: slot k and those behind it; a slot's line; all lines. Assumes nothing.
use Prim.Native.Nat.{ℕ, zero, suc, ◌+◌, ◌*◌, ◌-◌, ◌/◌, ◌≤◌, ◌<◌}
use native.Mathlib.Omega.{arith}
use native.Mathlib.Numerals.{add-one}
use mathlib.Core.Path.{◌≡◌, refl, sym, ap, ◌∙◌}
use mathlib.Core.Bool.{Bool, true, false, not}
use mathlib.Core.List.{List, [], ◌∷◌, ◌++◌, map}
use lib.ListN.{length, take, drop, length-append, length-map, length-take, length-drop}
use Rattle.d64spec.specs.Lists.{Bytes, All, range}
use Rattle.d64spec.specs.Directory.{Slot, is_empty}
use Rattle.d64spec.specs.Listing.{line, slot_frame}
use Rattle.d64spec.proofs.ListingLaws.{filter-length, line-length}
use Rattle.directory.specs.Directories.{slot_at, slot_bytes, occupied_from}
use Rattle.directory.proofs.SlotBytesLaws.{is_slot-part, slot_bytes-part}
use Rattle.directory.proofs.SearchLaws.{sector-lt}
use Rattle.sleeve.specs.Texts.{lines_of}

-- ---- slot k and those behind it

length_range : (a n : ℕ) → length (range a n) ≡ n
length_range a zero = refl
length_range a (suc n) = ap suc (length_range (suc a) n)

module _ (b : Bytes) (ss : List ℕ) where
  occupied-skip : (k n : ℕ) → is_empty (slot_bytes b ss k) ≡ true → occupied_from b ss k (suc n) ≡ occupied_from b ss (suc k) n
  unfolding occupied_from
  occupied-skip k n empty = rw empty

  occupied-take : (k n : ℕ) → is_empty (slot_bytes b ss k) ≡ false → occupied_from b ss k (suc n) ≡ slot_at b ss k ∷ occupied_from b ss (suc k) n
  unfolding occupied_from
  occupied-take k n occupied = rw occupied

  module _ {end k : ℕ} (h : k < end) where
    left : end - k ≡ suc (end - (k + 1))
    left = omega arith

    -- an empty slot is none of them
    pub occupied-empty : is_empty (slot_bytes b ss k) ≡ true → occupied_from b ss k (end - k) ≡ occupied_from b ss (k + 1) (end - (k + 1))
    occupied-empty empty = rw (left, add-one k) (occupied-skip k (end - suc k) empty)

    -- an occupied one is the first
    pub occupied-here : is_empty (slot_bytes b ss k) ≡ false → occupied_from b ss k (end - k) ≡ slot_at b ss k ∷ occupied_from b ss (k + 1) (end - (k + 1))
    occupied-here occupied = rw (left, add-one k) (occupied-take k (end - suc k) occupied)

  pub occupied-none : (end k : ℕ) → end ≤ k → occupied_from b ss k (end - k) ≡ []
  unfolding occupied_from
  occupied-none end k h = let z : end - k ≡ 0 = omega arith in rw z

  -- they are no more than the slots that they are of
  pub occupied-few : (k n : ℕ) → length (occupied_from b ss k n) ≤ n
  unfolding occupied_from
  occupied-few k n =
      let slots = map (slot_at b ss) (range k n) in
      omega (arith, filter-length (λ s. not (is_empty s.bytes)) slots, length-map (range k n) (slot_at b ss), length_range k n)

-- ---- a slot's line

pub frame-parts : (s : Bytes) → slot_frame s ≡ take 19 s ++ take 2 (drop 28 s)
unfolding slot_frame
frame-parts s = refl

-- of a whole slot it has 43 bytes
pub length-slot-line : (s : Bytes) → length s ≡ 30 → length (line (slot_frame s)) ≡ 43
length-slot-line s full =
    omega (arith, line-length (slot_frame s), ap length (frame-parts s), length-append (take 19 s) (take 2 (drop 28 s)), length-take 19 s, length-take 2 (drop 28 s), length-drop 28 s)

pub lines_cons : (s : Slot) (l : List Slot) → lines_of (s ∷ l) ≡ line (slot_frame s.bytes) ++ lines_of l
unfolding lines_of
lines_cons s l = refl

-- ---- all lines

module _ (b : Bytes) (ss : List ℕ) (whole : length b ≡ 4864) (inside : All (λ s. s < 19) ss) where
  pub length-slot : (k : ℕ) → length (slot_bytes b ss k) ≡ 30
  length-slot k = ap length (sym (slot_bytes-part b ss k)) ∙ (is_slot-part b ss k).full whole (sector-lt ss inside (k / 8))

  none : (k : ℕ) → length (lines_of (occupied_from b ss k 0)) ≡ 43 * length (occupied_from b ss k 0)
  unfolding lines_of occupied_from
  none k = refl

  pub length-lines : (k n : ℕ) → length (lines_of (occupied_from b ss k n)) ≡ 43 * length (occupied_from b ss k n)
  length-lines k zero = none k
  length-lines k (suc n) = go (is_empty (slot_bytes b ss k)) refl (length-lines (suc k) n)
    where
      go : (t : Bool) → is_empty (slot_bytes b ss k) ≡ t → length (lines_of (occupied_from b ss (suc k) n)) ≡ 43 * length (occupied_from b ss (suc k) n)
          → length (lines_of (occupied_from b ss k (suc n))) ≡ 43 * length (occupied_from b ss k (suc n))
      go true e h = rw (occupied-skip b ss k n e) h
      go false e h =
          rw (occupied-take b ss k n e, lines_cons (slot_at b ss k) (occupied_from b ss (suc k) n))
          (omega (arith, length-append (line (slot_frame (slot_bytes b ss k))) (lines_of (occupied_from b ss (suc k) n)), length-slot-line (slot_bytes b ss k) (length-slot k)))
