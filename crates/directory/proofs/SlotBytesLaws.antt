-- The bytes of one slot, as a part of track 18: where they are, and how many they are (01, The directory).
-- Assumes nothing.
use mathlib.Core.Path.{◌≡◌, refl, sym, ap, ◌∙◌}
use mathlib.Core.List.{List, [], ◌∷◌}
use Prim.Native.Nat.{ℕ, zero, suc, ◌+◌, ◌*◌, ◌/◌, ◌%◌, ◌≤◌, ◌<◌}
use native.Mathlib.Omega.{arith}
use lib.ListN.{length, get_or, take, drop, length-take, length-drop}
use lib.Seq.{drop-drop, take-take}
use Rattle.d64spec.specs.Lists.{Bytes, part}
use Rattle.d64spec.specs.Image.{disk}
use Rattle.d64spec.specs.Directory.{slot_in}
use Rattle.directory.specs.Directories.{IsSlot, slot_at, slot_bytes}

-- a part that lies in the front of a list
part-take : {A : Type 0} (a m n : ℕ) (l : List A) → a + m ≤ n → take m (drop a (take n l)) ≡ take m (drop a l)
part-take zero m n l h = take-take m n l (omega arith)
part-take (suc a) m zero l h = absurd (omega arith)
part-take (suc a) m (suc n) [] h = refl
part-take (suc a) m (suc n) (x ∷ l) h = part-take a m n l (omega arith)

module _ (b : Bytes) (ss : List ℕ) (k : ℕ) where
  -- they are 30 of track 18's
  pub slot_bytes-part : take 30 (drop (256 * get_or ss (k / 8) 0 + 32 * (k % 8) + 2) b) ≡ slot_bytes b ss k
  unfolding slot_at slot_in disk
  slot_bytes-part =
      let s = get_or ss (k / 8) 0 in
      let j = k % 8 in
      let start : 256 * s + (32 * j + 2) ≡ 256 * s + 32 * j + 2 = omega arith in
      sym
      (ap (take 30) (drop-drop 2 (32 * j) (take 256 (drop (256 * s) b)))
      ∙ part-take (32 * j + 2) 30 256 (drop (256 * s) b) (omega arith)
      ∙ ap (take 30) (drop-drop (32 * j + 2) (256 * s) b)
      ∙ ap (λ (n : ℕ). take 30 (drop n b)) start)

  slot_bytes-length : length b ≡ 4864 → get_or ss (k / 8) 0 < 19 → length (slot_bytes b ss k) ≡ 30
  slot_bytes-length whole inside =
      let s = get_or ss (k / 8) 0 in
      ap length (sym slot_bytes-part)
      ∙ simp (length-take, length-drop) (omega arith)

  -- what has these bytes is the slot
  is_slot : {p : Bytes} → p ≡ slot_bytes b ss k → IsSlot b ss k p
  is_slot e = record { bytes = e; full = λ whole inside. ap length e ∙ slot_bytes-length whole inside }

  -- a part of track 18
  pub is_slot-part : IsSlot b ss k (take 30 (drop (256 * get_or ss (k / 8) 0 + 32 * (k % 8) + 2) b))
  is_slot-part = is_slot slot_bytes-part

  -- a slot of a sector that may be cut off
  pub is_slot-sector : (s : ℕ) {sector p : Bytes} → s ≡ get_or ss (k / 8) 0 → sector ≡ disk b s → p ≡ part 0x02 0x1F (drop (32 * (k % 8)) sector) → IsSlot b ss k p
  unfolding slot_at slot_in
  is_slot-sector s place bytes cut = is_slot (rw (cut, bytes, place))
