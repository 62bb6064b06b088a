-- Slots are numbered through the directory in link order, eight to a sector, empty ones counted, and from 0 to 143 (01, Answer numbers).
use Prim.Native.Nat.{ℕ, suc, ◌+◌, ◌*◌, ◌-◌, ◌/◌, ◌%◌, ◌<◌}
use native.Mathlib.Omega.{arith}
use native.Mathlib.Decide.{dec_le}
use mathlib.Core.Path.{◌≡◌, refl, sym, ap, ap₂, ◌∙◌}
use mathlib.Core.List.{List, [], ◌∷◌, ◌++◌, Memᴰ}
use lib.ListN.{length, get_or, get_or-append}
use lib.Seq.{get_or-append-add}
use Rattle.d64spec.specs.Lists.{Bytes}
use Rattle.d64spec.specs.Answers.{Address, done}
use Rattle.d64spec.specs.Layouts.{Known}
use Rattle.d64spec.specs.Geometry.{Geometry, Valid, directory_start, map_address, sector_number}
use Rattle.d64spec.specs.Image.{Disk, disk}
use Rattle.d64spec.specs.Chain.{directory_link, steps, to}
use Rattle.d64spec.specs.Directory.{Slot, directory_sectors, slot_in, slots_from, slots_in}
use Rattle.d64spec.specs.Check.{check_directory}
use Rattle.d64spec.specs.Accepted.{Accepted, AcceptedDisk}
use Rattle.d64spec.specs.Facts.{Numbered, slots_most}
use Rattle.d64spec.proofs.ListLaws.{get_or-map-range}
use Rattle.d64spec.proofs.WalkLaws.{Walked, walk-sound}
use Rattle.d64spec.proofs.ScratchLaws.{claim_count-of}
use Rattle.d64spec.proofs.ListingLaws.{directory-few, slots_length}

-- ---- lists

-- an element is the one at its place
pub mem-at : {A : Type 0} {x : A} {l : List A} (z : A) → Memᴰ x l → (i : ℕ) × (i < length l) × (get_or l i z ≡ x)
mem-at z (Memᴰ.head e) = (0, omega arith, sym e)
mem-at z (Memᴰ.tail m) = let r = mem-at z m in (suc r.0, omega (arith, r.1), r.2)

-- ---- one slot

-- the slots of the directory sectors l, numbered from n: the i-th of them
slot_at : (g : Geometry) (d : Disk) (n : ℕ) (l : List Address) (i : ℕ) (z : Slot) (q : Address) → i < 8 * length l
    → get_or (slots_from g d n l) i z ≡ slot_in (d (sector_number g (get_or l (i / 8) q))) (get_or l (i / 8) q) (n + 8 * (i / 8)) (i % 8)
unfolding slots_in
slot_at g d n [] i z q h = absurd (omega arith)
slot_at g d n (r ∷ l) i z q h = elim (dec_le 8 i) [
  | yes k ↦
      let j : ℕ = i - 8 in
      let x : i / 8 ≡ suc (j / 8) = omega arith in
      let y : i % 8 ≡ j % 8 = omega arith in
      let e : i ≡ 8 + j = omega arith in
      ap (λ (k : ℕ). get_or (slots_in (d (sector_number g r)) r n ++ slots_from g d (n + 8) l) k z) e
      ∙ get_or-append-add (slots_in (d (sector_number g r)) r n) (slots_from g d (n + 8) l) j z
      ∙ slot_at g d (n + 8) l j z q (omega arith)
      ∙ rw (x, y) (ap (λ (k : ℕ). slot_in (d (sector_number g (get_or l (j / 8) q))) (get_or l (j / 8) q) k (j % 8)) (omega arith))
  | no k ↦
      let x : i / 8 ≡ 0 = omega arith in
      let y : i % 8 ≡ i = omega arith in
      get_or-append (slots_in (d (sector_number g r)) r n) (slots_from g d (n + 8) l) z i (omega arith)
      ∙ get_or-map-range (slot_in (d (sector_number g r)) r n) 0 8 i z (omega arith)
      ∙ rw (x, y) (ap₂ (λ (k m : ℕ). slot_in (d (sector_number g r)) r k m) (omega arith) (omega arith))
]

-- SLOTS ARE NUMBERED: the i-th slot, empty ones counted, has number i, is in the (i / 8)-th sector of the directory, and there is the (i % 8)-th
pub slots-numbered : (g : Geometry) (d : Disk) (l : List Address) (i : ℕ) (z : Slot) → i < 8 * length l → Numbered g d l i (get_or (slots_from g d 0 l) i z)
unfolding slot_in
slots-numbered g d l i z h = rw (slot_at g d 0 l i z directory_start h) (record { holder = refl; index = refl; number = omega arith; bytes = refl })

pub slot-number-lt : (g : Geometry) (d : Disk) (l : List Address) (s : Slot) → Memᴰ s (slots_from g d 0 l) → s.number < 8 * length l
slot-number-lt g d l s m =
    let r = mem-at s m in
    let i : ℕ = r.0 in
    let b : i < 8 * length l = omega (arith, r.1, slots_length g d 0 l) in
    let e : s.number ≡ i = ap (λ (x : Slot). x.number) (sym r.2) ∙ (slots-numbered g d l i s b).number in
    omega arith

-- ---- the whole directory

module _ (g : Geometry) (v : Valid g) (d : Disk) where
  slots-walked : (l : List Address) → Walked g (directory_link g) d (sector_number g map_address ∷ []) (to directory_start) l → (s : Slot)
      → Memᴰ s (slots_from g d 0 l) → s.number < slots_most g
  slots-walked l w s m = omega (arith, slot-number-lt g d l s m, directory-few g v d l w)

  -- a disk whose directory passes the check
  pub slots-checked : (l : List Address) → check_directory g d ≡ done l → (s : Slot) → Memᴰ s (slots_from g d 0 l) → s.number < slots_most g
  unfolding check_directory
  slots-checked l e = slots-walked l (walk-sound g (directory_link g) d (steps g) (sector_number g map_address ∷ []) map_address 255 (to directory_start) l e)

  -- an accepted disk
  pub slots-accepted : AcceptedDisk g d → (s : Slot) → Memᴰ s (slots_from g d 0 (directory_sectors g d)) → s.number < slots_most g
  slots-accepted a = slots-walked (directory_sectors g d) (record { chain = a.directory; once = λ m h. omega (arith, claim_count-of g d m, a.once m) })

-- ---- the layouts that have a number

module _ {g : Geometry} (k : Known g) where
  slots-known : slots_most g ≡ 144
  slots-known = omega (arith, k.on18)

  -- SLOTS ARE 0 TO 143
  pub slots-accepted-known : (img : Bytes) → Accepted g img → (s : Slot) → Memᴰ s (slots_from g (disk img) 0 (directory_sectors g (disk img)))
      → s.number < 144
  slots-accepted-known img a s m = rw slots-known at (slots-accepted g k.valid (disk img) a.content s m)

  pub slots-checked-known : (d : Disk) (l : List Address) → check_directory g d ≡ done l → (s : Slot) → Memᴰ s (slots_from g d 0 l) → s.number < 144
  slots-checked-known d l e s m = rw slots-known at (slots-checked g k.valid d l e s m)
