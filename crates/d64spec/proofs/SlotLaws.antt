-- One slot written: the links stay, and of the slots that one alone changes.
use Prim.Native.Nat.{ℕ, zero, suc, ◌+◌, ◌*◌, ◌≤◌, ◌<◌}
use native.Mathlib.Omega.{arith}
use native.Mathlib.Decide.{dec_le}
use mathlib.Core.Path.{◌≡◌, refl, sym, ap, ap₂, ◌∙◌}
use mathlib.Core.Bool.{Bool, true, false, cond, ◌&&◌}
use mathlib.Core.List.{List, [], ◌∷◌, ◌++◌, map}
use lib.ListN.{length, take, drop, length-append}
use lib.Seq.{drop-drop}
use lib.Dec.{eqb}
use borrow.Author.Tests.{eq-eqb, ne_eqb, eqb-true, eqb-false}
use Rattle.d64spec.specs.Lists.{All, Bytes, byte, count, filter, indicator, part, range, splice}
use Rattle.d64spec.specs.Answers.{Address}
use Rattle.d64spec.specs.Geometry.{Geometry, sector_number, total}
use Rattle.d64spec.specs.Image.{Disk}
use Rattle.d64spec.specs.Chain.{directory_link}
use Rattle.d64spec.specs.Directory.{Slot, slot_in, slots_from, slots_in}
use Rattle.d64spec.specs.Store.{overwrite_slot}
use Rattle.d64spec.specs.Changes.{InSlot}
use Rattle.d64spec.proofs.SpliceLaws.{length-splice, splice-before, splice-after, part-before, part-after, part_in}
use Rattle.d64spec.proofs.ImageLaws.{Whole, put_same, put_other, put_whole}
use Rattle.d64spec.proofs.BoundLaws.{all_append}
use Rattle.d64spec.proofs.SplitLaws.{filter-append, map-append, map_range, map-map, alone-front, alone-back}

-- the slot with other bytes
abbrev pub with_bytes : Slot → Bytes → Slot
with_bytes s b = record { holder = s.holder; index = s.index; number = s.number; bytes = b }

-- one slot of a sector has a given place
index-once : (x : Bytes) (q : Address) (n j : ℕ) → j < 8 → length (filter (λ s. eqb s.index j) (slots_in x q n)) ≡ 1
unfolding slots_in slot_in
index-once x q n zero h = refl
index-once x q n (suc zero) h = refl
index-once x q n (suc (suc zero)) h = refl
index-once x q n (suc (suc (suc zero))) h = refl
index-once x q n (suc (suc (suc (suc zero)))) h = refl
index-once x q n (suc (suc (suc (suc (suc zero))))) h = refl
index-once x q n (suc (suc (suc (suc (suc (suc zero)))))) h = refl
index-once x q n (suc (suc (suc (suc (suc (suc (suc zero))))))) h = refl
index-once x q n (suc (suc (suc (suc (suc (suc (suc (suc j)))))))) h = absurd (omega arith)

eqb-sym : (a c : ℕ) → indicator (eqb a c) ≡ indicator (eqb c a)
eqb-sym a c = go (eqb a c) refl
  where
    go : (x : Bool) → eqb a c ≡ x → indicator (eqb a c) ≡ indicator (eqb c a)
    go true t = rw (eqb-true a c t)
    go false t = rw (t, ne_eqb c a (λ z. eqb-false a c t (sym z)))

-- bytes 02 to 1F of slot j, by their offset in the sector
pub slot-bytes-at : (s : Bytes) (j : ℕ) → part 0x02 0x1F (drop (32 * j) s) ≡ take 30 (drop (32 * j + 2) s)
slot-bytes-at s j = ap (take 30) (drop-drop 2 (32 * j) s)

module _ (g : Geometry) (d : Disk) (w : Whole g d) (r : Address) (on : sector_number g r < total g) (j : ℕ) (j<8 : j < 8) (bs : Bytes) (len : length bs ≡ 30) where
  -- the sector before
  abbrev b : Bytes
  b = d (sector_number g r)

  -- the sector after
  abbrev b' : Bytes
  b' = splice b (32 * j + 2) bs

  -- the disk after
  abbrev pub e : Disk
  e = overwrite_slot g r j bs d

  fits : 32 * j + 2 + length bs ≤ length b
  fits = omega (arith, w.full (sector_number g r) on)

  pub slot_whole : Whole g e
  unfolding overwrite_slot
  slot_whole = put_whole g d (sector_number g r) b' w on (length-splice b (32 * j + 2) bs fits ∙ w.full (sector_number g r) on)

  pub slot-other : (n : ℕ) → (n ≡ sector_number g r → ⊥) → e n ≡ d n
  unfolding overwrite_slot
  slot-other n h = put_other d (sector_number g r) b' n h

  pub slot_same : e (sector_number g r) ≡ b'
  unfolding overwrite_slot
  slot_same = put_same d (sector_number g r) b'

  slot-in : part 0x02 0x1F (drop (32 * j) b') ≡ bs
  slot-in = slot-bytes-at b' j ∙ ap (λ (x : ℕ). take x (drop (32 * j + 2) b')) (sym len) ∙ part_in b (32 * j + 2) bs fits

  -- what stands in the slot
  pub slot-written : part 0x02 0x1F (drop (32 * j) (e (sector_number g r))) ≡ bs
  slot-written = ap (λ (x : Bytes). part 0x02 0x1F (drop (32 * j) x)) slot_same ∙ slot-in

  -- and every other byte stays
  pub slot-rest : (n i : ℕ) → (InSlot g r j n i → ⊥) → byte (e n) i ≡ byte (d n) i
  slot-rest n i out = go (eqb n (sector_number g r)) refl
    where
      within : n ≡ sector_number g r → byte b' i ≡ byte b i
      within z = elim (dec_le (32 * j + 2) i) [
        | yes k ↦ elim (dec_le (32 * j + 32) i) [
          | yes m ↦ splice-after b (32 * j + 2) bs fits i (omega arith)
          | no m ↦ absurd (out (z, k, omega arith))
        ]
        | no k ↦ splice-before b (32 * j + 2) bs fits i (omega arith)
      ]

      go : (c : Bool) → eqb n (sector_number g r) ≡ c → byte (e n) i ≡ byte (d n) i
      go true t =
          let z : n ≡ sector_number g r = eqb-true n (sector_number g r) t in
          ap (λ (x : ℕ). byte (e x) i) z ∙ ap (λ (x : Bytes). byte x i) slot_same ∙ within z ∙ ap (λ (x : ℕ). byte (d x) i) (sym z)
      go false t = ap (λ (x : Bytes). byte x i) (slot-other n (eqb-false n (sector_number g r) t))

  same-link : directory_link g b' ≡ directory_link g b
  unfolding directory_link
  same-link = rw (splice-before b (32 * j + 2) bs fits 0 (omega arith), splice-before b (32 * j + 2) bs fits 1 (omega arith))

  pub slot-link : (n : ℕ) → directory_link g (d n) ≡ directory_link g (e n)
  slot-link n = go (eqb n (sector_number g r)) refl
    where
      go : (c : Bool) → eqb n (sector_number g r) ≡ c → directory_link g (d n) ≡ directory_link g (e n)
      go true t = rw (eqb-true n (sector_number g r) t) (rw slot_same (sym same-link))
      go false t = rw (slot-other n (eqb-false n (sector_number g r) t))

  -- ---- the slots

  -- the slot that is written
  abbrev target : Slot → Bool
  target s = eqb (sector_number g s.holder) (sector_number g r) && eqb s.index j

  -- a slot after the write
  abbrev edit : Slot → Slot
  edit s = cond (target s) (with_bytes s bs) s

  -- slot i of the changed sector
  in-sector : (q : Address) (n i : ℕ) → i < 8 → slot_in b' q n i ≡ cond (eqb i j) (with_bytes (slot_in b q n i) bs) (slot_in b q n i)
  unfolding slot_in
  in-sector q n i h = go (eqb i j) refl
    where
      mk : Bytes → Slot
      mk x = record { holder = q; index = i; number = n + i; bytes = x }

      go : (c : Bool) → eqb i j ≡ c → mk (part 0x02 0x1F (drop (32 * i) b')) ≡ cond c (mk bs) (mk (part 0x02 0x1F (drop (32 * i) b)))
      go true t = ap mk (ap (λ (y : ℕ). part 0x02 0x1F (drop (32 * y) b')) (eqb-true i j t) ∙ slot-in)
      go false t = ap mk (slot-bytes-at b' i ∙ (elim (dec_le i j) [
        | yes k ↦ part-before b (32 * j + 2) bs fits (32 * i + 2) 30 (let ne : i ≡ j → ⊥ = eqb-false i j t in omega arith)
        | no k ↦ part-after b (32 * j + 2) bs fits (32 * i + 2) 30 (omega arith)
      ]) ∙ sym (slot-bytes-at b i))

  edit-sector : (q : Address) (n : ℕ) → slots_in (e (sector_number g q)) q n ≡ map edit (slots_in (d (sector_number g q)) q n)
  unfolding slots_in slot_in
  edit-sector q n = go (eqb (sector_number g q) (sector_number g r)) refl
    where
      go : (c : Bool) → eqb (sector_number g q) (sector_number g r) ≡ c → map (slot_in (e (sector_number g q)) q n) (range 0 8) ≡ map edit (map (slot_in (d (sector_number g q)) q n) (range 0 8))
      go true t =
          let z : sector_number g q ≡ sector_number g r = eqb-true (sector_number g q) (sector_number g r) t in
          ap (λ (x : ℕ). map (slot_in (e x) q n) (range 0 8)) z
          ∙ ap (λ (x : Bytes). map (slot_in x q n) (range 0 8)) slot_same
          ∙ map_range (slot_in b' q n) (λ i. edit (slot_in b q n i)) 0 8 (λ i l u. in-sector q n i u ∙ ap (λ (c : Bool). cond (c && eqb i j) (with_bytes (slot_in b q n i) bs) (slot_in b q n i)) (sym t))
          ∙ sym (map-map edit (slot_in b q n) (range 0 8))
          ∙ ap (λ (x : ℕ). map edit (map (slot_in (d x) q n) (range 0 8))) (sym z)
      go false t =
          ap (λ (x : Bytes). map (slot_in x q n) (range 0 8)) (slot-other (sector_number g q) (eqb-false (sector_number g q) (sector_number g r) t))
          ∙ map_range (slot_in (d (sector_number g q)) q n) (λ i. edit (slot_in (d (sector_number g q)) q n i)) 0 8
          (λ i l u. ap (λ (c : Bool). cond (c && eqb i j) (with_bytes (slot_in (d (sector_number g q)) q n i) bs) (slot_in (d (sector_number g q)) q n i)) (sym t))
          ∙ sym (map-map edit (slot_in (d (sector_number g q)) q n) (range 0 8))

  edit-slots : (n : ℕ) (l : List Address) → slots_from g e n l ≡ map edit (slots_from g d n l)
  edit-slots n [] = refl
  edit-slots n (q ∷ l) =
      ap₂ (λ (x y : List Slot). x ++ y) (edit-sector q n) (edit-slots (n + 8) l) ∙ sym (map-append edit (slots_in (d (sector_number g q)) q n) (slots_from g d (n + 8) l))

  -- as many slots are the target as the sector stands in the directory
  targets-sector : (x : Bytes) (q : Address) (n : ℕ) → length (filter target (slots_in x q n)) ≡ indicator (eqb (sector_number g q) (sector_number g r))
  unfolding slots_in slot_in
  targets-sector x q n = go (eqb (sector_number g q) (sector_number g r)) refl
    where
      go : (c : Bool) → eqb (sector_number g q) (sector_number g r) ≡ c → length (filter (λ s. c && eqb s.index j) (slots_in x q n)) ≡ indicator c
      go true t = index-once x q n j j<8
      go false t = refl

  targets : (n : ℕ) (l : List Address) → length (filter target (slots_from g d n l)) ≡ count (sector_number g r) (map (sector_number g) l)
  targets n [] = refl
  targets n (q ∷ l) =
      omega (
        arith,
        ap length (filter-append target (slots_in (d (sector_number g q)) q n) (slots_from g d (n + 8) l)),
        length-append (filter target (slots_in (d (sector_number g q)) q n)) (filter target (slots_from g d (n + 8) l)),
        targets-sector (d (sector_number g q)) q n,
        targets (n + 8) l,
        eqb-sym (sector_number g q) (sector_number g r),
      )

  edit-none : (l : List Slot) → All (λ x. target x ≡ false) l → map edit l ≡ l
  edit-none [] a = refl
  edit-none (x ∷ l) a = ap₂ (λ (y : Slot) (z : List Slot). y ∷ z) (ap (λ (c : Bool). cond c (with_bytes x bs) x) a.0) (edit-none l a.1)

  -- of the slots the written one alone changes
  pub slots-written : (l : List Address) (s : Slot) (front back : List Slot) → slots_from g d 0 l ≡ front ++ s ∷ back
      → sector_number g s.holder ≡ sector_number g r → s.index ≡ j → count (sector_number g r) (map (sector_number g) l) ≤ 1 → slots_from g e 0 l ≡ front ++ with_bytes s bs ∷ back
  slots-written l s front back h p q u =
      let t : target s ≡ true = rw (eq-eqb (sector_number g s.holder) (sector_number g r) p) (eq-eqb s.index j q) in
      let few : length (filter target (front ++ s ∷ back)) ≤ 1 = rw (← h) (omega (arith, targets 0 l)) in
      edit-slots 0 l ∙ ap (map edit) h ∙ map-append edit front (s ∷ back)
      ∙ ap₂ (λ (x y : List Slot). x ++ y) (edit-none front (alone-front target s front back t few))
      (ap₂ (λ (x : Slot) (y : List Slot). x ∷ y) (ap (λ (c : Bool). cond c (with_bytes s bs) s) t) (edit-none back (alone-back target s front back t few)))

-- a slot of the directory is one of eight in one of its sectors
pub record Placed (g : Geometry) (l : List Address) (s : Slot) : Type 0 where
  pub place : s.index < 8
  pub sector : 0 < count (sector_number g s.holder) (map (sector_number g) l)

all-imp : {A : Type 0} {P Q : A → Type 0} → ((x : A) → P x → Q x) → (l : List A) → All P l → All Q l
all-imp f [] a = tt
all-imp f (x ∷ l) a = (f x a.0, all-imp f l a.1)

pub slots-placed : (g : Geometry) (d : Disk) (n : ℕ) (l : List Address) → All (Placed g l) (slots_from g d n l)
unfolding slots_in slot_in
slots-placed g d n [] = tt
slots-placed g d n (q ∷ l) =
    let self : indicator (eqb (sector_number g q) (sector_number g q)) ≡ 1 = rw (eq-eqb (sector_number g q) (sector_number g q) refl) in
    let at : 0 < count (sector_number g q) (map (sector_number g) (q ∷ l)) = omega arith in
    all_append (Placed g (q ∷ l)) (slots_in (d (sector_number g q)) q n) (slots_from g d (n + 8) l)
    (record { place = omega arith; sector = at }, (record { place = omega arith; sector = at }, (record { place = omega arith; sector = at }, (record { place = omega arith; sector = at }, (record { place = omega arith; sector = at }, (record { place = omega arith; sector = at }, (record { place = omega arith; sector = at }, (record { place = omega arith; sector = at }, tt))))))))
    (all-imp (λ s p. record { place = p.place; sector = omega (arith, p.sector) }) (slots_from g d (n + 8) l) (slots-placed g d (n + 8) l))
