-- A directory that grows at its end: its chain goes on to the new sector, and its slots are the old ones and the new sector's.
use Prim.Native.Nat.{ℕ, ◌+◌, ◌*◌, ◌≤◌, ◌<◌}
use native.Mathlib.Omega.{arith}
use mathlib.Core.Path.{◌≡◌, refl, sym, ap, ap₂, ◌∙◌, subst}
use mathlib.Core.List.{List, [], ◌∷◌, ◌++◌, map, append-nil, append_assoc}
use lib.ListN.{length}
use lib.Dec.{eqb}
use borrow.Author.Tests.{eq-eqb}
use Rattle.d64spec.specs.Lists.{Bytes, count, filter, indicator, range, splice}
use Rattle.d64spec.specs.Answers.{Address}
use Rattle.d64spec.specs.Geometry.{Geometry, sector_number}
use Rattle.d64spec.specs.Image.{Disk}
use Rattle.d64spec.specs.Chain.{Chain, Link, ends, to}
use Rattle.d64spec.specs.Directory.{Slot, slot_in, slots_from, slots_in}
use Rattle.d64spec.specs.Format.{empty_directory_sector}
use Rattle.d64spec.specs.Store.{last_of}
use Rattle.d64spec.proofs.SpliceLaws.{part-after}
use Rattle.d64spec.proofs.SplitLaws.{map_range}
use Rattle.d64spec.proofs.SlotLaws.{slot-bytes-at}
use Rattle.d64spec.proofs.ScratchLaws.{is_occupied}

module _ (g : Geometry) where
  pub last-in : (x : Address) (l : List Address) → 1 ≤ length l → 0 < count (sector_number g (last_of x l)) (map (sector_number g) l)
  unfolding last_of
  last-in x [] h = absurd (omega arith)
  last-in x (q ∷ []) h = let z : indicator (eqb (sector_number g q) (sector_number g q)) ≡ 1 = rw (eq-eqb (sector_number g q) (sector_number g q) refl) in omega arith
  last-in x (q ∷ p ∷ l) h = omega (arith, last-in q (p ∷ l) (omega arith))

  module _ (step : Bytes → Link) (d e : Disk) (r : Address) where
    pub chain-grow : (x : Address) (k : Link) (l : List Address) → 1 ≤ length l → Chain g step d k l → ((m : ℕ) → count m (map (sector_number g) l) ≤ 1)
        → ((n : ℕ) → 0 < count n (map (sector_number g) l) → (n ≡ sector_number g (last_of x l) → ⊥) → step (d n) ≡ step (e n))
        → step (e (sector_number g (last_of x l))) ≡ to r → step (e (sector_number g r)) ≡ ends → Chain g step e k (l ++ r ∷ [])
    unfolding last_of
    chain-grow x k [] p c u f h z = absurd (omega arith)
    chain-grow x k (q ∷ []) p c u f h z = (c.0, (h, z))
    chain-grow x k (q ∷ q' ∷ l) p c u f h z =
        let self : indicator (eqb (sector_number g q) (sector_number g q)) ≡ 1 = rw (eq-eqb (sector_number g q) (sector_number g q) refl) in
        let other : sector_number g q ≡ sector_number g (last_of q (q' ∷ l)) → ⊥
        = λ y. (let i : 0 < count (sector_number g q) (map (sector_number g) (q' ∷ l)) = subst (λ (m : ℕ). 0 < count m (map (sector_number g) (q' ∷ l))) (sym y) (last-in q (q' ∷ l) (omega arith)) in omega (arith, u (sector_number g q))) in
        let s : step (d (sector_number g q)) ≡ step (e (sector_number g q)) = f (sector_number g q) (omega arith) other in
        (c.0, rw s at (chain-grow q (step (d (sector_number g q))) (q' ∷ l) (omega arith) c.1 (λ m. omega (arith, u m)) (λ n i j. f n (omega arith) j) h z))

-- the slots of a sector whose link alone changes
pub link-slots : (b : Bytes) (t s : ℕ) (x : Address) (n : ℕ) → 2 ≤ length b → slots_in (splice b 0 (t ∷ s ∷ [])) x n ≡ slots_in b x n
unfolding slots_in slot_in
link-slots b t s x n h =
    map_range (slot_in (splice b 0 (t ∷ s ∷ [])) x n) (slot_in b x n) 0 8
    (λ i l u. ap (λ (y : Bytes). record { holder = x; index = i; number = n + i; bytes = y }) (slot-bytes-at (splice b 0 (t ∷ s ∷ [])) i ∙ part-after b 0 (t ∷ s ∷ []) h (32 * i + 2) 30 (omega arith) ∙ sym (slot-bytes-at b i)))

pub slots-alike : (g : Geometry) (d e : Disk) (n : ℕ) (l : List Address) → ((x : Address) (m : ℕ) → 0 < count (sector_number g x) (map (sector_number g) l) → slots_in (e (sector_number g x)) x m ≡ slots_in (d (sector_number g x)) x m)
    → slots_from g e n l ≡ slots_from g d n l
slots-alike g d e n [] f = refl
slots-alike g d e n (x ∷ l) f =
    let z : indicator (eqb (sector_number g x) (sector_number g x)) ≡ 1 = rw (eq-eqb (sector_number g x) (sector_number g x) refl) in
    ap₂ (λ (y w : List Slot). y ++ w) (f x n (omega arith)) (slots-alike g d e (n + 8) l (λ q m h. f q m (omega arith)))

pub slots-append : (g : Geometry) (e : Disk) (n : ℕ) (l : List Address) (r : Address) → (m : ℕ) × (slots_from g e n (l ++ r ∷ []) ≡ slots_from g e n l ++ slots_in (e (sector_number g r)) r m)
slots-append g e n [] r = (n, append-nil (slots_in (e (sector_number g r)) r n))
slots-append g e n (x ∷ l) r =
    let i = slots-append g e (n + 8) l r in
    (i.0, ap (λ (y : List Slot). slots_in (e (sector_number g x)) x n ++ y) i.1 ∙ sym (append_assoc (slots_in (e (sector_number g x)) x n) (slots_from g e (n + 8) l) (slots_in (e (sector_number g r)) r i.0)))

pub fresh-slots : (r : Address) (m : ℕ) → slots_in empty_directory_sector r m ≡ slot_in empty_directory_sector r m 0 ∷ map (slot_in empty_directory_sector r m) (range 1 7)
unfolding slots_in
fresh-slots r m = refl

pub fresh-unused : (r : Address) (m : ℕ) → filter is_occupied (map (slot_in empty_directory_sector r m) (range 1 7)) ≡ []
unfolding slot_in
fresh-unused r m = refl
