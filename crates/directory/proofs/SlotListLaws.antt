-- The slots of the directory by their numbers are d64spec's slots, sector by sector (01, Answer numbers: eight to a sector, in link order).
-- In order: ranges; track 18's numbers; one slot; all slots. Assumes nothing.
use mathlib.Core.Path.{◌≡◌, refl, sym, ap, ap₂, ◌∙◌}
use mathlib.Core.Bool.{not}
use mathlib.Core.List.{List, ◌∷◌, ◌++◌, map}
use Prim.Native.Nat.{ℕ, zero, suc, ◌+◌, ◌*◌, ◌/◌, ◌%◌, ◌≤◌, ◌<◌}
use native.Mathlib.Omega.{arith}
use lib.ListN.{length, get_or, take, drop}
use lib.Seq.{drop-cons}
use Rattle.d64spec.specs.Lists.{Bytes, filter, range}
use Rattle.d64spec.specs.Answers.{address}
use Rattle.d64spec.specs.Geometry.{Geometry, sector_number}
use Rattle.d64spec.specs.Image.{disk}
use Rattle.d64spec.specs.Directory.{Slot, is_empty, slot_in, slots_in, slots_from, occupied_in}
use Rattle.d64spec.specs.Listing.{disk_of_track18}
use Rattle.d64spec.proofs.SplitLaws.{map-append}
use Rattle.directory.specs.Directories.{sectors_of, slot_at}

-- ---- ranges

range-append : (a m n : ℕ) → range a (m + n) ≡ range a m ++ range (a + m) n
range-append a zero n = let z : 0 + n ≡ n = omega arith in let y : a + 0 ≡ a = omega arith in rw (z, y)
range-append a (suc m) n =
    let z : suc m + n ≡ suc (m + n) = omega arith in
    let y : suc a + m ≡ a + suc m = omega arith in
    ap (range a) z ∙ ap (λ (l : List ℕ). a ∷ l) (range-append (suc a) m n ∙ ap (λ (x : ℕ). range (suc a) m ++ range x n) y)

-- two functions that agree along two ranges
map-ranges : {A : Type 0} (f h : ℕ → A) (a b n : ℕ) → ((j : ℕ) → j < n → f (a + j) ≡ h (b + j)) → map f (range a n) ≡ map h (range b n)
map-ranges f h a b zero e = refl
map-ranges f h a b (suc n) e =
    let x : f a ≡ h b = ap f (omega arith) ∙ e 0 (omega arith) ∙ ap h (omega arith) in
    ap₂ (λ y l. y ∷ l) x (map-ranges f h (suc a) (suc b) n (λ j l. ap f (omega arith) ∙ e (suc j) (omega arith) ∙ ap h (omega arith)))

-- ---- track 18

-- sector s of track 18 is the s-th of its bytes
pub disk-of-track18 : (g : Geometry) (b : Bytes) (s : ℕ) → disk_of_track18 g b (sector_number g (address 18 s)) ≡ disk b s
unfolding disk_of_track18 sector_number
disk-of-track18 g b s = ap (disk b) (omega arith)

-- ---- slots

module _ (g : Geometry) (b : Bytes) (ss : List ℕ) where
  -- the j-th slot of the i-th sector
  slot-of-sector : (i j : ℕ) → j < 8 → slot_at b ss (8 * i + j) ≡ slot_in (disk b (get_or ss i 0)) (address 18 (get_or ss i 0)) (8 * i) (0 + j)
  unfolding slot_at
  slot-of-sector i j h =
      let d : (8 * i + j) / 8 ≡ i = omega arith in
      let m : (8 * i + j) % 8 ≡ 0 + j = omega arith in
      rw (d, m)

  -- the eight slots of the i-th sector
  slots-of-sector : (i : ℕ) → slots_in (disk_of_track18 g b (sector_number g (address 18 (get_or ss i 0)))) (address 18 (get_or ss i 0)) (8 * i)
      ≡ map (slot_at b ss) (range (8 * i) 8)
  unfolding slots_in
  slots-of-sector i =
      ap (λ (s : Bytes). map (slot_in s (address 18 (get_or ss i 0)) (8 * i)) (range 0 8)) (disk-of-track18 g b (get_or ss i 0))
      ∙ sym (map-ranges (slot_at b ss) (slot_in (disk b (get_or ss i 0)) (address 18 (get_or ss i 0)) (8 * i)) (8 * i) 0 8 (λ j l. slot-of-sector i j l))

  slots-from : (m i : ℕ) → i + m ≤ length ss → slots_from g (disk_of_track18 g b) (8 * i) (map (λ s. address 18 s) (take m (drop i ss)))
      ≡ map (slot_at b ss) (range (8 * i) (8 * m))
  slots-from zero i h = refl
  slots-from (suc m) i h =
      let eight : 8 * suc m ≡ 8 + 8 * m = omega arith in
      let next : 8 * i + 8 ≡ 8 * suc i = omega arith in
      ap (λ (l : List ℕ). slots_from g (disk_of_track18 g b) (8 * i) (map (λ s. address 18 s) (take (suc m) l))) (drop-cons ss i 0 (omega arith))
      ∙ ap₂ (λ (x y : List Slot). x ++ y) (slots-of-sector i)
      (ap (λ (n : ℕ). slots_from g (disk_of_track18 g b) n (map (λ s. address 18 s) (take m (drop (suc i) ss)))) next
      ∙ slots-from m (suc i) (omega arith)
      ∙ ap (λ (n : ℕ). map (slot_at b ss) (range n (8 * m))) (sym next))
      ∙ sym (ap (λ (n : ℕ). map (slot_at b ss) (range (8 * i) n)) eight
      ∙ ap (map (slot_at b ss)) (range-append (8 * i) 8 (8 * m))
      ∙ map-append (slot_at b ss) (range (8 * i) 8) (range (8 * i + 8) (8 * m)))

  -- THE SLOTS of the first n sectors are the slots 0 to 8 * n - 1
  pub slots-by-number : (n : ℕ) → n ≤ length ss → slots_from g (disk_of_track18 g b) 0 (sectors_of ss n) ≡ map (slot_at b ss) (range 0 (8 * n))
  slots-by-number n h = slots-from n 0 (omega arith)

  -- and so are the occupied ones
  pub occupied-by-number : (n : ℕ) → n ≤ length ss → occupied_in g (disk_of_track18 g b) (sectors_of ss n)
      ≡ filter (λ s. not (is_empty s.bytes)) (map (slot_at b ss) (range 0 (8 * n)))
  occupied-by-number n h = ap (filter (λ s. not (is_empty s.bytes))) (slots-by-number n h)
