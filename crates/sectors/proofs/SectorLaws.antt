-- Laws of a sector and of an image with another sector in its place.
-- In order: a sector as a part; when a sector is written, and when not; what is then on the disk; a sector lent on; bytes of a sector.
use Prim.Native.Nat.{ℕ, ◌+◌, ◌-◌, ◌*◌, ◌≤◌, ◌<◌}
use native.Mathlib.Omega.{arith}
use mathlib.Core.Path.{◌≡◌, refl, sym, ap, ap₂, ◌∙◌}
use mathlib.Core.Bool.{Bool, true, false, cond, ◌&&◌}
use mathlib.Core.List.{[], ◌++◌}
use lib.ListN.{length, take, drop, length-take, length-drop, drop_of_length-le}
use lib.Seq.{take_all, get_or-take, get_or-drop}
use lib.Dec.{eqb, leb}
use borrow.Author.Tests.{eqb-true, leb-true, le-leb, lt-leb, eq-eqb, ne_eqb}
use Rattle.d64spec.specs.Lists.{Bytes, byte, splice}
use Rattle.d64spec.specs.Image.{disk, put}
use Rattle.d64spec.proofs.SpliceLaws.{length-splice}
use Rattle.d64spec.proofs.InPlaceLaws.{splice-disk}
use Rattle.parts.specs.Overwrites.{overwritten}
use Rattle.parts.proofs.OverwriteLaws.{lent_back, overwritten-inside, length-overwritten}
use Rattle.sectors.specs.Sectors.{Inside, IsSector, with_sector, overwritten_in}

module _ (img : Bytes) (n : ℕ) where
  -- a sector that lies whole in the image has 256 bytes
  pub length-disk : Inside img n → length (disk img n) ≡ 256
  unfolding disk
  length-disk h = simp (length-take, length-drop) (omega arith)

  pub is_sector : {p : Bytes} → p ≡ disk img n → IsSector img n p
  is_sector e = record { bytes = e; full = λ h. ap length e ∙ length-disk h }

  -- its bytes are the image's
  pub byte-disk : (i : ℕ) → i < 256 → byte (disk img n) i ≡ byte img (256 * n + i)
  unfolding disk
  byte-disk i h = get_or-take 256 (drop (256 * n) img) i 0 h ∙ get_or-drop (256 * n) img i 0

  pub byte-disk-first : byte (disk img n) 0 ≡ byte img (256 * n)
  byte-disk-first = let e : 256 * n + 0 ≡ 256 * n = omega arith in byte-disk 0 (omega arith) ∙ ap (byte img) e

  -- where the sector starts past the image's end, it is empty
  pub disk-past : length img ≤ 256 * n → [] ≡ disk img n
  unfolding disk
  disk-past h = sym (ap (take 256) (drop_of_length-le img {i = 256 * n} h))

  -- where the image ends inside it, it is the rest of the image
  pub disk-cut : length img ≤ 256 * n + 256 → take (length img - 256 * n) (drop (256 * n) img) ≡ disk img n
  unfolding disk
  disk-cut h =
      let l = length-drop (256 * n) img in
      take_all (length img - 256 * n) (drop (256 * n) img) (omega arith) ∙ sym (take_all 256 (drop (256 * n) img) (omega arith))

module _ (img : Bytes) (n : ℕ) (s : Bytes) where
  pub with_sector-whole : Inside img n → length s ≡ 256 → with_sector img n s ≡ splice img (256 * n) s
  unfolding with_sector
  with_sector-whole inside size = simp (le-leb (256 * n + 256) (length img) inside, eq-eqb (length s) 256 size)

  pub with_sector-cut : length img < 256 * n + 256 → with_sector img n s ≡ img
  unfolding with_sector
  with_sector-cut h = simp (lt-leb (256 * n + 256) (length img) h)

  pub with_sector-size : (length s ≡ 256 → ⊥) → with_sector img n s ≡ img
  unfolding with_sector
  with_sector-size other = rw (ne_eqb (length s) 256 other) (go (leb (256 * n + 256) (length img)))
    where
      go : (b : Bool) → cond (b && false) (splice img (256 * n) s) img ≡ img
      go true = refl
      go false = refl

  -- no call that writes a sector changes the image's length
  pub length-with_sector : length (with_sector img n s) ≡ length img
  unfolding with_sector
  length-with_sector = go (leb (256 * n + 256) (length img)) (eqb (length s) 256) refl refl
    where
      go : (b c : Bool) → leb (256 * n + 256) (length img) ≡ b → eqb (length s) 256 ≡ c → length (cond (b && c) (splice img (256 * n) s) img) ≡ length img
      go true true inside size = length-splice img (256 * n) s (omega (arith, leb-true (256 * n + 256) (length img) inside, eqb-true (length s) 256 size))
      go true false inside size = refl
      go false c inside size = refl

  -- A SECTOR WRITTEN IN THE IMAGE IS A SECTOR PUT ON THE DISK
  pub disk-with_sector : Inside img n → length s ≡ 256 → disk (with_sector img n s) ≡ put (disk img) n s
  disk-with_sector inside size = ap disk (with_sector-whole inside size) ∙ splice-disk img n s inside size

-- ---- a sector lent on

-- sector n lent as the 256 bytes from a on: the width is as the code has it
module _ (img : Bytes) (n : ℕ) {a : ℕ} (start : a ≡ 256 * n) where
  abbrev width : ℕ
  width = a + 256 - a

  -- the part lent is the sector
  pub sector-lent : take width (drop a img) ≡ disk img n
  unfolding disk
  sector-lent = let wide : width ≡ 256 = omega arith in ap₂ (λ (w k : ℕ). take w (drop k img)) wide start

  -- and WHAT COMES BACK OF THE LOAN, where that is s
  pub sector-back : {s p : Bytes} → Inside img n → p ≡ s → length s ≡ 256 → take a img ++ (p ++ drop width (drop a img)) ≡ with_sector img n s
  sector-back {s} {p} inside e full =
      lent_back img a width p (omega (arith, ap length e)) ∙ ap₂ (λ (k : ℕ) (x : Bytes). splice img k x) start e ∙ sym (with_sector-whole img n s inside full)

-- ---- bytes of a sector

module _ (img : Bytes) (n i : ℕ) (bs : Bytes) where
  pub overwritten_in-lent : {a : ℕ} (start : a ≡ 256 * n) {p : Bytes} → Inside img n → p ≡ overwritten (take (width img n start) (drop a img)) i bs
      → take a img ++ (p ++ drop (width img n start) (drop a img)) ≡ overwritten_in img n i bs
  unfolding overwritten_in
  overwritten_in-lent start {p} inside e =
      let is : p ≡ overwritten (disk img n) i bs = e ∙ ap (λ (s : Bytes). overwritten s i bs) (sector-lent img n start) in
      sector-back img n start inside is (length-overwritten (disk img n) i bs ∙ length-disk img n inside)

  pub overwritten_in-cut : length img < 256 * n + 256 → overwritten_in img n i bs ≡ img
  unfolding overwritten_in
  overwritten_in-cut h = with_sector-cut img n (overwritten (disk img n) i bs) h

  pub length-overwritten_in : length (overwritten_in img n i bs) ≡ length img
  unfolding overwritten_in
  length-overwritten_in = length-with_sector img n (overwritten (disk img n) i bs)

  -- BYTES OF A SECTOR OVERWRITTEN in the image are that sector put on the disk with these bytes in it
  pub disk-overwritten_in : Inside img n → i + length bs ≤ 256 → disk (overwritten_in img n i bs) ≡ put (disk img) n (splice (disk img n) i bs)
  unfolding overwritten_in
  disk-overwritten_in inside fits =
      let long : length (disk img n) ≡ 256 = length-disk img n inside in
      disk-with_sector img n (overwritten (disk img n) i bs) inside (length-overwritten (disk img n) i bs ∙ long)
      ∙ ap (put (disk img) n) (overwritten-inside (disk img n) i bs (omega arith))
