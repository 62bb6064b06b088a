-- Bytes written over others (01, What the calls do: what a call does not name stays as it was).
-- In order: what comes back of a loan; bytes overwritten where they fit, and where not; what is then on the disk.
use Prim.Native.Nat.{ℕ, ◌+◌, ◌-◌, ◌*◌, ◌≤◌, ◌<◌}
use native.Mathlib.Omega.{arith}
use mathlib.Core.Path.{◌≡◌, refl, sym, ap, ap₂, ◌∙◌}
use mathlib.Core.Bool.{Bool, true, false, cond}
use mathlib.Core.List.{[], ◌++◌, append-nil}
use lib.ListN.{length, take, drop, length-take, drop_of_length-le}
use lib.Seq.{take-length, drop-drop}
use lib.Dec.{leb}
use borrow.Author.Tests.{leb-true, le-leb, lt-leb}
use Rattle.d64spec.specs.Lists.{Bytes, splice}
use Rattle.d64spec.specs.Image.{disk, put}
use Rattle.d64spec.proofs.SpliceLaws.{length-splice}
use Rattle.d64spec.proofs.InPlaceLaws.{splice-disk-part}
use Rattle.parts.specs.Overwrites.{overwritten}

-- ---- loans

-- WHAT COMES BACK OF A LOAN of the w bytes from index a on, where it is p
pub lent_back : (s : Bytes) (a w : ℕ) (p : Bytes) → length p ≡ w → take a s ++ (p ++ drop w (drop a s)) ≡ splice s a p
lent_back s a w p e = ap (λ (x : Bytes). take a s ++ (p ++ x)) (drop-drop w a s ∙ ap (λ (n : ℕ). drop (a + n) s) (sym e))

-- and of a loan of the n bytes up to a + n, where c is copied over all of it: the width is as the code has it
module _ (s : Bytes) (a n : ℕ) (c : Bytes) where
  abbrev width : ℕ
  width = a + n - a

  pub copied_whole-back : {p : Bytes} → length c ≡ n → p ≡ c → take a s ++ (p ++ drop width (drop a s)) ≡ splice s a c
  copied_whole-back {p = p} e all = rw all (lent_back s a width c (omega arith))

  -- the same where the loan was as it was behind the copy
  pub copied-back : {p : Bytes} → length c ≡ n → p ≡ take (length c) c ++ drop (length c) (take width (drop a s)) → take a s ++ (p ++ drop width (drop a s)) ≡ splice s a c
  copied-back {p = p} e is =
      let none : drop (length c) (take width (drop a s)) ≡ [] = drop_of_length-le (take width (drop a s)) {i = length c} (omega (arith, length-take width (drop a s))) in
      copied_whole-back e (is ∙ ap₂ (λ (x y : Bytes). x ++ y) (take-length c) none ∙ append-nil c)

-- ---- overwritten bytes

module _ (s : Bytes) (i : ℕ) (bs : Bytes) where
  pub overwritten-inside : i + length bs ≤ length s → overwritten s i bs ≡ splice s i bs
  unfolding overwritten
  overwritten-inside h = rw (le-leb (i + length bs) (length s) h)

  pub overwritten-past : length s < i + length bs → overwritten s i bs ≡ s
  unfolding overwritten
  overwritten-past h = rw (lt-leb (i + length bs) (length s) h)

  -- the length stays
  pub length-overwritten : length (overwritten s i bs) ≡ length s
  unfolding overwritten
  length-overwritten = go (leb (i + length bs) (length s)) refl
    where
      go : (t : Bool) → leb (i + length bs) (length s) ≡ t → length (cond t (splice s i bs) s) ≡ length s
      go true h = length-splice s i bs (leb-true (i + length bs) (length s) h)
      go false h = refl

-- BYTES OF A SECTOR OVERWRITTEN in the image are that sector put on the disk with these bytes in it
pub disk-overwritten : (img : Bytes) (n i : ℕ) (bs : Bytes) → 256 * n + 256 ≤ length img → i + length bs ≤ 256
    → disk (overwritten img (256 * n + i) bs) ≡ put (disk img) n (splice (disk img n) i bs)
disk-overwritten img n i bs inside fits = ap disk (overwritten-inside img (256 * n + i) bs (omega arith)) ∙ splice-disk-part img n i bs inside fits
