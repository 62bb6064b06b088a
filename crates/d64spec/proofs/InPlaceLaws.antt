-- For the code: a sector, or a part of one, written in place in the image is a sector put on the disk.
use Prim.Native.Nat.{ℕ, zero, suc, ◌+◌, ◌*◌, ◌≤◌, ◌<◌}
use native.Mathlib.Omega.{arith}
use native.Mathlib.Decide.{dec_le}
use mathlib.Core.Path.{◌≡◌, refl, sym, ap, ◌∙◌, fun_ext}
use mathlib.Core.Bool.{Bool, true, false, cond}
use mathlib.Core.List.{◌++◌, map}
use lib.ListN.{length, take, drop, length-take, length-drop}
use lib.Seq.{take-add, drop-drop, take_all}
use lib.Dec.{eqb}
use borrow.Author.Tests.{eqb-true, eqb-false}
use Rattle.d64spec.specs.Lists.{Bytes, join, range, splice}
use Rattle.d64spec.specs.Geometry.{Geometry, total}
use Rattle.d64spec.specs.Image.{disk, image, put}
use Rattle.d64spec.proofs.SpliceLaws.{length-splice, part-before, part-after, splice_all, part-splice}

joined-part : (img : Bytes) (a n : ℕ) → join (map (disk img) (range a n)) ≡ take (256 * n) (drop (256 * a) img)
unfolding disk
joined-part img a zero = refl
joined-part img a (suc n) =
    let e : 256 * suc a ≡ 256 * a + 256 = omega arith in
    let f : 256 * suc n ≡ 256 + 256 * n = omega arith in
    ap (λ (x : Bytes). take 256 (drop (256 * a) img) ++ x) (joined-part img (suc a) n ∙ ap (λ (k : ℕ). take (256 * n) (drop k img)) e ∙ ap (take (256 * n)) (sym (drop-drop 256 (256 * a) img)))
    ∙ sym (take-add 256 (256 * n) (drop (256 * a) img)) ∙ ap (λ (k : ℕ). take k (drop (256 * a) img)) (sym f)

-- an image of the right size is the image of its disk
pub disk-image : (g : Geometry) (img : Bytes) → length img ≡ 256 * total g → image g (disk img) ≡ img
unfolding image
disk-image g img h = joined-part img 0 (total g) ∙ take_all (256 * total g) img (omega arith)

-- bytes of a sector that lies whole in the image, written in place, are that sector put on the disk with these bytes in it
module _ (img : Bytes) (n i : ℕ) (bs : Bytes) (inside : 256 * n + 256 ≤ length img) (fits : i + length bs ≤ 256) where
  pub splice-disk-part : disk (splice img (256 * n + i) bs) ≡ put (disk img) n (splice (disk img n) i bs)
  unfolding disk put
  splice-disk-part = fun_ext (λ m. go m (eqb m n) refl)
    where
      go : (m : ℕ) (b : Bool) → eqb m n ≡ b → take 256 (drop (256 * m) (splice img (256 * n + i) bs)) ≡ cond b (splice (take 256 (drop (256 * n) img)) i bs) (take 256 (drop (256 * m) img))
      go m true t = ap (λ (x : ℕ). take 256 (drop (256 * x) (splice img (256 * n + i) bs))) (eqb-true m n t) ∙ part-splice img (256 * n) 256 i bs inside fits
      go m false t = elim (dec_le m n) [
        | yes k ↦ part-before img (256 * n + i) bs (omega arith) (256 * m) 256 (let z : m ≡ n → ⊥ = eqb-false m n t in omega arith)
        | no k ↦ part-after img (256 * n + i) bs (omega arith) (256 * m) 256 (omega arith)
      ]

-- and all of its bytes
pub splice-disk : (img : Bytes) (n : ℕ) (s : Bytes) → 256 * n + 256 ≤ length img → length s ≡ 256 → disk (splice img (256 * n) s) ≡ put (disk img) n s
unfolding disk
splice-disk img n s inside full =
    let start : 256 * n + 0 ≡ 256 * n = omega arith in
    let wide : length (take 256 (drop (256 * n) img)) ≡ 256 = simp (length-take, length-drop) (omega arith) in
    ap (λ (k : ℕ). disk (splice img k s)) (sym start) ∙ splice-disk-part img n 0 s inside (omega arith)
    ∙ ap (put (disk img) n) (splice_all (take 256 (drop (256 * n) img)) s (full ∙ sym wide))

module _ (g : Geometry) (img : Bytes) (size : length img ≡ 256 * total g) (n : ℕ) (on : n < total g) (s : Bytes) (full : length s ≡ 256) where
  pub image-put : image g (put (disk img) n s) ≡ splice img (256 * n) s
  image-put =
      ap (image g) (sym (splice-disk img n s (omega arith) full))
      ∙ disk-image g (splice img (256 * n) s) (length-splice img (256 * n) s (omega arith) ∙ size)
