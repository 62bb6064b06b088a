-- Images and disks: the same thing, read two ways.
use Prim.Native.Nat.{ℕ, zero, suc, ◌+◌, ◌*◌, ◌≤◌, ◌<◌}
use native.Mathlib.Omega.{arith}
use native.Mathlib.Decide.{dec_le}
use mathlib.Core.Path.{◌≡◌, refl, sym, ap, ◌∙◌, fun_ext}
use mathlib.Core.Bool.{Bool, true, false, cond}
use mathlib.Core.List.{[], ◌++◌, map}
use lib.ListN.{length, take, drop, length-append, length-take, length-drop, drop_of_length-le}
use lib.Seq.{take_at, drop-append-add}
use lib.Dec.{eqb}
use borrow.Author.Tests.{eq-eqb, ne_eqb}
use Rattle.d64spec.specs.Lists.{Bytes, join, range}
use Rattle.d64spec.specs.Geometry.{Geometry, total}
use Rattle.d64spec.specs.Image.{Disk, disk, image, put}

-- 256 bytes in each sector of the disk, and none past its end
pub record Whole (g : Geometry) (d : Disk) : Type 0 where
  pub full : (n : ℕ) → n < total g → length (d n) ≡ 256
  pub none : (n : ℕ) → total g ≤ n → d n ≡ []

module _ (g : Geometry) (img : Bytes) (size : length img ≡ 256 * total g) where
  pub disk-whole : Whole g (disk img)
  unfolding disk
  disk-whole = record {
    full = λ n h. length-take 256 (drop (256 * n) img) ∙ (let e = length-drop (256 * n) img in omega arith);
    none = λ n h. ap (take 256) (drop_of_length-le img {i = 256 * n} (omega arith));
  }

-- ---- changing one sector

pub put_same : (d : Disk) (n : ℕ) (s : Bytes) → put d n s n ≡ s
unfolding put
put_same d n s = rw (eq-eqb n n refl)

pub put_other : (d : Disk) (n : ℕ) (s : Bytes) (m : ℕ) → (m ≡ n → ⊥) → put d n s m ≡ d m
unfolding put
put_other d n s m h = rw (ne_eqb m n h)

pub put_whole : (g : Geometry) (d : Disk) (n : ℕ) (s : Bytes) → Whole g d → n < total g → length s ≡ 256 → Whole g (put d n s)
unfolding put
put_whole g d n s w h l = record {
  full = λ m k. go (eqb m n) k;
  none = λ m k. rw (ne_eqb m n (λ e. omega arith)) (w.none m k);
}
  where
    go : {m : ℕ} (b : Bool) → m < total g → length (cond b s (d m)) ≡ 256
    go true k = l
    go {m} false k = w.full m k

-- ---- the image of a disk

module _ (d : Disk) where
  joined : ℕ → ℕ → Bytes
  joined a n = join (map d (range a n))

  joined_length : (a n : ℕ) → ((i : ℕ) → a ≤ i → i < a + n → length (d i) ≡ 256) → length (joined a n) ≡ 256 * n
  unfolding joined
  joined_length a zero f = refl
  joined_length a (suc n) f =
      omega (arith, length-append (d a) (joined (suc a) n), f a (omega arith) (omega arith), joined_length (suc a) n (λ i l u. f i (omega arith) (omega arith)))

  -- sector k of it
  joined_at : (a n k : ℕ) → ((i : ℕ) → a ≤ i → i < a + n → length (d i) ≡ 256) → k < n → take 256 (drop (256 * k) (joined a n)) ≡ d (a + k)
  unfolding joined
  joined_at a zero k f h = absurd (omega arith)
  joined_at a (suc n) zero f h = take_at (d a) (joined (suc a) n) 256 (f a (omega arith) (omega arith)) ∙ ap d (omega arith)
  joined_at a (suc n) (suc k) f h =
      let e : 256 * suc k ≡ length (d a) + 256 * k = omega (arith, f a (omega arith) (omega arith)) in
      ap (λ (i : ℕ). take 256 (drop i (d a ++ joined (suc a) n))) e
      ∙ ap (take 256) (drop-append-add (d a) (joined (suc a) n) (256 * k))
      ∙ joined_at (suc a) n k (λ i l u. f i (omega arith) (omega arith)) (omega arith)
      ∙ ap d (omega arith)

module _ (g : Geometry) (d : Disk) (w : Whole g d) where
  pub image-size : length (image g d) ≡ 256 * total g
  unfolding image joined
  image-size = joined_length d 0 (total g) (λ i l u. w.full i (omega arith))

  pub image-disk : disk (image g d) ≡ d
  unfolding image joined disk
  image-disk = fun_ext (λ n. elim (dec_le (total g) n) [
    | yes h ↦ (disk-whole g (image g d) image-size).none n h ∙ sym (w.none n h)
    | no h ↦ joined_at d 0 (total g) n (λ i l u. w.full i (omega arith)) (omega arith) ∙ ap d (omega arith)
  ])
