-- Bytes laid along sectors: a chain that holds them.
use Prim.Native.Nat.{ℕ, zero, suc, ◌+◌, ◌*◌, ◌-◌, ◌/◌, ◌≤◌, ◌<◌}
use native.Mathlib.Omega.{arith}
use mathlib.Core.Path.{◌≡◌, refl, sym, ap, ap₂, ◌∙◌}
use mathlib.Core.Bool.{Bool, true, cond}
use mathlib.Core.List.{List, [], ◌∷◌, ◌++◌, map}
use lib.ListN.{length, take, drop, get_or, length-append, length-replicate, length-drop, take-append-drop}
use lib.Seq.{length-take-le, take_at, take_all}
use lib.Dec.{eqb}
use borrow.Author.Tests.{eq-eqb, ne_eqb, ltb-true}
use Rattle.d64spec.specs.Lists.{All, Bytes, byte, count, indicator, part, zeros}
use Rattle.d64spec.specs.Answers.{Address}
use Rattle.d64spec.specs.Geometry.{Geometry, on_disk, sector_number, sectors_on}
use Rattle.d64spec.specs.Image.{Disk, put}
use Rattle.d64spec.specs.Chain.{Chain, chain_data, decode_file_link, ends, file_link, link_to, to}
use Rattle.d64spec.specs.Store.{sectors_needed, write_chain}
use Rattle.d64spec.specs.Changes.{DataWritten}
use Rattle.d64spec.proofs.BoundLaws.{sector_number-lt}
use Rattle.d64spec.proofs.FrameLaws.{Agree, all-of-count}
use Rattle.d64spec.proofs.ImageLaws.{Whole, put_same, put_other, put_whole}

-- n bytes fill these sectors, all but the last to the end
abbrev pub Fits : List Address → ℕ → Type 0
Fits [] n = ⊥
Fits (r ∷ []) n = n ≤ 254
Fits (r ∷ q ∷ l) n = (254 ≤ n) × Fits (q ∷ l) (n - 254)

fits-of : (l : List Address) (n : ℕ) → 1 ≤ length l → n ≤ 254 * length l → (1 < length l → 254 * length l < n + 254) → Fits l n
fits-of [] n p h k = absurd (omega arith)
fits-of (r ∷ []) n p h k = omega arith
fits-of (r ∷ q ∷ l) n p h k =
    let b : 254 * length (r ∷ q ∷ l) < n + 254 = k (omega arith) in
    (omega arith, fits-of (q ∷ l) (n - 254) (omega arith) (omega arith) (λ x. omega arith))

pub sectors-fit : (l : List Address) (n : ℕ) → sectors_needed n ≡ length l → Fits l n
unfolding sectors_needed
sectors-fit l zero e = fits-of l 0 (omega arith) (omega arith) (λ x. omega arith)
sectors-fit l (suc n) e =
    let z : (suc n + 253) / 254 ≡ length l = sym (ap (λ (b : Bool). cond b 1 ((suc n + 253) / 254)) (ne_eqb (suc n) 0 (λ x. omega arith))) ∙ e in
    fits-of l (suc n) (omega arith) (omega arith) (λ x. omega arith)

-- THE SECTORS THAT n BYTES NEED (01, Store): 1 for none, else as few as hold them
pub needed-none : sectors_needed 0 ≡ 1
unfolding sectors_needed
needed-none = refl

pub needed-exact : (n : ℕ) → 1 ≤ n → (n ≤ 254 * sectors_needed n) × (254 * (sectors_needed n - 1) < n)
unfolding sectors_needed
needed-exact n h = rw (ne_eqb n 0 (λ e. omega arith)) (omega arith, omega arith)

-- a link to a sector of the disk
pub link-is : (g : Geometry) (r : Address) → on_disk g r ≡ true → link_to g r.track r.sector ≡ to r
unfolding link_to
link-is g r h = rw h

track-pos : (g : Geometry) (r : Address) → on_disk g r ≡ true → r.track ≡ 0 → ⊥
unfolding on_disk sectors_on
track-pos g r h e =
    let l : r.sector < get_or (0 ∷ g.counts) r.track 0 = ltb-true r.sector (get_or (0 ∷ g.counts) r.track 0) h in
    let z : get_or (0 ∷ g.counts) r.track 0 ≡ 0 = rw e in omega arith

module _ (g : Geometry) where
  -- a sector's content, the last and another
  abbrev last_part : Bytes → Bytes
  last_part bs = 0 ∷ suc (length bs) ∷ (bs ++ zeros (254 - length bs))

  pub write_chain-other : (l : List Address) (bs : Bytes) (d : Disk) (n : ℕ) → count n (map (sector_number g) l) ≡ 0 → write_chain g l bs d n ≡ d n
  write_chain-other [] bs d n h = refl
  write_chain-other (r ∷ []) bs d n h = put_other d (sector_number g r) (last_part bs) n (λ e. let z : indicator (eqb n (sector_number g r)) ≡ 1 = rw (eq-eqb n (sector_number g r) e) in omega arith)
  write_chain-other (r ∷ q ∷ l) bs d n h =
      put_other (write_chain g (q ∷ l) (drop 254 bs) d) (sector_number g r) (q.track ∷ q.sector ∷ take 254 bs) n (λ e. let z : indicator (eqb n (sector_number g r)) ≡ 1 = rw (eq-eqb n (sector_number g r) e) in omega arith)
      ∙ write_chain-other (q ∷ l) (drop 254 bs) d n (omega arith)

  rest-length : (bs : Bytes) → 254 ≤ length bs → length (drop 254 bs) ≡ length bs - 254
  rest-length bs h = length-drop 254 bs

  pub write_chain-whole : (l : List Address) (bs : Bytes) (d : Disk) → All (λ r. on_disk g r ≡ true) l → Fits l (length bs) → Whole g d → Whole g (write_chain g l bs d)
  write_chain-whole [] bs d a h w = w
  write_chain-whole (r ∷ []) bs d a h w =
      put_whole g d (sector_number g r) (last_part bs) w (sector_number-lt g r a.0)
      (ap (λ (x : ℕ). suc (suc x)) (length-append bs (zeros (254 - length bs))) ∙ (let e = length-replicate {A = ℕ} (254 - length bs) 0 in omega arith))
  write_chain-whole (r ∷ q ∷ l) bs d a h w =
      put_whole g (write_chain g (q ∷ l) (drop 254 bs) d) (sector_number g r) (q.track ∷ q.sector ∷ take 254 bs)
      (write_chain-whole (q ∷ l) (drop 254 bs) d a.1 (rw (rest-length bs h.0) h.1) w) (sector_number-lt g r a.0)
      (ap (λ (x : ℕ). suc (suc x)) (length-take-le 254 bs h.0))

  decode-to : (t s : ℕ) → (t ≡ 0 → ⊥) → decode_file_link g t s ≡ link_to g t s
  unfolding decode_file_link
  decode-to zero s h = absurd (h refl)
  decode-to (suc t) s h = refl

  link-to : (q : Address) (x : Bytes) → on_disk g q ≡ true → file_link g (q.track ∷ q.sector ∷ x) ≡ to q
  unfolding file_link
  link-to q x h = decode-to q.track q.sector (track-pos g q h) ∙ link-is g q h

  link-last : (bs : Bytes) → file_link g (last_part bs) ≡ ends
  unfolding file_link decode_file_link
  link-last bs = refl

  -- the first sector is not met again
  apart : (r : Address) (l : List Address) → ((m : ℕ) → count m (map (sector_number g) (r ∷ l)) ≤ 1) → (n : ℕ) → 0 < count n (map (sector_number g) l) → n ≡ sector_number g r → ⊥
  apart r l u n h e = let z : indicator (eqb n (sector_number g r)) ≡ 1 = rw (eq-eqb n (sector_number g r) e) in omega (arith, u n)

  -- ---- what is laid along the sectors

  written-frame : (d e : Disk) (l : List Address) (bs : Bytes) → All (λ r. d (sector_number g r) ≡ e (sector_number g r)) l → DataWritten g d l bs → DataWritten g e l bs
  written-frame d e [] bs a w = w
  written-frame d e (r ∷ []) bs a w = sym a.0 ∙ w
  written-frame d e (r ∷ q ∷ l) bs a w = (sym a.0 ∙ w.0, written-frame d e (q ∷ l) (drop 254 bs) a.1 w.1)

  pub written-agree : (d e : Disk) (l : List Address) (bs : Bytes) → Agree g d e (map (sector_number g) l) → DataWritten g d l bs → DataWritten g e l bs
  written-agree d e l bs a w = written-frame d e l bs (all-of-count g (λ n. d n ≡ e n) l a) w

  pub write_chain-written : (r : Address) (l : List Address) (bs : Bytes) (d : Disk) → ((m : ℕ) → count m (map (sector_number g) (r ∷ l)) ≤ 1) → DataWritten g (write_chain g (r ∷ l) bs d) (r ∷ l) bs
  write_chain-written r [] bs d u = put_same d (sector_number g r) (last_part bs)
  write_chain-written r (q ∷ l) bs d u =
      let e : Disk = write_chain g (q ∷ l) (drop 254 bs) d in
      let x : Bytes = q.track ∷ q.sector ∷ take 254 bs in (
        put_same e (sector_number g r) x,
        written-agree e (put e (sector_number g r) x) (q ∷ l) (drop 254 bs) (λ n h. sym (put_other e (sector_number g r) x n (apart r (q ∷ l) u n h)))
            (write_chain-written q l (drop 254 bs) d (λ m. omega (arith, u m))),
      )

  -- a chain,
  pub written-chain : (d : Disk) (r : Address) (l : List Address) (bs : Bytes) → All (λ x. on_disk g x ≡ true) (r ∷ l) → DataWritten g d (r ∷ l) bs → Chain g (file_link g) d (to r) (r ∷ l)
  written-chain d r [] bs a w = (refl, ap (file_link g) w ∙ link-last bs)
  written-chain d r (q ∷ l) bs a w =
      let s : file_link g (d (sector_number g r)) ≡ to q = ap (file_link g) w.0 ∙ link-to q (take 254 bs) a.1.0 in
      (refl, rw s (written-chain d q l (drop 254 bs) a.1 w.1))

  -- which holds these bytes
  pub written-data : (d : Disk) (l : List Address) (bs : Bytes) → DataWritten g d l bs → Fits l (length bs) → chain_data g d l ≡ bs
  written-data d [] bs w h = absurd h
  written-data d (r ∷ []) bs w h =
      let z : suc (length bs) + 1 - 2 ≡ length bs = omega arith in
      ap (λ (x : Bytes). part 2 (byte x 1) x) w
      ∙ ap (λ (n : ℕ). take n (bs ++ zeros (254 - length bs))) z
      ∙ take_at bs (zeros (254 - length bs)) (length bs) refl
  written-data d (r ∷ q ∷ l) bs w h =
      ap₂ (λ (y z : Bytes). part 2 255 y ++ z) w.0 (written-data d (q ∷ l) (drop 254 bs) w.1 (rw (rest-length bs h.0) h.1))
      ∙ ap (λ (y : Bytes). y ++ drop 254 bs) (take_all 254 (take 254 bs) (omega (arith, length-take-le 254 bs h.0)))
      ∙ take-append-drop 254 bs
