-- Laws of `splice`: what stands in a list after some bytes of it are replaced.
use Prim.Native.Nat.{ℕ, ◌+◌, ◌-◌, ◌≤◌, ◌<◌, min}
use native.Mathlib.Omega.{arith}
use native.Mathlib.Decide.{dec_le}
use mathlib.Core.Path.{◌≡◌, sym, ap, ◌∙◌}
use mathlib.Core.List.{List, ◌++◌, append-nil}
use lib.ListN.{length, take, drop, get_or, length-append, length-take, length-drop, drop_of_length-le, get_or-append}
use lib.Seq.{length-take-le, get_or-take, get_or-drop, get_or-append-add, ext_get_or}
use Rattle.d64spec.specs.Lists.{splice}

module _ (s : List ℕ) (at : ℕ) (bs : List ℕ) (fits : at + length bs ≤ length s) where
  before-length : length (take at s) ≡ at
  before-length = length-take-le at s (omega arith)

  pub length-splice : length (splice s at bs) ≡ length s
  length-splice = omega (arith, length-append (take at s) (bs ++ drop (at + length bs) s), length-append bs (drop (at + length bs) s), length-drop (at + length bs) s, before-length)

  pub splice-before : (i : ℕ) → i < at → get_or (splice s at bs) i 0 ≡ get_or s i 0
  splice-before i h = get_or-append (take at s) (bs ++ drop (at + length bs) s) 0 i (omega (arith, before-length)) ∙ get_or-take at s i 0 h

  from : (i : ℕ) → get_or (splice s at bs) (at + i) 0 ≡ get_or (bs ++ drop (at + length bs) s) i 0
  from i = ap (λ (k : ℕ). get_or (splice s at bs) (k + i) 0) (sym before-length) ∙ get_or-append-add (take at s) (bs ++ drop (at + length bs) s) i 0

  pub splice-in : (i : ℕ) → i < length bs → get_or (splice s at bs) (at + i) 0 ≡ get_or bs i 0
  splice-in i h = from i ∙ get_or-append bs (drop (at + length bs) s) 0 i h

  pub splice-after : (i : ℕ) → at + length bs ≤ i → get_or (splice s at bs) i 0 ≡ get_or s i 0
  splice-after i h =
      let k : ℕ = i - (at + length bs) in
      let e : at + (length bs + k) ≡ i = omega arith in
      let e' : at + length bs + k ≡ i = omega arith in
      ap (λ (n : ℕ). get_or (splice s at bs) n 0) (sym e) ∙ from (length bs + k) ∙ get_or-append-add bs (drop (at + length bs) s) k 0
      ∙ get_or-drop (at + length bs) s k 0 ∙ ap (λ (n : ℕ). get_or s n 0) e'

-- the bytes of two lists of one length, over a part
pub part_same : (s t : List ℕ) (k n : ℕ) → length s ≡ length t → ((i : ℕ) → k ≤ i → i < k + n → get_or s i 0 ≡ get_or t i 0) → take n (drop k s) ≡ take n (drop k t)
part_same s t k n e f =
    let ls : length (take n (drop k s)) ≡ min n (length s - k) = length-take n (drop k s) ∙ ap (min n) (length-drop k s) in
    let lt : length (take n (drop k t)) ≡ min n (length t - k) = length-take n (drop k t) ∙ ap (min n) (length-drop k t) in
    ext_get_or 0 (take n (drop k s)) (take n (drop k t)) (omega arith)
    (λ i h. get_or-take n (drop k s) i 0 (omega arith) ∙ get_or-drop k s i 0 ∙ f (k + i) (omega arith) (omega arith)
    ∙ sym (get_or-drop k t i 0) ∙ sym (get_or-take n (drop k t) i 0 (omega arith)))

-- a part whose bytes are those of a list
pub part-of-bytes : (s : List ℕ) (k : ℕ) (bs : List ℕ) → k + length bs ≤ length s → ((i : ℕ) → i < length bs → get_or s (k + i) 0 ≡ get_or bs i 0) → take (length bs) (drop k s) ≡ bs
part-of-bytes s k bs fits f =
    let l : length (take (length bs) (drop k s)) ≡ length bs = length-take-le (length bs) (drop k s) (omega (arith, length-drop k s)) in
    ext_get_or 0 (take (length bs) (drop k s)) bs l (λ i h. get_or-take (length bs) (drop k s) i 0 (omega arith) ∙ get_or-drop k s i 0 ∙ f i (omega arith))

module _ (s : List ℕ) (at : ℕ) (bs : List ℕ) (fits : at + length bs ≤ length s) where
  pub part-before : (k n : ℕ) → k + n ≤ at → take n (drop k (splice s at bs)) ≡ take n (drop k s)
  part-before k n h = part_same (splice s at bs) s k n (length-splice s at bs fits) (λ i l u. splice-before s at bs fits i (omega arith))

  pub part-after : (k n : ℕ) → at + length bs ≤ k → take n (drop k (splice s at bs)) ≡ take n (drop k s)
  part-after k n h = part_same (splice s at bs) s k n (length-splice s at bs fits) (λ i l u. splice-after s at bs fits i (omega arith))

  pub part_in : take (length bs) (drop at (splice s at bs)) ≡ bs
  part_in = part-of-bytes (splice s at bs) at bs (omega (arith, length-splice s at bs fits)) (splice-in s at bs fits)

-- all bytes replaced
pub splice_all : (s bs : List ℕ) → length bs ≡ length s → splice s 0 bs ≡ bs
splice_all s bs e = ap (λ (l : List ℕ). bs ++ l) (drop_of_length-le s {i = 0 + length bs} (omega arith)) ∙ append-nil bs

-- bytes replaced inside a part
module _ (s : List ℕ) (k w i : ℕ) (bs : List ℕ) (inside : k + w ≤ length s) (fits : i + length bs ≤ w) where
  wide : length (take w (drop k s)) ≡ w
  wide = length-take-le w (drop k s) (omega (arith, length-drop k s))

  within : k + i + length bs ≤ length s
  within = omega arith

  pub part-splice : take w (drop k (splice s (k + i) bs)) ≡ splice (take w (drop k s)) i bs
  part-splice =
      let room : i + length bs ≤ length (take w (drop k s)) = omega (arith, wide) in
      let same = length-splice s (k + i) bs within in
      let l : length (take w (drop k (splice s (k + i) bs))) ≡ w = length-take-le w (drop k (splice s (k + i) bs)) (omega (arith, length-drop k (splice s (k + i) bs))) in
      ext_get_or 0 (take w (drop k (splice s (k + i) bs))) (splice (take w (drop k s)) i bs) (l ∙ sym (length-splice (take w (drop k s)) i bs room ∙ wide))
      (λ j h. get_or-take w (drop k (splice s (k + i) bs)) j 0 (omega arith) ∙ get_or-drop k (splice s (k + i) bs) j 0 ∙ at j (omega arith) room)
    where
      old : (j : ℕ) → j < w → get_or s (k + j) 0 ≡ get_or (take w (drop k s)) j 0
      old j h = sym (get_or-take w (drop k s) j 0 h ∙ get_or-drop k s j 0)

      at : (j : ℕ) → j < w → i + length bs ≤ length (take w (drop k s)) → get_or (splice s (k + i) bs) (k + j) 0 ≡ get_or (splice (take w (drop k s)) i bs) j 0
      at j h room = elim (dec_le (i + length bs) j) [
        | yes a ↦ splice-after s (k + i) bs within (k + j) (omega arith) ∙ old j h ∙ sym (splice-after (take w (drop k s)) i bs room j a)
        | no a ↦ elim (dec_le i j) [
          | yes c ↦ (let e : k + i + (j - i) ≡ k + j = omega arith in
              let f : i + (j - i) ≡ j = omega arith in
              ap (λ (n : ℕ). get_or (splice s (k + i) bs) n 0) (sym e) ∙ splice-in s (k + i) bs within (j - i) (omega arith)
              ∙ sym (splice-in (take w (drop k s)) i bs room (j - i) (omega arith)) ∙ ap (λ (n : ℕ). get_or (splice (take w (drop k s)) i bs) n 0) f)
          | no c ↦ splice-before s (k + i) bs within (k + j) (omega arith) ∙ old j h ∙ sym (splice-before (take w (drop k s)) i bs room j (omega arith))
        ]
      ]
