-- Parts of a list: up to its end, and of copies of one element.
-- Assumes nothing.
use mathlib.Core.Path.{◌≡◌, sym, ap, ◌∙◌}
use mathlib.Core.List.{List}
use Prim.Native.Nat.{ℕ, ◌+◌, ◌-◌, ◌≤◌}
use native.Mathlib.Omega.{arith}
use lib.ListN.{length, take, drop, replicate, length-drop, length-replicate, replicate-append-replicate}
use lib.Seq.{take_all, drop_at}

module _ {A : Type 0} (l : List A) (a : ℕ) where
  -- a part up to the end is the rest of the list
  pub part_to_end : take (length l - a) (drop a l) ≡ drop a l
  part_to_end = take_all (length l - a) (drop a l) (simp length-drop (omega arith))

-- copies of one element, without the first n
pub drop-replicate : {A : Type 0} (n k : ℕ) (x : A) → n ≤ k → drop n (replicate k x) ≡ replicate (k - n) x
drop-replicate n k x h =
    let z : n + (k - n) ≡ k = omega arith in
    ap (λ (m : ℕ). drop n (replicate m x)) (sym z) ∙ ap (drop n) (sym (replicate-append-replicate n (k - n) x)) ∙ drop_at (replicate n x) (replicate (k - n) x) n (length-replicate n x)
