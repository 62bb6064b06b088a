-- Sectors put at the start of an array (`put_first`), some of a list first and others of it behind them.
-- In order: how many of a list are taken; one sector more; those of a part that was lent. Assumes nothing.
use Prim.Native.Nat.{ℕ, zero, suc, ◌+◌, ◌≤◌, ◌<◌}
use native.Mathlib.Omega.{arith}
use mathlib.Core.Path.{◌≡◌, refl, sym, ap, ◌∙◌}
use mathlib.Core.List.{List, [], ◌∷◌, ◌++◌, map, append_assoc}
use lib.ListN.{length, take, drop, set, take-append-drop, length-append, length-drop, length-map}
use lib.Seq.{take_at, drop_at, take-add, drop-drop}
use Rattle.d64spec.specs.Answers.{Address}
use Rattle.geometry.specs.declared.Address.{Address as Place}
use Rattle.placement.specs.Placements.{place_of, put_first}

-- ---- how many are taken

-- behind the first n of a list stand these: then they are taken next
pub taken-more : {A : Type 0} (n : ℕ) (l a b : List A) → drop n l ≡ a ++ b → (take (n + length a) l ≡ take n l ++ a) × (drop (n + length a) l ≡ b)
taken-more {A} n l a b e = (
  take-add n (length a) l ∙ ap (λ (x : List A). take n l ++ take (length a) x) e ∙ ap (λ (x : List A). take n l ++ x) (take_at a b (length a) refl),
  sym (drop-drop (length a) n l) ∙ ap (drop (length a)) e ∙ drop_at a b (length a) refl,
)

-- the rest of a list's front, and what is behind that front
drop-front : {A : Type 0} (n k : ℕ) (l : List A) → n ≤ k → drop n (take k l) ++ drop k l ≡ drop n l
drop-front zero k l h = take-append-drop k l
drop-front (suc n) zero l h = absurd (omega arith)
drop-front (suc n) (suc k) [] h = refl
drop-front (suc n) (suc k) (x ∷ l) h = drop-front n k l (omega arith)

-- ---- put

pub length-put : (l : List Address) (at : List Place) → length l ≤ length at → length (put_first l at) ≡ length at
length-put l at h = omega (arith, length-append (map place_of l) (drop (length l) at), length-map l place_of, length-drop (length l) at)

put_end : (l : List Address) (x : Address) (at : List Place) → length l < length at
    → set (put_first l at) (length l) (place_of x) ≡ put_first (l ++ (x ∷ [])) at
put_end l x [] h = absurd (omega arith)
put_end [] x (y ∷ at) h = refl
put_end (z ∷ l) x (y ∷ at) h = ap (λ (p : List Place). place_of z ∷ p) (put_end l x at (omega arith))

-- one sector more
pub put_one : (l : List Address) (x : Address) (at : List Place) {n : ℕ} → length l ≡ n → n < length at
    → set (put_first l at) n (place_of x) ≡ put_first (l ++ (x ∷ [])) at
put_one l x at e h = rw (← e) (put_end l x at (omega arith))

-- those of another list, in a part of k places behind the first
put-part : (a b : List Address) (k : ℕ) (at : List Place) → length a ≤ length at → length b ≤ k
    → take (length a) (put_first a at) ++ (put_first b (take k (drop (length a) (put_first a at))) ++ drop k (drop (length a) (put_first a at)))
    ≡ put_first (a ++ b) at
put-part [] b k at h few =
    append_assoc (map place_of b) (drop (length b) (take k at)) (drop k at) ∙ ap (λ (p : List Place). map place_of b ++ p) (drop-front (length b) k at few)
put-part (x ∷ a) b k [] h few = absurd (omega arith)
put-part (x ∷ a) b k (y ∷ at) h few = ap (λ (p : List Place). place_of x ∷ p) (put-part a b k at (omega arith) few)

-- what comes back of a loan of that part
pub put-behind : (a b : List Address) (k : ℕ) (at : List Place) {n : ℕ} → length a ≡ n → n ≤ length at → length b ≤ k
    → take n (put_first a at) ++ (put_first b (take k (drop n (put_first a at))) ++ drop k (drop n (put_first a at))) ≡ put_first (a ++ b) at
put-behind a b k at e h few = rw (← e) (put-part a b k at (omega arith) few)
