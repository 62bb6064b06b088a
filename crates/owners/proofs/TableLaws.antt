-- The owner table read as a list of owned sectors: what is a member of it, and what an owner more does to it.
-- In order: the owned sectors; how many have no owner, which is what falls along every chain; lists with the same members; marking.
use Prim.Native.Nat.{ℕ, zero, suc, ◌+◌, ◌≤◌, ◌<◌}
use native.Mathlib.Omega.{arith}
use native.Mathlib.Nat.{zero-add, not-suc-le-zero, le_of_suc-le-suc}
use mathlib.Core.Path.{◌≡◌, refl, sym, ap, ◌∙◌, subst}
use mathlib.Core.Bool.{Bool, true, false, cond, not}
use mathlib.Core.List.{List, [], ◌∷◌, ◌++◌}
use lib.ListN.{length, get_or, set, length-set}
use lib.Seq.{get_or-set_same, get_or-set_other}
use lib.Dec.{eqb, ltb}
use borrow.Author.Tests.{lt-ltb, eqb-true, eqb-false, eq-eqb, ne_eqb}
use Rattle.d64spec.specs.Lists.{indicator, All, count, member}
use Rattle.d64spec.proofs.SumLaws.{indicator-le}
use Rattle.d64spec.proofs.ListLaws.{count-append}
use Rattle.owners.specs.OwnerTable.{owned_from, owned, with_owner}

-- ---- the owned sectors

owned_below : (i n : ℕ) (own : List ℕ) → n < i → count n (owned_from i own) ≡ 0
owned_below i n [] h = refl
owned_below i n (zero ∷ own) h = owned_below (suc i) n own (omega arith)
owned_below i n (suc x ∷ own) h = rw (ne_eqb n i (λ e. omega arith)) (omega (arith, owned_below (suc i) n own (omega arith)))

owned_at : (i k : ℕ) (own : List ℕ) → count (i + k) (owned_from i own) ≡ indicator (not (eqb (get_or own k 0) 0))
owned_at i k [] = refl
owned_at i zero (zero ∷ own) = owned_below (suc i) (i + 0) own (omega arith)
owned_at i zero (suc x ∷ own) =
    rw (eq-eqb (i + 0) i (omega arith), ne_eqb (suc x) 0 (λ e. omega arith)) (omega (arith, owned_below (suc i) (i + 0) own (omega arith)))
owned_at i (suc k) (zero ∷ own) = let e : i + suc k ≡ suc i + k = omega arith in rw e (owned_at (suc i) k own)
owned_at i (suc k) (suc x ∷ own) =
    let e : i + suc k ≡ suc i + k = omega arith in
    rw (ne_eqb (i + suc k) i (λ z. omega arith))
    (simp zero-add (subst (λ (m : ℕ). count m (owned_from (suc i) own) ≡ indicator (not (eqb (get_or own k 0) 0))) (sym e) (owned_at (suc i) k own)))

member-indicator : (b : Bool) → ltb 0 (indicator b) ≡ b
member-indicator true = refl
member-indicator false = refl

pub count-owned : (own : List ℕ) (n : ℕ) → count n (owned own) ≡ indicator (not (eqb (get_or own n 0) 0))
unfolding owned
count-owned own n = simp zero-add at (owned_at 0 n own)

-- A SECTOR IS OWNED exactly where its entry is not 0
pub member-owned : (own : List ℕ) (n : ℕ) → member n (owned own) ≡ not (eqb (get_or own n 0) 0)
member-owned own n = ap (ltb 0) (count-owned own n) ∙ member-indicator (not (eqb (get_or own n 0) 0))

-- each at most once
pub count-owned-le : (own : List ℕ) (n : ℕ) → count n (owned own) ≤ 1
count-owned-le own n = rw (count-owned own n) (indicator-le (not (eqb (get_or own n 0) 0)))

owned_from-lt : (i m : ℕ) (own : List ℕ) → i + length own ≤ m → All (λ x. x < m) (owned_from i own)
owned_from-lt i m [] h = tt
owned_from-lt i m (zero ∷ own) h = owned_from-lt (suc i) m own (omega arith)
owned_from-lt i m (suc x ∷ own) h = (omega arith, owned_from-lt (suc i) m own (omega arith))

-- and below the table's length
pub owned-lt : (own : List ℕ) (m : ℕ) → length own ≡ m → All (λ x. x < m) (owned own)
unfolding owned
owned-lt own m h = owned_from-lt 0 m own (omega arith)

-- ---- how many sectors have no owner

-- the entries that are 0
abbrev pub free_count : List ℕ → ℕ
free_count [] = 0
free_count (zero ∷ own) = suc (free_count own)
free_count (suc x ∷ own) = free_count own

owned_from-length : (i : ℕ) (own : List ℕ) → free_count own + length (owned_from i own) ≡ length own
owned_from-length i [] = refl
owned_from-length i (zero ∷ own) = omega (arith, owned_from-length (suc i) own)
owned_from-length i (suc x ∷ own) = omega (arith, owned_from-length (suc i) own)

pub free_count-owned : (own : List ℕ) → free_count own + length (owned own) ≡ length own
unfolding owned
free_count-owned own = owned_from-length 0 own

pub free_count-le : (own : List ℕ) → free_count own ≤ length own
free_count-le own = omega (arith, free_count-owned own)

-- AN OWNER for a sector that had none leaves one fewer
pub free_count-set : (own : List ℕ) (i v : ℕ) → i < length own → get_or own i 0 ≡ 0 → 1 ≤ v → free_count own ≡ suc (free_count (set own i v))
free_count-set [] i v h e p = absurd (not-suc-le-zero h)
free_count-set (zero ∷ xs) zero zero h e p = absurd (not-suc-le-zero p)
free_count-set (zero ∷ xs) zero (suc v) h e p = refl
free_count-set (suc x ∷ xs) zero v h e p = omega (arith, e)
free_count-set (zero ∷ xs) (suc i) v h e p = ap suc (free_count-set xs i v (le_of_suc-le-suc h) e p)
free_count-set (suc x ∷ xs) (suc i) v h e p = free_count-set xs i v (le_of_suc-le-suc h) e p

-- ---- lists with the same members

abbrev pub Alike : List ℕ → List ℕ → Type 0
Alike a b = (m : ℕ) → member m a ≡ member m b

-- order plays no part
pub alike-of-counts : (a b : List ℕ) → ((m : ℕ) → count m a ≡ count m b) → Alike a b
alike-of-counts a b h m = ap (ltb 0) (h m)

pub member-cons : (x m : ℕ) (l : List ℕ) → member m (x ∷ l) ≡ cond (eqb m x) true (member m l)
member-cons x m l = go (eqb m x)
  where
    go : (b : Bool) → ltb 0 (indicator b + count m l) ≡ cond b true (member m l)
    go true = lt-ltb 0 (1 + count m l) (omega arith)
    go false = simp zero-add

pub alike-cons : (x : ℕ) (a b : List ℕ) → Alike a b → Alike (x ∷ a) (x ∷ b)
alike-cons x a b h m = member-cons x m a ∙ ap (cond (eqb m x) true) (h m) ∙ sym (member-cons x m b)

pub alike-append : (l a b : List ℕ) → Alike a b → Alike (l ++ a) (l ++ b)
alike-append [] a b h = h
alike-append (x ∷ l) a b h = alike-cons x (l ++ a) (l ++ b) (alike-append l a b h)

pub alike-swap : (x : ℕ) (l a : List ℕ) → Alike (x ∷ (l ++ a)) (l ++ (x ∷ a))
alike-swap x l a = alike-of-counts (x ∷ (l ++ a)) (l ++ (x ∷ a)) (λ m. omega (arith, count-append m l a, count-append m l (x ∷ a)))

-- ---- marking

-- an owner for a sector makes it a member
pub alike_set : (own : List ℕ) (i v : ℕ) → i < length own → 1 ≤ v → Alike (i ∷ owned own) (owned (set own i v))
alike_set own i v h p m = member-cons i m (owned own) ∙ go (eqb m i) refl ∙ sym (member-owned (set own i v) m)
  where
    go : (b : Bool) → eqb m i ≡ b → cond b true (member m (owned own)) ≡ not (eqb (get_or (set own i v) m 0) 0)
    go true e =
        let same : get_or (set own i v) m 0 ≡ v = ap (λ (x : ℕ). get_or (set own i v) x 0) (eqb-true m i e) ∙ get_or-set_same own i v 0 h in
        sym (rw same (ap not (ne_eqb v 0 (λ z. omega arith))))
    go false e = member-owned own m ∙ ap (λ (x : ℕ). not (eqb x 0)) (sym (get_or-set_other own i m v 0 (eqb-false m i e)))

pub length-with_owner : (id : ℕ) (l own : List ℕ) → length (with_owner id l own) ≡ length own
length-with_owner id [] own = refl
length-with_owner id (n ∷ l) own = length-with_owner id l (set own n id) ∙ length-set own n id

-- AN OWNER FOR A LIST OF SECTORS adds them to the members
pub alike-with_owner : (id : ℕ) → 1 ≤ id → (l own : List ℕ) → All (λ x. x < length own) l → Alike (l ++ owned own) (owned (with_owner id l own))
alike-with_owner id p [] own a m = refl
alike-with_owner id p (n ∷ l) own a m =
    alike-swap n l (owned own) m
    ∙ alike-append l (n ∷ owned own) (owned (set own n id)) (alike_set own n id a.0 p) m
    ∙ alike-with_owner id p l (set own n id) (subst (λ (k : ℕ). All (λ x. x < k) l) (sym (length-set own n id)) a.1) m
