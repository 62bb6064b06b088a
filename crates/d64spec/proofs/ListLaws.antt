-- Laws of `filter`, `count` and `equal`, of a function along a range, and of the lowest number of a range that passes a test.
use Prim.Native.Nat.{ℕ, zero, suc, ◌+◌, ◌≤◌, ◌<◌}
use native.Mathlib.Omega.{arith}
use native.Mathlib.Decide.{dec_le}
use mathlib.Core.Path.{◌≡◌, refl, ap, ◌∙◌, ap₂}
use mathlib.Core.Bool.{Bool, true, false, cond, ◌&&◌}
use mathlib.Core.Logic.{∥∥₁_map}
use mathlib.Core.List.Permᴰ
use mathlib.Core.List.{List, [], ◌∷◌, ◌++◌, map, Perm, Permᴰ}
use lib.ListN.{get_or}
use Rattle.d64spec.specs.Lists.{All, count, equal, filter, range}
use lib.Dec.{eqb}
use borrow.Author.Tests.{eq-eqb, eqb-true}

module _ {A : Type 0} where
  one_more : (c : Bool) (a : A) {l m : List A} → Permᴰ l m → Permᴰ (cond c (a ∷ l) l) (cond c (a ∷ m) m)
  one_more true a d = Permᴰ.cons refl d
  one_more false a d = d

  two-more : (c e : Bool) (a b : A) (l : List A) → Permᴰ (cond c (a ∷ cond e (b ∷ l) l) (cond e (b ∷ l) l)) (cond e (b ∷ cond c (a ∷ l) l) (cond c (a ∷ l) l))
  two-more true true a b l = Permᴰ.swap refl refl
  two-more true false a b l = Permᴰ.refl (a ∷ l)
  two-more false true a b l = Permᴰ.refl (b ∷ l)
  two-more false false a b l = Permᴰ.refl l

module _ {A : Type 0} (p : A → Bool) where
  -- a permutation of the kept elements
  filter-permᴰ : {l m : List A} → Permᴰ l m → Permᴰ (filter p l) (filter p m)
  filter-permᴰ Permᴰ.nil = Permᴰ.nil
  filter-permᴰ (Permᴰ.cons {a} {b} {l₁} {l₂} e d) = rw e (one_more (p b) b (filter-permᴰ d))
  filter-permᴰ (Permᴰ.swap {a} {b} {a'} {b'} {l} e₁ e₂) = rw (e₁, e₂) (two-more (p b') (p a') b' a' (filter p l))
  filter-permᴰ (Permᴰ.trans d₁ d₂) = Permᴰ.trans (filter-permᴰ d₁) (filter-permᴰ d₂)

  pub filter-perm : {l m : List A} → Perm l m → Perm (filter p l) (filter p m)
  filter-perm h = ∥∥₁_map h filter-permᴰ

-- where all pass the test, all are kept
pub filter-all : {A : Type 0} (p : A → Bool) (l : List A) → All (λ x. p x ≡ true) l → filter p l ≡ l
filter-all p [] a = refl
filter-all p (x ∷ l) a = rw a.0 (ap (λ (m : List _). x ∷ m) (filter-all p l a.1))

pub count-append : (n : ℕ) (a b : List ℕ) → count n (a ++ b) ≡ count n a + count n b
count-append n [] b = omega arith
count-append n (x ∷ a) b = omega (arith, count-append n a b)

-- ---- the test `equal` against equality

pub equal-refl : (l : List ℕ) → equal l l ≡ true
equal-refl [] = refl
equal-refl (x ∷ l) = rw (eq-eqb x x refl) (equal-refl l)

pub eq-of-equal : (l m : List ℕ) → equal l m ≡ true → l ≡ m
eq-of-equal [] [] e = refl
eq-of-equal [] (y ∷ m) e = absurd (let z : ◌≡◌ {A = ℕ} 0 1 = cc in omega arith)
eq-of-equal (x ∷ l) [] e = absurd (let z : ◌≡◌ {A = ℕ} 0 1 = cc in omega arith)
eq-of-equal (x ∷ l) (y ∷ m) e = go (eqb x y) refl (λ q. eq-of-equal l m q) e
  where
    go : (b : Bool) → eqb x y ≡ b → (equal l m ≡ true → l ≡ m) → (b && equal l m) ≡ true → ◌≡◌ {A = List ℕ} (x ∷ l) (y ∷ m)
    go true p k q = ap₂ (λ (h : ℕ) (t : List ℕ). h ∷ t) (eqb-true x y p) (k q)
    go false p k q = absurd (let z : ◌≡◌ {A = ℕ} 0 1 = cc in omega arith)

-- ---- numbers

-- what is not positive
pub zero-of-none : (k : ℕ) → (0 < k → ⊥) → k ≡ 0
zero-of-none k h = omega arith

-- element i of a function along a range
pub get_or-map-range : {A : Type 0} (f : ℕ → A) (a n i : ℕ) (z : A) → i < n → get_or (map f (range a n)) i z ≡ f (a + i)
get_or-map-range f a zero i z h = absurd (omega arith)
get_or-map-range f a (suc n) zero z h = ap f (omega arith)
get_or-map-range f a (suc n) (suc i) z h = get_or-map-range f (suc a) n i z (omega arith) ∙ ap f (omega arith)

-- ---- the lowest that passes a test

-- x is the element of the lowest of n numbers from a on whose element passes the test
pub record Lowest {A : Type 0} (p : A → Bool) (f : ℕ → A) (a n : ℕ) (x : A) : Type 0 where
  pub number : ℕ
  pub low : a ≤ number
  pub high : number < a + n
  pub element : x ≡ f number
  pub passes : p (f number) ≡ true
  pub lower : (i : ℕ) → a ≤ i → i < number → p (f i) ≡ false

module _ {A : Type 0} (p : A → Bool) where
  pub lowest : (f : ℕ → A) (a n : ℕ) (x : A) (m : List A) → filter p (map f (range a n)) ≡ x ∷ m → Lowest p f a n x
  lowest f a zero x m e = absurd (let z : ◌≡◌ {A = ℕ} 0 1 = cc in omega arith)
  lowest f a (suc n) x m e = go (p (f a)) refl (λ e'. lowest f (suc a) n x m e') e
    where
      go : (b : Bool) → p (f a) ≡ b → (filter p (map f (range (suc a) n)) ≡ x ∷ m → Lowest p f (suc a) n x)
          → cond b (f a ∷ filter p (map f (range (suc a) n))) (filter p (map f (range (suc a) n))) ≡ x ∷ m → Lowest p f a (suc n) x
      go true t rest e' = record { number = a; low = omega arith; high = omega arith; element = cc; passes = t; lower = λ i l u. absurd (omega arith) }
      go false t rest e' =
          let r = rest e' in
          record {
            number = r.number;
            low = omega (arith, r.low);
            high = omega (arith, r.high);
            element = r.element;
            passes = r.passes;
            lower = λ i l u. elim (dec_le (suc a) i) [
              | yes k ↦ r.lower i k u
              | no k ↦ let z : a ≡ i = omega arith in rw (← z) t
            ];
          }
