-- A list taken apart at an element.
use Prim.Native.Nat.{ℕ, zero, suc, ◌+◌, ◌≤◌, ◌<◌}
use native.Mathlib.Omega.{arith}
use mathlib.Core.Path.{◌≡◌, refl, sym, ap, ap₂, ◌∙◌}
use mathlib.Core.Bool.{Bool, true, false, cond}
use mathlib.Core.List.{List, [], ◌∷◌, ◌++◌, map, Memᴰ}
use lib.ListN.{length, length-append}
use Rattle.d64spec.specs.Lists.{All, filter, range}
use Rattle.d64spec.proofs.MapLaws.{filter_none}

-- l is front, then x, then back
pub record Split {A : Type 0} (x : A) (l : List A) : Type 0 where
  pub front : List A
  pub back : List A
  pub whole : l ≡ front ++ x ∷ back

module _ {A : Type 0} where
  pub split-at-mem : {x : A} {l : List A} → Memᴰ x l → Split x l
  split-at-mem (Memᴰ.head {xs = xs} e) = record { front = []; back = xs; whole = ap (λ (y : A). y ∷ xs) (sym e) }
  split-at-mem (Memᴰ.tail {x = y} m) = let s = split-at-mem m in record { front = y ∷ s.front; back = s.back; whole = ap (λ (z : List A). y ∷ z) s.whole }

  pub all-mem : (P : A → Type 0) {x : A} {l : List A} → Memᴰ x l → All P l → P x
  all-mem P (Memᴰ.head e) a = rw e a.0
  all-mem P (Memᴰ.tail m) a = all-mem P m a.1

  pub all-front : (P : A → Type 0) (l m : List A) → All P (l ++ m) → All P l
  all-front P [] m a = tt
  all-front P (x ∷ l) m a = (a.0, all-front P l m a.1)

  pub all_back : (P : A → Type 0) (l m : List A) → All P (l ++ m) → All P m
  all_back P [] m a = a
  all_back P (x ∷ l) m a = all_back P l m a.1

module _ {A : Type 0} (p : A → Bool) where
  pub filter-append : (l m : List A) → filter p (l ++ m) ≡ filter p l ++ filter p m
  filter-append [] m = refl
  filter-append (x ∷ l) m = go (p x) (filter-append l m)
    where
      go : (b : Bool) → filter p (l ++ m) ≡ filter p l ++ filter p m → cond b (x ∷ filter p (l ++ m)) (filter p (l ++ m)) ≡ cond b (x ∷ filter p l) (filter p l) ++ filter p m
      go true e = ap (λ (z : List A). x ∷ z) e
      go false e = e

  pub mem-filter : {x : A} (l : List A) → Memᴰ x (filter p l) → Memᴰ x l × (p x ≡ true)
  mem-filter [] m = elim m [ ]
  mem-filter {x} (y ∷ l) m = go (p y) refl (λ m'. mem-filter l m') m
    where
      go : (b : Bool) → p y ≡ b → (Memᴰ x (filter p l) → Memᴰ x l × (p x ≡ true)) → Memᴰ x (cond b (y ∷ filter p l) (filter p l)) → Memᴰ x (y ∷ l) × (p x ≡ true)
      go true t ih (Memᴰ.head e) = (Memᴰ.head e, rw e t)
      go true t ih (Memᴰ.tail m') = (Memᴰ.tail (ih m').0, (ih m').1)
      go false t ih m' = (Memᴰ.tail (ih m').0, (ih m').1)

  pub mem-kept : {x : A} {l : List A} → p x ≡ true → Memᴰ x l → Memᴰ x (filter p l)
  mem-kept t (Memᴰ.head {x = y} {xs = l} e) = let k : p y ≡ true = rw (← e) t in rw k (Memᴰ.head e)
  mem-kept {x} t (Memᴰ.tail {x = y} {xs = l} m) = go (p y) (mem-kept t m)
    where
      go : (b : Bool) → Memᴰ x (filter p l) → Memᴰ x (cond b (y ∷ filter p l) (filter p l))
      go true m' = Memᴰ.tail m'
      go false m' = m'

  -- where the test passes once, it fails before and behind
  pub alone-front : (x : A) (a b : List A) → p x ≡ true → length (filter p (a ++ x ∷ b)) ≤ 1 → All (λ y. p y ≡ false) a
  alone-front x a b t h =
      filter_none p a (let e : length (filter p (a ++ x ∷ b)) ≡ length (filter p a) + length (filter p (x ∷ b)) = ap length (filter-append a (x ∷ b)) ∙ length-append (filter p a) (filter p (x ∷ b)) in
      let k : filter p (x ∷ b) ≡ x ∷ filter p b = rw t in
      let k' : length (filter p (x ∷ b)) ≡ suc (length (filter p b)) = ap length k in omega arith)

  pub alone-back : (x : A) (a b : List A) → p x ≡ true → length (filter p (a ++ x ∷ b)) ≤ 1 → All (λ y. p y ≡ false) b
  alone-back x a b t h =
      filter_none p b (let e : length (filter p (a ++ x ∷ b)) ≡ length (filter p a) + length (filter p (x ∷ b)) = ap length (filter-append a (x ∷ b)) ∙ length-append (filter p a) (filter p (x ∷ b)) in
      let k : filter p (x ∷ b) ≡ x ∷ filter p b = rw t in
      let k' : length (filter p (x ∷ b)) ≡ suc (length (filter p b)) = ap length k in omega arith)

module _ {A B : Type 0} (f : A → B) where
  pub map-append : (l m : List A) → map f (l ++ m) ≡ map f l ++ map f m
  map-append [] m = refl
  map-append (x ∷ l) m = ap (λ (z : List B). f x ∷ z) (map-append l m)

  pub mem-map : {y : B} (l : List A) → Memᴰ y (map f l) → (x : A) × Memᴰ x l × (f x ≡ y)
  mem-map [] m = elim m [ ]
  mem-map (x ∷ l) (Memᴰ.head e) = (x, Memᴰ.head refl, sym e)
  mem-map (x ∷ l) (Memᴰ.tail m) = let r = mem-map l m in (r.0, Memᴰ.tail r.1, r.2)

pub map_range : {B : Type 0} (f h : ℕ → B) (a n : ℕ) → ((i : ℕ) → a ≤ i → i < a + n → f i ≡ h i) → map f (range a n) ≡ map h (range a n)
map_range f h a zero e = refl
map_range {B} f h a (suc n) e = ap₂ (λ (x : B) (l : List B). x ∷ l) (e a (omega arith) (omega arith)) (map_range f h (suc a) n (λ i l u. e i (omega arith) (omega arith)))

pub map-map : {A B C : Type 0} (f : B → C) (h : A → B) (l : List A) → map f (map h l) ≡ map (λ x. f (h x)) l
map-map f h [] = refl
map-map {C = C} f h (x ∷ l) = ap (λ (z : List C). f (h x) ∷ z) (map-map f h l)

-- an element stands where a list is put together around it
pub mem-mid : {A : Type 0} (a : List A) (x : A) (b : List A) → Memᴰ x (a ++ x ∷ b)
mem-mid [] x b = Memᴰ.head refl
mem-mid (y ∷ a) x b = Memᴰ.tail (mem-mid a x b)
