-- Bytes and $A0, the padding of names: which bytes are not $A0, and where the first $A0 is (01, The directory).
-- In order: the bytes that are not $A0; whether one is; the first $A0; both where only padding follows it; the first $A0 from an index on; neighbours;
-- four at once.
-- Not here: names and the field that holds one (NameLaws). Assumes nothing.
use mathlib.Core.Path.{◌≡◌, refl, sym, ap, ap₂, ◌∙◌}
use mathlib.Core.Bool.{Bool, true, false, cond, not, ◌&&◌, ◌||◌, or-true}
use mathlib.Core.List.{[], ◌∷◌, ◌++◌, append-nil}
use Prim.Native.Nat.{ℕ, zero, suc, ◌+◌, ◌-◌, ◌≤◌, ◌<◌}
use native.Mathlib.Omega.{arith}
use native.Mathlib.Numerals.{add-one}
use lib.ListN.{length, get_or, take, drop, replicate, take-append-drop, drop_of_length-le}
use lib.Seq.{drop-cons, length-take-le}
use lib.Dec.{eqb}
use borrow.Author.Tests.{eq-eqb, ne_eqb, eqb-false}
use Rattle.d64spec.specs.Lists.{Bytes, byte, indicator, filter, count, equal}
use Rattle.parts.specs.Numbers.{four_of}
use Rattle.parts.proofs.NumberLaws.{bytes-of-four}
use Rattle.std.specs.List.{list_any}
use Rattle.names.specs.Names.{padded_once}

-- ---- the bytes that are not $A0

-- those bytes, in order: of a name field they are the name
abbrev pub letters : Bytes → Bytes
letters s = filter (λ c. not (eqb c 0xA0)) s

letters-append : (a b : Bytes) → letters (a ++ b) ≡ letters a ++ letters b
letters-append [] b = refl
letters-append (c ∷ a) b = go (eqb c 0xA0) (letters-append a b)
  where
    go : (t : Bool) → letters (a ++ b) ≡ letters a ++ letters b
        → cond (not t) (c ∷ letters (a ++ b)) (letters (a ++ b)) ≡ cond (not t) (c ∷ letters a) (letters a) ++ letters b
    go true e = e
    go false e = ap (λ (l : Bytes). c ∷ l) e

letters-padding : (n : ℕ) → letters (replicate n 0xA0) ≡ []
letters-padding zero = refl
letters-padding (suc n) = letters-padding n

-- a byte that is not $A0 adds nothing to their count
count-letter : (c : ℕ) (l : Bytes) → eqb c 0xA0 ≡ false → count 0xA0 (c ∷ l) ≡ count 0xA0 l
count-letter c l e = rw (ne_eqb 0xA0 c (λ z. eqb-false c 0xA0 e (sym z))) (omega arith)

-- where $A0 is not counted, no byte is one
letter-of-count : (c : ℕ) (l : Bytes) → count 0xA0 (c ∷ l) ≡ 0 → eqb c 0xA0 ≡ false
letter-of-count c l h = ne_eqb c 0xA0 (λ e. let z : indicator (eqb 0xA0 c) ≡ 1 = rw (eq-eqb 0xA0 c (sym e)) in omega arith)

pub count-letters : (s : Bytes) → count 0xA0 (letters s) ≡ 0
count-letters [] = refl
count-letters (c ∷ l) = go (eqb c 0xA0) refl (count-letters l)
  where
    go : (t : Bool) → eqb c 0xA0 ≡ t → count 0xA0 (letters l) ≡ 0 → count 0xA0 (cond (not t) (c ∷ letters l) (letters l)) ≡ 0
    go true e h = h
    go false e h = count-letter c (letters l) e ∙ h

letters-of-count : (s : Bytes) → count 0xA0 s ≡ 0 → letters s ≡ s
letters-of-count [] h = refl
letters-of-count (c ∷ l) h = rw (letter-of-count c l h) (ap (λ (m : Bytes). c ∷ m) (letters-of-count l (omega arith)))

-- ---- whether one is

-- no byte is $A0 exactly where $A0 is not counted
pub no_padding : (s : Bytes) → not (list_any (λ y. eqb y 0xA0) s) ≡ eqb (count 0xA0 s) 0
no_padding [] = refl
no_padding (c ∷ l) = go (eqb c 0xA0) refl (no_padding l)
  where
    go : (t : Bool) → eqb c 0xA0 ≡ t → not (list_any (λ y. eqb y 0xA0) l) ≡ eqb (count 0xA0 l) 0
        → not (t || list_any (λ y. eqb y 0xA0) l) ≡ eqb (count 0xA0 (c ∷ l)) 0
    go true e h = sym (ne_eqb (count 0xA0 (c ∷ l)) 0 (λ z. let w : true ≡ false = sym e ∙ letter-of-count c l z in cc))
    go false e h = h ∙ ap (λ (n : ℕ). eqb n 0) (sym (count-letter c l e))

-- ---- the first $A0

-- how many bytes stand before the first $A0: all of them, where there is none (01, The directory: a name, then only $A0)
abbrev pub name_length : Bytes → ℕ
name_length [] = 0
name_length (c ∷ l) = cond (eqb c 0xA0) 0 (suc (name_length l))

name_length-le : (s : Bytes) → name_length s ≤ length s
name_length-le [] = omega arith
name_length-le (c ∷ l) = go (eqb c 0xA0) (name_length-le l)
  where
    go : (t : Bool) → name_length l ≤ length l → cond t 0 (suc (name_length l)) ≤ suc (length l)
    go true h = omega arith
    go false h = omega arith

-- no $A0 stands before it
count-take-name_length : (s : Bytes) → count 0xA0 (take (name_length s) s) ≡ 0
count-take-name_length [] = refl
count-take-name_length (c ∷ l) = go (eqb c 0xA0) refl (count-take-name_length l)
  where
    go : (t : Bool) → eqb c 0xA0 ≡ t → count 0xA0 (take (name_length l) l) ≡ 0 → count 0xA0 (take (cond t 0 (suc (name_length l))) (c ∷ l)) ≡ 0
    go true e h = refl
    go false e h = count-letter c (take (name_length l) l) e ∙ h

-- behind letters alone it is the padding's first
pub name_length-append-padding : (m : Bytes) (n : ℕ) → count 0xA0 m ≡ 0 → name_length (m ++ replicate n 0xA0) ≡ length m
name_length-append-padding [] zero h = refl
name_length-append-padding [] (suc n) h = refl
name_length-append-padding (c ∷ m) n h = rw (letter-of-count c m h) (ap suc (name_length-append-padding m n (omega arith)))

-- ---- where only padding follows

-- padding adds no letter
pub letters-append-padding : (m : Bytes) (n : ℕ) → count 0xA0 m ≡ 0 → letters (m ++ replicate n 0xA0) ≡ m
letters-append-padding m n h =
    letters-append m (replicate n 0xA0) ∙ ap₂ (λ (x y : Bytes). x ++ y) (letters-of-count m h) (letters-padding n) ∙ append-nil m

-- where padding follows the first $A0, the letters are the bytes before it
pub letters-of-padding : (f : Bytes) (n : ℕ) → drop (name_length f) f ≡ replicate n 0xA0 → letters f ≡ take (name_length f) f
letters-of-padding f n e =
    ap letters (sym (take-append-drop (name_length f) f) ∙ ap (λ (l : Bytes). take (name_length f) f ++ l) e)
    ∙ letters-append-padding (take (name_length f) f) n (count-take-name_length f)

pub length-take-name_length : (f : Bytes) → length (take (name_length f) f) ≡ name_length f
length-take-name_length f = length-take-le (name_length f) f (name_length-le f)

-- ---- from index i on

module _ (s : Bytes) (i : ℕ) where
  pub name_length-drop-padding : i < length s → get_or s i 0 ≡ 0xA0 → name_length (drop i s) ≡ 0
  name_length-drop-padding h e = rw (drop-cons s i 0 h) (rw (eq-eqb (get_or s i 0) 0xA0 e))

  pub name_length-drop-letter : i < length s → (get_or s i 0 ≡ 0xA0 → ⊥) → name_length (drop i s) ≡ suc (name_length (drop (i + 1) s))
  name_length-drop-letter h e = rw add-one (rw (drop-cons s i 0 h) (rw (ne_eqb (get_or s i 0) 0xA0 e)))

  pub name_length-drop-end : length s ≤ i → name_length (drop i s) ≡ 0
  name_length-drop-end h = rw (drop_of_length-le s {i = i} h)

-- ---- neighbours

-- only padding follows the first $A0 exactly where no other byte stands behind one
pub padded_once-name_length : (f : Bytes) → padded_once f ≡ equal (drop (name_length f) f) (replicate (length f - name_length f) 0xA0)
padded_once-name_length [] = refl
padded_once-name_length (c ∷ []) = go (eqb c 0xA0) refl
  where
    go : (t : Bool) → eqb c 0xA0 ≡ t → true ≡ equal (drop (cond t 0 1) (c ∷ [])) (replicate (1 - cond t 0 1) 0xA0)
    go true e = sym (rw e)
    go false e = refl
padded_once-name_length (c ∷ d ∷ l) = go (eqb c 0xA0) refl (eqb d 0xA0) refl (padded_once-name_length (d ∷ l))
  where
    -- the bytes from d on, where they start with $A0
    rest : eqb d 0xA0 ≡ true → equal (drop (name_length (d ∷ l)) (d ∷ l)) (replicate (length (d ∷ l) - name_length (d ∷ l)) 0xA0) ≡ equal l (replicate (length l) 0xA0)
    rest e = let z : suc (length l) - 0 ≡ suc (length l) = omega arith in rw e (rw z (rw e))

    go : (t : Bool) → eqb c 0xA0 ≡ t → (u : Bool) → eqb d 0xA0 ≡ u
        → padded_once (d ∷ l) ≡ equal (drop (name_length (d ∷ l)) (d ∷ l)) (replicate (length (d ∷ l) - name_length (d ∷ l)) 0xA0)
        → ((not t || u) && padded_once (d ∷ l))
        ≡ equal (drop (cond t 0 (suc (name_length (d ∷ l)))) (c ∷ d ∷ l)) (replicate (length (c ∷ d ∷ l) - cond t 0 (suc (name_length (d ∷ l)))) 0xA0)
    go false e u h same = let z : suc (suc (length l)) - suc (name_length (d ∷ l)) ≡ suc (length l) - name_length (d ∷ l) = omega arith in rw z same
    go true e true h same = let z : suc (suc (length l)) - 0 ≡ suc (suc (length l)) = omega arith in rw z (rw (e, h) (same ∙ rest h))
    go true e false h same = let z : suc (suc (length l)) - 0 ≡ suc (suc (length l)) = omega arith in rw z (rw (e, h))

-- the byte at index i, and its neighbour
module _ (f : Bytes) (i : ℕ) (more : i + 1 < length f) where
  padded_once-next : padded_once (drop i f) ≡ ((not (eqb (get_or f i 0) 0xA0) || eqb (get_or f (i + 1) 0) 0xA0) && padded_once (drop (i + 1) f))
  padded_once-next = rw add-one (rw (drop-cons f i 0 (omega arith), drop-cons f (suc i) 0 (omega arith)))

  pub padded_once-letter : (get_or f i 0 ≡ 0xA0 → ⊥) → padded_once (drop i f) ≡ padded_once (drop (i + 1) f)
  padded_once-letter e = padded_once-next ∙ rw (ne_eqb (get_or f i 0) 0xA0 e)

  pub padded_once-padding : get_or f (i + 1) 0 ≡ 0xA0 → padded_once (drop i f) ≡ padded_once (drop (i + 1) f)
  padded_once-padding e = padded_once-next ∙ rw (eq-eqb (get_or f (i + 1) 0) 0xA0 e, or-true)

  pub padded_once-broken : get_or f i 0 ≡ 0xA0 → (get_or f (i + 1) 0 ≡ 0xA0 → ⊥) → padded_once (drop i f) ≡ false
  padded_once-broken e k = padded_once-next ∙ rw (eq-eqb (get_or f i 0) 0xA0 e, ne_eqb (get_or f (i + 1) 0) 0xA0 k)

-- the last byte has no neighbour
pub padded_once-last : (f : Bytes) (i : ℕ) → length f ≡ i + 1 → padded_once (drop i f) ≡ true
padded_once-last f i e = rw (drop-cons f i 0 (omega arith)) (rw (drop_of_length-le f {i = suc i} (omega arith)))

-- nor has any byte another one than $A0 behind it, where all that follow are $A0
pub padded_once-rest : (f : Bytes) (n i : ℕ) → length f ≡ i + 1 + n → ((j : ℕ) → i < j → j < length f → get_or f j 0 ≡ 0xA0) → padded_once (drop i f) ≡ true
padded_once-rest f zero i e all = padded_once-last f i (omega arith)
padded_once-rest f (suc n) i e all =
    padded_once-padding f i (omega arith) (all (i + 1) (omega arith) (omega arith)) ∙ padded_once-rest f n (i + 1) (omega arith) (λ j l h. all j (omega arith) h)

-- ---- four at once, as one number

-- four bytes whose number is that of four $A0 are $A0
pub four-padding : (s : Bytes) → ((i : ℕ) → byte s i < 256) → (a : ℕ) → four_of s a ≡ 0xA0A0A0A0 → (i : ℕ) → a ≤ i → i < a + 4 → byte s i ≡ 0xA0
four-padding s small a e i l h =
    let at : a + (i - a) ≡ i = omega arith in
    rw at at (bytes-of-four s (λ k. 0xA0) small (λ k. omega arith) a e (i - a) (omega arith))
