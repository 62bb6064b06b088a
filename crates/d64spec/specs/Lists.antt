-- Lists of numbers and tests on them: what every module below uses.
-- In order: a test as a number; lists of any elements; lists of numbers; bytes read and bytes replaced.
-- `-` stops at 0. Not here: length, take, drop, get_or, replicate (lib.ListN). Laws: proofs/ListLaws, SplitLaws, SpliceLaws.
use Rattle.std.specs.Prelude.{ℕ, zero, suc, ◌+◌, ◌-◌, Bool, true, false, cond, ◌&&◌, List, [], ◌∷◌, ◌++◌, length, take, drop, replicate, get_or, eqb, ltb}

-- 1 where the test holds, else 0
abbrev pub indicator : Bool → ℕ
indicator true = 1
indicator false = 0

module _ {A : Type 0} where
  -- the elements that pass the test, in order
  abbrev pub filter : (A → Bool) → List A → List A
  filter p [] = []
  filter p (x ∷ l) = cond (p x) (x ∷ filter p l) (filter p l)

  -- every element has P
  abbrev pub All : (A → Type 0) → List A → Type 0
  All P [] = Unit {0}
  All P (x ∷ l) = P x × All P l

  -- the lists joined, in order
  abbrev pub join : List (List A) → List A
  join [] = []
  join (x ∷ l) = x ++ join l

-- n numbers upward: from, from + 1, ..
abbrev pub range : ℕ → ℕ → List ℕ
range from zero = []
range from (suc n) = from ∷ range (suc from) n

-- n numbers downward: from, from - 1, ..
abbrev pub countdown : ℕ → ℕ → List ℕ
countdown from zero = []
countdown from (suc n) = from ∷ countdown (from - 1) n

-- a, a + 1, .. b
unfoldable pub ascending : ℕ → ℕ → List ℕ
ascending a b = range a (b + 1 - a)

-- a, a - 1, .. b
unfoldable pub descending : ℕ → ℕ → List ℕ
descending a b = countdown a (a + 1 - b)

-- all of them added
abbrev pub sum : List ℕ → ℕ
sum [] = 0
sum (x ∷ l) = x + sum l

-- how often n stands in a list
abbrev pub count : ℕ → List ℕ → ℕ
count n [] = 0
count n (x ∷ l) = indicator (eqb n x) + count n l

-- whether n stands in a list
abbrev pub member : ℕ → List ℕ → Bool
member n l = ltb 0 (count n l)

-- whether two lists of numbers are equal
abbrev pub equal : List ℕ → List ℕ → Bool
equal [] [] = true
equal [] (y ∷ m) = false
equal (x ∷ l) [] = false
equal (x ∷ l) (y ∷ m) = eqb x y && equal l m

-- how often the name n stands in a list of names
abbrev pub name_count : List ℕ → List (List ℕ) → ℕ
name_count n [] = 0
name_count n (x ∷ l) = indicator (equal n x) + name_count n l

-- bytes, as numbers
abbrev pub Bytes : Type 0
Bytes = List ℕ

-- byte i, or 0 past the end
abbrev pub byte : Bytes → ℕ → ℕ
byte s i = get_or s i 0

-- bytes a to b, both counted in, as document 01 writes a range
abbrev pub part : ℕ → ℕ → Bytes → Bytes
part a b s = take (b + 1 - a) (drop a s)

-- s with bs in the place of as many bytes from index i on
abbrev pub splice : Bytes → ℕ → Bytes → Bytes
splice s i bs = take i s ++ (bs ++ drop (i + length bs) s)

-- n zeros
abbrev pub zeros : ℕ → Bytes
zeros n = replicate n 0
