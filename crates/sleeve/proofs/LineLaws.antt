-- A frame's digits, two to a byte, and its line.
use Prim.Native.Nat.{ℕ, ◌+◌, ◌-◌, ◌*◌, ◌/◌, ◌%◌, ◌≤◌, ◌<◌}
use native.Mathlib.Omega.{arith}
use native.Mathlib.Numerals.{add-one}
use mathlib.Core.Path.{◌≡◌, refl, sym, ap, ◌∙◌}
use mathlib.Core.List.{[], ◌∷◌, ◌++◌, append_assoc}
use lib.ListN.{length, take, drop, set, length-append, length-set}
use lib.Seq.{drop-cons, set_split, sets-eq}
use Rattle.d64spec.specs.Lists.{Bytes, byte, splice}
use Rattle.d64spec.specs.Listing.{digit, line}
use Rattle.d64spec.proofs.ListingLaws.{line-length}
use Rattle.sleeve.specs.Texts.{digits_of}
use Rattle.sleeve.proofs.WriteLaws.{Writing, writing_start, writing-moved, writing-finished, writing-front, writing-lent}

pub length_digits : (b : Bytes) → length (digits_of b) ≡ 2 * length b
unfolding digits_of
length_digits [] = refl
length_digits (x ∷ b) = omega (arith, length_digits b)

pub digits_append : (a b : Bytes) → digits_of (a ++ b) ≡ digits_of a ++ digits_of b
unfolding digits_of
digits_append [] b = refl
digits_append (x ∷ a) b = ap (λ (l : Bytes). digit (x / 16) ∷ digit (x % 16) ∷ l) (digits_append a b)

-- a line of a frame that has two parts
pub line-append : (a b : Bytes) → line (a ++ b) ≡ digits_of a ++ (digits_of b ++ (10 ∷ []))
unfolding line digits_of
line-append a b = ap (λ (l : Bytes). l ++ (10 ∷ [])) (digits_append a b) ∙ append_assoc (digits_of a) (digits_of b) (10 ∷ [])

-- two stores, one behind the other
pub stored-two : (s : Bytes) (i x y : ℕ) → i + 2 ≤ length s → set (set s i x) (i + 1) y ≡ splice s i (x ∷ y ∷ [])
stored-two s i x y fits = rw (add-one i) (sets-eq (x ∷ y ∷ []) s i fits ∙ append_assoc (take i s) (x ∷ y ∷ []) (drop (i + 2) s))

-- the digits of the first i bytes are written
pub record Digits (bytes text : Bytes) (i : ℕ) : Type 0 where
  pub passed : i ≤ length bytes
  pub size : length text ≡ 2 * length bytes
  pub writing : Writing (digits_of bytes) (digits_of (drop i bytes)) text (2 * i)

pub digits-start : (bytes text : Bytes) → length text ≡ 2 * length bytes → Digits bytes text 0
digits-start bytes text e = record { passed = omega arith; size = e; writing = writing_start (digits_of bytes) text (omega (arith, length_digits bytes)) }

module _ {bytes text : Bytes} {i : ℕ} (d : Digits bytes text i) where
  -- the digits that are still to be written begin with byte i's
  next : i < length bytes → digits_of (drop i bytes) ≡ (digit (byte bytes i / 16) ∷ digit (byte bytes i % 16) ∷ []) ++ digits_of (drop (i + 1) bytes)
  unfolding digits_of
  next h = rw (add-one i, drop-cons bytes i 0)

  pub digits-moved : i < length bytes → {x y : ℕ} → x ≡ digit (byte bytes i / 16) → y ≡ digit (byte bytes i % 16) → Digits bytes (set (set text (2 * i) x) (2 * i + 1) y) (i + 1)
  digits-moved h {x} {y} high low =
      let room : 2 * i + 2 ≤ length text = omega (arith, d.size) in
      let further : 2 * i + 2 ≡ 2 * (i + 1) = omega arith in
      let moved : Writing (digits_of bytes) (digits_of (drop (i + 1) bytes)) (splice text (2 * i) (x ∷ y ∷ [])) (2 * (i + 1)) = rw (high, low, sym further) (writing-moved d.writing (digit (byte bytes i / 16) ∷ digit (byte bytes i % 16) ∷ []) (digits_of (drop (i + 1) bytes)) (next h)) in
      record {
        passed = omega arith;
        size = simp length-set d.size;
        writing = rw (stored-two text (2 * i) x y room) moved;
      }

-- ---- a line

-- one store
pub stored_one : (s : Bytes) (i x : ℕ) → i < length s → set s i x ≡ splice s i (x ∷ [])
stored_one s i x h = rw (add-one i) (set_split s i x h)

module _ (a b text : Bytes) (size : length text ≡ 2 * (length a + length b) + 1) where
  -- where the second part's digits begin, and where the line ends
  abbrev middle : ℕ
  middle = 2 * length a

  abbrev end : ℕ
  end = length text - 1

  -- the text when the first part's digits p are back, and when the second's, q, are
  abbrev half : Bytes → Bytes
  half p = p ++ drop middle text

  abbrev whole : Bytes → Bytes → Bytes
  whole p q = take middle (half p) ++ (q ++ drop (end - middle) (drop middle (half p)))

  pub line-written : {p q : Bytes} → p ≡ digits_of a → q ≡ digits_of b → set (whole p q) end 10 ≡ line (a ++ b)
  line-written {p} {q} first second =
      let start : Writing (line (a ++ b)) (line (a ++ b)) text 0 = writing_start (line (a ++ b)) text (omega (arith, line-length (a ++ b), length-append a b)) in
      let one : Writing (line (a ++ b)) (digits_of b ++ (10 ∷ [])) (half p) middle = writing-front start (digits_of a) (digits_of b ++ (10 ∷ [])) (line-append a b) middle (omega (arith, length_digits a)) first in
      let two : Writing (line (a ++ b)) (10 ∷ []) (whole p q) end = writing-lent one (digits_of b) (10 ∷ []) refl end (omega (arith, length_digits b)) second in
      let room : end < length (whole p q) = omega (arith, two.size) in
      rw (stored_one (whole p q) end 10 room) (writing-finished (writing-moved two (10 ∷ []) [] refl) refl)
