-- A slot against the name asked for, by the two words of the name filled up (01, The directory: a name, then only $A0).
-- In order: the words of a name; a slot that has no such name; an occupied slot of 19 bytes or more. Assumes nothing.
use Prim.Native.Nat.{ℕ, ◌≤◌, ◌<◌}
use native.Mathlib.Omega.{arith}
use mathlib.Core.Path.{◌≡◌, sym, ap, ◌∙◌}
use mathlib.Core.List.{List}
use mathlib.Core.Bool.{Bool, false, ◌&&◌, and-false}
use lib.ListN.{length, take, drop, length-take, length-drop}
use lib.Dec.{eqb}
use borrow.Author.Tests.{eq-eqb, ne_eqb}
use Rattle.d64spec.specs.Lists.{Bytes, byte, equal}
use Rattle.d64spec.specs.Directory.{name_field, padded}
use Rattle.parts.specs.Numbers.{eight_of, IsEight}
use Rattle.parts.proofs.NumberLaws.{equal-sixteen}
use Rattle.names.proofs.NameLaws.{length-padded, equal-padded-misfit, padded-whole, byte-padded-lt}
use Rattle.directory.specs.Directories.{IsSlot}
use Rattle.finding.specs.FileSlots.{holds_name, holds_file, IsWords, WordsCompared}

-- THE WORDS OF A NAME, read from its 16 bytes f
pub name-words : (name : Bytes) → length name ≤ 16 → ((i : ℕ) → byte name i < 256) → {f : Bytes} → f ≡ take 16 (padded name)
    → {i j x y : ℕ} → IsEight f i x → IsEight f j y → i ≡ 0 → j ≡ 8 → IsWords name x y
name-words name fits small {f} field first second at-0 at_8 =
    let whole : f ≡ padded name = field ∙ padded-whole name fits in
    let long : length f ≡ 16 = ap length whole ∙ length-padded name ∙ omega arith in
    record {
      fits = fits;
      small = small;
      first = rw (at-0, whole) at (first.value (omega arith));
      second = rw (at_8, whole) at (second.value (omega arith));
    }

module _ (p : Bytes) {x y : ℕ} where
  -- a slot that is cut off has no name field of 16 bytes
  pub compared-short : length p < 19 → WordsCompared p x y false
  compared-short short = record { answer = λ name w. sym (rw (misfit name, and-false)) }
    where
      misfit : (name : Bytes) → equal (name_field p) (padded name) ≡ false
      misfit name = equal-padded-misfit p name (λ e h. omega (arith, length-take 16 (drop 3 p), length-drop 3 p))

  -- an empty one has no name
  pub compared-empty : byte p 0 ≡ 0 → WordsCompared p x y false
  compared-empty none = record { answer = λ name w. sym (rw (eq-eqb (byte p 0) 0 none)) }

  module _ (whole : 19 ≤ length p) (small : (i : ℕ) → byte p i < 256) (occupied : byte p 0 ≡ 0 → ⊥) where
    holds-words : (name : Bytes) → IsWords name x y → holds_name p name ≡ (eqb (eight_of p 3) x && eqb (eight_of p 11) y)
    holds-words name w =
        let long : length (padded name) ≡ 16 = length-padded name ∙ omega (arith, w.fits) in
        let same = equal-sixteen p (padded name) small (byte-padded-lt name w.small) 3 0 (omega arith) (omega arith) in
        rw (ne_eqb (byte p 0) 0 occupied, w.first, w.second) (sym (same ∙ ap (equal (name_field p)) (padded-whole name w.fits)))

    -- the first word is another one
    pub compared-first : {i u : ℕ} → IsEight p i u → i ≡ 3 → (u ≡ x → ⊥) → WordsCompared p x y false
    compared-first first at-3 other = record {
      answer = λ name w.
          let low = rw at-3 at (first.value (omega arith)) in
          sym (holds-words name w ∙ rw (ne_eqb (eight_of p 3) x (λ e. other (low ∙ e))));
    }

    -- the first word is that of the name: the second decides
    pub compared-second : {i j u v : ℕ} → IsEight p i u → IsEight p j v → i ≡ 3 → j ≡ 11 → u ≡ x → {r : Bool} → r ≡ eqb v y
        → WordsCompared p x y r
    compared-second first second at-3 at-11 same asked = record {
      answer = λ name w.
          let low = rw at-3 at (first.value (omega arith)) in
          let high = rw at-11 at (second.value (omega arith)) in
          sym (holds-words name w ∙ rw (eq-eqb (eight_of p 3) x (sym low ∙ same)) (sym (asked ∙ rw high)));
    }

-- a slot's answer is that of its number
pub compared-file : (b ss : List ℕ) {name : Bytes} {x y : ℕ} → IsWords name x y → {k : ℕ} {p : Bytes} {r : Bool} → IsSlot b ss k p → WordsCompared p x y r
    → r ≡ holds_file b ss name k
unfolding holds_file
compared-file b ss {name} words slot asked = asked.answer name words ∙ ap (λ (p : Bytes). holds_name p name) slot.bytes
