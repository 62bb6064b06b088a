-- Names and the field that holds one: the name rule by the first $A0, and when two names are equal (01, The directory).
-- In order: the field of a slot; neighbours that need not be asked; a field against a name filled up; a name filled up; the name rule, case by case; the two comparisons where names keep the rule.
-- A field is given as any list f that is a slot's bytes 05 to 14. Laws of the bytes alone: PaddingLaws. Assumes nothing.
use mathlib.Core.Path.{◌≡◌, refl, sym, ap, ap₂, ◌∙◌}
use mathlib.Core.Bool.{Bool, true, false, ◌&&◌, not, and-false}
use mathlib.Core.List.{[], ◌∷◌, ◌++◌, append-nil}
use Prim.Native.Nat.{ℕ, zero, suc, ◌+◌, ◌-◌, ◌≤◌, ◌<◌}
use native.Mathlib.Omega.{arith}
use native.Mathlib.Decide.{dec_le}
use lib.ListN.{length, get_or, take, drop, replicate, length-append, length-take, length-drop, length-replicate, take-append-drop}
use lib.Seq.{take_all, take-append-le, drop-append_seam, get_or-take, get_or-drop}
use lib.Dec.{eqb}
use borrow.Author.Tests.{ne_eqb}
use Rattle.d64spec.specs.Lists.{Bytes, byte, equal}
use Rattle.d64spec.specs.Directory.{name_field, name_of, padded, valid_name}
use Rattle.d64spec.specs.Reply.{valid_name_argument}
use Rattle.names.specs.Names.{padded_once, RestFits}
use Rattle.d64spec.proofs.ListLaws.{eq-of-equal}
use Rattle.d64spec.proofs.RuleLaws.{name-exact, name-argument-exact}
use Rattle.parts.specs.Numbers.{four_of}
use Rattle.parts.proofs.PartLaws.{drop-replicate}
use Rattle.parts.proofs.EqualLaws.{equal-iff, equal-lengths-differ}
use Rattle.names.proofs.PaddingLaws.{name_length, letters, count-letters, name_length-append-padding, letters-append-padding, letters-of-padding, length-take-name_length, name_length-drop-padding, name_length-drop-letter, padded_once-name_length, padded_once-last, padded_once-rest, four-padding}

-- ---- the field of a slot

-- it has 16 bytes where the slot has byte 14
pub length-name_field : (s : Bytes) → 19 ≤ length s → length (name_field s) ≡ 16
length-name_field s whole = simp (length-take, length-drop) (omega arith)

-- byte i of the field is byte 3 + i of what is lent
pub byte-name_field : (s : Bytes) (n i : ℕ) → n ≡ 3 + i → i < 16 → byte s n ≡ byte (name_field s) i
byte-name_field s n i e h = ap (byte s) e ∙ sym (get_or-take 16 (drop 3 s) i 0 h ∙ get_or-drop 3 s i 0)

-- ---- neighbours that need not be asked

module _ (s : Bytes) (whole : 19 ≤ length s) where
  -- from the last byte on there are none
  pub fits_last : {end : ℕ} → end ≡ 15 → RestFits s end
  fits_last {end} e =
      record { whole = whole; inside = omega arith; rest = padded_once-last (name_field s) end (omega (arith, length-name_field s whole)) }

  -- and where the last eight bytes are $A0, by two numbers, none from the byte before them on
  pub fits-padding : ((i : ℕ) → byte s i < 256) → {x y end : ℕ} → x ≡ four_of s 11 → y ≡ four_of s 15 → x ≡ 0xA0A0A0A0 → y ≡ 0xA0A0A0A0
      → 7 ≤ end → end ≤ 15 → RestFits s end
  fits-padding small {end = end} low high ex ey l h =
      record { whole = whole; inside = h; rest = padded_once-rest (name_field s) (15 - end) end (omega (arith, length-name_field s whole)) padding }
    where
      padding : (j : ℕ) → end < j → j < length (name_field s) → byte (name_field s) j ≡ 0xA0
      padding j past t =
          let inside : j < 16 = omega (arith, length-name_field s whole) in
          sym (byte-name_field s (3 + j) j (omega arith) inside) ∙ elim (dec_le 12 j) [
            | yes late ↦ four-padding s small 15 (sym high ∙ ey) (3 + j) (omega arith) (omega arith)
            | no early ↦ four-padding s small 11 (sym low ∙ ex) (3 + j) (omega arith) (omega arith)
          ]

-- ---- a field against a name filled up

pub length-padded : (m : Bytes) → length (padded m) ≡ length m + (16 - length m)
unfolding padded
length-padded m = length-append m (replicate (16 - length m) 0xA0) ∙ ap (λ (n : ℕ). length m + n) (length-replicate {A = ℕ} (16 - length m) 0xA0)

-- a field is its letters filled up exactly where only padding follows its first $A0
equal-padded-letters : (f : Bytes) → equal f (padded (letters f)) ≡ equal (drop (name_length f) f) (replicate (16 - name_length f) 0xA0)
unfolding padded
equal-padded-letters f = equal-iff f (padded (letters f)) (drop (name_length f) f) (replicate (16 - name_length f) 0xA0) there back
  where
    there : f ≡ padded (letters f) → drop (name_length f) f ≡ replicate (16 - name_length f) 0xA0
    there e =
        let n : name_length f ≡ length (letters f) = ap name_length e ∙ name_length-append-padding (letters f) (16 - length (letters f)) (count-letters f) in
        rw n (ap (drop (length (letters f))) e ∙ drop-append_seam (letters f) (replicate (16 - length (letters f)) 0xA0))

    back : drop (name_length f) f ≡ replicate (16 - name_length f) 0xA0 → f ≡ padded (letters f)
    back e =
        let kept : letters f ≡ take (name_length f) f = letters-of-padding f (16 - name_length f) e in
        let n : length (letters f) ≡ name_length f = ap length kept ∙ length-take-name_length f in
        sym (take-append-drop (name_length f) f) ∙ ap₂ (λ (x y : Bytes). x ++ y) (sym kept) (e ∙ ap (λ (k : ℕ). replicate (16 - k) 0xA0) (sym n))

-- a field of other than 16 bytes, or a name of more
pub equal-padded-misfit : (b m : Bytes) → (length (name_field b) ≡ 16 → length m ≤ 16 → ⊥) → equal (name_field b) (padded m) ≡ false
equal-padded-misfit b m misfit =
    let short : length (name_field b) ≤ 16 = simp length-take (omega arith) in
    equal-lengths-differ (name_field b) (padded m) (λ e. let long = length-padded m in misfit (omega arith) (omega arith))

-- ---- a name filled up

-- its 16 bytes, of a name that fits
pub padded-whole : (m : Bytes) → length m ≤ 16 → take 16 (padded m) ≡ padded m
padded-whole m short = take_all 16 (padded m) (omega (arith, length-padded m))

-- its bytes are bytes, where the name's are
pub byte-padded-lt : (m : Bytes) → ((i : ℕ) → byte m i < 256) → (i : ℕ) → byte (padded m) i < 256
unfolding padded
byte-padded-lt m = go m (16 - length m)
  where
    go : (l : Bytes) (n : ℕ) → ((i : ℕ) → byte l i < 256) → (i : ℕ) → byte (l ++ replicate n 0xA0) i < 256
    go [] zero small i = omega arith
    go [] (suc n) small zero = omega arith
    go [] (suc n) small (suc i) = go [] n small i
    go (c ∷ l) n small zero = small 0
    go (c ∷ l) n small (suc i) = go l n (λ j. small (suc j)) i

-- the first 16 bytes are the name's, and then padding
padded-front : (m : Bytes) → take 16 (padded m) ≡ take 16 m ++ replicate (16 - length m) 0xA0
unfolding padded
padded-front m = elim (dec_le (length m) 16) [
  | yes short ↦ padded-whole m short ∙ ap (λ (x : Bytes). x ++ replicate (16 - length m) 0xA0) (sym (take_all 16 m short))
  | no long ↦ (let none : 16 - length m ≡ 0 = omega arith in
      take-append-le 16 m (replicate (16 - length m) 0xA0) (omega arith) ∙ sym (ap (λ (n : ℕ). take 16 m ++ replicate n 0xA0) none ∙ append-nil (take 16 m)))
]

-- A NAME FILLED UP by copying its first 16 bytes m over sixteen $A0
module _ (name : Bytes) {m : Bytes} (front : m ≡ take 16 name) where
  pub length_front : length m ≤ 16
  length_front = omega (arith, ap length front, length-take 16 name)

  copied-over : (w : ℕ) → length m ≤ w → m ++ drop (length m) (replicate w 0xA0) ≡ take 16 name ++ replicate (w - length m) 0xA0
  copied-over w h = ap₂ (λ (x y : Bytes). x ++ y) front (drop-replicate (length m) w 0xA0 h)

  pub padded-copied : {p : Bytes} → p ≡ m → p ++ drop (length m) (replicate 16 0xA0) ≡ take 16 (padded name)
  padded-copied e =
      let left : 16 - length m ≡ 16 - length name = omega (arith, ap length front, length-take 16 name) in
      ap (λ (x : Bytes). x ++ drop (length m) (replicate 16 0xA0)) e ∙ copied-over 16 length_front ∙ ap (λ (n : ℕ). take 16 name ++ replicate n 0xA0) left ∙ sym (padded-front name)

-- ---- the name rule

module _ (b f : Bytes) (field : f ≡ name_field b) where
  pub valid_name-misfit : (length f ≡ 16 → ⊥) → valid_name b ≡ false
  unfolding valid_name
  valid_name-misfit misfit =
      ap (λ (t : Bool). not (eqb (length (name_of b)) 0) && t) (equal-padded-misfit b (name_of b) (λ e h. misfit (ap length field ∙ e))) ∙ and-false (not (eqb (length (name_of b)) 0))

  -- THE NAME RULE BY THE FIRST $A0: it is not the field's first byte, and only padding follows it
  valid_name-name_length : valid_name b ≡ (not (eqb (name_length f) 0) && equal (drop (name_length f) f) (replicate (16 - name_length f) 0xA0))
  unfolding valid_name name_of
  valid_name-name_length =
      ap (λ (x : Bytes). not (eqb (length (letters x)) 0) && equal x (padded (letters x))) (sym field)
      ∙ ap (λ (t : Bool). not (eqb (length (letters f)) 0) && t) (equal-padded-letters f)
      ∙ go (equal (drop (name_length f) f) (replicate (16 - name_length f) 0xA0)) refl
    where
      go : (t : Bool) → equal (drop (name_length f) f) (replicate (16 - name_length f) 0xA0) ≡ t → (not (eqb (length (letters f)) 0) && t) ≡ (not (eqb (name_length f) 0) && t)
      go true e =
          let kept : letters f ≡ take (name_length f) f = letters-of-padding f (16 - name_length f) (eq-of-equal (drop (name_length f) f) (replicate (16 - name_length f) 0xA0) e) in
          ap (λ (k : ℕ). not (eqb k 0) && true) (ap length kept ∙ length-take-name_length f)
      go false e = and-false (not (eqb (length (letters f)) 0)) ∙ sym (and-false (not (eqb (name_length f) 0)))

  -- THE NAME RULE BY NEIGHBOURS: the first byte is not $A0, and no other byte stands behind one
  module _ (fits : length f ≡ 16) where
    pub valid_name-first : get_or f 0 0 ≡ 0xA0 → valid_name b ≡ false
    valid_name-first e = valid_name-name_length ∙ rw (none e)
      where
        none : get_or f 0 0 ≡ 0xA0 → name_length f ≡ 0
        none e = name_length-drop-padding f 0 (omega arith) e

    pub valid_name-neighbours : (get_or f 0 0 ≡ 0xA0 → ⊥) → valid_name b ≡ padded_once f
    valid_name-neighbours e =
        let some = name_length-drop-letter f 0 (omega arith) e in
        valid_name-name_length ∙ rw (ne_eqb (name_length f) 0 (λ z. omega arith)) (sym (rw fits at (padded_once-name_length f)))

-- ---- the two comparisons, where names keep the rule

-- TWO NAMES ARE EQUAL exactly where their fields are
pub equal-name_field : (a b : Bytes) → valid_name a ≡ true → valid_name b ≡ true → equal (name_field a) (name_field b) ≡ equal (name_of a) (name_of b)
unfolding name_of padded
equal-name_field a b valid-a valid-b =
    equal-iff (name_field a) (name_field b) (name_of a) (name_of b) (λ e. ap letters e) (λ e. ((name-exact a).0 valid-a).padding ∙ ap padded e ∙ sym ((name-exact b).0 valid-b).padding)

-- A SLOT HAS THE NAME ASKED FOR exactly where its field is that name, filled up
pub equal-name_field-padded : (b name : Bytes) → valid_name b ≡ true → valid_name_argument name ≡ true → equal (name_field b) (padded name) ≡ equal name (name_of b)
unfolding name_of padded
equal-name_field-padded b name valid asked =
    equal-iff (name_field b) (padded name) name (name_of b)
    (λ e. sym (ap letters e ∙ letters-append-padding name (16 - length name) ((name-argument-exact name).0 asked).no_padding))
    (λ e. ((name-exact b).0 valid).padding ∙ ap padded (sym e))
