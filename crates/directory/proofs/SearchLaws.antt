-- The search for the first repeated name field, in one pass over the slots (src/repeats.rt): its invariant and what each turn keeps.
-- In order: a slot's bytes, and its words; sectors of track 18; what the loop keeps; at slot k; a new name. Assumes nothing.
use mathlib.Core.Path.{◌≡◌, refl, sym, ap, ap₂, ◌∙◌}
use mathlib.Core.Bool.{Bool, true, false, ◌&&◌, ◌||◌, or-true, or-false}
use mathlib.Core.List.{List, [], ◌∷◌}
use Prim.Native.Nat.{ℕ, zero, suc, ◌+◌, ◌-◌, ◌/◌, ◌%◌, ◌≤◌, ◌<◌}
use Rattle.std.specs.Prelude.{Some}
use native.Mathlib.Omega.{arith}
use native.Mathlib.Numerals.{add-one}
use native.Mathlib.Decide.{ℕ_discrete}
use lib.ListN.{length, get_or, set, take, length-set}
use lib.Seq.{get_or-set_same, get_or-set_other}
use lib.Dec.{eqb, ltb}
use borrow.Author.Tests.{eq-eqb, ne_eqb, eqb-true, lt-ltb}
use Rattle.d64spec.specs.Lists.{Bytes, All, indicator, byte, equal, name_count}
use Rattle.d64spec.specs.Directory.{is_empty, name_field}
use Rattle.d64spec.proofs.MapLaws.{and-true}
use Rattle.parts.specs.Numbers.{eight_of, IsEight}
use Rattle.parts.proofs.NumberLaws.{equal-sixteen}
use Rattle.directory.specs.Directories.{IsSlot, slot_bytes, fields_below, repeats, first_repeated, found}
use Rattle.directory.specs.NameWords.{hash_of, holds}
use Rattle.directory.proofs.PairLaws.{eqb-turned, holds-add}

-- thirty bytes: what a slot has
pub record Thirty (s : Bytes) : Type 0 where
  pub long : length s ≡ 30
  pub small : (i : ℕ) → byte s i < 256

-- name fields are equal exactly where both words are
equal_words : (s t : Bytes) → Thirty s → Thirty t
    → (eqb (eight_of s 3) (eight_of t 3) && eqb (eight_of s 11) (eight_of t 11)) ≡ equal (name_field t) (name_field s)
equal_words s t of-s of-t =
    ap₂ ◌&&◌ (eqb-turned (eight_of s 3) (eight_of t 3)) (eqb-turned (eight_of s 11) (eight_of t 11))
    ∙ equal-sixteen t s of-t.small of-s.small 3 3 (omega (arith, of-t.long)) (omega (arith, of-s.long))

-- every sector is one of track 18's 19; past the list it is 0
pub sector-lt : (ss : List ℕ) → All (λ s. s < 19) ss → (i : ℕ) → get_or ss i 0 < 19
sector-lt [] all i = omega arith
sector-lt (s ∷ ss) all zero = all.0
sector-lt (s ∷ ss) all (suc i) = sector-lt ss all.1 i

-- what a slot of a whole track 18 has
pub thirty : {b : Bytes} {ss : List ℕ} {k : ℕ} {s : Bytes} → IsSlot b ss k s → ((i : ℕ) → get_or s i 0 < 256)
    → length b ≡ 4864 → All (λ s. s < 19) ss → Thirty s
thirty {b} {ss} {k} {s} slot small whole inside = record { long = slot.full whole (sector-lt ss inside (k / 8)); small = small }

-- The first n pairs are the words of the name fields of the occupied slots below k; the places of their hashes are marked; and none of these slots
-- repeats one.
pub record Searching (b : Bytes) (ss : List ℕ) (end room size : ℕ) (seen : List Bool) (names : List (ℕ × ℕ)) (n k : ℕ) : Type 0 where
  pub few : n ≤ k
  pub table : length seen ≡ size
  pub places : length names ≡ room
  pub held : (s : Bytes) → Thirty s → holds (take n names) (eight_of s 3) (eight_of s 11) ≡ ltb 0 (name_count (name_field s) (fields_below b ss k))
  pub noted : (x y : ℕ) → holds (take n names) x y ≡ true → get_or seen (hash_of x y % size) false ≡ true
  pub first : first_repeated b ss k (end - k) ≡ first_repeated b ss 0 end

module _ (b : Bytes) (ss : List ℕ) (end k : ℕ) (more : k < end) where
  first-here : repeats b ss k ≡ true → first_repeated b ss k (end - k) ≡ k
  first-here e = let left : end - k ≡ suc (end - (k + 1)) = omega arith in rw left (rw e)

  first_next : repeats b ss k ≡ false → first_repeated b ss k (end - k) ≡ first_repeated b ss (k + 1) (end - (k + 1))
  first_next e = let left : end - k ≡ suc (end - (k + 1)) = omega arith in rw left (rw (e, add-one))

-- one more field, counted
one_more : (e : Bool) (c : ℕ) → (ltb 0 c || e) ≡ ltb 0 (indicator e + c)
one_more true c = or-true (ltb 0 c) ∙ sym (lt-ltb 0 (1 + c) (omega arith))
one_more false c = let z : 0 + c ≡ c = omega arith in or-false (ltb 0 c) ∙ ap (ltb 0) (sym z)

-- at slot k, whose bytes are s
module _ {b : Bytes} {ss : List ℕ} {end room size : ℕ} {seen : List Bool} {names : List (ℕ × ℕ)} {n k : ℕ} (inv : Searching b ss end room size seen names n k)
    (more : k < end) (s : Bytes) (thirty : Thirty s) (here : s ≡ slot_bytes b ss k) where
  -- an empty slot is passed
  pub searching-empty : get_or s 0 0 ≡ 0 → Searching b ss end room size seen names n (k + 1)
  unfolding repeats
  searching-empty none =
      let empty : is_empty (slot_bytes b ss k) ≡ true = rw here at (eq-eqb (get_or s 0 0) 0 none) in
      record {
        few = omega (arith, inv.few);
        table = inv.table;
        places = inv.places;
        held = λ t other. rw (add-one, empty) (inv.held t other);
        noted = inv.noted;
        first = sym (first_next b ss end k more (rw empty)) ∙ inv.first;
      }

  -- an occupied slot, whose name field has the words x and y
  module _ (some : get_or s 0 0 ≡ 0 → ⊥) (x y : ℕ) (is-first : IsEight s 3 x) (is-second : IsEight s 11 y) where
    low : x ≡ eight_of s 3
    low = is-first.value (omega (arith, thirty.long))

    high : y ≡ eight_of s 11
    high = is-second.value (omega (arith, thirty.long))

    occupied : is_empty (slot_bytes b ss k) ≡ false
    occupied = rw here at (ne_eqb (get_or s 0 0) 0 some)

    -- the pair is held exactly where slot k repeats a name field
    repeats-held : repeats b ss k ≡ holds (take n names) x y
    unfolding repeats
    repeats-held =
        rw (occupied, low, high) (ap (λ (t : Bytes). ltb 0 (name_count (name_field t) (fields_below b ss k))) (sym here) ∙ sym (inv.held s thirty))

    -- the first that repeats one
    pub searching-found : holds (take n names) x y ≡ true → Some k ≡ found end (first_repeated b ss 0 end)
    searching-found held =
        let is : first_repeated b ss 0 end ≡ k = sym inv.first ∙ first-here b ss end k more (repeats-held ∙ held) in
        rw (is, lt-ltb k end more)

    -- one more name field
    one-more : end ≤ room → 0 < size → {h : ℕ} → h ≡ hash_of x y % size → holds (take n names) x y ≡ false
        → Searching b ss end room size (set seen h true) (set names n (x, y)) (n + 1) (k + 1)
    one-more fits some {h} hashed new =
        let free : n < length names = omega (arith, inv.few, inv.places) in
        let inside : h < length seen = omega (arith, inv.table, hashed) in
        record {
          few = omega (arith, inv.few);
          table = length-set seen h true ∙ inv.table;
          places = length-set names n (x, y) ∙ inv.places;
          held = λ t other.
              holds-add names n x y (eight_of t 3) (eight_of t 11) free
              ∙ ap₂ ◌||◌ (inv.held t other) (rw (low, high) (equal_words s t thirty other))
              ∙ one_more (equal (name_field t) (name_field s)) (name_count (name_field t) (fields_below b ss k))
              ∙ rw (add-one, occupied)
              (ap (λ (u : Bytes). ltb 0 (indicator (equal (name_field t) (name_field u)) + name_count (name_field t) (fields_below b ss k))) here);
          noted = λ v w e. elim (ℕ_discrete (hash_of v w % size) h) [
            | yes same ↦ rw same (get_or-set_same seen h true false inside)
            | no other ↦ get_or-set_other seen h (hash_of v w % size) true false other ∙ before v w (sym (holds-add names n x y v w free) ∙ e) other
          ];
          first = sym (first_next b ss end k more (repeats-held ∙ new)) ∙ inv.first;
        }
      where
        before : (v w : ℕ) → (holds (take n names) v w || (eqb x v && eqb y w)) ≡ true → (hash_of v w % size ≡ h → ⊥)
            → get_or seen (hash_of v w % size) false ≡ true
        before v w e other = go (holds (take n names) v w) refl e
          where
            go : (t : Bool) → holds (take n names) v w ≡ t → (t || (eqb x v && eqb y w)) ≡ true → get_or seen (hash_of v w % size) false ≡ true
            go true is f = inv.noted v w is
            go false is f =
                let same = and-true (eqb x v) (eqb y w) f in
                absurd (other (sym (hashed ∙ ap₂ (λ (x y : ℕ). hash_of x y % size) (eqb-true x v same.0) (eqb-true y w same.1))))

    -- the new name is held behind the others
    pub searching-new : end ≤ room → 0 < size → {h : ℕ} → h ≡ hash_of x y % size → holds (take n names) x y ≡ false → {m : ℕ} → m ≡ n + 1
        → Searching b ss end room size (set seen h true) (set names n (x, y)) m (k + 1)
    searching-new fits some hashed new e = rw e (one-more fits some hashed new)

module _ {b : Bytes} {ss : List ℕ} {end room size : ℕ} {seen : List Bool} {names : List (ℕ × ℕ)} {n k : ℕ}
    (inv : Searching b ss end room size seen names n k) where
  -- a pair whose place is not marked is new
  pub new-hash : (x y : ℕ) {h : ℕ} → h ≡ hash_of x y % size → get_or seen h false ≡ false → holds (take n names) x y ≡ false
  new-hash x y hashed none = go (holds (take n names) x y) refl
    where
      go : (t : Bool) → holds (take n names) x y ≡ t → t ≡ false
      go true e = sym (sym (rw hashed at none) ∙ inv.noted x y e)
      go false e = refl
