-- The first slot that repeats a name field: where it lies, and that it is the first whose name an earlier slot has, where names are valid (01, Order of the check, 3).
-- In order: name fields and names, counted; the first repeated slot; both together. Assumes nothing.
use mathlib.Core.Path.{◌≡◌, refl, sym, ap, ap₂, ◌∙◌}
use mathlib.Core.Bool.{Bool, true, false, cond, not}
use mathlib.Core.List.{List, ◌∷◌}
use Prim.Native.Nat.{ℕ, zero, suc, ◌+◌, ◌≤◌, ◌<◌}
use native.Mathlib.Omega.{arith}
use native.Mathlib.Decide.{ℕ_discrete}
use lib.Dec.{eqb, ltb}
use borrow.Author.Tests.{eq-eqb, ne_eqb, lt-ltb, eqb-false}
use Rattle.d64spec.specs.Lists.{Bytes, indicator, name_count}
use Rattle.d64spec.specs.Directory.{is_empty, name_field, name_of, valid_name}
use Rattle.names.proofs.NameLaws.{equal-name_field}
use Rattle.directory.specs.Directories.{slot_bytes, fields_below, names_below, repeats, first_repeated}

-- the occupied slots below k have valid names
abbrev pub ValidBelow : Bytes → List ℕ → ℕ → Type 0
ValidBelow b ss k = (i : ℕ) → i < k → is_empty (slot_bytes b ss i) ≡ false → valid_name (slot_bytes b ss i) ≡ true

module _ (b : Bytes) (ss : List ℕ) where
  -- ---- counted

  -- a valid name stands as often among names as its field among name fields
  name_count-fields : (s : Bytes) → valid_name s ≡ true → (k : ℕ) → ValidBelow b ss k → name_count (name_field s) (fields_below b ss k) ≡ name_count (name_of s) (names_below b ss k)
  name_count-fields s valid zero below = refl
  name_count-fields s valid (suc k) below = go (is_empty (slot_bytes b ss k)) refl (name_count-fields s valid k (λ i h. below i (omega arith)))
    where
      go : (t : Bool) → is_empty (slot_bytes b ss k) ≡ t → name_count (name_field s) (fields_below b ss k) ≡ name_count (name_of s) (names_below b ss k)
          → name_count (name_field s) (cond t (fields_below b ss k) (name_field (slot_bytes b ss k) ∷ fields_below b ss k))
          ≡ name_count (name_of s) (cond t (names_below b ss k) (name_of (slot_bytes b ss k) ∷ names_below b ss k))
      go true e same = same
      go false e same = ap₂ (λ (x : Bool) (n : ℕ). indicator x + n) (equal-name_field s (slot_bytes b ss k) valid (below k (omega arith) e)) same

  -- ---- the first repeated slot

  pub first_repeated-ge : (k n : ℕ) → k ≤ first_repeated b ss k n
  first_repeated-ge k zero = omega arith
  first_repeated-ge k (suc n) = go (repeats b ss k) (first_repeated-ge (suc k) n)
    where
      go : (t : Bool) → suc k ≤ first_repeated b ss (suc k) n → k ≤ cond t k (first_repeated b ss (suc k) n)
      go true h = omega arith
      go false h = omega arith

  pub first_repeated-le : (k n : ℕ) → first_repeated b ss k n ≤ k + n
  first_repeated-le k zero = omega arith
  first_repeated-le k (suc n) = go (repeats b ss k) (first_repeated-le (suc k) n)
    where
      go : (t : Bool) → first_repeated b ss (suc k) n ≤ suc k + n → cond t k (first_repeated b ss (suc k) n) ≤ k + suc n
      go true h = omega arith
      go false h = omega arith

  -- it is the first that repeats one
  repeats-first : (k n j : ℕ) → k ≤ j → j < k + n → j ≤ first_repeated b ss k n → repeats b ss j ≡ eqb j (first_repeated b ss k n)
  repeats-first k zero j low high h = absurd (omega arith)
  repeats-first k (suc n) j low high h = go (repeats b ss k) refl h (λ l z. repeats-first (suc k) n j l (omega arith) z)
    where
      go : (t : Bool) → repeats b ss k ≡ t → j ≤ cond t k (first_repeated b ss (suc k) n)
          → (suc k ≤ j → j ≤ first_repeated b ss (suc k) n → repeats b ss j ≡ eqb j (first_repeated b ss (suc k) n))
          → repeats b ss j ≡ eqb j (cond t k (first_repeated b ss (suc k) n))
      go true e h rec =
          let here : j ≡ k = omega arith in
          ap (repeats b ss) here ∙ e ∙ sym (eq-eqb j k here)
      go false e h rec =
          let past = first_repeated-ge (suc k) n in
          elim (ℕ_discrete j k) [
            | yes here ↦ ap (repeats b ss) here ∙ e ∙ sym (ne_eqb j (first_repeated b ss (suc k) n) (λ z. omega arith))
            | no other ↦ rec (omega arith) h
          ]

  -- an empty slot repeats none
  repeats-empty : (k : ℕ) → is_empty (slot_bytes b ss k) ≡ true → repeats b ss k ≡ false
  unfolding repeats
  repeats-empty k empty = rw empty

  repeats-occupied : (k : ℕ) → is_empty (slot_bytes b ss k) ≡ false → valid_name (slot_bytes b ss k) ≡ true → ValidBelow b ss k
      → repeats b ss k ≡ ltb 0 (name_count (name_of (slot_bytes b ss k)) (names_below b ss k))
  unfolding repeats
  repeats-occupied k occupied valid below = rw occupied (ap (ltb 0) (name_count-fields (slot_bytes b ss k) valid k below))

  -- ---- for callers: slot k, where no slot of the n below it repeats a name field

  module _ (n k : ℕ) (within : k < n) (new : k ≤ first_repeated b ss 0 n) where
    -- A NAME IS NEW exactly where the slot is not the first repeated one
    pub new-name : is_empty (slot_bytes b ss k) ≡ false → valid_name (slot_bytes b ss k) ≡ true → ValidBelow b ss k
        → eqb (name_count (name_of (slot_bytes b ss k)) (names_below b ss k)) 0 ≡ not (eqb k (first_repeated b ss 0 n))
    new-name occupied valid below =
        none (name_count (name_of (slot_bytes b ss k)) (names_below b ss k))
        ∙ ap not (sym (repeats-occupied k occupied valid below) ∙ repeats-first 0 n k (omega arith) (omega arith) new)
      where
        none : (c : ℕ) → eqb c 0 ≡ not (ltb 0 c)
        none zero = refl
        none (suc c) = ne_eqb (suc c) 0 (λ e. omega arith) ∙ sym (ap not (lt-ltb 0 (suc c) (omega arith)))

    -- an empty slot is not the first repeated one
    pub past-empty : is_empty (slot_bytes b ss k) ≡ true → suc k ≤ first_repeated b ss 0 n
    past-empty empty =
        let other : eqb k (first_repeated b ss 0 n) ≡ false = sym (repeats-first 0 n k (omega arith) (omega arith) new) ∙ repeats-empty k empty in
        let differ = eqb-false k (first_repeated b ss 0 n) other in
        omega arith
