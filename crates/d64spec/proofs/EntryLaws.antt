-- The entry that a store writes says what was asked.
use Prim.Native.Nat.{ℕ, zero, suc, ◌+◌, ◌*◌, ◌-◌, ◌/◌, ◌%◌, ◌≤◌, ◌<◌}
use native.Mathlib.Omega.{arith}
use mathlib.Core.Path.{◌≡◌, refl, sym, ap, ap₂, ◌∙◌}
use mathlib.Core.Bool.{true, not, ◌&&◌}
use mathlib.Core.Logic.{⊎_elim}
use mathlib.Core.List.{[], ◌∷◌, ◌++◌, append-nil}
use lib.ListN.{take, length, get_or, replicate, length-append}
use lib.Seq.{take_at, drop_at, get_or-append-add}
use lib.Dec.{eqb, ltb}
use borrow.Author.Tests.{eq-eqb, ne_eqb, eqb-true, ltb-true}
use Rattle.d64spec.specs.Lists.{Bytes, count, equal, filter, indicator, zeros}
use Rattle.d64spec.specs.Answers.{Address}
use Rattle.d64spec.specs.Directory.{count_of, entry_byte, is_empty, kind_of, name_field, name_of, padded, valid_name, valid_type}
use Rattle.d64spec.specs.Rules.{NewEntryBytes}
use Rattle.d64spec.specs.Reply.{storable_kind, valid_name_argument}
use Rattle.d64spec.specs.Store.{new_entry}
use Rattle.d64spec.proofs.ListLaws.{equal-refl}
use Rattle.d64spec.proofs.MapLaws.{and-true, both_true}
use Rattle.d64spec.proofs.SplitLaws.{filter-append}
use Rattle.d64spec.proofs.FormatLaws.{padded-length, name-short}
use Rattle.d64spec.proofs.RuleLaws.{kind-exact}

pub kind-small : (k : ℕ) → storable_kind k ≡ true → (1 ≤ k) × (k ≤ 2)
kind-small k e = ⊎_elim (λ (h : k ≡ 1). (omega arith, omega arith)) (λ (h : k ≡ 2). (omega arith, omega arith)) ((kind-exact k).0 e)

type-right : (k : ℕ) → 1 ≤ k → k ≤ 2 → valid_type (0x80 + k) ≡ true
unfolding valid_type
type-right zero p q = absurd (omega arith)
type-right (suc zero) p q = refl
type-right (suc (suc zero)) p q = refl
type-right (suc (suc (suc k))) p q = absurd (omega arith)

-- a name without $A0, and then only $A0
name-kept : (n : Bytes) → count 0xA0 n ≡ 0 → filter (λ c. not (eqb c 0xA0)) n ≡ n
name-kept [] h = refl
name-kept (c ∷ n) h =
    rw (ne_eqb c 0xA0 (λ e. let z : indicator (eqb 0xA0 c) ≡ 1 = rw (eq-eqb 0xA0 c (sym e)) in omega arith)) (ap (λ (x : Bytes). c ∷ x) (name-kept n (omega arith)))

padding-dropped : (n : ℕ) → filter (λ c. not (eqb c 0xA0)) (replicate n 0xA0) ≡ []
padding-dropped zero = refl
padding-dropped (suc n) = padding-dropped n

-- a name read back from its field
pub name-of-padded : (n : Bytes) (k : ℕ) → count 0xA0 n ≡ 0 → filter (λ c. not (eqb c 0xA0)) (n ++ replicate k 0xA0) ≡ n
name-of-padded n k h =
    filter-append (λ c. not (eqb c 0xA0)) n (replicate k 0xA0)
    ∙ ap₂ (λ (x y : Bytes). x ++ y) (name-kept n h) (padding-dropped k) ∙ append-nil n

module _ (name : Bytes) (kind : ℕ) (r : Address) (k : ℕ) (asked : valid_name_argument name ≡ true) (kind-asked : storable_kind kind ≡ true) where
  -- the entry
  abbrev entry : Bytes
  entry = new_entry name kind r k

  -- what stands behind the name
  abbrev tail : Bytes
  tail = zeros 9 ++ (k % 256 ∷ k / 256 ∷ [])

  short : length name ≤ 16
  short = name-short name asked

  some-name : 0 < length name
  unfolding valid_name_argument
  some-name = ltb-true 0 (length name) (and-true (ltb 0 (length name)) (ltb (length name) 17 && eqb (count 0xA0 name) 0) asked).0

  plain-name : count 0xA0 name ≡ 0
  unfolding valid_name_argument
  plain-name =
      eqb-true (count 0xA0 name) 0 (and-true (ltb (length name) 17) (eqb (count 0xA0 name) 0)
      (and-true (ltb 0 (length name)) (ltb (length name) 17 && eqb (count 0xA0 name) 0) asked).1).1

  pub entry_length : length entry ≡ 30
  unfolding new_entry
  entry_length = ap (λ (x : ℕ). suc (suc (suc x))) (length-append (padded name) tail ∙ ap (λ (x : ℕ). x + 11) (padded-length name short))

  pub entry-type : valid_type (entry_byte entry 0x02) ≡ true
  unfolding new_entry
  entry-type = type-right kind (kind-small kind kind-asked).0 (kind-small kind kind-asked).1

  pub entry-used : not (is_empty entry) ≡ true
  unfolding new_entry
  entry-used = ap not (ne_eqb (0x80 + kind) 0 (λ e. omega arith))

  pub entry-kind : kind_of entry ≡ kind
  unfolding new_entry
  entry-kind = let h = kind-small kind kind-asked in omega arith

  pub field_is : name_field entry ≡ padded name
  unfolding new_entry
  field_is = take_at (padded name) tail 16 (padded-length name short)

  pub entry-name : name_of entry ≡ name
  unfolding name_of padded
  entry-name = ap (filter (λ c. not (eqb c 0xA0))) field_is ∙ name-of-padded name (16 - length name) plain-name

  pub entry-name-right : valid_name entry ≡ true
  unfolding valid_name
  entry-name-right =
      both_true (ap (λ (x : Bytes). not (eqb (length x) 0)) entry-name ∙ ap not (ne_eqb (length name) 0 (λ e. omega (arith, some-name))))
      (ap₂ (λ (x y : Bytes). equal x (padded y)) field_is entry-name ∙ equal-refl (padded name))

  past-name : (i : ℕ) → get_or (padded name ++ tail) (16 + i) 0 ≡ get_or tail i 0
  past-name i = ap (λ (x : ℕ). get_or (padded name ++ tail) (x + i) 0) (sym (padded-length name short)) ∙ get_or-append-add (padded name) tail i 0

  pub entry-count : count_of entry ≡ k
  unfolding new_entry
  entry-count =
      let z : k % 256 + 256 * (k / 256) ≡ k = omega arith in
      ap₂ (λ (x y : ℕ). x + 256 * y) (past-name 9) (past-name 10) ∙ z

  -- THE BYTES OF A NEW ENTRY are those that document 01 lists
  pub entry-bytes : NewEntryBytes entry name kind r k
  unfolding new_entry padded
  entry-bytes = record {
    size = entry_length;
    type = refl;
    track = refl;
    sector = refl;
    name = field_is;
    nine = ap (take 9) (drop_at (padded name) tail 16 (padded-length name short));
    count = entry-count;
  }
