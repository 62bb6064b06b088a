-- The tests of the calls agree with document 01's facts (specs/Rules), each stated apart from the tests' own text.
use Prim.Native.Nat.{ℕ, zero, suc, ◌-◌, ◌≤◌, ◌<◌}
use native.Mathlib.Omega.{arith}
use mathlib.Core.Path.{◌≡◌, refl, sym, ap}
use mathlib.Core.Bool.{Bool, true, false, cond, not, ◌&&◌, ◌||◌, or-true}
use mathlib.Core.Logic.{◌⊎◌, inl, inr, ⊎_elim, ◌↔◌}
use mathlib.Core.List.{[], ◌∷◌, ◌++◌, map}
use lib.ListN.{length, drop, replicate, length-append, length-take}
use lib.Dec.{eqb, ltb}
use borrow.Author.Tests.{eq-eqb, ne_eqb, eqb-true, ltb-true, lt-ltb}
use Rattle.d64spec.proofs.ListLaws.{equal-refl, eq-of-equal}
use Rattle.d64spec.proofs.MapLaws.{and-true, both_true}
use Rattle.d64spec.specs.Lists.{ascending, Bytes, byte, count, equal, filter, indicator, range, zeros}
use Rattle.d64spec.specs.Geometry.{Geometry, first_on, layout35, map_address, sector_number}
use Rattle.d64spec.specs.Image.{Disk}
use Rattle.d64spec.specs.Directory.{is_empty, kind_of, name_field, name_of, padded, valid_name, valid_type}
use Rattle.d64spec.specs.Rules.{HoldsName, IsStorableKind, IsName, MayWrite, type_bytes}
use Rattle.d64spec.specs.Reply.{storable_kind, valid_name_argument, writable}

-- bytes 02 to 1F of a slot whose bytes 05 to 14 are the field
abbrev entry_named : Bytes → Bytes
entry_named field = 0x81 ∷ 17 ∷ 0 ∷ (field ++ zeros 11)

-- THE TYPE BYTES THAT THE CHECK ACCEPTS, of all 256
pub types_are : filter valid_type (range 0 256) ≡ type_bytes
unfolding valid_type
types_are = refl

-- OF ALL 256 TYPE BYTES only 0 is an empty slot
pub empties-are : filter (λ b. is_empty (b ∷ [])) (range 0 256) ≡ 0 ∷ []
empties-are = refl

-- THE KIND of each type byte that is carried, locked or not
pub kinds-are : map (λ b. kind_of (b ∷ [])) type_bytes ≡ 1 ∷ 2 ∷ 3 ∷ 1 ∷ 2 ∷ 3 ∷ []
kinds-are = refl

-- OF ALL 256 BYTES only $A0 is no name of one byte, asked for and on disk; and the name on disk is that byte
pub name-bytes-are : filter (λ c. not (valid_name_argument (c ∷ []))) (range 0 256) ≡ 0xA0 ∷ []
unfolding valid_name_argument
name-bytes-are = refl

pub field-bytes-are :
    filter (λ c. not (valid_name (entry_named (c ∷ replicate 15 0xA0)) && equal (name_of (entry_named (c ∷ replicate 15 0xA0))) (c ∷ []))) (range 0 256)
    ≡ 0xA0 ∷ []
unfolding valid_name name_of padded
field-bytes-are = refl

-- A NAME HAS 1 TO 16 BYTES, asked for and on disk
pub name-lengths-are : filter (λ n. valid_name_argument (replicate n 0x41)) (range 0 40) ≡ ascending 1 16
unfolding valid_name_argument ascending
name-lengths-are = refl

pub field-lengths-are : filter (λ n. valid_name (entry_named (replicate n 0x41 ++ replicate (16 - n) 0xA0))) (range 0 17) ≡ ascending 1 16
unfolding valid_name name_of padded ascending
field-lengths-are = refl

-- $A0 AMONG OTHER BYTES breaks a name, asked for and on disk: of 16 places only behind the other 15 is it padding
pub name-gaps-are : filter (λ n. valid_name_argument (replicate n 0x41 ++ (0xA0 ∷ replicate (15 - n) 0x41))) (range 0 16) ≡ []
unfolding valid_name_argument
name-gaps-are = refl

pub field-gaps-are : filter (λ n. valid_name (entry_named (replicate n 0x41 ++ (0xA0 ∷ replicate (15 - n) 0x41)))) (range 0 16) ≡ 15 ∷ []
unfolding valid_name name_of padded
field-gaps-are = refl

-- THE KINDS THAT A STORE TAKES, of 0 to 299: 3, 258 and 259 are not among them
pub taken-kinds-are : filter storable_kind (range 0 300) ≡ 1 ∷ 2 ∷ []
unfolding storable_kind
taken-kinds-are = refl

-- OF ALL 256 DOS VERSIONS only $00 and $41 allow writing
pub versions-are : filter (λ v. writable layout35 (λ n. cond (eqb n 357) (0x12 ∷ 0x01 ∷ v ∷ []) [])) (range 0 256) ≡ 0x00 ∷ 0x41 ∷ []
unfolding writable layout35 sector_number first_on
versions-are = refl

-- A NAME ARGUMENT IS TAKEN exactly when it is a name
pub name-argument-exact : (n : Bytes) → (valid_name_argument n ≡ true) ↔ IsName n
unfolding valid_name_argument
name-argument-exact n = (
  (λ e.
      let a = and-true (ltb 0 (length n)) (ltb (length n) 17 && eqb (count 0xA0 n) 0) e in
      let b = and-true (ltb (length n) 17) (eqb (count 0xA0 n) 0) a.1 in
      let l : length n < 17 = ltb-true (length n) 17 b.0 in
      record { some = ltb-true 0 (length n) a.0; short = omega arith; no_padding = eqb-true (count 0xA0 n) 0 b.1 }),
  (λ h. both_true (lt-ltb 0 (length n) h.some) (both_true (lt-ltb (length n) 17 (let s = h.short in omega arith)) (eq-eqb (count 0xA0 n) 0 h.no_padding))),
)

-- one of two tests passes
either-test : (i a j b : ℕ) → ((eqb i a || eqb j b) ≡ true) ↔ ((i ≡ a) ⊎ (j ≡ b))
either-test i a j b = (go (eqb i a) refl, ⊎_elim (λ e. rw (eq-eqb i a e)) (λ e. rw (eq-eqb j b e) (or-true (eqb i a))))
  where
    go : (x : Bool) → eqb i a ≡ x → (x || eqb j b) ≡ true → (i ≡ a) ⊎ (j ≡ b)
    go true t h = inl (eqb-true i a t)
    go false t h = inr (eqb-true j b h)

-- A STORE TAKES A KIND exactly when it is 1 or 2
pub kind-exact : (k : ℕ) → (storable_kind k ≡ true) ↔ IsStorableKind k
unfolding storable_kind
kind-exact k = either-test k 1 k 2

-- A VERSION ALLOWS WRITING exactly when it is $41 or $00
pub version-exact : (g : Geometry) (d : Disk) → (writable g d ≡ true) ↔ MayWrite g d
unfolding writable
version-exact g d = let v : ℕ = byte (d (sector_number g map_address)) 2 in either-test v 0x41 v 0

-- ---- names on disk

-- a filtered name has no $A0
no-padding : (n : Bytes) → count 0xA0 (filter (λ c. not (eqb c 0xA0)) n) ≡ 0
no-padding [] = refl
no-padding (c ∷ n) = go (eqb c 0xA0) refl (no-padding n)
  where
    go : (b : Bool) → eqb c 0xA0 ≡ b → count 0xA0 (filter (λ c. not (eqb c 0xA0)) n) ≡ 0 → count 0xA0 (filter (λ c. not (eqb c 0xA0)) (c ∷ n)) ≡ 0
    go true t ih = rw t ih
    go false t ih = rw t (let z : indicator (eqb 0xA0 c) ≡ 0 = rw (ne_eqb 0xA0 c (λ e. let y : eqb c 0xA0 ≡ true = eq-eqb c 0xA0 (sym e) in let w : ◌≡◌ {A = ℕ} 0 1 = cc in omega arith)) in omega arith)

name-plain : (b : Bytes) → count 0xA0 (name_of b) ≡ 0
unfolding name_of
name-plain b = no-padding (name_field b)

-- A NAME ON DISK IS VALID exactly when its field holds a name, which is then the file's name
pub name-exact : (b : Bytes) → (valid_name b ≡ true) ↔ HoldsName (name_field b) (name_of b)
unfolding valid_name padded
name-exact b = (
  (λ e.
      let h = and-true (not (eqb (length (name_of b)) 0)) (equal (name_field b) (padded (name_of b))) e in
      let z : name_field b ≡ padded (name_of b) = eq-of-equal (name_field b) (padded (name_of b)) h.1 in
      record {
        name = record { some = some_of (length (name_of b)) h.0; short = short-of (name_of b) (ap length (sym z)); no_padding = name-plain b };
        padding = z;
      }),
  (λ h. both_true (ap not (ne_eqb (length (name_of b)) 0 (λ z. let s = h.name.some in omega arith))) (rw h.padding (equal-refl (padded (name_of b))))),
)
  where
    some_of : (n : ℕ) → not (eqb n 0) ≡ true → 1 ≤ n
    some_of zero e = absurd (let z : ◌≡◌ {A = ℕ} 0 1 = cc in omega arith)
    some_of (suc n) e = omega arith

    short-of : (n : Bytes) → length (padded n) ≡ length (name_field b) → length n ≤ 16
    short-of n e = omega (arith, length-append n (replicate (16 - length n) 0xA0), length-take 16 (drop 3 b))
