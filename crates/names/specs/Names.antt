-- What the contracts of names cite beside document 01's own definitions (01, The directory).
-- Not here: name_field, valid_name (d64spec, Directory), valid_name_argument (d64spec, Reply). Laws: proofs/PaddingLaws, NameLaws.
use Rattle.std.specs.Prelude.{ℕ, ◌≤◌, ◌≡◌, Bool, true, not, ◌&&◌, ◌||◌, [], ◌∷◌, length, drop, eqb}
use Rattle.d64spec.specs.Lists.{Bytes}
use Rattle.d64spec.specs.Directory.{name_field}

-- no other byte stands right behind a $A0 (01, The directory: then only $A0)
abbrev pub padded_once : Bytes → Bool
padded_once [] = true
padded_once (c ∷ []) = true
padded_once (c ∷ d ∷ l) = (not (eqb c 0xA0) || eqb d 0xA0) && padded_once (d ∷ l)

-- a slot holds a name field, and no other byte stands right behind a $A0 from byte `end` of it on (01, The directory: then only $A0)
pub record RestFits (s : Bytes) (end : ℕ) : Type 0 where
  pub whole : 19 ≤ length s
  pub inside : end ≤ 15
  pub rest : padded_once (drop end (name_field s)) ≡ true
