-- Names held as pairs of words: a test of two numbers, turned round; one more name. Assumes nothing.
use mathlib.Core.Path.{◌≡◌, sym, ap₂, ◌∙◌}
use mathlib.Core.Bool.{◌&&◌, ◌||◌}
use mathlib.Core.List.{List}
use Prim.Native.Nat.{ℕ, ◌+◌, ◌<◌}
use native.Mathlib.Omega.{arith}
use native.Mathlib.Decide.{ℕ_discrete}
use borrow.Author.Tests.{ne_eqb}
use lib.ListN.{length, take, set, length-set}
use lib.Seq.{get_or-set_same}
use lib.Dec.{eqb}
use Rattle.directory.specs.NameWords.{holds}
use Rattle.std.proofs.lemmas.List.{take-set}
use Rattle.std.proofs.lemmas.List.Folds.{list_any_more}

pub eqb-turned : (a c : ℕ) → eqb a c ≡ eqb c a
eqb-turned a c = elim (ℕ_discrete a c) [
  | yes same ↦ rw same
  | no other ↦ ne_eqb a c other ∙ sym (ne_eqb c a (λ e. other (sym e)))
]

-- one more name
pub holds-add : (names : List (ℕ × ℕ)) (n a c x y : ℕ) → n < length names
    → holds (take (n + 1) (set names n (a, c))) x y ≡ (holds (take n names) x y || (eqb a x && eqb c y))
holds-add names n a c x y h =
    list_any_more (λ m. eqb m.0 x && eqb m.1 y) (set names n (a, c)) n (a, c) (omega (arith, length-set names n (a, c)))
    ∙ ap₂ (λ (l : List (ℕ × ℕ)) (m : ℕ × ℕ). holds l x y || (eqb m.0 x && eqb m.1 y))
    (take-set names n (a, c)) (get_or-set_same names n (a, c) (a, c) h)
