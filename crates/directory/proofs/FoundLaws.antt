-- What a search among the slots below an end found (specs/Directories, `found`): a slot, or none. Assumes nothing.
use mathlib.Core.Path.{◌≡◌, refl, sym}
use mathlib.Core.Bool.{Bool, true, false, cond}
use Prim.Native.Nat.{ℕ, ◌≤◌, ◌<◌}
use native.Mathlib.Omega.{arith}
use lib.Dec.{eqb, ltb}
use borrow.Author.Tests.{ne_eqb, ltb-true, ltb-false}
use Rattle.std.specs.Prelude.{Some, None}
use Rattle.std.specs.Option.{option_eq}
use Rattle.directory.specs.Directories.{found}
use Rattle.directory.proofs.PairLaws.{eqb-turned}

-- THE SLOT FOUND is k exactly where the search among the slots below the end stopped at k
pub found-is : (end j k : ℕ) → k < end → option_eq eqb (found end j) (Some k) ≡ eqb k j
found-is end j k inside = go (ltb j end) refl
  where
    go : (t : Bool) → ltb j end ≡ t → option_eq eqb (cond t (Some j) None) (Some k) ≡ eqb k j
    go true e = eqb-turned j k
    go false e = sym (ne_eqb k j (λ is. omega (arith, ltb-false j end e)))

-- a slot found is where the search stopped, below the end
pub found-some : {end j k : ℕ} → Some k ≡ found end j → (k ≡ j) × (k < end)
found-some {end} {j} {k} e = go (ltb j end) refl e
  where
    go : (t : Bool) → ltb j end ≡ t → Some k ≡ cond t (Some j) None → (k ≡ j) × (k < end)
    go true h e = let same : k ≡ j = cc in (same, omega (arith, ltb-true j end h))
    go false h e = cc

-- none is found where it stopped at the end, or past it
pub found-none : {end j : ℕ} → None ≡ found end j → end ≤ j
found-none {end} {j} e = go (ltb j end) refl e
  where
    go : (t : Bool) → ltb j end ≡ t → None ≡ cond t (Some j) None → end ≤ j
    go true h e = cc
    go false h e = ltb-false j end h
