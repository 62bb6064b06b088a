-- The layout that an argument names, case by case, as the code's tests tell the cases apart (02, §8).
use Prim.Native.Nat.{◌-◌, ◌≤◌, ◌<◌}
use mathlib.Core.Path.{◌≡◌, refl}
use lib.ListN.{length}
use borrow.Author.Tests.{eq-eqb, ne_eqb, le-leb, lt-leb}
use Rattle.std.specs.Prelude.{Result as Outcome, Ok, Err}
use Rattle.std.specs.Result.{result_ok}
use Rattle.d64spec.specs.Lists.{Bytes, byte}
use Rattle.d64spec.specs.Answers.{Result, refused, unknown_layout}
use Rattle.d64spec.specs.Geometry.{Geometry}
use Rattle.d64spec.specs.Layouts.{layout_numbered}
use Rattle.geometry.specs.declared.Layout.{Layout}
use Rattle.geometry.specs.declared.UnknownLayout.{UnknownLayout}
use Rattle.geometry.specs.Layout.{numbered_by}
use Rattle.layouts.specs.Named.{named_by, layout_written}

-- what a number names is what is left of it without its error
pub named-ok : (r : Outcome Layout UnknownLayout) → named_by (result_ok r) ≡ numbered_by r
named-ok (Ok layout) = refl
named-ok (Err e) = refl

-- no argument of one byte
pub written-misfit : (a : Bytes) → (length a ≡ 1 → ⊥) → ◌≡◌ {A = Result Geometry} (refused unknown_layout) (layout_written a)
unfolding layout_written
written-misfit a other = rw (ne_eqb (length a) 1 other) refl

module _ (a : Bytes) (one : length a ≡ 1) where
  -- a byte below the digit 0
  pub written-low : byte a 0 < 48 → ◌≡◌ {A = Result Geometry} (refused unknown_layout) (layout_written a)
  unfolding layout_written
  written-low low = rw (eq-eqb (length a) 1 one, lt-leb 48 (byte a 0) low) refl

  -- any other: the layout of its number
  pub written-digit : 48 ≤ byte a 0 → layout_numbered (byte a 0 - 48) ≡ layout_written a
  unfolding layout_written
  written-digit high = rw (eq-eqb (length a) 1 one, le-leb 48 (byte a 0) high) refl

-- what an argument names, by cases
pub ruleset written = (named-ok, written-misfit, written-low, written-digit)
