-- The shape of an entry by value: four bytes. A contract has it from the array's type, `entry-shaped`.
-- The shape of a whole map: MapShapeLaws. Assumes nothing.
use Prim.Native.Nat.{ℕ, ◌<◌}
use mathlib.Core.Path.{◌≡◌}
use mathlib.Core.List.{List}
use lib.ListN.{length}
use mir.Syntax.{w8}
use mir.Val.{Val}
use denote.Plain.{UInt}
use denote.Array.{Array}
use denote.Laws.{Is}
use borrow.Author.Rules.{elem_Fits}
use Rattle.d64spec.specs.Lists.{Bytes, byte}

-- an entry has four numbers, all of them bytes
pub record EntryShape (e : Bytes) : Type 0 where
  pub four : length e ≡ 4
  pub small : (j : ℕ) → byte e j < 256

pub entry-shaped : (e : Bytes) (vs : List Val) → Is (Array (UInt w8) 4) e vs → EntryShape e
entry-shaped e vs p = record { four = p.1.0.1; small = λ j. (elem_Fits w8 w8 e p.0 j p.1.1 tt).fits }
