-- The shape of a map by value: 40 entries, each of four bytes. A contract has it from the array's type, `map-shaped`; so a caller of
-- load_map has it of the result. Assumes nothing.
use Prim.Native.Nat.{ℕ, zero, suc, ◌<◌}
use native.Mathlib.Omega.{arith}
use mathlib.Core.Path.{◌≡◌}
use mathlib.Core.List.{List, [], ◌∷◌}
use lib.ListN.{length, get_or}
use mir.Syntax.{w8}
use mir.Val.{Val}
use denote.Plain.{UInt}
use denote.Array.{Array, each}
use denote.Laws.{Is}
use denote.Shadow.{shadow}
use Rattle.d64spec.specs.Lists.{Bytes}
use Rattle.bam.specs.MapEntry.{Entries}
use Rattle.bam.proofs.ShapeLaws.{EntryShape, entry-shaped}

-- a map has an entry for each of 40 tracks
pub record MapShape (es : Entries) : Type 0 where
  pub size : length es ≡ 40
  pub entry : (i : ℕ) → i < 40 → EntryShape (get_or es i [])

each-shaped : (es : Entries) (us : List Val) → shadow (each Bytes (Array (UInt w8) 4).own_val es us) → (i : ℕ) → i < length es → EntryShape (get_or es i [])
each-shaped [] us p i h = absurd (omega arith)
each-shaped (e ∷ es) [] p i h = absurd p
each-shaped (e ∷ es) (u ∷ us) p zero h = entry-shaped e (u ∷ []) p.0
each-shaped (e ∷ es) (u ∷ us) p (suc i) h = each-shaped es us p.1 i (omega arith)

pub map-shaped : (es : Entries) (vs : List Val) → Is (Array (Array (UInt w8) 4) 40) es vs → MapShape es
map-shaped es vs p = record { size = p.1.0.1; entry = λ i h. each-shaped es p.0 p.1.1 i (let l : length es ≡ 40 = p.1.0.1 in omega arith) }
