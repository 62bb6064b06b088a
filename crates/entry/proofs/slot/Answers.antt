-- `entry::slot` meets its contract: nothing past the sector's end, else 30 bytes from the slot's byte 02 on. Assumes nothing.
use mathlib.Core.Path.{◌≡◌, sym, ap, ◌∙◌}
use Prim.Native.Nat.{ℕ, ◌+◌, ◌*◌}
use lib.ListN.{take, drop}
use lib.Seq.{drop-drop}
use Rattle.d64spec.specs.Lists.{Bytes, part}
use Rattle.entry.proofs.slot.Goals as goal

-- bytes 02 to 1F of slot j are 30 from 32 * j + 2 on
part-slot : (s : Bytes) (j : ℕ) → take 30 (drop (32 * j + 2) s) ≡ part 0x02 0x1F (drop (32 * j) s)
part-slot s j = sym (ap (take 30) (drop-drop 2 (32 * j) s))

pub returns : goal.returns
returns c = let a = c.args in c.clipped.ensures ∙ part-slot a.sector.now a.j
