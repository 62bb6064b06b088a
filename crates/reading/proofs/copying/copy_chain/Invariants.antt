-- `reading::copying::copy_chain` meets its contract. The loop keeps that the output is the data of the sectors passed, put at the start of the
-- output as it was, and that the rest of the data is that of the chain from `at` on. A chain has at most 769 sectors: those of them that are left fall.
use Prim.Native.Nat.{◌-◌, ◌*◌}
use Rattle.geometry.specs.Layout.{geometry_of, address_of}
use Rattle.reading.proofs.CopyLaws.{Copying}
use Rattle.reading.proofs.copying.copy_chain.Given as goal

abbrev pub invariant-loop-out : goal.invariant-loop-out
invariant-loop-out l =
    Copying (geometry_of l.fn.layout) l.img l.initial.out (address_of l.initial.at) (address_of l.at) l.out (254 * l.sectors) l.sectors

abbrev pub decreases-loop-out : goal.decreases-loop-out
decreases-loop-out l = 769 - l.sectors
