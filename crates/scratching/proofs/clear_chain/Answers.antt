-- `scratching::clear_chain` meets its contract. The loop keeps that the sectors passed are zeroed and free in the map, and that the others of the chain
-- are as they were. A chain has at most 769 sectors: those of them that are left fall.
use Prim.Native.Nat.{ℕ, ◌<◌}
use native.Mathlib.Omega.{arith}
use mathlib.Core.Path.{◌≡◌, refl, ap, ◌∙◌}
use lib.ListN.{length}
use Rattle.d64spec.specs.Lists.{Bytes}
use Rattle.d64spec.specs.Answers.{Address}
use Rattle.d64spec.specs.Geometry.{Geometry}
use Rattle.geometry.specs.declared.Layout.{Layout}
use Rattle.geometry.specs.Layout.{geometry_of, number_by, firsts}
use Rattle.geometry.proofs.TableLaws.{known_of}
use Rattle.geometry.proofs.LentTableLaws.{number-known}
use Rattle.bam.specs.MapEntry.{Entries}
use Rattle.reading.proofs.ChainStepLaws.{sectors_from-le, sectors-first, Visited, visited}
use Rattle.scratching.proofs.ClearingLaws.{Clearing, clearing-start, inside', next, clearing-moved, clearing-finished}
use Rattle.scratching.proofs.clear_chain.Goals as goal

-- one turn of the loop
module _ (layout : Layout) {img : Bytes} {first at : Address} {img' : Bytes} {map' : Entries} {k : ℕ}
    (w : Clearing (geometry_of layout) img first at img' map' k) where
  abbrev g : Geometry
  g = geometry_of layout

  -- a sector is left
  few : k < 769
  few = omega (arith, w.left, ap length (sectors-first w.chain).1, sectors_from-le g img first, (known_of layout).most)

  -- the sector at hand
  at-hand : {n : ℕ} → n ≡ number_by firsts at → Visited g img at n
  at-hand is = visited w.chain (is ∙ number-known layout at w.chain.on)

pub loop-at-init : goal.loop-at-init
loop-at-init c = clearing-start _ (known_of c.args.layout) c.requires

pub unlink-at-requires : goal.unlink-at-requires
unlink-at-requires c =
    let l = c.args.layout in
    let w = c.loop-at.invariant in
    omega (arith, inside' _ (known_of l) c.requires w (at-hand l w c.number_of-n.ensures))

pub overflow_add-sectors : goal.overflow_add-sectors
overflow_add-sectors c = omega (arith, few c.args.layout c.loop-at.invariant)

pub returns-then-at-eq0 : goal.returns-then-at-eq0
returns-then-at-eq0 c =
    let l = c.args.layout in
    let w = c.loop-at.invariant in
    clearing-finished _ (known_of l) c.requires w (at-hand l w c.number_of-n.ensures) c.unlink-at.ensures c.move_mark.ensures (omega arith)
    (omega arith) (omega arith) (omega (arith, c.file_length.ensures)) refl

pub loop-at-smaller : goal.loop-at-smaller
loop-at-smaller c = omega (arith, few c.args.layout c.loop-at.invariant)

pub loop-at-preserved : goal.loop-at-preserved
loop-at-preserved c =
    let l = c.args.layout in
    let w = c.loop-at.invariant in
    let v = at-hand l w c.number_of-n.ensures in
    clearing-moved _ (known_of l) c.requires w v c.unlink-at.ensures c.move_mark.ensures (omega arith)
    (next _ (known_of l) c.requires w v c.unlink-at.ensures (omega arith))
