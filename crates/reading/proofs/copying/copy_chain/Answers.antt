-- `reading::copying::copy_chain` meets its contract. The loop keeps that the output is the data of the sectors passed, put at the start of the
-- output as it was, and that the rest of the data is that of the chain from `at` on. A chain has at most 769 sectors: those of them that are left fall.
use Prim.Native.Nat.{ℕ, ◌≤◌, ◌<◌, ◌+◌, ◌-◌, ◌*◌}
use native.Mathlib.Omega.{arith}
use borrow.Author.Rules.{rules}
use mathlib.Core.Path.{◌≡◌, ap, ◌∙◌}
use lib.ListN.{length, take, drop}
use Rattle.d64spec.specs.Lists.{Bytes, byte}
use Rattle.d64spec.specs.Answers.{Address}
use Rattle.d64spec.specs.Geometry.{Geometry, sector_number}
use Rattle.d64spec.specs.Image.{disk}
use Rattle.geometry.specs.declared.Layout.{Layout}
use Rattle.geometry.specs.Layout.{geometry_of, number_by, firsts}
use Rattle.geometry.proofs.TableLaws.{known_of}
use Rattle.geometry.proofs.LentTableLaws.{number-known}
use Rattle.reading.proofs.ChainStepLaws.{sectors_from-le, Visited, visited, visited-lent, sectors-first, last-used}
use Rattle.reading.proofs.CopyLaws.{Copying, length-output, room-more, copying-moved, end-last, copying-finished}
use Rattle.reading.proofs.copying.copy_chain.Goals as goal

-- one turn of the loop
module _ (layout : Layout) {img out₀ : Bytes} {first at : Address} {out : Bytes} {k n : ℕ}
    (w : Copying (geometry_of layout) img out₀ first at out (254 * k) k) (is : n ≡ number_by firsts at) where
  abbrev g : Geometry
  g = geometry_of layout

  -- the sector at hand
  at-hand : Visited g img at n
  at-hand = visited w.chain (is ∙ number-known layout at w.chain.on)

  -- the part lent is that sector
  lent : take (256 * n + 256 - 256 * n) (drop (256 * n) img) ≡ disk img (sector_number g at)
  lent = visited-lent at-hand

  bounds : 256 * n + 256 ≤ 196608
  bounds = omega (arith, at-hand.inside, w.chain.size, (known_of layout).most)

  -- a sector is left
  few : k < 769
  few = omega (arith, w.visited, ap length (sectors-first w.chain).1, sectors_from-le g img first, (known_of layout).most)

-- a byte of the part lent
last : (img : Bytes) (n : ℕ) → ((i : ℕ) → byte (take (256 * n + 256 - 256 * n) (drop (256 * n) img)) i < 256)
    → byte (take (256 * n + 256 - 256 * n) (drop (256 * n) img)) 1 ≤ 255
last img n small = omega (arith, small 1)

pub overflow_mul-part : goal.overflow_mul-part
overflow_mul-part c = omega (arith, bounds c.args.layout c.loop-out.invariant c.number_of-n.ensures)

pub overflow_mul-part-in-loop-out : goal.overflow_mul-part-in-loop-out
overflow_mul-part-in-loop-out c = omega (arith, bounds c.args.layout c.loop-out.invariant c.number_of-n.ensures)

pub overflow_add-part : goal.overflow_add-part
overflow_add-part c = omega (arith, bounds c.args.layout c.loop-out.invariant c.number_of-n.ensures)

pub slice_bounds-part-end : goal.slice_bounds-part-end
slice_bounds-part-end c = omega (arith, (at-hand c.args.layout c.loop-out.invariant c.number_of-n.ensures).inside)

pub overflow_sub-sector : goal.overflow_sub-sector
overflow_sub-sector c =
    let w = c.loop-out.invariant in
    omega (arith, last-used w.chain (lent c.args.layout w c.number_of-n.ensures) (omega arith))

pub copy_data-requires : goal.copy_data-requires
copy_data-requires c =
    let w = c.loop-out.invariant in
    let small = last c.args.img.now c.number_of-n.result (λ i. omega (arith, c.type_inv.part i)) in
    record {
      inside = omega (arith, (at-hand c.args.layout w c.number_of-n.ensures).inside, small);
      room = omega (arith, end-last w (lent c.args.layout w c.number_of-n.ensures) (omega arith) small, w.room, length-output w);
    }

pub returns-then-track-eq0 : goal.returns-then-track-eq0
returns-then-track-eq0 c =
    let w = c.loop-out.invariant in
    let small = last c.args.img.now c.number_of-n.result (λ i. search rules) in
    copying-finished w (lent c.args.layout w c.number_of-n.ensures) (omega arith) small c.copy_data.ensures (omega arith)

pub copy_data-requires-in-loop-out : goal.copy_data-requires-in-loop-out
copy_data-requires-in-loop-out c =
    let w = c.loop-out.invariant in
    record {
      inside = omega (arith, (at-hand c.args.layout w c.number_of-n.ensures).inside);
      room = omega (arith, room-more w (lent c.args.layout w c.number_of-n.ensures) (omega arith), w.room, length-output w);
    }

pub loop-out-smaller : goal.loop-out-smaller
loop-out-smaller c = omega (arith, few c.args.layout c.loop-out.invariant c.number_of-n.ensures)

pub loop-out-preserved : goal.loop-out-preserved
loop-out-preserved c =
    let w = c.loop-out.invariant in
    copying-moved w (lent c.args.layout w c.number_of-n.ensures) (omega arith) c.copy_data-in-loop-out.ensures (omega arith) (omega arith)
