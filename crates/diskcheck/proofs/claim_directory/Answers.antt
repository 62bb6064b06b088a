-- `diskcheck::claim_directory` meets its contract. The loop keeps: the sectors passed are claimed in the table that it began with.
-- The code does not look at the layout, and 18/0 has the same number in all.
use native.Mathlib.Omega.{arith}
use mathlib.Core.Path.{refl, ap, ◌∙◌}
use lib.ListN.{length, length-set}
use Rattle.geometry.proofs.TableLaws.{known_of}
use Rattle.directory.proofs.SearchLaws.{sector-lt}
use Rattle.diskcheck.proofs.MaskLaws.{length-claimed, claimed-more, bare-long, claimed-all}
use Rattle.diskcheck.proofs.claim_directory.Goals as goal

pub bounds-own-357 : goal.bounds-own-357
bounds-own-357 c = omega (arith, bare-long (known_of c.args.layout) c.requires.0)

pub bounds-own-s : goal.bounds-own-s
bounds-own-s c =
    let a = c.args in
    let long = ap length c.loop-s.invariant ∙ length-claimed a.sectors.now c.loop-s.s-index _ ∙ length-set a.own.now 357 _ in
    omega (arith, long, bare-long (known_of a.layout) c.requires.0, sector-lt a.sectors.now c.requires.1 c.loop-s.s-index)

pub loop-s-preserved : goal.loop-s-preserved
loop-s-preserved c = claimed-more _ c.args.sectors.now c.loop-s.s-index c.loop-s.invariant (omega arith) refl (omega arith) refl

pub returns : goal.returns
returns c = claimed-all _ (known_of c.args.layout) c.args.sectors.now c.loop-s.s-index c.requires.0 refl c.loop-s.invariant (omega arith)
