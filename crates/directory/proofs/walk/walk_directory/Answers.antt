-- `directory::walk::walk_directory` meets its contract. The loop keeps `Walks`: the rest of the definition's walk, from the link to 18/next
-- that 18/holder holds, gives the outcome; and the used sectors of track 18 are the table's. What falls is the number of sectors of 18/1 to 18/18
-- that have no owner.
use Prim.Native.Nat.{◌+◌, ◌*◌, ◌%◌, ◌^◌}
use native.Mathlib.Omega.{arith}
use mathlib.Core.Path.{◌≡◌}
use lib.ListN.{set}
use Rattle.d64spec.proofs.BitLaws.{shifted}
use Rattle.links.specs.Links.{link_of}
use Rattle.owners.specs.Masks.{owned_mask}
use Rattle.directory.specs.Walks.{layout18, directory_walk}
use Rattle.directory.proofs.Layout18Laws.{sectors-of-18}
use Rattle.directory.proofs.WalkLaws.{Walks, walks-start, walks-moved, walks-again, used-moved, used-room}
use Rattle.directory.proofs.WalkLaws.{walked-ends, walked-bad, walked-owned}
use Rattle.directory.proofs.walk.walk_directory.Goals as goal
use Rattle.directory.proofs.walk.walk_directory.Goals.{After-directory_link}

-- the used sectors with 18/next, which is now the directory's
used : (c : After-directory_link)
    → let l = c.loop-own in
    (l.used + 1 * 2 ^ l.next % 4294967296) ≡ owned_mask (set l.own l.next 2) 0 19
used c =
    let l = c.loop-own in
    used-moved l.invariant.0 c.if-own-n-ne0.false l.invariant.1 (omega (arith, shifted l.next (omega (arith, l.invariant.0.within.2))))

-- the link in 18/next
met : (c : After-directory_link)
    → let l = c.loop-own in
    let a = c.args in
    Walks a.track18.now (directory_walk a.track18.now a.own.now) (set l.own l.next 2) (set l.sectors l.count l.next) (l.count + 1)
    l.next (link_of c.directory_link.result)
met c = rw (c.directory_link.ensures layout18 sectors-of-18)
    (walks-moved c.loop-own.invariant.0 c.if-own-n-ne0.false).walks

pub loop-own-init : goal.loop-own-init
loop-own-init c = (walks-start _ _ (omega arith), c.requires.1)

pub returns-then-own-n-ne0 : goal.returns-then-own-n-ne0
returns-then-own-n-ne0 c =
    let i = c.loop-own.invariant in
    walked-owned c.place_of.ensures i.0 c.if-own-n-ne0.true

pub bounds-sectors-count : goal.bounds-sectors-count
bounds-sectors-count c = let m = walks-moved c.loop-own.invariant.0 c.if-own-n-ne0.false in omega (arith, m.room)

pub overflow_add-used : goal.overflow_add-used
overflow_add-used c =
    let l = c.loop-own in
    omega (arith, used-room l.invariant.0 c.if-own-n-ne0.false l.invariant.1, shifted l.next (omega (arith, l.invariant.0.within.2)))

pub returns-in-Ends : goal.returns-in-Ends
returns-in-Ends c =
    let l = (goal.at.returns-in-Ends c).After-directory_link in
    walked-ends (used l) (rw c.in-Ends.is at (met l))

pub returns-in-Bad : goal.returns-in-Bad
returns-in-Bad c =
    let l = (goal.at.returns-in-Bad c).After-directory_link in
    walked-bad c.place_of-in-Bad.ensures (rw c.in-Bad.is at (met l))

pub loop-own-smaller : goal.loop-own-smaller
loop-own-smaller c =
    let m = walks-moved c.loop-own.invariant.0 c.if-own-n-ne0.false in
    omega (arith, m.fewer)

pub loop-own-preserved : goal.loop-own-preserved
loop-own-preserved c =
    let l = (goal.at.loop-own-preserved c).After-directory_link in
    (walks-again (rw c.in-To.is at (met l)), used l)
