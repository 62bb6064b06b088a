-- `diskcheck::chain::claim_chain` meets its contract. The loop keeps `Claims`: the rest of the definition's walk, from the link to `sector` on the
-- track `on` that `holder` holds, gives the outcome; and `Gathering`: with the bits in `mask` the masks are the table's. What falls is the number of
-- sectors that have no owner.
use Prim.Native.Nat.{◌+◌, ◌*◌, ◌-◌, ◌%◌, ◌^◌, ◌≤◌, ◌<◌}
use native.Mathlib.Omega.{arith}
use mathlib.Core.Path.{refl, sym}
use lib.ListN.{length, set, take, drop}
use Rattle.d64spec.proofs.BitLaws.{shifted}
use Rattle.geometry.specs.Layout.{geometry_of}
use Rattle.geometry.proofs.TableLaws.{known_of}
use Rattle.geometry.proofs.LentTableLaws.{tracks-of-on_disk, track-on-known}
use Rattle.sectors.proofs.SectorLaws.{sector-lent}
use Rattle.owners.specs.OwnerTable.{file_owner}
use Rattle.owners.proofs.MaskLaws.{Gathering, gathering-start}
use Rattle.diskcheck.proofs.ChainLaws.{chain_claim, Named, named, Moved, claims-start, claims-off, claims-owned, claims-moved, claims-at}
use Rattle.diskcheck.proofs.ChainLaws.{mask-room, track-left, bit-gathered}
use Rattle.diskcheck.proofs.chain.claim_chain.Goals.{Else-on-sector, Else-own-n-ne0}
use Rattle.diskcheck.proofs.chain.claim_chain.Goals as goal

-- the link names a sector of the disk
here : (c : Else-on-sector) → Named (geometry_of c.args.layout) c.loop-on.on.number c.loop-on.sector (c.loop-on.on.first + c.loop-on.sector)
here c = named _ c.loop-on.invariant.track c.if-on-sector.false refl

owned : (c : Else-on-sector) → c.loop-on.on.first + c.loop-on.sector < length c.loop-on.own
owned c = omega (arith, (here c).inside, c.loop-on.invariant.walk.long)

bytes : (c : Else-on-sector) → 256 * (c.loop-on.on.first + c.loop-on.sector) + 256 ≤ length c.args.img.now
bytes c = omega (arith, (here c).inside, c.requires.size)

below24 : (c : Else-on-sector) → c.loop-on.sector < 24
below24 c = omega (arith, c.if-on-sector.false, c.loop-on.invariant.track.count, (known_of c.args.layout).valid.small c.loop-on.on.number)

-- the sector had no owner: its bit is gathered
gathered : (c : Else-own-n-ne0) → Gathering (geometry_of c.args.layout) (set c.loop-on.own (c.loop-on.on.first + c.loop-on.sector) (file_owner c.args.at.slot))
    c.loop-on.used c.loop-on.on.number (c.loop-on.mask + 1 * 2 ^ c.loop-on.sector % 4294967296)
gathered c =
    let i = c.loop-on.invariant in
    let small : c.loop-on.sector < 24 = omega (arith, c.if-on-sector.false, i.track.count, (known_of c.args.layout).valid.small c.loop-on.on.number) in
    bit-gathered _ (known_of c.args.layout) i.gathered i.track c.if-on-sector.false refl i.walk.long c.if-own-n-ne0.false (omega arith)
    (omega (arith, shifted c.loop-on.sector (omega (arith, small))))

-- and the walk is at the link in it
moved : (c : Else-own-n-ne0)
    → let n = c.loop-on.on.first + c.loop-on.sector in
    Moved (geometry_of c.args.layout) c.args.img.now (file_owner c.args.at.slot) c.args.at.slot
    (chain_claim (geometry_of c.args.layout) c.args.img.now c.args.own.now (file_owner c.args.at.slot) c.args.at.slot
    (record { track = c.args.at.track; sector = c.args.at.sector }) c.args.first.track c.args.first.sector)
    c.loop-on.own c.loop-on.on.number c.loop-on.sector n (take (256 * n + 256 - 256 * n) (drop (256 * n) c.args.img.now)) c.loop-on.count
moved c =
    let i = c.loop-on.invariant in
    claims-moved _ i.walk (named _ i.track c.if-on-sector.false refl) (sector-lent _ _ refl) c.if-own-n-ne0.false (omega arith)

pub loop-on-init : goal.loop-on-init
loop-on-init c =
    let k = track-on-known c.args.layout c.track_on-on.ensures in
    record { walk = claims-at _ (claims-start _ _ _ _ _ _ _ _ c.requires) k.0; track = k.1; gathered = gathering-start _ _ c.requires.masks refl }

pub add_mask-requires : goal.add_mask-requires
add_mask-requires c = mask-room _ (known_of c.args.layout) c.loop-on.invariant.gathered

pub returns-then-on-sector : goal.returns-then-on-sector
returns-then-on-sector c =
    let i = c.loop-on.invariant in
    record {
      claim = claims-off _ i.walk c.claim_off.ensures refl i.track refl c.if-on-sector.true;
      masks = track-left _ (known_of c.args.layout) i.gathered c.add_mask.ensures;
    }

pub bounds-own-n : goal.bounds-own-n
bounds-own-n c = owned (goal.at.bounds-own-n c).Else-on-sector

pub add_mask-requires-then-own-n-ne0 : goal.add_mask-requires-then-own-n-ne0
add_mask-requires-then-own-n-ne0 c = mask-room _ (known_of c.args.layout) c.loop-on.invariant.gathered

pub returns-then-own-n-ne0 : goal.returns-then-own-n-ne0
returns-then-own-n-ne0 c =
    let i = c.loop-on.invariant in
    record {
      claim = claims-owned _ i.walk (here (goal.at.returns-then-own-n-ne0 c).Else-on-sector) c.place_of.ensures c.if-own-n-ne0.true;
      masks = track-left _ (known_of c.args.layout) i.gathered c.add_mask-then-own-n-ne0.ensures;
    }

pub bounds-own-n-in-loop-on : goal.bounds-own-n-in-loop-on
bounds-own-n-in-loop-on c = owned (goal.at.bounds-own-n-in-loop-on c).Else-on-sector

pub overflow_shl-mask : goal.overflow_shl-mask
overflow_shl-mask c = omega (arith, below24 (goal.at.overflow_shl-mask c).Else-on-sector)

pub overflow_add-mask : goal.overflow_add-mask
overflow_add-mask c =
    let known = known_of c.args.layout in
    let at = tracks-of-on_disk _ _ (here (goal.at.overflow_add-mask c).Else-on-sector).on in
    omega (arith, (mask-room _ known (gathered (goal.at.overflow_add-mask c).Else-own-n-ne0)).fits at.0 (omega (arith, at.1, known.few)))

pub slice_bounds-part-end : goal.slice_bounds-part-end
slice_bounds-part-end c = omega (arith, bytes (goal.at.slice_bounds-part-end c).Else-on-sector)

pub add_mask-requires-then-track-on : goal.add_mask-requires-then-track-on
add_mask-requires-then-track-on c = mask-room _ (known_of c.args.layout) (gathered (goal.at.add_mask-requires-then-track-on c).Else-own-n-ne0)

pub loop-on-smaller-then-track-on : goal.loop-on-smaller-then-track-on
loop-on-smaller-then-track-on c = omega (arith, (moved (goal.at.loop-on-smaller-then-track-on c).Else-own-n-ne0).fewer)

pub loop-on-preserved-then-track-on : goal.loop-on-preserved-then-track-on
loop-on-preserved-then-track-on c =
    let s = (goal.at.loop-on-preserved-then-track-on c).Else-own-n-ne0 in
    let k = track-on-known c.args.layout c.track_on-on-then-track-on.ensures in
    record {
      walk = claims-at _ (moved s).next k.0;
      track = k.1;
      gathered = gathering-start _ _ (track-left _ (known_of c.args.layout) (gathered s) c.add_mask-then-track-on.ensures) refl;
    }

pub loop-on-smaller : goal.loop-on-smaller
loop-on-smaller c = omega (arith, (moved (goal.at.loop-on-smaller c).Else-own-n-ne0).fewer)

pub loop-on-preserved : goal.loop-on-preserved
loop-on-preserved c =
    let s = (goal.at.loop-on-preserved c).Else-own-n-ne0 in
    record { walk = claims-at _ (moved s).next (sym c.if-track-on.false); track = c.loop-on.invariant.track; gathered = gathered s }
