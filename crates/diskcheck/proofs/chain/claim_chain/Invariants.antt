-- `diskcheck::chain::claim_chain` meets its contract. The loop keeps `Claims`: the rest of the definition's walk, from the link to `sector` on the
-- track `on` that `holder` holds, gives the outcome; and `Gathering`: with the bits in `mask` the masks are the table's. What falls is the number of
-- sectors that have no owner.
use Rattle.geometry.specs.Layout.{geometry_of}
use Rattle.geometry.proofs.LentTableLaws.{IsTrack}
use Rattle.owners.specs.OwnerTable.{file_owner}
use Rattle.owners.proofs.TableLaws.{free_count}
use Rattle.owners.proofs.MaskLaws.{Gathering}
use Rattle.diskcheck.proofs.ChainLaws.{Claims, chain_claim}
use Rattle.diskcheck.proofs.chain.claim_chain.Given as goal

abbrev pub invariant-loop-on : goal.invariant-loop-on
invariant-loop-on l =
    let g = geometry_of l.layout in
    let id = file_owner l.at.slot in
    record {
      walk : Claims g l.img id l.at.slot
          (chain_claim g l.img l.initial.own id l.at.slot l.initial.holder l.fn.first.track l.fn.first.sector)
          l.own l.holder l.on.number l.sector l.count;
      track : IsTrack g l.on;
      gathered : Gathering g l.own l.used l.on.number l.mask;
    }

abbrev pub decreases-loop-on : goal.decreases-loop-on
decreases-loop-on l = free_count l.own
