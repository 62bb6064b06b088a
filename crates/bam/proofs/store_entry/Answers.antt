-- `bam::store_entry`: what comes back of the loan of four bytes is the sector with the entry in their place. Assumes nothing.
use Rattle.parts.proofs.OverwriteLaws.{copied_whole-back}
use Rattle.bam.proofs.ShapeLaws.{entry-shaped}
use Rattle.bam.proofs.store_entry.Goals as goal

pub returns : goal.returns
returns c = copied_whole-back c.args.sector.now c.args.at 4 c.args.entry (entry-shaped c.args.entry _ c.well_formed.0).four c.copy_from_slice.ensures.after
