-- `reading::tell_slot` meets its contract: the entry's bytes as they stand, and the length that its count and its last byte give.
use native.Mathlib.Omega.{arith}
use Rattle.reading.proofs.ReplyLaws.{told_of_lem}
use Rattle.reading.proofs.tell_slot.Goals as goal

pub returns : goal.returns
returns c =
    told_of_lem c.args.slot.now _ c.args.img.now c.copy_from_slice.ensures.after c.sector_count-count.ensures.count (omega arith)
