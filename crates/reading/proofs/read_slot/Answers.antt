-- `reading::read_slot` meets its contract: the data go to an output that has room for them, and else the answer is 16.
use native.Mathlib.Omega.{arith}
use Rattle.reading.specs.FileSlots.{first_of}
use Rattle.reading.proofs.ReplyLaws.{short-reply, whole-reply}
use Rattle.reading.proofs.read_slot.Goals as goal

pub returns-then-out-length : goal.returns-then-out-length
returns-then-out-length c =
    let a = c.args in
    short-reply _ a.img.now a.out.now (first_of a.slot.now) (omega arith)

pub returns : goal.returns
returns c =
    let a = c.args in
    whole-reply _ a.img.now a.out.now (first_of a.slot.now) (omega arith) c.copy_chain-sectors.ensures (omega arith)
