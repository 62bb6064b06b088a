-- `answers::give_answer` meets its contract: the block is filled with the call's answer, and with what it reports. Assumes nothing.
use native.Mathlib.Omega.{arith}
use Rattle.answers.proofs.AnswerLaws.{reported-or, given-filled}
use Rattle.answers.proofs.give_answer.Goals as goal

pub returns : goal.returns
returns c =
    let told = reported-or c.args.outcome c.unwrap_or-done.ensures (omega arith) (omega arith) in
    given-filled c.args.outcome c.from-answer.ensures told c.fill_block.ensures
