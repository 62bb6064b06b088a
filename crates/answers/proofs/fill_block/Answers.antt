-- `answers::fill_block` meets its contract: nine bytes are filled with the block of the answer. Assumes nothing.
use native.Mathlib.Omega.{arith}
use Rattle.answers.specs.Faults.{meant}
use Rattle.answers.proofs.AnswerLaws.{filled-nine}
use Rattle.answers.proofs.fill_block.Goals as goal

pub returns : goal.returns
returns c = filled-nine (meant c.args.answer) c.args.done c.args.block.now (omega (arith, c.if-block-ne9.false)) c.block_bytes.ensures c.copy_from_slice.ensures.after
