-- `answers::block_bytes` meets its contract: each byte of a number, low byte first. Assumes nothing.
use Rattle.answers.specs.Faults.{meant}
use Rattle.answers.proofs.AnswerLaws.{block-bytes-of}
use Rattle.answers.proofs.block_bytes.Goals as goal

pub returns : goal.returns
returns c = rw (c.to_le_bytes.ensures, c.to_le_bytes-2.ensures) (block-bytes-of (meant c.args.answer) c.args.done.length c.args.done.sectors)
