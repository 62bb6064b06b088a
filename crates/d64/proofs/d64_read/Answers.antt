-- `d64::d64_read` meets its contract: the block first, then the reply behind it. Assumes nothing.
use native.Mathlib.Omega.{arith}
use Rattle.d64spec.specs.Call.{read, output_buffer}
use Rattle.d64.proofs.HostLaws.{call-misfit, call-nine}
use Rattle.d64.proofs.d64_read.Goals as goal

pub returns-then-answer-ne-BLOCK_BYTES : goal.returns-then-answer-ne-BLOCK_BYTES
unfolding output_buffer
returns-then-answer-ne-BLOCK_BYTES c = let p = c.args in call-misfit _ _ _ (read p.name.now p.out.now) (λ nine. omega arith)

pub returns : goal.returns
returns c =
    let p = c.args in
    call-nine p.layout p.image.now p.answer.now (read p.name.now p.out.now) _ _ _ _ _ (omega arith) c.read_in.ensures c.give_answer.ensures
