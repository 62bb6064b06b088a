-- `d64::d64_format` meets its contract: the block first, then the reply behind it. Assumes nothing.
use native.Mathlib.Omega.{arith}
use Rattle.d64spec.specs.Call.{format, output_buffer}
use Rattle.d64.proofs.HostLaws.{call-misfit, call-nine}
use Rattle.d64.proofs.d64_format.Goals as goal

pub returns-then-answer-ne-BLOCK_BYTES : goal.returns-then-answer-ne-BLOCK_BYTES
unfolding output_buffer
returns-then-answer-ne-BLOCK_BYTES c = let p = c.args in call-misfit _ _ _ (format p.name.now p.id1 p.id2) (λ nine. omega arith)

pub returns : goal.returns
returns c =
    let p = c.args in
    call-nine p.layout p.image.now p.answer.now (format p.name.now p.id1 p.id2) _ _ _ _ _ (omega arith) c.format_in.ensures c.give_answer.ensures
