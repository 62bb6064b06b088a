-- `d64::d64_store` meets its contract: the block first, then the reply behind it. Assumes nothing.
use native.Mathlib.Omega.{arith}
use Rattle.d64spec.specs.Call.{store, output_buffer}
use Rattle.d64.proofs.HostLaws.{call-misfit, call-nine}
use Rattle.d64.proofs.d64_store.Goals as goal

pub returns-then-answer-ne-BLOCK_BYTES : goal.returns-then-answer-ne-BLOCK_BYTES
unfolding output_buffer
returns-then-answer-ne-BLOCK_BYTES c = let p = c.args in call-misfit _ _ _ (store p.name.now p.kind p.content.now) (λ nine. omega arith)

pub returns : goal.returns
returns c =
    let p = c.args in
    call-nine p.layout p.image.now p.answer.now (store p.name.now p.kind p.content.now) _ _ _ _ _ (omega arith) c.store_in.ensures c.give_answer.ensures
