-- `d64::d64_listing` meets its contract: the block first, then the reply behind it. Assumes nothing.
use native.Mathlib.Omega.{arith}
use Rattle.d64spec.specs.Answers.{◌>>=◌}
use Rattle.d64spec.specs.Layouts.{layout_numbered}
use Rattle.d64.specs.HostForms.{host_listing_in, listing_in, list_into}
use Rattle.d64.proofs.HostLaws.{served-misfit, served-nine}
use Rattle.d64.proofs.d64_listing.Goals as goal

pub returns-then-answer-ne-BLOCK_BYTES : goal.returns-then-answer-ne-BLOCK_BYTES
unfolding host_listing_in
returns-then-answer-ne-BLOCK_BYTES c = served-misfit _ _ _ _ (λ nine. omega arith)

pub returns : goal.returns
unfolding host_listing_in listing_in
returns c =
    let p = c.args in
    served-nine p.track18.now p.text.now p.answer.now (layout_numbered p.layout >>= (λ g. list_into g p.track18.now p.text.now)) _ _ _ _ _ (omega arith)
    c.listing_in.ensures c.give_answer.ensures
