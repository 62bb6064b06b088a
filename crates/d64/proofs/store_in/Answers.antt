-- `d64::store_in` meets its contract: the layout, then the call in it. Assumes nothing.
use Rattle.d64spec.specs.Call.{store, output_buffer}
use Rattle.d64.proofs.HostLaws.{call-unknown, call-known}
use Rattle.d64.proofs.store_in.Goals as goal

pub returns-in_err-layout : goal.returns-in_err-layout
unfolding output_buffer
returns-in_err-layout c =
    let p = c.args in
    call-unknown p.layout p.image.now (store p.name.now p.kind p.content.now) c.layout_of.ensures _ c.in_err-layout.was c.from_residual.ensures.1

pub returns : goal.returns
returns c =
    let p = c.args in
    let replied = c.store_file.ensures in
    call-known p.layout p.image.now (store p.name.now p.kind p.content.now) c.layout_of.ensures c.in_ok-layout.was (assumption replied)
