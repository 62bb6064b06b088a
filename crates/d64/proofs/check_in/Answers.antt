-- `d64::check_in` meets its contract: the layout, then the check in it, with a report of 0 and 0. Assumes nothing.
use Rattle.d64spec.specs.Call.{check, output_buffer}
use Rattle.d64.proofs.HostLaws.{call-unknown, call-known, check-refused, check-done}
use Rattle.d64.proofs.check_in.Goals as goal

pub returns-in_err-layout : goal.returns-in_err-layout
unfolding output_buffer
returns-in_err-layout c =
    let p = c.args in
    call-unknown p.layout p.image.now check c.layout_of.ensures _ c.in_err-layout.was c.from_residual.ensures.1

pub returns-in_err-check_image : goal.returns-in_err-check_image
returns-in_err-check_image c =
    let p = c.args in
    call-known p.layout p.image.now check c.layout_of.ensures c.in_ok-layout.was
    (check-refused _ p.image.now _ _ (rw c.in_err-check_image.was at c.check_image.ensures) c.from_residual-in_err-check_image.ensures.1)

pub returns : goal.returns
returns c =
    let p = c.args in
    call-known p.layout p.image.now check c.layout_of.ensures c.in_ok-layout.was
    (check-done _ p.image.now (rw c.in_ok-check_image.was at c.check_image.ensures) c.default.ensures)
