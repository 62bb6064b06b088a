-- `d64::listing_in` meets its contract: the layout, then the listing in it. Assumes nothing.
use Rattle.d64.specs.HostForms.{list_into, listing_in}
use Rattle.d64.proofs.HostLaws.{unknown-replied, known-replied, listing-replied}
use Rattle.d64.proofs.listing_in.Goals as goal

pub returns-in_err-layout : goal.returns-in_err-layout
unfolding listing_in
returns-in_err-layout c =
    let p = c.args in
    unknown-replied p.layout c.layout_of.ensures p.track18.now p.text.now (λ g. list_into g p.track18.now p.text.now)
    _ c.in_err-layout.was c.from_residual.ensures.1

pub returns : goal.returns
unfolding listing_in
returns c =
    let p = c.args in
    known-replied p.layout c.layout_of.ensures p.track18.now p.text.now (λ g. list_into g p.track18.now p.text.now) c.in_ok-layout.was
    (listing-replied _ p.track18.now p.text.now _ _ c.list_track18.ensures)
