-- `d64::tell_in` meets its contract: the layout, then tell in it, then the entry. Assumes nothing.
use native.Mathlib.Omega.{arith}
use borrow.Author.Rules.{rules}
use lib.ListN.{length, length-take}
use mathlib.Core.Path.{◌≡◌}
use Rattle.d64.specs.HostForms.{tell_in, tell_into}
use Rattle.d64.proofs.HostLaws.{unknown-replied, known-replied}
use Rattle.d64.proofs.TellLaws.{tell-refused, tell-short, tell-filled}
use Rattle.d64.proofs.tell_in.Goals as goal

pub returns-in_err-layout : goal.returns-in_err-layout
unfolding tell_in
returns-in_err-layout c =
    let p = c.args in
    unknown-replied p.layout c.layout_of.ensures p.image.now p.entry.now (λ g. tell_into g p.image.now p.position p.entry.now)
    _ c.in_err-layout.was c.from_residual.ensures.1

pub returns-in_err-information : goal.returns-in_err-information
unfolding tell_in
returns-in_err-information c =
    let p = c.args in
    known-replied p.layout c.layout_of.ensures p.image.now p.entry.now (λ g. tell_into g p.image.now p.position p.entry.now) c.in_ok-layout.was
    (tell-refused _ p.image.now p.entry.now p.position _ _ (rw c.in_err-information.was at c.tell_file.ensures) c.from_residual-in_err-information.ensures.1)

pub returns-then-entry-lt25 : goal.returns-then-entry-lt25
unfolding tell_in
returns-then-entry-lt25 c =
    let p = c.args in
    known-replied p.layout c.layout_of.ensures p.image.now p.entry.now (λ g. tell_into g p.image.now p.position p.entry.now) c.in_ok-layout.was
    (tell-short _ p.image.now p.entry.now p.position c.in_ok-information.information (rw c.in_ok-information.was at c.tell_file.ensures) (omega arith))

pub copy_from_slice-requires : goal.copy_from_slice-requires
copy_from_slice-requires c =
    let whole : length c.entry_bytes-filled.result ≡ 25 = search rules in
    omega (arith, length-take 25 c.args.entry.now)

pub returns : goal.returns
unfolding tell_in
returns c =
    let p = c.args in
    known-replied p.layout c.layout_of.ensures p.image.now p.entry.now (λ g. tell_into g p.image.now p.position p.entry.now) c.in_ok-layout.was
    (tell-filled _ p.image.now p.entry.now p.position c.in_ok-information.information (rw c.in_ok-information.was at c.tell_file.ensures) (omega arith)
    c.entry_bytes-filled.ensures c.copy_from_slice.ensures.after (search rules) c.default.ensures)
