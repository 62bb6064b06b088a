-- `list_track18`: a refusal of the directory's, or the reply to its slots.
use Rattle.std.proofs.lemmas.Result.{err_from_is_err_and}
use Rattle.geometry.specs.Layout.{geometry_of}
use Rattle.geometry.proofs.TableLaws.{known_of}
use Rattle.sleeve.proofs.ReplyLaws.{sleeve-refused, sleeve-ready, sleeve-listed}
use Rattle.sleeve.proofs.list_track18.Goals as goal

pub returns-in_err-read : goal.returns-in_err-read
returns-in_err-read c =
    let kn = known_of c.args.layout in
    let p = err_from_is_err_and c.from_residual.result c.from_residual.ensures.1 in
    rw (p.1, p.2) (sleeve-refused _ kn _ _ _ (rw c.in_err-read.was at (c.read_directory.ensures (geometry_of c.args.layout) kn.on18)))

pub list_slots-requires : goal.list_slots-requires
list_slots-requires c =
    let kn = known_of c.args.layout in
    sleeve-ready _ kn _ c.args.text.now (rw c.in_ok-read.was at (c.read_directory.ensures (geometry_of c.args.layout) kn.on18))

pub returns : goal.returns
returns c =
    let kn = known_of c.args.layout in
    sleeve-listed _ kn _ _ (rw c.in_ok-read.was at (c.read_directory.ensures (geometry_of c.args.layout) kn.on18)) c.list_slots.ensures
