-- `reading::tell_file` meets its contract. In order: the check; the telling of a checked image.
use mathlib.Core.Path.{ap, ◌∙◌}
use Rattle.std.specs.Prelude.{Err}
use Rattle.std.proofs.lemmas.Result.{err_from_is_err_and}
use Rattle.geometry.proofs.TableLaws.{known_of}
use Rattle.reading.proofs.ReplyLaws.{tell-fault, tell-refused}
use Rattle.reading.proofs.FoundLaws.{checked-files}
use Rattle.reading.proofs.tell_file.Goals as goal

pub returns-in_err-checked : goal.returns-in_err-checked
returns-in_err-checked c =
    let a = c.args in
    let p = err_from_is_err_and c.from_residual.result c.from_residual.ensures.1 in
    tell-refused _ a.img.now a.position _ (p.1 ∙ ap Err p.2) (tell-fault _ a.img.now a.position c.in_err-checked.ensures)

pub tell_found-requires : goal.tell_found-requires
tell_found-requires c = checked-files _ (known_of c.args.layout) c.in_ok-checked.ensures
