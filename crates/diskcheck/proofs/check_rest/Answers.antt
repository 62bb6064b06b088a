-- `diskcheck::check_rest` meets its contract: a fault of the slots is handed back, else the map's.
use Rattle.std.proofs.lemmas.Result.{err_from_is_err_and}
use Rattle.geometry.proofs.TableLaws.{known_of}
use Rattle.diskcheck.proofs.ImageLaws.{slots-refused, slots-fine}
use Rattle.diskcheck.proofs.check_rest.Goals as goal

pub returns-in_err-check_slots : goal.returns-in_err-check_slots
returns-in_err-check_slots c =
    let p = err_from_is_err_and c.from_residual.result c.from_residual.ensures.1 in
    rw (p.1, p.2) (slots-refused _ (known_of c.args.layout) _ _ _ _ _ _ c.in_err-check_slots.ensures.step)

pub returns : goal.returns
returns c =
    let e = c.in_ok-check_slots.ensures in
    slots-fine _ (known_of c.args.layout) _ _ _ _ _ _ _ e.step e.masks c.check_marks.ensures
