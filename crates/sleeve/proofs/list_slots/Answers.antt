-- `list_slots`: every refusal comes before the text is lent.
use Prim.Native.Nat.{◌+◌, ◌*◌}
use native.Mathlib.Omega.{arith}
use mathlib.Core.Path.{refl}
use Rattle.std.proofs.lemmas.Result.{err_from_is_err_and}
use Rattle.geometry.specs.Layout.{geometry_of}
use Rattle.sleeve.proofs.CountLaws.{counted-few}
use Rattle.sleeve.proofs.OccupiedLaws.{length-lines}
use Rattle.sleeve.proofs.ReplyLaws.{listed-refused, listed-short, listed-room, listed-done}
use Rattle.sleeve.proofs.list_slots.Goals as goal

pub overflow_mul-length : goal.overflow_mul-length
overflow_mul-length c = omega (arith, counted-few _ c.args.read.now c.requires.few (rw c.in_ok-files.was at c.check_slots.ensures))

pub overflow_add-length : goal.overflow_add-length
overflow_add-length c = omega (arith, counted-few _ c.args.read.now c.requires.few (rw c.in_ok-files.was at c.check_slots.ensures))

pub overflow_cast-result : goal.overflow_cast-result
overflow_cast-result c = omega (arith, counted-few _ c.args.read.now c.requires.few (rw c.in_ok-files.was at c.check_slots.ensures))

pub returns-in_err-files : goal.returns-in_err-files
returns-in_err-files c =
    let p = err_from_is_err_and c.from_residual.result c.from_residual.ensures.1 in
    rw (p.1, p.2) (listed-refused _ _ _ _ _ (rw c.in_err-files.was at c.check_slots.ensures))

pub returns-then-text-length : goal.returns-then-text-length
returns-then-text-length c =
    let b = c.args.track18.now in
    let d = c.args.read.now in
    listed-short (geometry_of c.args.layout) b _ _ c.requires.whole (length-lines b d.sectors c.requires.whole c.requires.inside 0 (8 * d.count)) _
    (rw c.in_ok-files.was at c.check_slots.ensures) (omega arith)

pub write_text-requires : goal.write_text-requires
write_text-requires c =
    let b = c.args.track18.now in
    let d = c.args.read.now in
    let n = 43 * c.in_ok-files.files + 42 in
    let room = listed-room (geometry_of c.args.layout) b _ c.args.text.now c.requires.whole
    (length-lines b d.sectors c.requires.whole c.requires.inside 0 (8 * d.count)) _ (rw c.in_ok-files.was at c.check_slots.ensures) n refl
    (omega (arith, c.if-text-length.false)) in
    record { whole = c.requires.whole; inside = c.requires.inside; few = c.requires.few; size = omega (arith, room) }

pub returns : goal.returns
returns c =
    let b = c.args.track18.now in
    let d = c.args.read.now in
    listed-done (geometry_of c.args.layout) b _ _ c.requires.whole (length-lines b d.sectors c.requires.whole c.requires.inside 0 (8 * d.count)) _
    (rw c.in_ok-files.was at c.check_slots.ensures) _ refl (omega (arith, c.if-text-length.false)) c.write_text.ensures
