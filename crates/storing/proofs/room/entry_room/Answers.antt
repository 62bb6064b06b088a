-- `storing::room::entry_room` meets its contract. In order: an empty slot; no free sector of track 18; the lowest one.
use mathlib.Core.Path.{◌∙◌}
use Rattle.geometry.proofs.TableLaws.{known_of}
use Rattle.storing.proofs.RoomLaws.{room-slot, room-none, room-new}
use Rattle.storing.proofs.room.entry_room.Goals as goal

pub returns-in-Some : goal.returns-in-Some
returns-in-Some c =
    let a = c.args in
    room-slot _ (known_of a.layout) a.track18.now a.sectors.now a.end a.map.now c.in-Some.ensures

pub returns-in_err-place : goal.returns-in_err-place
returns-in_err-place c =
    let a = c.args in
    c.from_residual.ensures ∙ room-none _ (known_of a.layout) a.track18.now a.sectors.now a.end a.map.now c.in_default.ensures c.in_err-place.ensures

pub returns : goal.returns
returns c =
    let a = c.args in
    room-new _ (known_of a.layout) a.track18.now a.sectors.now a.end a.map.now c.in_default.ensures c.in_ok-place.ensures
