-- `storing::room::sectors_needed` meets its contract: one sector for no bytes, else 254 bytes in each.
use Rattle.storing.proofs.RoomLaws.{needed}
use Rattle.storing.proofs.room.sectors_needed.Goals as goal

pub returns : goal.returns
returns c = needed c.requires c.div_ceil.ensures c.max.ensures
