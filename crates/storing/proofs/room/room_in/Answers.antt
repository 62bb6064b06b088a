-- `storing::room::room_in` meets its contract: the room found on track 18 is where the definitions put the entry.
use Rattle.geometry.proofs.TableLaws.{known_of}
use Rattle.storing.proofs.RoomLaws.{room-is}
use Rattle.storing.proofs.room.room_in.Goals as goal

pub returns : goal.returns
returns c = room-is _ (known_of c.args.layout) c.requires c.track18.ensures c.entry_room.ensures
