-- `names::padded_name` meets its contract: the first 16 bytes of the name are copied over sixteen $A0.
use Rattle.names.proofs.NameLaws.{padded-copied}
use Rattle.names.proofs.padded_name.Goals as goal

pub returns : goal.returns
returns c = padded-copied c.args.name.now c.clipped-part.ensures c.copy_from_slice.ensures.after
