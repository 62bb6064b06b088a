-- `formatting::fresh_header` meets its contract: three runs of bytes over zeros.
use Rattle.formatting.proofs.MapSectorLaws.{header-written}
use Rattle.formatting.proofs.fresh_header.Goals as goal

pub returns : goal.returns
returns c =
    header-written c.args.name.now c.args.id1 c.args.id2 c.requires
    c.overwrite.ensures c.padded_name.ensures c.overwrite-2.ensures c.overwrite-3.ensures
