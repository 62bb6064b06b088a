-- `write_text`: the first line, the slots' lines and the last line fill the text.
use Prim.Native.Nat.{◌*◌}
use Rattle.geometry.specs.Layout.{geometry_of}
use Rattle.sleeve.proofs.OccupiedLaws.{length-lines}
use Rattle.sleeve.proofs.TextLaws.{text-written}
use Rattle.sleeve.proofs.write_text.Goals as goal

pub returns : goal.returns
returns c =
    let b = c.args.track18.now in
    let d = c.args.read.now in
    text-written (geometry_of c.args.layout) b _ c.requires.whole (length-lines b d.sectors c.requires.whole c.requires.inside 0 (8 * d.count))
    c.args.text.now c.requires.size c.write_head.ensures c.write_slots.ensures c.write_free.ensures
