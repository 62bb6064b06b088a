-- `bam::map_of` meets its contract: the part lent is 18/0. Assumes nothing.
use mathlib.Core.Path.{ap, sym, ◌∙◌}
use Rattle.d64spec.specs.Image.{disk}
use Rattle.bam.specs.MapSector.{map_entries}
use Rattle.geometry.specs.Layout.{geometry_of}
use Rattle.geometry.proofs.TableLaws.{known_of}
use Rattle.bam.proofs.map_of.Goals as goal

pub returns : goal.returns
returns c =
    let a = c.args in
    let img = a.img.now in
    let number = (known_of a.layout).map357 in
    c.load_map.ensures ∙ ap (map_entries (geometry_of a.layout)) (c.sector.ensures.bytes ∙ ap (disk img) (sym number))
