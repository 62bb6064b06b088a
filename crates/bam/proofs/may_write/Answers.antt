-- `bam::may_write` meets its contract: the part lent is 18/0. Assumes nothing.
use mathlib.Core.Path.{ap, sym, ◌∙◌}
use Rattle.d64spec.specs.Image.{disk}
use Rattle.d64spec.specs.Reply.{writable}
use Rattle.bam.specs.MapSector.{allows_writing}
use Rattle.geometry.proofs.TableLaws.{known_of}
use Rattle.bam.proofs.may_write.Goals as goal

pub returns : goal.returns
unfolding writable allows_writing
returns c =
    let a = c.args in
    let img = a.img.now in
    let number = (known_of a.layout).map357 in
    c.allows_writing.ensures ∙ ap allows_writing (c.sector.ensures.bytes ∙ ap (disk img) (sym number))
