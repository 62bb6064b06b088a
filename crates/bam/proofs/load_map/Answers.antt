-- `bam::load_map`: a whole sector as it is, and any other slice copied into one. Assumes nothing.
use mathlib.Core.Path.{◌∙◌}
use Rattle.geometry.proofs.TableLaws.{known_of}
use Rattle.bam.proofs.LoadLaws.{loaded-copied}
use Rattle.bam.proofs.load_map.Goals as goal

pub returns : goal.returns
returns c = c.load_whole-2.ensures ∙ loaded-copied _ (known_of c.args.layout) _ c.clipped.ensures c.overwrite.ensures
