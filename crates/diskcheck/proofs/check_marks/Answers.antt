-- `diskcheck::check_marks` meets its contract: the part lent is 18/0.
use native.Mathlib.Omega.{arith}
use mathlib.Core.Path.{refl}
use Rattle.geometry.proofs.TableLaws.{known_of}
use Rattle.diskcheck.proofs.ImageLaws.{map-checked}
use Rattle.diskcheck.proofs.check_marks.Goals as goal

pub slice_bounds-check_map-end : goal.slice_bounds-check_map-end
slice_bounds-check_map-end c = omega (arith, (known_of c.args.layout).past18, c.requires)

pub returns : goal.returns
returns c =
    map-checked _ (known_of c.args.layout) c.args.img.now c.args.used.now c.check_map.ensures refl
