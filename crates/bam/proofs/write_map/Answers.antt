-- `bam::write_map` meets its contract: what comes back of the loan of 18/0 is the map stored in it, and else nothing is lent. Assumes nothing.
use native.Mathlib.Omega.{arith}
use Rattle.geometry.proofs.TableLaws.{known_of}
use Rattle.bam.proofs.ImageMapLaws.{map-left, map-written}
use Rattle.bam.proofs.write_map.Goals as goal

pub returns-then-img-lt91648 : goal.returns-then-img-lt91648
returns-then-img-lt91648 c = let a = c.args in map-left _ (known_of a.layout) a.map.now a.img.now (omega arith)

pub returns : goal.returns
returns c =
    let a = c.args in
    let lent = c.type_inv.img in
    map-written _ (known_of a.layout) a.map.now a.img.now (omega arith) c.store_map.ensures (omega arith)
