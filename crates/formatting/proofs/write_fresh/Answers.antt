-- `formatting::write_fresh` meets its contract: zeros, then 18/1, then 18/0.
use native.Mathlib.Omega.{arith}
use Rattle.geometry.proofs.TableLaws.{known_of}
use Rattle.formatting.proofs.FreshLaws.{filled, fresh-image, map-number, directory-number}
use Rattle.formatting.proofs.write_fresh.Goals as goal

pub returns : goal.returns
returns c =
    let k = known_of c.args.layout in
    fresh-image _ k.valid c.args.name.now c.args.id1 c.args.id2 (filled (c.fill.ensures.after (λ y e. e)) (omega arith))
    (directory-number _ k) c.empty_directory_sector-first.ensures c.write_sector.ensures
    (map-number _ k) c.fresh_map_sector-m.ensures c.fresh_map_sector-m.type_inv.1.0.1 c.write_sector-2.ensures
