-- `storing::store_new` meets its contract. In order: the map; room for the entry; the rest.
use Rattle.geometry.proofs.TableLaws.{known_of}
use Rattle.storing.proofs.DecisionLaws.{full-reply, placed-store}
use Rattle.storing.proofs.store_new.Goals as goal

pub store_placed-requires : goal.store_placed-requires
store_placed-requires c = placed-store _ (known_of c.args.layout) c.requires c.map_of-map.ensures c.in-Some.ensures

pub returns-in_default : goal.returns-in_default
returns-in_default c = full-reply _ (known_of c.args.layout) c.requires c.in_default.ensures
