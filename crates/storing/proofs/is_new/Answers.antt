-- `storing::is_new` meets its contract: the search finds no slot exactly where no file has the name.
use Rattle.geometry.proofs.TableLaws.{known_of}
use Rattle.storing.proofs.DecisionLaws.{new-found}
use Rattle.storing.proofs.is_new.Goals as goal

pub returns : goal.returns
returns c =
    new-found _ (known_of c.args.layout) c.args.name.now c.find_named.result c.requires c.track18.ensures c.find_named.ensures c.is_none.ensures
