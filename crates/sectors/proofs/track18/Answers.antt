-- `sectors::track18` meets its contract: what `clipped` gives. Assumes nothing.
use Rattle.sectors.proofs.track18.Goals as goal

pub returns : goal.returns
returns c = c.clipped.ensures
