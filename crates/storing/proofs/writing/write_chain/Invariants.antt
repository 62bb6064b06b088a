-- `storing::writing::write_chain` meets its contract: the loop's invariant says what is written from place i on, whatever image the last
-- sector was written on (proofs/ChainWriteLaws). Assumes nothing.
use Rattle.geometry.specs.Layout.{geometry_of}
use Rattle.storing.proofs.ChainWriteLaws.{Advancing}
use Rattle.storing.proofs.writing.write_chain.Given as goal

abbrev pub invariant-loop-i : goal.invariant-loop-i
invariant-loop-i l = Advancing (geometry_of l.layout) l.places l.content l.initial.i l.initial.img l.initial.map l.i l.img l.map
