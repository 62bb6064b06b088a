-- `storing::writing::write_chain` meets its contract: the loop's invariant says what is written from place i on, whatever image the last
-- sector was written on (proofs/ChainWriteLaws). Assumes nothing.
use Prim.Native.Nat.{◌-◌}
use native.Mathlib.Omega.{arith}
use mathlib.Core.Path.{refl}
use Rattle.storing.proofs.ChainWriteLaws.{writing-last, chain-written, advancing-more}
use Rattle.storing.proofs.writing.write_chain.Goals as goal

pub loop-i-preserved : goal.loop-i-preserved
loop-i-preserved c =
    let l = c.loop-i in
    advancing-more _ l.invariant (l.i - 1) (omega arith) (omega arith) c.write_sector-in-loop-i.ensures (omega arith) refl

pub returns : goal.returns
returns c =
    let w = c.write_sector.ensures in
    let l = c.loop-i in
    chain-written _ (l.invariant.writing _ _ (writing-last _ (omega (arith, c.requires.some)) w (omega arith))) (omega arith)
