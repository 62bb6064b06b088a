-- `sum_counts`. The loop keeps `Adding`: the first i counts are added.
use Rattle.sleeve.proofs.FreeLaws.{Adding}
use Rattle.sleeve.proofs.sum_counts.Given as goal

abbrev pub invariant-loop-i : goal.invariant-loop-i
invariant-loop-i l = Adding l.map l.at l.sum l.i
