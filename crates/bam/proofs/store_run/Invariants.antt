-- `bam::store_run`. The loop keeps `Storing`: with the entries that are left, the sector becomes the one that the run makes. Assumes nothing.
use Rattle.bam.proofs.SaveLaws.{Storing}
use Rattle.bam.proofs.store_run.Given as goal

abbrev pub invariant-loop-i : goal.invariant-loop-i
invariant-loop-i l = Storing l.map l.first l.last l.at l.initial.sector l.sector l.i
