-- `bam::load_run`. The loop keeps `Loading`: with the entries that are left, the map becomes the one that the run makes. Assumes nothing.
use Rattle.bam.proofs.LoadLaws.{Loading}
use Rattle.bam.proofs.load_run.Given as goal

abbrev pub invariant-loop-i : goal.invariant-loop-i
invariant-loop-i l = Loading l.sector l.first l.last l.at l.initial.map l.map l.i
