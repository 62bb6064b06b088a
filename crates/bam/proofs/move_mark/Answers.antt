-- `bam::move_mark`: one entry is changed where the track has one, and else nothing. Assumes nothing.
use native.Mathlib.Omega.{arith}
use mathlib.Core.Logic.{⊎_elim}
use Rattle.bam.specs.Bam.{entry_of, with_entry}
use Rattle.bam.proofs.TrackLaws.{moved-mark-entry, moved-mark-before, moved-mark-past}
use Rattle.bam.proofs.move_mark.Goals as goal

pub returns-then-at-lt1 : goal.returns-then-at-lt1
returns-then-at-lt1 c = ⊎_elim (λ h. moved-mark-before _ _ _ (omega arith)) (λ h. moved-mark-past _ _ _ (omega arith)) c.then-at-lt1.either

pub returns : goal.returns
unfolding entry_of with_entry
returns c = moved-mark-entry _ _ _ (record { low = omega arith; high = omega arith }) c.moved_entry.ensures
