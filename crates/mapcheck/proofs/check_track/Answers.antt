-- `mapcheck::check_track`: the marks of the track's sectors are compared with those that have no owner, then the count; a wrong entry is refused at the
-- lowest bit that differs. Assumes nothing.
use native.Mathlib.Omega.{arith}
use mathlib.Core.Path.{refl, ◌∙◌}
use borrow.Author.Tests.{eqb-true}
use Rattle.answers.specs.Faults.{fault_of, verdict_of}
use Rattle.geometry.proofs.TableLaws.{known_of}
use Rattle.mapcheck.proofs.TrackLaws.{track-right, track-wrong}
use Rattle.mapcheck.proofs.check_track.Goals as goal

pub returns-then-entry-count_free : goal.returns-then-entry-count_free
unfolding verdict_of
returns-then-entry-count_free c =
    track-right _ (known_of c.args.layout) c.args.entry c.args.used c.args.track
    {n = c.count_free.result} c.sectors_on-own.ensures (omega (arith, c.count_free.ensures)) c.sectors_of-sectors.ensures (omega (arith, c.if-sectors.true))
    (omega (arith, eqb-true))

pub returns : goal.returns
unfolding verdict_of fault_of
returns c =
    track-wrong _ (known_of c.args.layout) c.args.entry c.args.used c.args.track c.sectors_on-own.ensures refl c.sectors_of-sectors.ensures
    (c.unwrap_or-sector.ensures ∙ c.lowest_difference.ensures) (omega arith) (omega arith) (omega arith)
    (elim c.else-sectors.branch [
      | goal.else-sectors-via-then-sectors+else-entry-count_free w ↦ λ same counted. w.if-entry-count_free.false (omega (arith, counted, w.count_free.ensures))
      | goal.else-sectors-via-else-sectors w ↦ λ same counted. w.if-sectors.false same
    ])
