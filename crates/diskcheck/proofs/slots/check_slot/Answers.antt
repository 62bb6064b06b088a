-- `diskcheck::slots::check_slot` meets its contract: an empty slot passes; else its entry decides first, then its chain and its count.
use native.Mathlib.Omega.{arith}
use Rattle.std.proofs.lemmas.Result.{err_from_is_err_and}
use Rattle.geometry.specs.Layout.{geometry_of}
use Rattle.geometry.proofs.TableLaws.{known_of}
use Rattle.diskcheck.specs.SlotChecks.{LentSlot}
use Rattle.diskcheck.proofs.TrackLaws.{slot_lent}
use Rattle.diskcheck.proofs.SlotLaws.{slot-empty, entry-refused, entry-fine}
use Rattle.diskcheck.proofs.slots.check_slot.Goals.{After-slot_at-slot}
use Rattle.diskcheck.proofs.slots.check_slot.Goals as goal

-- track 18 is lent as it is in the image
lent : (c : After-slot_at-slot) → LentSlot (geometry_of c.args.layout) c.args.img.now c.args.directory.now.sectors c.args.k c.slot_at-slot.result.now
lent c =
    slot_lent _ (known_of c.args.layout) {img = c.args.img.now} c.requires.kept.size c.requires.inside (rw c.track18.ensures at c.slot_at-slot.ensures)

pub bounds-slot-0 : goal.bounds-slot-0
bounds-slot-0 c = omega (arith, (lent (goal.at.bounds-slot-0 c).After-slot_at-slot).full)

pub returns-then-slot-eq0 : goal.returns-then-slot-eq0
returns-then-slot-eq0 c = record {
  step = slot-empty _ _ _ _ _ _ c.requires (lent (goal.at.returns-then-slot-eq0 c).After-slot_at-slot).is (omega arith);
  masks = c.requires.kept.masks;
}

pub returns-in_err-check_entry : goal.returns-in_err-check_entry
returns-in_err-check_entry c =
    let p = err_from_is_err_and c.from_residual.result c.from_residual.ensures.1 in
    let is = (lent (goal.at.returns-in_err-check_entry c).After-slot_at-slot).is in
    record {
      step = rw (p.1, p.2)
          (entry-refused _ _ _ _ _ _ c.requires is (λ empty. c.if-slot-eq0.false (omega arith)) _ _ c.in_err-check_entry.ensures);
      masks = c.requires.kept.masks;
    }

pub check_file-requires : goal.check_file-requires
check_file-requires c =
    record { kept = c.requires.kept; full = (lent (goal.at.check_file-requires c).After-slot_at-slot).full; slot = c.requires.within }

pub returns : goal.returns
returns c =
    let f = c.check_file.ensures in
    let is = (lent (goal.at.returns c).After-slot_at-slot).is in
    record {
      step = entry-fine _ _ _ _ _ _ c.requires is (λ empty. c.if-slot-eq0.false (omega arith)) _ _ c.in_ok-check_entry.ensures f.step;
      masks = f.masks;
    }
