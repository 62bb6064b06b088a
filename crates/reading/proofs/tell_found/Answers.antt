-- `reading::tell_found` meets its contract. In order: the slot at the position; the file in it; what its entry says.
use native.Mathlib.Omega.{arith}
use mathlib.Core.Path.{refl}
use Rattle.geometry.proofs.TableLaws.{known_of}
use Rattle.answers.specs.declared.Fault.TheVariants.{NotFound}
use Rattle.answers.specs.Faults.{fault_of}
use Rattle.reading.proofs.ReplyLaws.{tell-refused, tell-done}
use Rattle.reading.proofs.FoundLaws.{none-placed, some-placed}
use Rattle.reading.proofs.tell_found.Goals as goal

pub returns-in_default : goal.returns-in_default
unfolding fault_of
returns-in_default c =
    let a = c.args in
    tell-refused _ a.img.now a.position NotFound refl
    (none-placed _ (known_of a.layout) c.requires c.track18-track18.ensures a.position c.find_placed.ensures c.in_default.is)

pub tell_slot-requires : goal.tell_slot-requires
tell_slot-requires c =
    let a = c.args in
    let found = some-placed _ (known_of a.layout) c.requires c.track18-track18.ensures a.position c.find_placed.ensures
    (λ n. omega (arith, c.type_inv.img n)) c.in-Some.is c.slot_at-slot.ensures in
    found.0 _ refl

pub returns : goal.returns
returns c =
    let a = c.args in
    let found = some-placed _ (known_of a.layout) c.requires c.track18-track18.ensures a.position c.find_placed.ensures
    (λ n. omega (arith, c.type_inv.img n)) c.in-Some.is c.slot_at-slot.ensures in
    tell-done _ a.img.now a.position c.tell_slot.result found.1 c.tell_slot.ensures
