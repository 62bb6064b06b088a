-- `reading::read_found` meets its contract. In order: the slot of the name; the file in it; its bytes.
use native.Mathlib.Omega.{arith}
use mathlib.Core.Path.{refl}
use Rattle.geometry.proofs.TableLaws.{known_of}
use Rattle.answers.specs.declared.Fault.TheVariants.{NotFound}
use Rattle.answers.specs.Faults.{fault_of}
use Rattle.reading.specs.FileSlots.{first_of}
use Rattle.reading.proofs.ReplyLaws.{read-refused, read-replied}
use Rattle.reading.proofs.FoundLaws.{none_named, some-named}
use Rattle.reading.proofs.read_found.Goals as goal

pub returns-in_default : goal.returns-in_default
unfolding fault_of
returns-in_default c =
    let a = c.args in
    read-refused _ a.img.now a.name.now a.out.now NotFound refl
    (none_named _ (known_of a.layout) c.requires.0 c.track18-track18.ensures a.name.now c.requires.1 c.find_named.ensures a.out.now c.in_default.is)

pub read_slot-requires : goal.read_slot-requires
read_slot-requires c =
    let a = c.args in
    let found = some-named _ (known_of a.layout) c.requires.0 c.track18-track18.ensures a.name.now c.requires.1 c.find_named.ensures a.out.now
    (λ n. omega (arith, c.type_inv.img n)) c.in-Some.is c.slot_at-slot.ensures in
    found.0 _ refl

pub returns : goal.returns
returns c =
    let a = c.args in
    let found = some-named _ (known_of a.layout) c.requires.0 c.track18-track18.ensures a.name.now c.requires.1 c.find_named.ensures a.out.now
    (λ n. omega (arith, c.type_inv.img n)) c.in-Some.is c.slot_at-slot.ensures in
    read-replied _ a.img.now a.name.now a.out.now (first_of c.slot_at-slot.result.now) found.1 c.read_slot.ensures
