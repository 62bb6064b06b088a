-- `scratching::scratch_named` meets its contract. In order: the slot of the name; the file that it starts.
use mathlib.Core.Path.{refl}
use Rattle.answers.specs.declared.Fault.TheVariants.{NotFound}
use Rattle.answers.specs.Faults.{fault_of}
use Rattle.scratching.proofs.ReplyLaws.{scratch-refused, scratch-done}
use Rattle.scratching.proofs.FoundLaws.{none_named, file-there, some-named}
use Rattle.geometry.proofs.TableLaws.{known_of}
use Rattle.scratching.proofs.scratch_named.Goals as goal

pub returns-in_default : goal.returns-in_default
unfolding fault_of
returns-in_default c =
    scratch-refused _ c.args.img.now c.args.name.now NotFound refl
    (none_named _ (known_of c.args.layout) c.requires c.track18-track18.ensures c.find_named.ensures c.in_default.is)

pub scratch_slot-requires : goal.scratch_slot-requires
scratch_slot-requires c =
    file-there _ (known_of c.args.layout) c.requires c.track18-track18.ensures c.find_named.ensures c.in-Some.is

pub returns : goal.returns
returns c =
    scratch-done _ c.args.img.now c.args.name.now _
    (some-named _ (known_of c.args.layout) c.requires c.track18-track18.ensures c.find_named.ensures c.in-Some.is) c.scratch_slot.ensures
