-- `storing::writing::write_file` meets its contract: the data, the entry, the marks and the map together are the disk that the
-- definitions describe (proofs/FileWriteLaws). Assumes nothing.
use Rattle.geometry.proofs.TableLaws.{known_of}
use native.Mathlib.Omega.{arith}
use mathlib.Core.Path.{refl, ap, ◌∙◌}
use mathlib.Core.Logic.{inl, inr}
use lib.ListN.{length}
use Rattle.d64spec.proofs.EntryLaws.{entry_length}
use Rattle.d64spec.proofs.FormatLaws.{name-short}
use Rattle.storing.proofs.ReplyLaws.{kind-storable}
use Rattle.storing.proofs.WriteReadyLaws.{places-some, places-few, chain-ready, entry_ready}
use Rattle.storing.proofs.FileWriteLaws.{file-written}
use Rattle.storing.proofs.writing.write_file.Goals as goal

pub write_chain-requires : goal.write_chain-requires
write_chain-requires c = chain-ready _ (known_of c.args.layout) c.requires

pub bounds-places-0 : goal.bounds-places-0
bounds-places-0 c = omega (arith, places-some _ (known_of c.args.layout) c.requires)

pub new_entry-entry-requires : goal.new_entry-entry-requires
new_entry-entry-requires c =
    let w = c.requires in
    (name-short _ w.ready.asked, places-few _ (known_of c.args.layout) w)

pub write_entry-requires : goal.write_entry-requires
write_entry-requires c =
    let w = c.requires in
    entry_ready _ (known_of c.args.layout) w c.write_chain.ensures.size
    (ap length c.new_entry-entry.ensures ∙ entry_length _ _ _ _ w.ready.asked (kind-storable c.args.file.now.kind))

pub returns : goal.returns
returns c =
    file-written _ (known_of c.args.layout) c.args.places.now c.requires
    c.write_chain.ensures
    c.new_entry-entry.ensures c.write_entry.ensures
    (elim c.if-place.branch [
      | goal.then-place w ↦ inl (w.if-place.true, _, _, _, w.move_mark.ensures, refl, omega arith, omega arith, w.marks-is)
      | goal.else-place w ↦ inr (w.if-place.false, w.marks-is)
    ])
    c.write_map.ensures
