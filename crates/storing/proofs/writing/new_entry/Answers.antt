-- `storing::writing::new_entry` meets its contract: the name is copied over its 16 bytes, the count over the last two, and the bytes set before them
-- stay. Assumes nothing.
use native.Mathlib.Omega.{arith}
use mathlib.Core.Path.{◌∙◌}
use Rattle.geometry.specs.Layout.{address_of}
use Rattle.storing.proofs.EntryWriteLaws.{entry-made}
use Rattle.storing.proofs.writing.new_entry.Goals as goal

pub returns : goal.returns
returns c =
    let a = c.args in
    entry-made a.name.now (address_of a.first) a.count c.requires.0 c.requires.1 c.number.ensures c.padded_name.ensures c.copy_from_slice.ensures.after
    (c.copy_from_slice-2.ensures.after ∙ c.to_le_bytes.ensures) (omega arith)
