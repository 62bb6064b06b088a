-- `storing::writing::write_entry` meets its contract: the entry is overwritten on the image as it is, or on the one whose directory has grown.
-- Assumes nothing.
use native.Mathlib.Omega.{arith}
use Rattle.geometry.proofs.TableLaws.{known_of}
use Rattle.storing.proofs.EntryWriteLaws.{entry-laid}
use mathlib.Core.Logic.{inl, inr}
use Rattle.storing.proofs.writing.write_entry.Goals as goal

pub returns : goal.returns
returns c =
    entry-laid _ (known_of c.args.layout) c.requires (elim c.if-place.branch [
      | goal.then-place w ↦ inl (w.if-place.true, _, w.grow_directory.ensures, w.img-is)
      | goal.else-place w ↦ inr (w.if-place.false, w.img-is)
    ]) c.overwrite_in.ensures (omega arith) (omega arith)
