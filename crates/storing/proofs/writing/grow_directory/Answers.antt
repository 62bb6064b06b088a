-- `storing::writing::grow_directory` meets its contract: the new sector is written whole, and two bytes of the last one are overwritten. Assumes nothing.
use native.Mathlib.Omega.{arith}
use Rattle.geometry.proofs.TableLaws.{known_of}
use Rattle.storing.proofs.EntryWriteLaws.{directory-grown}
use Rattle.storing.proofs.writing.grow_directory.Goals as goal

pub returns : goal.returns
returns c =
    directory-grown _ (known_of c.args.layout) c.requires
    c.empty_directory_sector.ensures
    c.write_sector.ensures c.overwrite_in.ensures (omega arith) (omega arith)
