-- `d64::entry_bytes` meets its contract: the name, the count and the length copied, the numbers low byte first. Assumes nothing.
use borrow.Author.Rules.{rules}
use mathlib.Core.Path.{◌∙◌}
use Rattle.reading.specs.Replies.{information_of}
use Rattle.d64.proofs.TellLaws.{entry-copied}
use Rattle.d64.proofs.entry_bytes.Goals as goal

pub returns : goal.returns
returns c = entry-copied (information_of c.args.information) (search rules) c.copy_from_slice.ensures.after
    (c.copy_from_slice-2.ensures.after ∙ c.to_le_bytes.ensures) (c.copy_from_slice-3.ensures.after ∙ c.to_le_bytes-2.ensures)
