-- `write_free`: the sum's two bytes, high first.
use native.Mathlib.Omega.{arith}
use Rattle.std.specs.Prelude.{◌∷◌, [], get_or}
use Rattle.std.proofs.Common.{ap, ◌∙◌}
use Rattle.d64spec.specs.Listing.{line}
use Rattle.sleeve.proofs.TextLaws.{free-line}
use Rattle.sleeve.proofs.write_free.Goals as goal

pub returns : goal.returns
returns c =
    free-line _ _ (omega arith) c.free_total-free.ensures
    (c.write_line.ensures ∙ ap (λ l. line (get_or l 0 0 ∷ get_or l 1 0 ∷ [])) c.to_be_bytes.ensures)
