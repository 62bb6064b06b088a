-- `storing::store_checked` meets its contract. In order: the DOS version; the name; the rest.
use Rattle.geometry.proofs.TableLaws.{known_of}
use mathlib.Core.Path.{sym, ◌∙◌}
use Rattle.storing.proofs.DecisionLaws.{forbidden-reply, exists-reply}
use Rattle.storing.proofs.store_checked.Goals as goal

pub returns-then-not-may_write : goal.returns-then-not-may_write
returns-then-not-may_write c =
    forbidden-reply _ (known_of c.args.layout) c.requires
    (sym c.may_write.ensures ∙ c.if-not-may_write.true)

pub returns-then-not-is_new : goal.returns-then-not-is_new
returns-then-not-is_new c =
    exists-reply _ (known_of c.args.layout) c.requires (sym c.may_write.ensures ∙ c.if-not-may_write.false)
    (sym c.is_new.ensures ∙ c.if-not-is_new.true)
