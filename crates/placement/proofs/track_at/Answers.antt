-- `placement::track_at`: the order by index, downward below 17, then upward. Assumes nothing.
use native.Mathlib.Omega.{arith}
use Rattle.geometry.proofs.TableLaws.{known_of}
use Rattle.placement.proofs.OrderLaws.{order-down, order-up}
use Rattle.placement.proofs.track_at.Goals as goal

pub overflow_add-result : goal.overflow_add-result
overflow_add-result c = omega (arith, (known_of c.args.layout).few, c.requires)

pub returns-then-i-lt17 : goal.returns-then-i-lt17
returns-then-i-lt17 c = order-down _ (known_of c.args.layout) (omega arith) (omega arith)

pub returns-else-i-lt17 : goal.returns-else-i-lt17
returns-else-i-lt17 c = order-up _ (known_of c.args.layout) (omega arith) (omega (arith, c.requires)) (omega arith)
