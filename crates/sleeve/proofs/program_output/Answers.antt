-- `program_output`: 17 where there is no layout, else what is printed in it.
use Rattle.sleeve.proofs.OutputLaws.{printed-unknown, printed-known}
use Rattle.sleeve.proofs.program_output.Goals as goal

pub returns-in-None : goal.returns-in-None
returns-in-None c = printed-unknown _ c.in-None.is c.print_fault.ensures

pub returns-in-Some : goal.returns-in-Some
returns-in-Some c = printed-known _ _ c.in-Some.is c.sleeve_output.ensures
