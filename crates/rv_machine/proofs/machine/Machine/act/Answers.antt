use Rattle.std.proofs.Common.{rules}
use Rattle.rv_machine.proofs.machine.Machine.act.Goals as goal
use Rattle.rv_semantics.specs.Step.{act}

pub returns-in-Store : goal.returns-in-Store
unfolding act
returns-in-Store c = search rules

pub returns-in-Branch : goal.returns-in-Branch
unfolding act
returns-in-Branch c = search rules

pub returns-in-Register : goal.returns-in-Register
unfolding act
returns-in-Register c = search rules
