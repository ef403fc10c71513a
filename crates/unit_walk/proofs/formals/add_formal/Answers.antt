use Rattle.std.proofs.lemmas.Result.{on_ok_weaker}
use Rattle.unit_walk.proofs.formals.add_formal.Goals as goal

pub returns-clause-added : goal.returns-clause-added
returns-clause-added c = on_ok_weaker c.enter_routine.result (λ entered k region b. entered k b) c.enter_routine.ensures.entered
