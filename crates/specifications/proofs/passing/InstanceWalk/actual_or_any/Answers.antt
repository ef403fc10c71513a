use Rattle.specifications.proofs.passing.InstanceWalk.actual_or_any.Goals as goal

pub returns-in-Some : goal.returns-in-Some
returns-in-Some c k env s h = rw c.in-Some.is (c.actual.ensures k env s h)

pub returns-in-None : goal.returns-in-None
returns-in-None c k env s h = rw c.in-None.is (c.any_actual.ensures k env s h)
