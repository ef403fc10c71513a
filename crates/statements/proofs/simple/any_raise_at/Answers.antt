use Rattle.statements.proofs.simple.any_raise_at.Goals as goal

pub returns-in-Some-clause-comes : goal.returns-in-Some-clause-comes
returns-in-Some-clause-comes c k env h b = rw c.in-Some.is (c.raise_at.ensures.comes k env h b)

pub returns-in-None-clause-comes : goal.returns-in-None-clause-comes
returns-in-None-clause-comes c k env h b = rw c.in-None.is (c.raise_again_at.ensures.comes k env h b)
