use Rattle.declarations.proofs.kinds.some_objects.Goals as goal

pub returns-in-Some-clause-comes : goal.returns-in-Some-clause-comes
returns-in-Some-clause-comes c k env h b = rw c.in-Some.is (c.set_objects.ensures.comes k env h b)

pub returns-in-Some-clause-goes : goal.returns-in-Some-clause-goes
returns-in-Some-clause-goes c = c.set_objects.ensures.goes

pub returns-in-None-clause-comes : goal.returns-in-None-clause-comes
returns-in-None-clause-comes c k env h b = rw c.in-None.is (c.bare_objects.ensures.comes k env h b)

pub returns-in-None-clause-goes : goal.returns-in-None-clause-goes
returns-in-None-clause-goes c = c.bare_objects.ensures.goes
