use Rattle.unit_walk.proofs.formals.formal_declared.Goals as goal

pub returns-in-DiscreteType-clause-comes : goal.returns-in-DiscreteType-clause-comes
returns-in-DiscreteType-clause-comes c p k env h b = rw c.in-DiscreteType.is (c.formal_type.ensures.comes p k env h b)

pub returns-in-DiscreteType-clause-goes : goal.returns-in-DiscreteType-clause-goes
returns-in-DiscreteType-clause-goes c = c.formal_type.ensures.goes

pub returns-in-IntegerType-clause-comes : goal.returns-in-IntegerType-clause-comes
returns-in-IntegerType-clause-comes c p k env h b = rw c.in-IntegerType.is (c.formal_type-in-IntegerType.ensures.comes p k env h b)

pub returns-in-IntegerType-clause-goes : goal.returns-in-IntegerType-clause-goes
returns-in-IntegerType-clause-goes c = c.formal_type-in-IntegerType.ensures.goes

pub returns-in-Object-clause-comes : goal.returns-in-Object-clause-comes
returns-in-Object-clause-comes c p k env h b = rw c.in-Object.is (c.formal_object.ensures.comes p k env h b)

pub returns-in-Object-clause-goes : goal.returns-in-Object-clause-goes
returns-in-Object-clause-goes c = c.formal_object.ensures.goes

pub returns-in-Subprogram-clause-comes : goal.returns-in-Subprogram-clause-comes
returns-in-Subprogram-clause-comes c p k env h b = rw c.in-Subprogram.is (c.formal_subprogram.ensures.comes p k env h b)

pub returns-in-Subprogram-clause-goes : goal.returns-in-Subprogram-clause-goes
returns-in-Subprogram-clause-goes c = c.formal_subprogram.ensures.goes
