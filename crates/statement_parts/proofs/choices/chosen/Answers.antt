use Rattle.statement_parts.proofs.choices.chosen.Goals as goal

pub returns-in-Value : goal.returns-in-Value
returns-in-Value c k env s h = rw c.in-Value.is (c.value_chosen.ensures k env s h)

pub returns-in-Range : goal.returns-in-Range
returns-in-Range c k env s h = rw c.in-Range.is (c.range_chosen.ensures k env s h)
