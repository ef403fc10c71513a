use Rattle.ada_phrases.specs.Answers.{counted}
use Rattle.statement_parts.proofs.caught.caught.Goals as goal

pub returns-in-Named : goal.returns-in-Named
returns-in-Named c k env s h = rw c.in-Named.is (c.caught_by_name.ensures k env s h)

pub returns-in-Others : goal.returns-in-Others
returns-in-Others c k env s h = rw c.in-Others.is (c.others.ensures k env (counted c.args.decisions.now s) h.step)
