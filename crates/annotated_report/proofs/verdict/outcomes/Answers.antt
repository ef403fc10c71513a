use Rattle.std.proofs.Common.{true, false}
use Rattle.annotated_report.proofs.Giving.{gives_is}
use Rattle.annotated_report.proofs.verdict.outcomes.Goals as goal

pub returns-clause-given_true : goal.returns-clause-given_true
returns-clause-given_true c = λ e is. gives_is c.decision.result.given_true e true c.args.vectors.now (c.decision.ensures.given_true e is)

pub returns-clause-given_false : goal.returns-clause-given_false
returns-clause-given_false c = λ e is. gives_is c.decision.result.given_false e false c.args.vectors.now (c.decision.ensures.given_false e is)
