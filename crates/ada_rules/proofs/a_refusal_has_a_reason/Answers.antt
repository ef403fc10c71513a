use Rattle.ada_rules.proofs.Verdicts.{types_broken}
use Rattle.ada_rules.proofs.a_refusal_has_a_reason.Goals as goal

pub returns-clause-types : goal.returns-clause-types
returns-clause-types c = types_broken
