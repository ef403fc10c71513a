use Rattle.std.proofs.Common.{None, ap}
use Rattle.ada_rules.specs.Plan.{answer_at}
use Rattle.ada_rules.specs.Environment.{typed_rule, given}
use Rattle.ada_rules.specs.Instances.{any_actual}
use Rattle.ada_entities.specs.Answers.{refused_at}
use Rattle.ada_phrases.specs.Scopes.{step_of}
use Rattle.specifications.proofs.passing.no_actual.Goals as goal

pub returns-in-Typing : goal.returns-in-Typing
returns-in-Typing c k s =
    rw c.refused.ensures
    (refused_at (ap (λ t. answer_at c.args.pos (typed_rule (step_of t) (given any_actual s) None).outcome) c.in-Typing.is))
