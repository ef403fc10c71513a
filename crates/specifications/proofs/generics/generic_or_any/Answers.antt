use Rattle.std.proofs.Common.{None, ap, ◌∙◌}
use Rattle.ada_rules.specs.Plan.{ruled, answer_at}
use Rattle.ada_rules.specs.Instances.{generic_or_any}
use Rattle.ada_entities.specs.Answers.{refused_at}
use Rattle.ada_phrases.specs.Scopes.{step_of}
use Rattle.specifications.proofs.generics.generic_or_any.Goals as goal

pub returns-in-None-Typing : goal.returns-in-None-Typing
returns-in-None-Typing c env st =
    let p = c.args.pos in
    rw c.refused.ensures (refused_at (ap (λ g. answer_at p (ruled (generic_or_any env g))) c.in-None-Typing.is-0
    ∙ ap (λ s. answer_at p (ruled (generic_or_any (record env { step = s }) None))) (st ∙ ap step_of c.in-None-Typing.is-1)))
