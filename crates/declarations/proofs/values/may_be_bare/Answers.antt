use Rattle.ada_rules.specs.Declarations.{may_be_bare}
use Rattle.ada_entities.specs.Answers.{refused_at}
use Rattle.ada_phrases.specs.Scopes.{step_of}
use Rattle.declarations.proofs.ValueLaws.{ruled_as}
use Rattle.declarations.proofs.values.may_be_bare.Goals as goal

pub returns-in-Typing-Constant : goal.returns-in-Typing-Constant
returns-in-Typing-Constant c d =
    let i = c.in-Typing-Constant in
    rw c.refused.ensures (refused_at (λ z. ruled_as (step_of (i.is-0 z)) c.args.pos d (may_be_bare (i.is-1 z))))
