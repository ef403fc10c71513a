use Rattle.std.proofs.Common.{Some, None, if◌then◌else◌}
use Rattle.ada_entities.specs.Answers.{refused_at}
use Rattle.ada_phrases.specs.Scopes.{step_of}
use Rattle.declarations.proofs.ValueLaws.{ruled_as}
use Rattle.declarations.proofs.values.allowed.Goals as goal

pub returns-in-Typing-false : goal.returns-in-Typing-false
returns-in-Typing-false c d =
    let i = c.in-Typing-false in
    rw c.refused.ensures (refused_at (λ z. ruled_as (step_of (i.is-0 z)) c.args.pos d (if i.is-1 z then Some tt else None)))
