use Rattle.std.proofs.Common.{arith}
use Rattle.std.proofs.lemmas.Grind.{common_steps}
use Rattle.std.proofs.Common.{◌≡◌, nat_eq, false, sym, ◌∙◌}
use Rattle.ada_rules.specs.Environment.{given}
use Rattle.ada_entities.specs.Answers.{refused_at}
use Rattle.ada_phrases.specs.Scopes.{step_of}
use Rattle.specifications.specs.Actuals.{actuals_of}
use Rattle.specifications.specs.Passing.{counted_rule}
use Rattle.specifications.proofs.passing.InstanceWalk.counted.Goals as goal

pub returns-else-are_as_many : goal.returns-else-are_as_many
returns-else-are_as_many c k s =
    let other : nat_eq c.args.formals c.args.count ≡ false = sym c.are_as_many.ensures ∙ c.if-are_as_many.false in
    rw c.refused.ensures
    (refused_at (λ z. counted_rule (step_of (c.in-Typing.is z)) c.args.pos (other z) (given (actuals_of k c.args.actuals.items) s)))

pub returns-then-are_as_many : goal.returns-then-are_as_many
returns-then-are_as_many c = grind (arith, common_steps)
