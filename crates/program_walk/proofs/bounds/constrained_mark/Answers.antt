use Rattle.std.proofs.Common.{refl}
use Rattle.ada_tree.specs.View.{scalar_range_of}
use Rattle.ada_phrases.specs.declared.scope.Step.TheVariants as step
use Rattle.ada_phrases.specs.Scopes.{step_of}
use Rattle.ada_phrases.proofs.Parts.{by_type}
use Rattle.program_walk.specs.Subtypes.{subtype_in, constrained_to}
use Rattle.program_walk.proofs.bounds.constrained_mark.Goals as goal

pub returns-in-Typing : goal.returns-in-Typing
returns-in-Typing c k s =
    rw (c.in-Typing.is, c.ok_or.ensures.value, c.refused.ensures)
    (by_type (subtype_in k) s (step_of step.Typing) step.Typing c.args.pos c.args.subtype c.constrained.result (subtype_in k c.args.subtype)
    (constrained_to (subtype_in k c.args.subtype) (scalar_range_of c.args.range)) refl refl (c.constrained.ensures k))
