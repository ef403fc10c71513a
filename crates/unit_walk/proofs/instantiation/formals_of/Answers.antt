use Rattle.std.proofs.Common.{sym, ap, ◌∙◌}
use Rattle.ada_rules.specs.Instances as rules
use Rattle.unit_walk.proofs.InstantiatingLaws.{formals_are}
use Rattle.unit_walk.proofs.instantiation.formals_of.Goals as goal

pub returns-in-Some : goal.returns-in-Some
returns-in-Some c k w h =
    formals_are k w c.in-Some.unit c.formals_of.result (c.formals_of.ensures k w h)
    ∙ ap (λ g. rules.formals_of w g) (sym c.in-Some.is)
