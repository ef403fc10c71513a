use Rattle.std.proofs.Common.{arith}
use Rattle.std.proofs.lemmas.Grind.{common_steps}
use Rattle.std.proofs.Common.{sym, ap, ◌∙◌}
use Rattle.ada_meaning.specs.Program.{actual_type}
use Rattle.ada_tree.specs.View.{scalar_range_of}
use Rattle.ada_rules.specs.Instances as rules
use Rattle.specifications.specs.Actuals.{actual_of}
use Rattle.specifications.proofs.facts.Lookup.typed.Goals as goal

pub returns-in_ok-values-in-Type : goal.returns-in_ok-values-in-Type
returns-in_ok-values-in-Type c known k b spans =
    (λ z. actual_type (scalar_range_of c.in-Type.range) (c.bounds.ensures z) (c.in_ok-values-in-Type.ensures k spans z))
    ∙ ap (λ a. rules.typed_actual c.args.self.now.instances.now (actual_of k a)) (sym c.in-Type.is)

pub returns-in-Object : goal.returns-in-Object
returns-in-Object c = grind (arith, common_steps)

pub returns-in_ok-target-in-Routine : goal.returns-in_ok-target-in-Routine
returns-in_ok-target-in-Routine c = grind (arith, common_steps)
