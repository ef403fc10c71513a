use Rattle.ada_rules.specs.Types.{of_type, range_in}
use Rattle.ada_entities.specs.Views.{shaped, identity_of}
use Rattle.declarations.proofs.types.composite.Goals as goal

pub returns-clause-defined : goal.returns-clause-defined
returns-clause-defined c known k b =
    λ z. of_type (shaped (identity_of c.args.identity) (c.in_ok-number.ensures.number known k b z)) (range_in (c.integer.ensures k.types z))
