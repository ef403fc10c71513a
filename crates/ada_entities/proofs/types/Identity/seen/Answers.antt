use Rattle.std.proofs.Common.{sym, ap, ◌∙◌}
use Rattle.ada_rules.specs.Types.{declared_in}
use Rattle.ada_rules.specs.Entities.{identity_seen}
use Rattle.ada_entities.specs.Views.{identity_of}
use Rattle.ada_entities.proofs.types.Identity.seen.Goals as goal

pub returns-in-Declared : goal.returns-in-Declared
returns-in-Declared c =
    ap (λ o. declared_in o c.in-Declared.name.unit c.in-Declared.name.number) c.owner_seen.ensures
    ∙ ap (λ i. identity_seen c.args.instance (identity_of i)) (sym c.in-Declared.is)
