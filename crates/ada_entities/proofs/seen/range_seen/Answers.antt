use Rattle.std.proofs.Common.{sym, ap, ◌∙◌}
use Rattle.ada_rules.specs.ada_meaning.specs.Seen.{range_seen}
use Rattle.ada_tree.specs.View.{scalar_range_of}
use Rattle.ada_entities.proofs.SeenLaws.{between_after, formal_after}
use Rattle.ada_entities.proofs.seen.range_seen.Goals as goal

pub returns-in-Between : goal.returns-in-Between
returns-in-Between c =
    between_after c.args.instance c.in-Between.owner _ _ _ c.owner_seen.ensures
    ∙ ap (λ r. range_seen c.args.instance (scalar_range_of r)) (sym c.in-Between.is)

pub returns-in-Formal : goal.returns-in-Formal
returns-in-Formal c =
    formal_after c.args.instance c.in-Formal.owner _ _ c.owner_seen-in-Formal.ensures
    ∙ ap (λ r. range_seen c.args.instance (scalar_range_of r)) (sym c.in-Formal.is)
