use Rattle.std.proofs.Common.{sym, ap, ◌∙◌, option_map}
use Rattle.ada_rules.specs.Entities as rules
use Rattle.ada_rules.specs.Entities.{seen}
use Rattle.ada_entities.specs.Views.{actuals_of}
use Rattle.ada_entities.specs.TypeTable.{tables}
use Rattle.ada_entities.specs.EntityViews.{entity_of, region_of}
use Rattle.ada_entities.proofs.UnitLaws.{no_formal, none_of}
use Rattle.ada_entities.proofs.units.part_of_text.Goals as goal

pub returns-in-None : goal.returns-in-None
returns-in-None c k h =
    let formals = region_of k c.args.formals.now in
    let name = c.args.name.now in
    let part = rules.shown (rules.entity_of name (region_of k c.args.declarations.now)) in
    let through = seen c.args.instance (actuals_of (tables c.args.types.now) c.args.instance) in
    let free = none_of (entity_of k) c.find.result _ (c.find.ensures k) c.in-None.is in
    c.part_seen.ensures k h
    ∙ (ap (option_map through) (c.shown.ensures k ∙ ap rules.shown (c.find-in-None.ensures k))
    ∙ ap (option_map through) (sym (no_formal formals name part free)))
