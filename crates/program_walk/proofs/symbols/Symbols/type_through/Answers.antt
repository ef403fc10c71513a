use Rattle.std.proofs.Common.{sym, ap, ◌∙◌}
use Rattle.ada_rules.specs.Entities.{type_seen}
use Rattle.ada_entities.specs.TypeTable.{tables}
use Rattle.ada_entities.specs.Views.{actuals_of, type_of}
use Rattle.ada_entities.proofs.Agreement.{type_agrees}
use Rattle.program_walk.proofs.AlikeLaws.{agreeing}
use Rattle.program_walk.proofs.StandingLaws.{known_alike}
use Rattle.program_walk.proofs.symbols.Symbols.type_through.Goals as goal

pub returns : goal.returns
returns c known k b =
    let a = (known_alike c.args.self.now known k b).typed in
    let i = c.args.instance in
    sym (type_agrees (agreeing a) c.type_seen-through.result (sym c.knows_type-else-not-knows_type.ensures ∙ c.if-not-knows_type-2.false))
    ∙ c.type_seen-through.ensures
    ∙ ap (λ xs. type_seen i xs (type_of (tables c.args.self.now.types) c.args.of)) (a.instances i (sym c.knows_instance.ensures ∙ c.if-not-knows_instance.false))
    ∙ ap (type_seen i (actuals_of k.types i)) (type_agrees (agreeing a) c.args.of (sym c.knows_type.ensures ∙ c.if-not-knows_type.false))
