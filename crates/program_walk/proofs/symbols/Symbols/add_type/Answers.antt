use Rattle.std.proofs.Common.{refl, sym, ◌∙◌}
use Rattle.program_walk.proofs.ChangeLaws.{type_grows, type_found}
use Rattle.program_walk.proofs.symbols.Symbols.add_type.Goals as goal

pub returns-clause-number : goal.returns-clause-number
returns-clause-number c =
    type_found c.args.self.now (record c.args.self.now { types = c.add.new.self }) c.args.definition c.in_ok-number.number
    c.in_ok-number.ensures.number c.in_ok-number.ensures.added refl (sym c.knows_definition.ensures ∙ c.if-not-knows_definition.false)

pub returns-clause-added : goal.returns-clause-added
returns-clause-added c =
    type_grows c.args.self.now _ c.args.definition c.in_ok-number.number c.in_ok-number.ensures.number c.in_ok-number.ensures.added
    refl refl refl refl refl refl
