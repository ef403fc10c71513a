use Rattle.std.proofs.Common.{sym, ap, ◌∙◌}
use Rattle.ada_entities.specs.Tables.{array_parts}
use Rattle.ada_entities.proofs.Agreement.{type_agrees}
use Rattle.program_walk.proofs.AlikeLaws.{agreeing}
use Rattle.program_walk.proofs.CompositeLaws.{parts_same}
use Rattle.program_walk.proofs.StandingLaws.{known_alike}
use Rattle.program_walk.proofs.symbols.Symbols.array_of.Goals as goal

pub returns : goal.returns
returns c known k b =
    let a = (known_alike c.args.self.now known k b).typed in
    sym (parts_same a c.array_of-parts.result (sym c.knows_parts.ensures ∙ c.if-not-knows_parts.false)) ∙ c.array_of-parts.ensures
    ∙ ap array_parts (type_agrees (agreeing a) c.args.of (sym c.knows_type.ensures ∙ c.if-not-knows_type.false))
