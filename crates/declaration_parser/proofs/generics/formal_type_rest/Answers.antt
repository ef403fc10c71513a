use Rattle.std.proofs.Common.{◌≡◌, None, sym, ap, length, arith, rules}
use Rattle.ada_syntax.specs.declared.unit.FormalKind.TheVariants as formal
use Rattle.expression_parser.specs.declared.symbol.Symbol.TheVariants as symbol
use Rattle.expression_parser.specs.Shows.{after}
use Rattle.expression_parser.proofs.NameCode.{after_some}
use Rattle.declaration_parser.proofs.Closings.{below_behind, words_below}
use Rattle.declaration_parser.proofs.FormalCode.{type_range, type_discrete, discrete_below}
use Rattle.declaration_parser.proofs.generics.formal_type_rest.Goals as goal

pub returns-in-Some-clause-reads : goal.returns-in-Some-clause-reads
returns-in-Some-clause-reads c = type_range c.args.name c.args.tokens.now c.in-Some.rest c.closed_by-kind.result c.closed_by.result (sym c.in-Some.ensures) c.closed_by-kind.ensures c.closed_by.ensures

pub returns-in-Some-clause-shorter : goal.returns-in-Some-clause-shorter
returns-in-Some-clause-shorter c =
    below_behind c.args.tokens.now c.in-Some.rest.now c.closed_by.result (omega (arith, ap length (after_some symbol.Range c.args.tokens.now c.in-Some.rest.now (sym c.in-Some.ensures)).here))
    (words_below (formal.IntegerType c.args.name) c.in-Some.rest symbol.Box symbol.Semicolon c.closed_by-kind.result c.closed_by.result c.closed_by-kind.ensures c.closed_by.ensures)

pub returns-clause-reads : goal.returns-clause-reads
returns-clause-reads c =
    let n : after symbol.Range c.args.tokens.now ≡ None = search rules in
    type_discrete c.args.name c.args.tokens c.closed_by-kind-2.result c.closed_by-kind-3.result c.closed_by-kind-4.result c.closed_by-2.result n c.closed_by-kind-2.ensures c.closed_by-kind-3.ensures c.closed_by-kind-4.ensures c.closed_by-2.ensures

pub returns-clause-shorter : goal.returns-clause-shorter
returns-clause-shorter c =
    discrete_below c.args.name c.args.tokens c.closed_by-kind-2.result c.closed_by-kind-3.result c.closed_by-kind-4.result c.closed_by-2.result c.closed_by-kind-2.ensures c.closed_by-kind-3.ensures c.closed_by-kind-4.ensures c.closed_by-2.ensures
