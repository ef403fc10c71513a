use Rattle.std.proofs.Common.{ap, ◌∙◌}
use Rattle.expression_parser.specs.declared.extent.Extent.TheVariants.{Decisions}
use Rattle.expression_parser.specs.Symbols.{relational_of}
use Rattle.expression_parser.proofs.OperatorLaws.{found_operator}
use Rattle.expression_parser.proofs.parser.Parser.relational.Goals as goal

pub returns : goal.returns
returns c =
    found_operator relational_of c.args.self.extent Decisions c.args.tokens.now c.in-Some.token.now c.in-Some.rest.now c.relational_in-operator.result c.found.result c.in-Some.ensures.cases.0
    (c.relational_in-operator.ensures ∙ ap relational_of c.symbol_in.ensures) c.found.ensures
