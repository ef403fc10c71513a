use Rattle.std.proofs.Common.{ap, ◌∙◌}
use Rattle.expression_parser.specs.declared.extent.Extent.TheVariants.{Objects}
use Rattle.expression_parser.specs.Symbols.{multiplying}
use Rattle.expression_parser.proofs.OperatorLaws.{found_operator}
use Rattle.expression_parser.proofs.parser.Parser.multiplying.Goals as goal

pub returns : goal.returns
returns c =
    found_operator multiplying c.args.self.extent Objects c.args.tokens.now c.in-Some.token.now c.in-Some.rest.now c.multiplying_in-operator.result c.found.result c.in-Some.ensures.cases.0
    (c.multiplying_in-operator.ensures ∙ ap multiplying c.symbol_in.ensures) c.found.ensures
