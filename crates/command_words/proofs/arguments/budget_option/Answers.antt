use Rattle.std.proofs.Common.{◌≡◌, ◌∙◌, rules}
use Rattle.std.specs.Prelude.{Some, pos}
use Rattle.clap.specs.declared.builder.value_parser.ValueParser.TheVariants as vp
use Rattle.command_words.proofs.arguments.budget_option.Goals as goal

pub returns-clause-rule : goal.returns-clause-rule
returns-clause-rule c =
    let made : c.range-budgets.result ≡ vp.Signed (pos 1) (pos 4294967295) = rw c.value_parser.ensures at c.range-budgets.ensures in
    let given = c.value_parser-2.ensures.given in
    let parser : c.value_parser-2.result.value_parser ≡ Some (vp.Signed (pos 1) (pos 4294967295)) = rw (given.2 ∙ made) at given.1 in
    search (rules, parser)
