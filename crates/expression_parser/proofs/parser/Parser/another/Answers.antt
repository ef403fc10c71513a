use Rattle.std.proofs.Common.{arith}
use Rattle.expression_parser.proofs.OperatorLaws.{joints}
use Rattle.expression_parser.proofs.parser.Parser.another.Goals as goal

pub returns : goal.returns
returns c = grind (arith, joints)

pub returns-in_default-second_word_in : goal.returns-in_default-second_word_in
returns-in_default-second_word_in c = grind (arith, joints)

pub returns-in_err-rest : goal.returns-in_err-rest
returns-in_err-rest c = grind (arith, joints)
