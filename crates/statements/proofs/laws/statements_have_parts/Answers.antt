use Rattle.ada_rules.specs.Environment.{statement_label, started}
use Rattle.ada_rules.specs.Statements.{is_reverse}
use Rattle.statements.proofs.NestedLaws.{conditional_is, first_branch, first_arm, for_is, first_handler}
use Rattle.statements.proofs.laws.statements_have_parts.Goals as goal

pub returns-clause-conditionals : goal.returns-clause-conditionals
returns-clause-conditionals c env s p b bs es = conditional_is env p (statement_label s p) es (started s) b bs

pub returns-clause-branches : goal.returns-clause-branches
returns-clause-branches c env s p b bs = first_branch env p s b bs

pub returns-clause-alternatives : goal.returns-clause-alternatives
returns-clause-alternatives c env s x p a rest = first_arm env p x s a rest

pub returns-clause-loops : goal.returns-clause-loops
returns-clause-loops c env s p i d r ss = for_is env p (statement_label s p) i (is_reverse d) r ss (started s)

pub returns-clause-handlers : goal.returns-clause-handlers
returns-clause-handlers c env s p h hs = first_handler env p s h hs
