-- What derives tokens takes some of them.
use Rattle.std.proofs.Common.{◌<◌, ◌≤◌, List, Option, length, arith}
use Rattle.ada_syntax.specs.Tree.{Expr, Name}
use Rattle.ada_syntax.specs.StatementTree.{Statement, Branches, Alternatives, Handlers, Handled}
use Rattle.ada_syntax.specs.declared.name.Identifier.{Identifier}
use Rattle.ada_syntax.specs.declared.statement.Choice.{Choice}
use Rattle.ada_syntax.specs.declared.statement.ExceptionChoice.{ExceptionChoice}
use Rattle.ada_syntax.specs.declared.statement.Direction.{Direction}
use Rattle.expression_parser.specs.declared.symbol.Symbol.{Symbol}
use Rattle.expression_parser.specs.declared.extent.Extent.{Extent}
use Rattle.expression_parser.specs.Reading.{Tokens}
use Rattle.expression_parser.proofs.ExpressionLengths.{shorter, name_shorter}
use Rattle.ada_parser.specs.Words.{Word, word, Named, name, Closes, closes}
use Rattle.ada_parser.specs.Statements.{IsChoice, a_value, a_range, other_values, AreChoices, one_choice, more_choices, IsException, a_named, other_exceptions, AreExceptions, one_exception, more_exceptions, HasCondition, no_condition, a_condition, HasResult, no_result, a_result, HasException, no_exception, an_exception, IsDirection, forward, backward, IsStatement, a_null, an_assignment, a_call, an_exemption, an_if, a_case, an_endless_loop, a_while, a_for, an_exit, a_return, a_raise, a_block, a_declaring_block, AreStatements, one_statement, more_statements, IsBranch, a_branch, AreBranches, no_branches, more_branches, HasElse, no_else, an_else, IsAlternative, an_alternative, AreAlternatives, one_alternative, more_alternatives, IsLoop, a_loop, IsHandler, a_handler, AreHandlers, one_handler, more_handlers, HasHandlers, no_handlers, some_handlers, IsHandled, a_sequence}
use Rattle.ada_parser.proofs.Below.{ShortersBelow, shorters_below}

pub word_shorter : {s : Symbol} {ts rest : Tokens} → Word s ts rest → length rest < length ts
word_shorter (word i) = omega arith

pub identifier_shorter : {i : Identifier} {ts rest : Tokens} → Named i ts rest → length rest < length ts
identifier_shorter (name i) = omega arith

pub closing_shorter : {s : Symbol} {ts rest : Tokens} → Closes s ts rest → length rest < length ts
closing_shorter (closes a b c) = omega (arith, word_shorter a, word_shorter b, word_shorter c)

pub direction_shorter : {d : Direction} {ts rest : Tokens} → IsDirection d ts rest → length rest ≤ length ts
direction_shorter forward = omega arith
direction_shorter (backward w) = omega (arith, word_shorter w)

module _ (x : Extent) where
  pub choice_shorter : {c : Choice} {ts rest : Tokens} → IsChoice x c ts rest → length rest < length ts
  choice_shorter (a_value d) = shorter x d
  choice_shorter (a_range a w b) = omega (arith, shorter x a, word_shorter w, shorter x b)
  choice_shorter (other_values i) = omega arith

  pub choices_shorter : {cs : List Choice} {ts rest : Tokens} → AreChoices x cs ts rest → length rest < length ts
  choices_shorter (one_choice d) = choice_shorter d
  choices_shorter (more_choices l w d) = omega (arith, choices_shorter l, word_shorter w, choice_shorter d)

  pub exception_shorter : {c : ExceptionChoice} {ts rest : Tokens} → IsException x c ts rest → length rest < length ts
  exception_shorter (a_named d) = name_shorter x d
  exception_shorter (other_exceptions i) = omega arith

  pub exceptions_shorter : {cs : List ExceptionChoice} {ts rest : Tokens} → AreExceptions x cs ts rest → length rest < length ts
  exceptions_shorter (one_exception d) = exception_shorter d
  exceptions_shorter (more_exceptions l w d) = omega (arith, exceptions_shorter l, word_shorter w, exception_shorter d)

  pub condition_shorter : {e : Option Expr} {ts rest : Tokens} → HasCondition x e ts rest → length rest ≤ length ts
  condition_shorter no_condition = omega arith
  condition_shorter (a_condition w d) = omega (arith, word_shorter w, shorter x d)

  pub result_shorter : {e : Option Expr} {ts rest : Tokens} → HasResult x e ts rest → length rest ≤ length ts
  result_shorter no_result = omega arith
  result_shorter (a_result o d) = omega (arith, shorter x d)

  pub raised_shorter : {n : Option Name} {ts rest : Tokens} → HasException x n ts rest → length rest ≤ length ts
  raised_shorter no_exception = omega arith
  raised_shorter (an_exception d) = omega (arith, name_shorter x d)

  module _ (below : ShortersBelow x) where
    mutual
      pub statement_shorter : {s : Statement} {ts rest : Tokens} → IsStatement x s ts rest → length rest < length ts
      statement_shorter (a_null i w) = omega (arith, word_shorter w)
      statement_shorter (an_assignment o d a i b) = omega (arith, name_shorter x d, word_shorter a, below.initial_shorter _ _ _ i, word_shorter b)
      statement_shorter (a_call d w) = omega (arith, name_shorter x d, word_shorter w)
      statement_shorter (an_exemption d) = below.pragma_shorter _ _ _ d
      statement_shorter (an_if o i b l e c) = omega (arith, branch_shorter b, branches_shorter l, else_shorter e, closing_shorter c)
      statement_shorter (a_case o i d w l c) = omega (arith, shorter x d, word_shorter w, alternatives_shorter l, closing_shorter c)
      statement_shorter (an_endless_loop o l) = loop_shorter l
      statement_shorter (a_while o i d l) = omega (arith, shorter x d, loop_shorter l)
      statement_shorter (a_for o i n w d r l) = omega (arith, identifier_shorter n, word_shorter w, direction_shorter d, below.range_shorter _ _ _ r, loop_shorter l)
      statement_shorter (an_exit o i d w) = omega (arith, condition_shorter d, word_shorter w)
      statement_shorter (a_return i d w) = omega (arith, result_shorter d, word_shorter w)
      statement_shorter (a_raise o i d w) = omega (arith, raised_shorter d, word_shorter w)
      statement_shorter (a_block o i h a b) = omega (arith, handled_shorter h, word_shorter a, word_shorter b)
      statement_shorter (a_declaring_block o i d w h a b) = omega (arith, below.declarations_shorter _ _ _ d, word_shorter w, handled_shorter h, word_shorter a, word_shorter b)

      pub statements_shorter : {ss : List Statement} {ts rest : Tokens} → AreStatements x ss ts rest → length rest < length ts
      statements_shorter (one_statement d) = statement_shorter d
      statements_shorter (more_statements l d) = omega (arith, statements_shorter l, statement_shorter d)

      pub branch_shorter : {e : Expr} {ss : List Statement} {ts rest : Tokens} → IsBranch x e ss ts rest → length rest < length ts
      branch_shorter (a_branch d w l) = omega (arith, shorter x d, word_shorter w, statements_shorter l)

      pub branches_shorter : {bs : Branches} {ts rest : Tokens} → AreBranches x bs ts rest → length rest ≤ length ts
      branches_shorter no_branches = omega arith
      branches_shorter (more_branches l w b) = omega (arith, branches_shorter l, word_shorter w, branch_shorter b)

      pub else_shorter : {ss : List Statement} {ts rest : Tokens} → HasElse x ss ts rest → length rest ≤ length ts
      else_shorter no_else = omega arith
      else_shorter (an_else w l) = omega (arith, word_shorter w, statements_shorter l)

      pub alternative_shorter : {cs : List Choice} {ss : List Statement} {ts rest : Tokens} → IsAlternative x cs ss ts rest → length rest < length ts
      alternative_shorter (an_alternative c w l) = omega (arith, choices_shorter c, word_shorter w, statements_shorter l)

      pub alternatives_shorter : {alts : Alternatives} {ts rest : Tokens} → AreAlternatives x alts ts rest → length rest < length ts
      alternatives_shorter (one_alternative w d) = omega (arith, word_shorter w, alternative_shorter d)
      alternatives_shorter (more_alternatives l w d) = omega (arith, alternatives_shorter l, word_shorter w, alternative_shorter d)

      pub loop_shorter : {ss : List Statement} {ts rest : Tokens} → IsLoop x ss ts rest → length rest < length ts
      loop_shorter (a_loop w l c) = omega (arith, word_shorter w, statements_shorter l, closing_shorter c)

      pub handler_shorter : {cs : List ExceptionChoice} {ss : List Statement} {ts rest : Tokens} → IsHandler x cs ss ts rest → length rest < length ts
      handler_shorter (a_handler c w l) = omega (arith, exceptions_shorter c, word_shorter w, statements_shorter l)

      pub handler_list_shorter : {hs : Handlers} {ts rest : Tokens} → AreHandlers x hs ts rest → length rest < length ts
      handler_list_shorter (one_handler w d) = omega (arith, word_shorter w, handler_shorter d)
      handler_list_shorter (more_handlers l w d) = omega (arith, handler_list_shorter l, word_shorter w, handler_shorter d)

      pub handlers_shorter : {hs : Handlers} {ts rest : Tokens} → HasHandlers x hs ts rest → length rest ≤ length ts
      handlers_shorter no_handlers = omega arith
      handlers_shorter (some_handlers o w l) = omega (arith, word_shorter w, handler_list_shorter l)

      pub handled_shorter : {h : Handled} {ts rest : Tokens} → IsHandled x h ts rest → length rest < length ts
      handled_shorter (a_sequence l h) = omega (arith, statements_shorter l, handlers_shorter h)

pub handled_takes : (x : Extent) {h : Handled} {ts rest : Tokens} → IsHandled x h ts rest → length rest < length ts
handled_takes x d = handled_shorter x (shorters_below x) d
