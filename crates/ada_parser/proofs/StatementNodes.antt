-- The nodes of a statement are those of the tokens that it derives.
use Rattle.std.proofs.Common.{◌≡◌, ◌+◌, List, [], ◌∷◌, ◌++◌, length, Option, sum_by, arith}
use Rattle.std.proofs.lemmas.List.Sums.{sum_by_push, sum_by-cons}
use Rattle.ada_syntax.specs.Tree.{Expr, Name}
use Rattle.ada_syntax.specs.StatementTree.{Statement, Branches, no_branches as no_branch, branch, Alternatives, no_alternatives, alternative, Handlers, no_handlers as no_handler, handler, Handled}
use Rattle.ada_syntax.specs.StatementView.{statements_of}
use Rattle.ada_syntax.specs.Nodes.{expr_nodes, name_nodes, if_present, choice_nodes, exception_choice_nodes, direction_nodes, statement_nodes, statements_nodes, else_nodes, branches_nodes, alternatives_nodes, handlers_nodes, handled_nodes, exception_part_nodes}
use Rattle.ada_syntax.specs.declared.name.Identifier.{Identifier}
use Rattle.ada_syntax.specs.declared.statement.Choice.{Choice}
use Rattle.ada_syntax.specs.declared.statement.ExceptionChoice.{ExceptionChoice}
use Rattle.ada_syntax.specs.declared.statement.Direction.{Direction}
use Rattle.expression_parser.specs.declared.symbol.Symbol.{Symbol}
use Rattle.expression_parser.specs.declared.symbol.Symbol.TheVariants as symbol
use Rattle.expression_parser.specs.declared.extent.Extent.{Extent}
use Rattle.expression_parser.specs.Reading.{Tokens}
use Rattle.declaration_parser.specs.NodeTokens.{symbol_nodes, node_tokens}
use Rattle.declaration_parser.proofs.ExpressionNodes.{at, expr_nodes_of, name_nodes_of}
use Rattle.declaration_parser.proofs.NodeLaws.{initial_nodes_of, range_nodes_of, pragma_nodes_of, declarations_nodes_of}
use Rattle.ada_parser.specs.Words.{Word, word, Named, name, Closes, closes}
use Rattle.ada_parser.specs.Trees.{with_branch, with_alternative, with_handler}
use Rattle.ada_parser.specs.Statements.{IsChoice, a_value, a_range, other_values, AreChoices, one_choice, more_choices, IsException, a_named, other_exceptions, AreExceptions, one_exception, more_exceptions, HasCondition, no_condition, a_condition, HasResult, no_result, a_result, HasException, no_exception, an_exception, IsDirection, forward, backward, IsStatement, a_null, an_assignment, a_call, an_exemption, an_if, a_case, an_endless_loop, a_while, a_for, an_exit, a_return, a_raise, a_block, a_declaring_block, AreStatements, one_statement, more_statements, IsBranch, a_branch, AreBranches, no_branches, more_branches, HasElse, no_else, an_else, IsAlternative, an_alternative, AreAlternatives, one_alternative, more_alternatives, IsLoop, a_loop, IsHandler, a_handler, AreHandlers, one_handler, more_handlers, HasHandlers, no_handlers, some_handlers, IsHandled, a_sequence}

pub word_nodes : {s : Symbol} {ts rest : Tokens} → Word s ts rest → node_tokens ts ≡ symbol_nodes s + node_tokens rest
word_nodes {s = s} (word {t = t} i) = omega (arith, at s t i)

pub named_nodes : {i : Identifier} {ts rest : Tokens} → Named i ts rest → node_tokens ts ≡ 1 + node_tokens rest
named_nodes (name {t = t} i) = omega (arith, at symbol.Identifier t i)

closes_nodes : {s : Symbol} {ts rest : Tokens} → Closes s ts rest → node_tokens ts ≡ 1 + symbol_nodes s + node_tokens rest
closes_nodes (closes a b c) = omega (arith, word_nodes a, word_nodes b, word_nodes c)

direction_nodes_of : {d : Direction} {ts rest : Tokens} → IsDirection d ts rest → node_tokens ts ≡ direction_nodes d + node_tokens rest
direction_nodes_of forward = omega arith
direction_nodes_of (backward w) = omega (arith, word_nodes w)

pushed_statements : (ss : List Statement) (s : Statement) → statements_nodes (statements_of (ss ++ s ∷ [])) ≡ statements_nodes (statements_of ss) + statement_nodes s
pushed_statements [] s = omega arith
pushed_statements (r ∷ rs) s = omega (arith, pushed_statements rs s)

pushed_branches : (bs : Branches) (e : Expr) (ss : List Statement) → branches_nodes (with_branch bs (e, ss)) ≡ branches_nodes bs + 2 + expr_nodes e + statements_nodes (statements_of ss)
pushed_branches no_branch e ss = omega arith
pushed_branches (branch d rs bs) e ss = omega (arith, pushed_branches bs e ss)

pushed_alternatives : (alts : Alternatives) (cs : List Choice) (ss : List Statement) → alternatives_nodes (with_alternative alts (cs, ss)) ≡ alternatives_nodes alts + length cs + sum_by choice_nodes cs + statements_nodes (statements_of ss)
pushed_alternatives no_alternatives cs ss = omega arith
pushed_alternatives (alternative ds rs alts) cs ss = omega (arith, pushed_alternatives alts cs ss)

pushed_handlers : (hs : Handlers) (cs : List ExceptionChoice) (ss : List Statement) → handlers_nodes (with_handler hs (cs, ss)) ≡ handlers_nodes hs + length cs + sum_by exception_choice_nodes cs + statements_nodes (statements_of ss)
pushed_handlers no_handler cs ss = omega arith
pushed_handlers (handler ds rs hs) cs ss = omega (arith, pushed_handlers hs cs ss)

length-push : {A : Type 0} (xs : List A) (x : A) → length (xs ++ x ∷ []) ≡ length xs + 1
length-push [] x = omega arith
length-push (y ∷ ys) x = omega (arith, length-push ys x)

module _ (x : Extent) where
  choice_nodes_of : {c : Choice} {ts rest : Tokens} → IsChoice x c ts rest → node_tokens ts ≡ choice_nodes c + node_tokens rest
  choice_nodes_of (a_value d) = omega (arith, expr_nodes_of x d)
  choice_nodes_of (a_range a w b) = omega (arith, expr_nodes_of x a, word_nodes w, expr_nodes_of x b)
  choice_nodes_of (other_values {t = t} i) = omega (arith, at symbol.Others t i)

  -- a list of choices has one token more for each
  choices_nodes_of : {cs : List Choice} {ts rest : Tokens} → AreChoices x cs ts rest → node_tokens ts + 1 ≡ length cs + sum_by choice_nodes cs + node_tokens rest
  choices_nodes_of (one_choice {c = c} d) = omega (arith, choice_nodes_of d, sum_by-cons choice_nodes c [])
  choices_nodes_of (more_choices {c = c} {cs = cs} l w d) = omega (arith, choices_nodes_of l, word_nodes w, choice_nodes_of d, sum_by_push choice_nodes cs c, length-push cs c)

  exception_nodes_of : {c : ExceptionChoice} {ts rest : Tokens} → IsException x c ts rest → node_tokens ts ≡ exception_choice_nodes c + node_tokens rest
  exception_nodes_of (a_named d) = omega (arith, name_nodes_of x d)
  exception_nodes_of (other_exceptions {t = t} i) = omega (arith, at symbol.Others t i)

  exceptions_nodes_of : {cs : List ExceptionChoice} {ts rest : Tokens} → AreExceptions x cs ts rest → node_tokens ts + 1 ≡ length cs + sum_by exception_choice_nodes cs + node_tokens rest
  exceptions_nodes_of (one_exception {c = c} d) = omega (arith, exception_nodes_of d, sum_by-cons exception_choice_nodes c [])
  exceptions_nodes_of (more_exceptions {c = c} {cs = cs} l w d) = omega (arith, exceptions_nodes_of l, word_nodes w, exception_nodes_of d, sum_by_push exception_choice_nodes cs c, length-push cs c)

  condition_nodes_of : {e : Option Expr} {ts rest : Tokens} → HasCondition x e ts rest → node_tokens ts ≡ if_present (λ z. 1 + expr_nodes z) e + node_tokens rest
  condition_nodes_of no_condition = omega arith
  condition_nodes_of (a_condition w d) = omega (arith, word_nodes w, expr_nodes_of x d)

  result_nodes_of : {e : Option Expr} {ts rest : Tokens} → HasResult x e ts rest → node_tokens ts ≡ if_present expr_nodes e + node_tokens rest
  result_nodes_of no_result = omega arith
  result_nodes_of (a_result o d) = omega (arith, expr_nodes_of x d)

  raised_nodes_of : {n : Option Name} {ts rest : Tokens} → HasException x n ts rest → node_tokens ts ≡ if_present name_nodes n + node_tokens rest
  raised_nodes_of no_exception = omega arith
  raised_nodes_of (an_exception d) = omega (arith, name_nodes_of x d)

  -- an else part has statements, and an exception part has handlers
  else_of : {ss : List Statement} {ts rest : Tokens} → AreStatements x ss ts rest → else_nodes (statements_of ss) ≡ 1 + statements_nodes (statements_of ss)
  else_of (one_statement d) = omega arith
  else_of (more_statements {s = s} {ss = ss} l d) = filled ss s
    where
      filled : (ss : List Statement) (s : Statement) → else_nodes (statements_of (ss ++ s ∷ [])) ≡ 1 + statements_nodes (statements_of (ss ++ s ∷ []))
      filled [] s = omega arith
      filled (r ∷ rs) s = omega arith

  part_of : {hs : Handlers} {ts rest : Tokens} → AreHandlers x hs ts rest → exception_part_nodes hs ≡ 1 + handlers_nodes hs
  part_of (one_handler w d) = omega arith
  part_of (more_handlers {hs = hs} {cs = cs} {ss = ss} l w d) = filled hs (cs, ss)
    where
      filled : (hs : Handlers) (h : List ExceptionChoice × List Statement) → exception_part_nodes (with_handler hs h) ≡ 1 + handlers_nodes (with_handler hs h)
      filled no_handler h = omega arith
      filled (handler ds rs hs) h = omega arith

  mutual
    statement_nodes_of : {s : Statement} {ts rest : Tokens} → IsStatement x s ts rest → node_tokens ts ≡ statement_nodes s + node_tokens rest
    statement_nodes_of (a_null {t = t} i w) = omega (arith, at symbol.Null t i, word_nodes w)
    statement_nodes_of (an_assignment o d a i b) = omega (arith, name_nodes_of x d, word_nodes a, initial_nodes_of x i, word_nodes b)
    statement_nodes_of (a_call d w) = omega (arith, name_nodes_of x d, word_nodes w)
    statement_nodes_of (an_exemption d) = pragma_nodes_of x d
    statement_nodes_of (an_if {t = t} o i b l e c) = omega (arith, at symbol.If t i, branch_nodes_of b, branches_nodes_of l, else_nodes_of e, closes_nodes c)
    statement_nodes_of (a_case {t = t} o i d w l c) = omega (arith, at symbol.Case t i, expr_nodes_of x d, word_nodes w, alternatives_nodes_of l, closes_nodes c)
    statement_nodes_of (an_endless_loop o l) = omega (arith, loop_nodes_of l)
    statement_nodes_of (a_while {t = t} o i d l) = omega (arith, at symbol.While t i, expr_nodes_of x d, loop_nodes_of l)
    statement_nodes_of (a_for {t = t} o i n w d r l) = omega (arith, at symbol.For t i, named_nodes n, word_nodes w, direction_nodes_of d, range_nodes_of x r, loop_nodes_of l)
    statement_nodes_of (an_exit {t = t} o i d w) = omega (arith, at symbol.Exit t i, condition_nodes_of d, word_nodes w)
    statement_nodes_of (a_return {t = t} i d w) = omega (arith, at symbol.Return t i, result_nodes_of d, word_nodes w)
    statement_nodes_of (a_raise {t = t} o i d w) = omega (arith, at symbol.Raise t i, raised_nodes_of d, word_nodes w)
    statement_nodes_of (a_block {t = t} o i h a b) = omega (arith, at symbol.Begin t i, handled_nodes_of h, word_nodes a, word_nodes b)
    statement_nodes_of (a_declaring_block {t = t} o i d w h a b) = omega (arith, at symbol.Declare t i, declarations_nodes_of x d, word_nodes w, handled_nodes_of h, word_nodes a, word_nodes b)

    statements_nodes_of : {ss : List Statement} {ts rest : Tokens} → AreStatements x ss ts rest → node_tokens ts ≡ statements_nodes (statements_of ss) + node_tokens rest
    statements_nodes_of (one_statement d) = omega (arith, statement_nodes_of d)
    statements_nodes_of (more_statements {s = s} {ss = ss} l d) = omega (arith, statements_nodes_of l, statement_nodes_of d, pushed_statements ss s)

    branch_nodes_of : {e : Expr} {ss : List Statement} {ts rest : Tokens} → IsBranch x e ss ts rest → node_tokens ts ≡ 1 + expr_nodes e + statements_nodes (statements_of ss) + node_tokens rest
    branch_nodes_of (a_branch d w l) = omega (arith, expr_nodes_of x d, word_nodes w, statements_nodes_of l)

    branches_nodes_of : {bs : Branches} {ts rest : Tokens} → AreBranches x bs ts rest → node_tokens ts ≡ branches_nodes bs + node_tokens rest
    branches_nodes_of no_branches = omega arith
    branches_nodes_of (more_branches {bs = bs} {e = e} {ss = ss} l w b) = omega (arith, branches_nodes_of l, word_nodes w, branch_nodes_of b, pushed_branches bs e ss)

    else_nodes_of : {ss : List Statement} {ts rest : Tokens} → HasElse x ss ts rest → node_tokens ts ≡ else_nodes (statements_of ss) + node_tokens rest
    else_nodes_of no_else = omega arith
    else_nodes_of (an_else w l) = omega (arith, word_nodes w, statements_nodes_of l, else_of l)

    alternative_nodes_of : {cs : List Choice} {ss : List Statement} {ts rest : Tokens} → IsAlternative x cs ss ts rest → node_tokens ts + 1 ≡ length cs + sum_by choice_nodes cs + statements_nodes (statements_of ss) + node_tokens rest
    alternative_nodes_of (an_alternative c w l) = omega (arith, choices_nodes_of c, word_nodes w, statements_nodes_of l)

    alternatives_nodes_of : {alts : Alternatives} {ts rest : Tokens} → AreAlternatives x alts ts rest → node_tokens ts ≡ alternatives_nodes alts + node_tokens rest
    alternatives_nodes_of (one_alternative {cs = cs} {ss = ss} w d) = omega (arith, word_nodes w, alternative_nodes_of d)
    alternatives_nodes_of (more_alternatives {alts = alts} {cs = cs} {ss = ss} l w d) = omega (arith, alternatives_nodes_of l, word_nodes w, alternative_nodes_of d, pushed_alternatives alts cs ss)

    loop_nodes_of : {ss : List Statement} {ts rest : Tokens} → IsLoop x ss ts rest → node_tokens ts ≡ 3 + statements_nodes (statements_of ss) + node_tokens rest
    loop_nodes_of (a_loop w l c) = omega (arith, word_nodes w, statements_nodes_of l, closes_nodes c)

    handler_nodes_of : {cs : List ExceptionChoice} {ss : List Statement} {ts rest : Tokens} → IsHandler x cs ss ts rest → node_tokens ts + 1 ≡ length cs + sum_by exception_choice_nodes cs + statements_nodes (statements_of ss) + node_tokens rest
    handler_nodes_of (a_handler c w l) = omega (arith, exceptions_nodes_of c, word_nodes w, statements_nodes_of l)

    handler_list_nodes_of : {hs : Handlers} {ts rest : Tokens} → AreHandlers x hs ts rest → node_tokens ts ≡ handlers_nodes hs + node_tokens rest
    handler_list_nodes_of (one_handler w d) = omega (arith, word_nodes w, handler_nodes_of d)
    handler_list_nodes_of (more_handlers {hs = hs} {cs = cs} {ss = ss} l w d) = omega (arith, handler_list_nodes_of l, word_nodes w, handler_nodes_of d, pushed_handlers hs cs ss)

    handlers_nodes_of : {hs : Handlers} {ts rest : Tokens} → HasHandlers x hs ts rest → node_tokens ts ≡ exception_part_nodes hs + node_tokens rest
    handlers_nodes_of no_handlers = omega arith
    handlers_nodes_of (some_handlers o w l) = omega (arith, word_nodes w, handler_list_nodes_of l, part_of l)

    pub handled_nodes_of : {h : Handled} {ts rest : Tokens} → IsHandled x h ts rest → node_tokens ts ≡ handled_nodes h + node_tokens rest
    handled_nodes_of (a_sequence l h) = omega (arith, statements_nodes_of l, handlers_nodes_of h)
