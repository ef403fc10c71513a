-- How statements are read, with one token in view.
use Rattle.std.specs.Prelude.{ℕ, zero, suc, Bool, true, false, cond, List, [], ◌∷◌, ◌++◌, Option, Some, None}
use Rattle.cov_base.specs.declared.position.Pos.{Pos}
use Rattle.ada_lexer.specs.declared.token.Token.{Token}
use Rattle.ada_syntax.specs.Tree.{Expr, Name}
use Rattle.ada_syntax.specs.StatementTree as tree
use Rattle.ada_syntax.specs.StatementTree.{Statement, Branches, Alternatives, Handlers, Handled}
use Rattle.ada_syntax.specs.StatementView.{statements_of}
use Rattle.ada_syntax.specs.declared.declaration.Declaration.{Declaration}
use Rattle.ada_syntax.specs.declared.statement.Choice.{Choice}
use Rattle.ada_syntax.specs.declared.statement.Choice.TheVariants as choice
use Rattle.ada_syntax.specs.declared.statement.ExceptionChoice.{ExceptionChoice}
use Rattle.ada_syntax.specs.declared.statement.ExceptionChoice.TheVariants as exception
use Rattle.ada_syntax.specs.declared.statement.LoopScheme.{LoopScheme}
use Rattle.ada_syntax.specs.declared.statement.LoopScheme.TheVariants.{Forever, While, For}
use Rattle.ada_syntax.specs.declared.statement.Direction.{Direction}
use Rattle.ada_syntax.specs.declared.statement.Direction.TheVariants.{Forward, Reverse}
use Rattle.expression_parser.specs.declared.symbol.Symbol.{Symbol}
use Rattle.expression_parser.specs.declared.symbol.Symbol.TheVariants as symbol
use Rattle.expression_parser.specs.declared.extent.Extent.{Extent}
use Rattle.expression_parser.specs.declared.extent.Extent.TheVariants.{Objects, Decisions, Types, Subprograms, Exceptions}
use Rattle.expression_parser.specs.Symbols.{identifier_of}
use Rattle.expression_parser.specs.Extents.{opens}
use Rattle.expression_parser.specs.Reading.{Reader, Stuck, Turn, Refuse, Leave, Take, Look, got, ◌>>=◌, on_token, provided, expect, skip, repeat}
use Rattle.expression_parser.specs.Depth.{at_name, at_expr, at_simple}
use Rattle.declaration_parser.specs.SubtypeReading.{initial_by, range_by}
use Rattle.declaration_parser.specs.DeclarationReading.{pragma_by, declarations_by}
use Rattle.ada_parser.specs.Lists.{listed_turn, closing, ending}
use Rattle.ada_parser.specs.Trees.{with_branch, with_alternative, with_handler}

-- the symbols that begin a statement
abbrev pub begins_statement : Symbol → Bool
begins_statement symbol.Null = true
begins_statement symbol.Identifier = true
begins_statement symbol.Pragma = true
begins_statement symbol.If = true
begins_statement symbol.Case = true
begins_statement symbol.Loop = true
begins_statement symbol.While = true
begins_statement symbol.For = true
begins_statement symbol.Exit = true
begins_statement symbol.Return = true
begins_statement symbol.Raise = true
begins_statement symbol.Begin = true
begins_statement symbol.Declare = true
begins_statement _ = false

-- [REVERSE]
abbrev pub direction_turn : Symbol → Token → Turn Direction
direction_turn symbol.Reverse t = Take (got Reverse)
direction_turn _ t = Leave Forward

abbrev pub direction_by : Reader Direction
direction_by = on_token (Leave Forward) direction_turn

-- one more at the end of a list
abbrev pub pushed : {A : Type 0} → List A → A → List A
pushed xs x = xs ++ x ∷ []

-- behind NULL, which stands at this place
abbrev pub null_by : Pos → Reader Statement
null_by p = skip symbol.Semicolon (got (tree.null p))

-- `m` bounds the depth and each list
module _ (x : Extent) (m : ℕ) where
  -- choice
  abbrev pub choice_rest_turn : Expr → Symbol → Token → Turn Choice
  choice_rest_turn a symbol.DoubleDot t = Take (at_simple x m >>= λ b. got (choice.Range (record { low = a; high = b })))
  choice_rest_turn a _ t = Leave (choice.Value a)

  abbrev pub choice_rest : Expr → Reader Choice
  choice_rest a = on_token (Leave (choice.Value a)) (choice_rest_turn a)

  abbrev pub choice_turn : Symbol → Token → Turn Choice
  choice_turn symbol.Others t = Take (got (choice.Others t.pos))
  choice_turn _ t = Look (at_simple x m >>= choice_rest)

  abbrev pub choice_by : Reader Choice
  choice_by = on_token Refuse choice_turn

  abbrev pub choices_by : Reader (List Choice)
  choices_by = choice_by >>= λ c. repeat (listed_turn symbol.Bar choice_by pushed) (suc m) (c ∷ [])

  -- exch
  abbrev pub exception_turn : Symbol → Token → Turn ExceptionChoice
  exception_turn symbol.Others t = Take (got (exception.Others t.pos))
  exception_turn _ t = Look (at_name x m >>= λ n. got (exception.Named n))

  abbrev pub exception_by : Reader ExceptionChoice
  exception_by = on_token Refuse exception_turn

  abbrev pub exceptions_by : Reader (List ExceptionChoice)
  exceptions_by = exception_by >>= λ c. repeat (listed_turn symbol.Bar exception_by pushed) (suc m) (c ∷ [])

  -- behind a name, which stands at this place
  abbrev pub name_turn : Pos → Name → Symbol → Token → Turn Statement
  name_turn p n symbol.Becomes t = provided (opens x Objects) (Take (initial_by x m >>= λ i. skip symbol.Semicolon (got (tree.assignment p n i))))
  name_turn p n symbol.Semicolon t = Take (got (tree.call p n))
  name_turn p n _ t = Refuse

  abbrev pub name_rest : Pos → Name → Reader Statement
  name_rest p n = on_token Refuse (name_turn p n)

  abbrev pub named_by : Pos → Reader Statement
  named_by p = at_name x m >>= name_rest p

  -- [WHEN expr]
  abbrev pub condition_turn : Symbol → Token → Turn (Option Expr)
  condition_turn symbol.When t = Take (at_expr x m >>= λ e. got (Some e))
  condition_turn _ t = Leave None

  abbrev pub condition_by : Reader (Option Expr)
  condition_by = on_token (Leave None) condition_turn

  -- [expr] before a semicolon
  abbrev pub result_turn : Symbol → Token → Turn (Option Expr)
  result_turn symbol.Semicolon t = Leave None
  result_turn _ t = provided (opens x Subprograms) (Look (at_expr x m >>= λ e. got (Some e)))

  abbrev pub result_by : Reader (Option Expr)
  result_by = on_token (Leave None) result_turn

  -- [name] before a semicolon
  abbrev pub raised_turn : Symbol → Token → Turn (Option Name)
  raised_turn symbol.Semicolon t = Leave None
  raised_turn _ t = Look (at_name x m >>= λ n. got (Some n))

  abbrev pub raised_by : Reader (Option Name)
  raised_by = on_token (Leave None) raised_turn

  -- a pragma, which stands at this place
  abbrev pub exemption_by : Pos → Reader Statement
  exemption_by p = pragma_by x m >>= λ a. got (tree.exemption p a)

  -- behind EXIT, RETURN and RAISE, which stand at this place
  abbrev pub exit_by : Pos → Reader Statement
  exit_by p = condition_by >>= λ e. skip symbol.Semicolon (got (tree.exit p e))

  abbrev pub return_by : Pos → Reader Statement
  return_by p = result_by >>= λ e. skip symbol.Semicolon (got (tree.returns p e))

  abbrev pub raise_by : Pos → Reader Statement
  raise_by p = raised_by >>= λ n. skip symbol.Semicolon (got (tree.raise p n))

-- `inner` reads statements within a statement
module _ (x : Extent) (inner : Reader (List Statement)) (m : ℕ) where
  -- expr THEN stmts
  abbrev pub branch_by : Reader (Expr × List Statement)
  branch_by = at_expr x m >>= λ e. skip symbol.Then (inner >>= λ ss. got (e, ss))

  abbrev pub branches_by : Reader Branches
  branches_by = repeat (listed_turn symbol.Elsif branch_by with_branch) (suc m) tree.no_branches

  abbrev pub else_turn : Symbol → Token → Turn (List Statement)
  else_turn symbol.Else t = Take inner
  else_turn _ t = Leave []

  abbrev pub else_by : Reader (List Statement)
  else_by = on_token (Leave []) else_turn

  -- behind IF, which stands at this place
  abbrev pub if_by : Pos → Reader Statement
  if_by p = branch_by >>= λ b. branches_by >>= λ bs. else_by >>= λ es. closing symbol.If (tree.conditional p b.0 (statements_of b.1) bs (statements_of es))

  -- choices, and the statements for them
  abbrev pub arm_by : {C : Type 0} → Reader C → Reader (C × List Statement)
  arm_by choices = choices >>= λ cs. skip symbol.Arrow (inner >>= λ ss. got (cs, ss))

  abbrev pub arms_by : {C S : Type 0} → Reader C → (S → C × List Statement → S) → S → Reader S
  arms_by choices add s = skip symbol.When (arm_by choices >>= λ a. repeat (listed_turn symbol.When (arm_by choices) add) (suc m) (add s a))

  abbrev pub alternatives_by : Reader Alternatives
  alternatives_by = arms_by (choices_by x m) with_alternative tree.no_alternatives

  -- behind CASE, which stands at this place
  abbrev pub case_by : Pos → Reader Statement
  case_by p = at_expr x m >>= λ e. skip symbol.Is (alternatives_by >>= λ alts. closing symbol.Case (tree.case_of p e alts))

  -- LOOP stmts END LOOP ;
  abbrev pub loop_by : Pos → LoopScheme → Reader Statement
  loop_by p s = skip symbol.Loop (inner >>= λ ss. closing symbol.Loop (tree.repeat p s (statements_of ss)))

  -- behind WHILE and FOR, which stand at this place
  abbrev pub while_by : Pos → Reader Statement
  while_by p = at_expr x m >>= λ e. loop_by p (While e)

  abbrev pub for_by : Pos → Reader Statement
  for_by p = expect symbol.Identifier >>= λ u. skip symbol.In (direction_by >>= λ d. range_by x m >>= λ r. loop_by p (For (identifier_of u) d r))

  -- [EXCEPTION handler {handler}]
  abbrev pub handlers_turn : Symbol → Token → Turn Handlers
  handlers_turn symbol.Exception t = provided (opens x Exceptions) (Take (arms_by (exceptions_by x m) with_handler tree.no_handlers))
  handlers_turn _ t = Leave tree.no_handlers

  abbrev pub handlers_by : Reader Handlers
  handlers_by = on_token (Leave tree.no_handlers) handlers_turn

  -- stmts [handlers]
  abbrev pub handled_by : Reader Handled
  handled_by = inner >>= λ ss. handlers_by >>= λ hs. got (tree.handled (statements_of ss) hs)

  -- behind BEGIN; the block stands at this place
  abbrev pub block_by : Pos → Option (List Declaration) → Reader Statement
  block_by p ds = handled_by >>= λ h. ending (tree.block p ds h)

  -- behind DECLARE, which stands at this place
  abbrev pub declaring_by : Pos → Reader Statement
  declaring_by p = declarations_by x m >>= λ ds. skip symbol.Begin (block_by p (Some ds))

  -- statements with statements in them
  abbrev pub compound_turn : Symbol → Token → Turn Statement
  compound_turn symbol.If t = provided (opens x Decisions) (Take (if_by t.pos))
  compound_turn symbol.Case t = provided (opens x Types) (Take (case_by t.pos))
  compound_turn symbol.Loop t = provided (opens x Decisions) (Look (loop_by t.pos Forever))
  compound_turn symbol.While t = provided (opens x Decisions) (Take (while_by t.pos))
  compound_turn symbol.For t = provided (opens x Types) (Take (for_by t.pos))
  compound_turn symbol.Begin t = provided (opens x Decisions) (Take (block_by t.pos None))
  compound_turn symbol.Declare t = provided (opens x Decisions) (Take (declaring_by t.pos))
  compound_turn _ t = Refuse

  abbrev pub compound_by : Reader Statement
  compound_by = on_token Refuse compound_turn

  abbrev pub statement_turn : Symbol → Token → Turn Statement
  statement_turn symbol.Null t = Take (null_by t.pos)
  statement_turn symbol.Identifier t = Look (named_by x m t.pos)
  statement_turn symbol.Pragma t = Look (exemption_by x m t.pos)
  statement_turn symbol.Exit t = provided (opens x Decisions) (Take (exit_by x m t.pos))
  statement_turn symbol.Return t = Take (return_by x m t.pos)
  statement_turn symbol.Raise t = provided (opens x Exceptions) (Take (raise_by x m t.pos))
  statement_turn _ t = Look compound_by

  abbrev pub statement_by : Reader Statement
  statement_by = on_token Refuse statement_turn

  abbrev pub statements_turn : Symbol → Token → List Statement → Turn (List Statement)
  statements_turn found t ss = cond (begins_statement found) (Look (statement_by >>= λ s. got (ss ++ s ∷ []))) (Leave ss)

  -- stmt {stmt}
  abbrev pub statements_by : Reader (List Statement)
  statements_by = statement_by >>= λ s. repeat statements_turn (suc m) (s ∷ [])

-- statements, with at most this many in one another
abbrev pub statements : Extent → ℕ → Reader (List Statement)
statements x zero = Stuck
statements x (suc m) = statements_by x (statements x m) m
