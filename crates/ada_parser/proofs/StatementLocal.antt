-- The reading of statements depends on the tokens up to its place alone.
use Rattle.std.proofs.Common.{ℕ, zero, suc, Bool, true, false, cond, List, [], ◌∷◌, ◌++◌, Option, Some, None}
use Rattle.cov_base.specs.declared.position.Pos.{Pos}
use Rattle.ada_lexer.specs.declared.token.Token.{Token}
use Rattle.ada_syntax.specs.Tree.{Expr, Name}
use Rattle.ada_syntax.specs.StatementTree as tree
use Rattle.ada_syntax.specs.StatementTree.{Statement, Handled}
use Rattle.ada_syntax.specs.StatementView.{statements_of}
use Rattle.ada_syntax.specs.declared.declaration.Declaration.{Declaration}
use Rattle.ada_syntax.specs.declared.statement.Choice.TheVariants as choice
use Rattle.ada_syntax.specs.declared.statement.ExceptionChoice.TheVariants as exception
use Rattle.ada_syntax.specs.declared.statement.LoopScheme.{LoopScheme}
use Rattle.ada_syntax.specs.declared.statement.LoopScheme.TheVariants.{Forever, While, For}
use Rattle.ada_syntax.specs.declared.statement.Direction.TheVariants.{Forward, Reverse}
use Rattle.expression_parser.specs.declared.symbol.Symbol.{Symbol}
use Rattle.expression_parser.specs.declared.symbol.Symbol.TheVariants as symbol
use Rattle.expression_parser.specs.declared.extent.Extent.{Extent}
use Rattle.expression_parser.specs.declared.extent.Extent.TheVariants.{Objects, Decisions, Types, Subprograms, Exceptions}
use Rattle.expression_parser.specs.Symbols.{same, identifier_of}
use Rattle.expression_parser.specs.Extents.{opens}
use Rattle.expression_parser.specs.Reading.{Reader, Refuse, Leave, Look, got, ◌>>=◌, expect, skip, repeat}
use Rattle.expression_parser.specs.Depth.{at_name, at_expr, at_simple}
use Rattle.expression_parser.specs.ExpressionReading as expressions
use Rattle.expression_parser.proofs.Agree.{Local, LocalTurn, stuck_local, got_local, on_local, bind_local, expect_local, skip_local, provided_local, repeat_local}
use Rattle.expression_parser.proofs.ExpressionLocal.{name_local, simple_local, expr_local, then_got, then_closed}
use Rattle.declaration_parser.specs.SubtypeReading.{initial_by, range_by}
use Rattle.declaration_parser.specs.DeclarationReading.{pragma_by, declarations_by}
use Rattle.ada_parser.specs.Lists.{listed, listed_turn, closing}
use Rattle.ada_parser.specs.Trees.{with_branch, with_alternative, with_handler}
use Rattle.ada_parser.specs.StatementReading as read
use Rattle.ada_parser.specs.StatementDepth.{at_handled}
use Rattle.ada_parser.proofs.Below.{LocalsBelow, locals_below}

listed_at : {A S : Type 0} (b : Bool) (item : Reader A) (add : S → A → S) (s : S) → Local item → LocalTurn (listed b item add s)
listed_at true item add s l = then_got item (add s) l
listed_at false item add s l = tt

-- a list whose further items stand behind a word
pub list_local : {A S : Type 0} (w : Symbol) (item : Reader A) (add : S → A → S) (n : ℕ) (s : S) → Local item → Local (repeat (listed_turn w item add) n s)
list_local w item add n s l = repeat_local (listed_turn w item add) (λ found t z. listed_at (same found w) item add z l) n s

pub closing_local : {A : Type 0} (s : Symbol) (a : A) → Local (closing s a)
closing_local s a = skip_local symbol.End (skip s (skip symbol.Semicolon (got a))) (skip_local s (skip symbol.Semicolon (got a)) (skip_local symbol.Semicolon (got a) (got_local a)))

direction_turn_local : (found : Symbol) (t : Token) → LocalTurn (read.direction_turn found t)
direction_turn_local symbol.Reverse t = got_local Reverse
direction_turn_local _ t = tt

direction_local : Local read.direction_by
direction_local = on_local (Leave Forward) read.direction_turn direction_turn_local

module _ (x : Extent) (m : ℕ) (below : LocalsBelow x m) where
  at_name_local : Local (at_name x m)
  at_name_local = name_local x (expressions.expr x m) (suc m) (expr_local x m)

  at_expr_local : Local (at_expr x m)
  at_expr_local = expr_local x (suc m)

  at_simple_local : Local (at_simple x m)
  at_simple_local = simple_local x (expressions.expr x m) (suc m) (expr_local x m)

  choice_rest_turn_local : (a : Expr) (found : Symbol) (t : Token) → LocalTurn (read.choice_rest_turn x m a found t)
  choice_rest_turn_local a symbol.DoubleDot t = then_got (at_simple x m) (λ b. choice.Range (record { low = a; high = b })) at_simple_local
  choice_rest_turn_local a _ t = tt

  choice_turn_local : (found : Symbol) (t : Token) → LocalTurn (read.choice_turn x m found t)
  choice_turn_local symbol.Others t = got_local (choice.Others t.pos)
  choice_turn_local _ t = bind_local (at_simple x m) (read.choice_rest x m) at_simple_local (λ a. on_local (Leave (choice.Value a)) (read.choice_rest_turn x m a) (choice_rest_turn_local a))

  choice_local : Local (read.choice_by x m)
  choice_local = on_local Refuse (read.choice_turn x m) choice_turn_local

  choices_local : Local (read.choices_by x m)
  choices_local = bind_local (read.choice_by x m) (λ c. repeat (listed_turn symbol.Bar (read.choice_by x m) read.pushed) (suc m) (c ∷ [])) choice_local
      (λ c. list_local symbol.Bar (read.choice_by x m) read.pushed (suc m) (c ∷ []) choice_local)

  exception_turn_local : (found : Symbol) (t : Token) → LocalTurn (read.exception_turn x m found t)
  exception_turn_local symbol.Others t = got_local (exception.Others t.pos)
  exception_turn_local _ t = then_got (at_name x m) (λ n. exception.Named n) at_name_local

  exception_local : Local (read.exception_by x m)
  exception_local = on_local Refuse (read.exception_turn x m) exception_turn_local

  exceptions_local : Local (read.exceptions_by x m)
  exceptions_local = bind_local (read.exception_by x m) (λ c. repeat (listed_turn symbol.Bar (read.exception_by x m) read.pushed) (suc m) (c ∷ [])) exception_local
      (λ c. list_local symbol.Bar (read.exception_by x m) read.pushed (suc m) (c ∷ []) exception_local)

  name_turn_local : (p : Pos) (n : Name) (found : Symbol) (t : Token) → LocalTurn (read.name_turn x m p n found t)
  name_turn_local p n symbol.Becomes t = provided_local (opens x Objects) _ (then_closed (initial_by x m) symbol.Semicolon (λ i. tree.assignment p n i) below.initial_local)
  name_turn_local p n symbol.Semicolon t = got_local (tree.call p n)
  name_turn_local p n _ t = tt

  named_local : (p : Pos) → Local (read.named_by x m p)
  named_local p = bind_local (at_name x m) (read.name_rest x m p) at_name_local (λ n. on_local Refuse (read.name_turn x m p n) (name_turn_local p n))

  condition_turn_local : (found : Symbol) (t : Token) → LocalTurn (read.condition_turn x m found t)
  condition_turn_local symbol.When t = then_got (at_expr x m) Some at_expr_local
  condition_turn_local _ t = tt

  exit_local : (p : Pos) → Local (read.exit_by x m p)
  exit_local p = then_closed (read.condition_by x m) symbol.Semicolon (λ e. tree.exit p e) (on_local (Leave None) (read.condition_turn x m) condition_turn_local)

  result_turn_local : (found : Symbol) (t : Token) → LocalTurn (read.result_turn x m found t)
  result_turn_local symbol.Semicolon t = tt
  result_turn_local _ t = provided_local (opens x Subprograms) (Look (at_expr x m >>= λ e. got (Some e))) (then_got (at_expr x m) Some at_expr_local)

  return_local : (p : Pos) → Local (read.return_by x m p)
  return_local p = then_closed (read.result_by x m) symbol.Semicolon (λ e. tree.returns p e) (on_local (Leave None) (read.result_turn x m) result_turn_local)

  raised_turn_local : (found : Symbol) (t : Token) → LocalTurn (read.raised_turn x m found t)
  raised_turn_local symbol.Semicolon t = tt
  raised_turn_local _ t = then_got (at_name x m) Some at_name_local

  raise_local : (p : Pos) → Local (read.raise_by x m p)
  raise_local p = then_closed (read.raised_by x m) symbol.Semicolon (λ n. tree.raise p n) (on_local (Leave None) (read.raised_turn x m) raised_turn_local)

  module _ (inner : Reader (List Statement)) (l : Local inner) where
    branch_local : Local (read.branch_by x inner m)
    branch_local = bind_local (at_expr x m) (λ e. skip symbol.Then (inner >>= λ ss. got (e, ss))) at_expr_local
        (λ e. skip_local symbol.Then (inner >>= λ ss. got (e, ss)) (then_got inner (λ ss. (e, ss)) l))

    else_turn_local : (found : Symbol) (t : Token) → LocalTurn (read.else_turn x inner m found t)
    else_turn_local symbol.Else t = l
    else_turn_local _ t = tt

    if_local : (p : Pos) → Local (read.if_by x inner m p)
    if_local p = bind_local (read.branch_by x inner m) _ branch_local
        (λ b. bind_local (read.branches_by x inner m) _ (list_local symbol.Elsif (read.branch_by x inner m) with_branch (suc m) tree.no_branches branch_local)
        (λ bs. bind_local (read.else_by x inner m) _ (on_local (Leave []) (read.else_turn x inner m) else_turn_local)
        (λ es. closing_local symbol.If (tree.conditional p b.0 (statements_of b.1) bs (statements_of es)))))

    arm_local : {C : Type 0} (choices : Reader C) → Local choices → Local (read.arm_by x inner m choices)
    arm_local choices c = bind_local choices (λ cs. skip symbol.Arrow (inner >>= λ ss. got (cs, ss))) c
        (λ cs. skip_local symbol.Arrow (inner >>= λ ss. got (cs, ss)) (then_got inner (λ ss. (cs, ss)) l))

    arms_local : {C S : Type 0} (choices : Reader C) (add : S → C × List Statement → S) (s : S) → Local choices → Local (read.arms_by x inner m choices add s)
    arms_local choices add s c = skip_local symbol.When (read.arm_by x inner m choices >>= λ a. repeat (listed_turn symbol.When (read.arm_by x inner m choices) add) (suc m) (add s a))
        (bind_local (read.arm_by x inner m choices) _ (arm_local choices c) (λ a. list_local symbol.When (read.arm_by x inner m choices) add (suc m) (add s a) (arm_local choices c)))

    case_local : (p : Pos) → Local (read.case_by x inner m p)
    case_local p = bind_local (at_expr x m) _ at_expr_local
        (λ e. skip_local symbol.Is (read.alternatives_by x inner m >>= λ alts. closing symbol.Case (tree.case_of p e alts))
        (bind_local (read.alternatives_by x inner m) _ (arms_local (read.choices_by x m) with_alternative tree.no_alternatives choices_local) (λ alts. closing_local symbol.Case (tree.case_of p e alts))))

    loop_local : (p : Pos) (s : LoopScheme) → Local (read.loop_by x inner m p s)
    loop_local p s = skip_local symbol.Loop (inner >>= λ ss. closing symbol.Loop (tree.repeat p s (statements_of ss))) (bind_local inner _ l (λ ss. closing_local symbol.Loop (tree.repeat p s (statements_of ss))))

    while_local : (p : Pos) → Local (read.while_by x inner m p)
    while_local p = bind_local (at_expr x m) _ at_expr_local (λ e. loop_local p (While e))

    for_local : (p : Pos) → Local (read.for_by x inner m p)
    for_local p = bind_local (expect symbol.Identifier) _ (expect_local symbol.Identifier)
        (λ u. skip_local symbol.In (read.direction_by >>= λ d. range_by x m >>= λ r. read.loop_by x inner m p (For (identifier_of u) d r))
        (bind_local read.direction_by _ direction_local (λ d. bind_local (range_by x m) _ below.range_local (λ r. loop_local p (For (identifier_of u) d r)))))

    handlers_turn_local : (found : Symbol) (t : Token) → LocalTurn (read.handlers_turn x inner m found t)
    handlers_turn_local symbol.Exception t = provided_local (opens x Exceptions) _ (arms_local (read.exceptions_by x m) with_handler tree.no_handlers exceptions_local)
    handlers_turn_local _ t = tt

    pub handlers_local : Local (read.handlers_by x inner m)
    handlers_local = on_local (Leave tree.no_handlers) (read.handlers_turn x inner m) handlers_turn_local

    pub handled_local : Local (read.handled_by x inner m)
    handled_local = bind_local inner _ l
        (λ ss. then_got (read.handlers_by x inner m) (λ hs. tree.handled (statements_of ss) hs) handlers_local)

    block_local : (p : Pos) (ds : Option (List Declaration)) → Local (read.block_by x inner m p ds)
    block_local p ds = bind_local (read.handled_by x inner m) _ handled_local
        (λ h. skip_local symbol.End (skip symbol.Semicolon (got (tree.block p ds h))) (skip_local symbol.Semicolon (got (tree.block p ds h)) (got_local (tree.block p ds h))))

    declaring_local : (p : Pos) → Local (read.declaring_by x inner m p)
    declaring_local p = bind_local (declarations_by x m) _ below.declarations_local (λ ds. skip_local symbol.Begin (read.block_by x inner m p (Some ds)) (block_local p (Some ds)))

    compound_turn_local : (found : Symbol) (t : Token) → LocalTurn (read.compound_turn x inner m found t)
    compound_turn_local symbol.If t = provided_local (opens x Decisions) _ (if_local t.pos)
    compound_turn_local symbol.Case t = provided_local (opens x Types) _ (case_local t.pos)
    compound_turn_local symbol.Loop t = provided_local (opens x Decisions) (Look (read.loop_by x inner m t.pos Forever)) (loop_local t.pos Forever)
    compound_turn_local symbol.While t = provided_local (opens x Decisions) _ (while_local t.pos)
    compound_turn_local symbol.For t = provided_local (opens x Types) _ (for_local t.pos)
    compound_turn_local symbol.Begin t = provided_local (opens x Decisions) _ (block_local t.pos None)
    compound_turn_local symbol.Declare t = provided_local (opens x Decisions) _ (declaring_local t.pos)
    compound_turn_local _ t = tt

    compound_local : Local (read.compound_by x inner m)
    compound_local = on_local Refuse (read.compound_turn x inner m) compound_turn_local

    turn_local : (found : Symbol) (t : Token) → LocalTurn (read.statement_turn x inner m found t)
    turn_local symbol.Null t = skip_local symbol.Semicolon (got (tree.null t.pos)) (got_local (tree.null t.pos))
    turn_local symbol.Identifier t = named_local t.pos
    turn_local symbol.Pragma t = then_got (pragma_by x m) (λ a. tree.exemption t.pos a) below.pragma_local
    turn_local symbol.Exit t = provided_local (opens x Decisions) _ (exit_local t.pos)
    turn_local symbol.Return t = return_local t.pos
    turn_local symbol.Raise t = provided_local (opens x Exceptions) _ (raise_local t.pos)
    turn_local _ t = compound_local

    pub statement_local : Local (read.statement_by x inner m)
    statement_local = on_local Refuse (read.statement_turn x inner m) turn_local

    another_local : (b : Bool) (ss : List Statement) → LocalTurn (cond b (Look (read.statement_by x inner m >>= λ s. got (ss ++ s ∷ []))) (Leave ss))
    another_local true ss = then_got (read.statement_by x inner m) (λ s. ss ++ s ∷ []) statement_local
    another_local false ss = tt

    pub statements_by_local : Local (read.statements_by x inner m)
    statements_by_local = bind_local (read.statement_by x inner m) _ statement_local
        (λ s. repeat_local (read.statements_turn x inner m) (λ found t ss. another_local (read.begins_statement found) ss) (suc m) (s ∷ []))

pub statements_local : (x : Extent) (m : ℕ) → Local (read.statements x m)
statements_local x zero = stuck_local
statements_local x (suc m) = statements_by_local x m (locals_below x m) (read.statements x m) (statements_local x m)

-- behind BEGIN
pub at_handled_local : (x : Extent) (m : ℕ) → Local (at_handled x m)
at_handled_local x m = handled_local x (suc m) (locals_below x (suc m)) (read.statements x (suc m)) (statements_local x (suc m))
