-- What is read of a statement derives the tokens.
use Rattle.std.proofs.Common.{◌≡◌, ℕ, zero, suc, Bool, true, false, cond, List, [], ◌∷◌, ◌++◌, Option, Some, None, subst}
use Rattle.cov_base.specs.declared.position.Pos.{Pos}
use Rattle.ada_lexer.specs.declared.token.Token.{Token}
use Rattle.ada_syntax.specs.Tree.{Expr, Name}
use Rattle.ada_syntax.specs.StatementTree as tree
use Rattle.ada_syntax.specs.StatementTree.{Statement, Branches, Alternatives, Handlers, Handled}
use Rattle.ada_syntax.specs.StatementView.{statements_of}
use Rattle.ada_syntax.specs.declared.declaration.Declaration.{Declaration}
use Rattle.ada_syntax.specs.declared.statement.Choice.TheVariants as choice
use Rattle.ada_syntax.specs.declared.statement.ExceptionChoice.TheVariants as exception
use Rattle.ada_syntax.specs.declared.statement.LoopScheme.{LoopScheme}
use Rattle.ada_syntax.specs.declared.statement.LoopScheme.TheVariants.{Forever, While, For}
use Rattle.ada_syntax.specs.declared.statement.Direction.TheVariants.{Forward}
use Rattle.expression_parser.specs.declared.symbol.Symbol.{Symbol}
use Rattle.expression_parser.specs.declared.symbol.Symbol.TheVariants as symbol
use Rattle.expression_parser.specs.declared.extent.Extent.{Extent}
use Rattle.expression_parser.specs.declared.extent.Extent.TheVariants.{Objects, Decisions, Types, Subprograms, Exceptions}
use Rattle.expression_parser.specs.Symbols.{Is, identifier_of}
use Rattle.expression_parser.specs.Extents.{opens}
use Rattle.expression_parser.specs.Reading.{Tokens, Reader, Refuse, Leave, Look, got, ◌>>=◌, skip}
use Rattle.expression_parser.specs.Expressions.{IsExpr, sums, expression, IsName}
use Rattle.expression_parser.specs.ExpressionReading as expressions
use Rattle.expression_parser.specs.Depth.{at_name, at_expr, at_simple}
use Rattle.expression_parser.proofs.Yields.{Yields, YieldsTurn, provided_yields, repeat_yields, weaken}
use Rattle.expression_parser.proofs.ExpressionSound.{name_sound, simple_sound, expr_sound, first_of_name}
use Rattle.declaration_parser.specs.Subtypes.{IsInitial, IsRange}
use Rattle.declaration_parser.specs.Declarations.{IsPragma, AreDeclarations}
use Rattle.declaration_parser.specs.SubtypeReading.{initial_by, range_by}
use Rattle.declaration_parser.specs.DeclarationReading.{pragma_by, declarations_by}
use Rattle.ada_parser.specs.Words.{Word, word}
use Rattle.ada_parser.specs.Trees.{with_branch, with_alternative, with_handler}
use Rattle.ada_parser.specs.Statements.{IsChoice, a_value, a_range, other_values, AreChoices, one_choice, more_choices, IsException, a_named, other_exceptions, AreExceptions, one_exception, more_exceptions, HasCondition, no_condition, a_condition, HasResult, no_result, a_result, HasException, no_exception, an_exception, IsDirection, forward, backward, IsStatement, a_null, an_assignment, a_call, an_exemption, an_if, a_case, an_endless_loop, a_while, a_for, an_exit, a_return, a_raise, a_block, a_declaring_block, AreStatements, one_statement, more_statements, IsBranch, a_branch, AreBranches, no_branches, more_branches, HasElse, no_else, an_else, IsAlternative, an_alternative, AreAlternatives, one_alternative, more_alternatives, IsLoop, a_loop, IsHandler, a_handler, AreHandlers, one_handler, more_handlers, HasHandlers, no_handlers, some_handlers, IsHandled, a_sequence}
use Rattle.ada_parser.specs.StatementReading as read
use Rattle.ada_parser.specs.StatementDepth.{at_handled}
use Rattle.ada_parser.proofs.Below.{SoundBelow, sound_below}
use Rattle.ada_parser.proofs.Sound.{Sound, and_then, behind_word, behind_identifier, behind_closing, by_token, rest_by_token, list_sound}

direction_step : (found : Symbol) (t : Token) (us : Tokens) → Is found t → YieldsTurn (λ d rest. IsDirection d (t ∷ us) rest) (read.direction_turn found t) t us
direction_step symbol.Reverse t us i = backward (word i)
direction_step _ t us i = forward

direction_sound : Sound read.direction_by IsDirection
direction_sound = by_token (Leave Forward) read.direction_turn IsDirection forward direction_step

module _ (x : Extent) (m : ℕ) (below : SoundBelow x m) where
  names : Sound (at_name x m) (IsName x)
  names = record { by = name_sound x (expressions.expr x m) (suc m) (expr_sound x m) }

  exprs : Sound (at_expr x m) (IsExpr x expression)
  exprs = record { by = expr_sound x (suc m) }

  simples : Sound (at_simple x m) (IsExpr x sums)
  simples = record { by = simple_sound x (expressions.expr x m) (suc m) (expr_sound x m) }

  initials : Sound (initial_by x m) (IsInitial x)
  initials = record { by = below.initial_sound }

  ranges : Sound (range_by x m) (IsRange x)
  ranges = record { by = below.range_sound }

  pragmas : Sound (pragma_by x m) (IsPragma x)
  pragmas = record { by = below.pragma_sound }

  local_declarations : Sound (declarations_by x m) (AreDeclarations x)
  local_declarations = record { by = below.declarations_sound }

  -- choices
  choice_end : (ts : Tokens) (a : Expr) (found : Symbol) (t : Token) (us : Tokens) → Is found t → IsExpr x sums a ts (t ∷ us) → YieldsTurn (λ c rest. IsChoice x c ts rest) (read.choice_rest_turn x m a found t) t us
  choice_end ts a symbol.DoubleDot t us i d = and_then _ (λ b. got (choice.Range (record { low = a; high = b }))) us simples (λ b rest p. a_range d (word i) p)
  choice_end ts a _ t us i d = a_value d

  choice_rest_sound : (ts us : Tokens) (a : Expr) → IsExpr x sums a ts us → Yields (λ c rest. IsChoice x c ts rest) (read.choice_rest x m a us)
  choice_rest_sound ts us a d = rest_by_token (Leave (choice.Value a)) (read.choice_rest_turn x m a) (λ c rest. IsChoice x c ts rest) (λ vs. IsExpr x sums a ts vs) (λ p. a_value p) (λ found t vs i p. choice_end ts a found t vs i p) us d

  choice_step : (found : Symbol) (t : Token) (us : Tokens) → Is found t → YieldsTurn (λ c rest. IsChoice x c (t ∷ us) rest) (read.choice_turn x m found t) t us
  choice_step symbol.Others t us i = other_values i
  choice_step _ t us i = and_then _ (read.choice_rest x m) (t ∷ us) simples (λ a mid d. choice_rest_sound (t ∷ us) mid a d)

  choice_sound : Sound (read.choice_by x m) (IsChoice x)
  choice_sound = by_token Refuse (read.choice_turn x m) (IsChoice x) tt choice_step

  choices_sound : Sound (read.choices_by x m) (AreChoices x)
  choices_sound = record {
    by = λ ts. and_then _ _ ts choice_sound (λ c us d. list_sound symbol.Bar (read.choice_by x m) read.pushed (IsChoice x) (λ cs rest. AreChoices x cs ts rest) choice_sound (λ cs c vs ws rest l w p. more_choices l w p) (suc m) (c ∷ []) us (one_choice d));
  }

  exception_step : (found : Symbol) (t : Token) (us : Tokens) → Is found t → YieldsTurn (λ c rest. IsException x c (t ∷ us) rest) (read.exception_turn x m found t) t us
  exception_step symbol.Others t us i = other_exceptions i
  exception_step _ t us i = and_then _ (λ n. got (exception.Named n)) (t ∷ us) names (λ n rest d. a_named d)

  exception_sound : Sound (read.exception_by x m) (IsException x)
  exception_sound = by_token Refuse (read.exception_turn x m) (IsException x) tt exception_step

  exceptions_sound : Sound (read.exceptions_by x m) (AreExceptions x)
  exceptions_sound = record {
    by = λ ts. and_then _ _ ts exception_sound
        (λ c us d. list_sound symbol.Bar (read.exception_by x m) read.pushed (IsException x) (λ cs rest. AreExceptions x cs ts rest) exception_sound (λ cs c vs ws rest l w p. more_exceptions l w p) (suc m) (c ∷ []) us (one_exception d));
  }

  -- simple statements
  name_end : (t : Token) (n : Name) (ts : Tokens) (found : Symbol) (u : Token) (us : Tokens) → Is found u → IsName x n (t ∷ ts) (u ∷ us) → YieldsTurn (λ s rest. IsStatement x s (t ∷ ts) rest) (read.name_turn x m t.pos n found u) u us
  name_end t n ts symbol.Becomes u us i d = provided_yields (λ s rest. IsStatement x s (t ∷ ts) rest) (opens x Objects) _ u us
      (λ o. and_then _ (λ z. skip symbol.Semicolon (got (tree.assignment t.pos n z))) us initials
      (λ v vs p. behind_word _ symbol.Semicolon (got (tree.assignment t.pos n v)) vs (λ rest w. subst (λ p. IsStatement x (tree.assignment p n v) (t ∷ ts) rest) (first_of_name x d) (an_assignment o d (word i) p w))))
  name_end t n ts symbol.Semicolon u us i d = subst (λ p. IsStatement x (tree.call p n) (t ∷ ts) us) (first_of_name x d) (a_call d (word i))
  name_end t n ts _ u us i d = tt

  named_sound : (t : Token) (ts : Tokens) → Yields (λ s rest. IsStatement x s (t ∷ ts) rest) (read.named_by x m t.pos (t ∷ ts))
  named_sound t ts = and_then _ (read.name_rest x m t.pos) (t ∷ ts) names
      (λ n us d. rest_by_token Refuse (read.name_turn x m t.pos n) (λ s rest. IsStatement x s (t ∷ ts) rest) (λ vs. IsName x n (t ∷ ts) vs) (λ p. tt) (λ found u vs i p. name_end t n ts found u vs i p) us d)

  condition_step : (found : Symbol) (t : Token) (us : Tokens) → Is found t → YieldsTurn (λ e rest. HasCondition x e (t ∷ us) rest) (read.condition_turn x m found t) t us
  condition_step symbol.When t us i = and_then _ (λ e. got (Some e)) us exprs (λ e rest d. a_condition (word i) d)
  condition_step _ t us i = no_condition

  condition_sound : Sound (read.condition_by x m) (HasCondition x)
  condition_sound = by_token (Leave None) (read.condition_turn x m) (HasCondition x) no_condition condition_step

  result_step : (found : Symbol) (t : Token) (us : Tokens) → Is found t → YieldsTurn (λ e rest. HasResult x e (t ∷ us) rest) (read.result_turn x m found t) t us
  result_step symbol.Semicolon t us i = no_result
  result_step _ t us i = provided_yields (λ e rest. HasResult x e (t ∷ us) rest) (opens x Subprograms) _ t us (λ o. and_then _ (λ e. got (Some e)) (t ∷ us) exprs (λ e rest d. a_result o d))

  result_sound : Sound (read.result_by x m) (HasResult x)
  result_sound = by_token (Leave None) (read.result_turn x m) (HasResult x) no_result result_step

  raised_step : (found : Symbol) (t : Token) (us : Tokens) → Is found t → YieldsTurn (λ n rest. HasException x n (t ∷ us) rest) (read.raised_turn x m found t) t us
  raised_step symbol.Semicolon t us i = no_exception
  raised_step _ t us i = and_then _ (λ n. got (Some n)) (t ∷ us) names (λ n rest d. an_exception d)

  raised_sound : Sound (read.raised_by x m) (HasException x)
  raised_sound = by_token (Leave None) (read.raised_turn x m) (HasException x) no_exception raised_step

  -- statements within a statement
  module _ (inner : Reader (List Statement)) (sequences : Sound inner (AreStatements x)) where
    branch_sound : Sound (read.branch_by x inner m) (λ b ts rest. IsBranch x b.0 b.1 ts rest)
    branch_sound = record {
      by = λ ts. and_then _ (λ e. skip symbol.Then (inner >>= λ ss. got (e, ss))) ts exprs
          (λ e us d. behind_word _ symbol.Then (inner >>= λ ss. got (e, ss)) us (λ vs w. and_then _ (λ ss. got (e, ss)) vs sequences (λ ss rest l. a_branch d w l)));
    }

    branches_sound : Sound (read.branches_by x inner m) (AreBranches x)
    branches_sound = record {
      by = λ ts. list_sound symbol.Elsif (read.branch_by x inner m) with_branch (λ b us rest. IsBranch x b.0 b.1 us rest) (λ bs rest. AreBranches x bs ts rest) branch_sound (λ bs b us vs rest l w d. more_branches l w d) (suc m) tree.no_branches ts no_branches;
    }

    else_step : (found : Symbol) (t : Token) (us : Tokens) → Is found t → YieldsTurn (λ ss rest. HasElse x ss (t ∷ us) rest) (read.else_turn x inner m found t) t us
    else_step symbol.Else t us i = weaken (λ ss rest. AreStatements x ss us rest) (λ ss rest. HasElse x ss (t ∷ us) rest) (inner us) (sequences.by us) (λ ss rest l. an_else (word i) l)
    else_step _ t us i = no_else

    else_sound : Sound (read.else_by x inner m) (HasElse x)
    else_sound = by_token (Leave []) (read.else_turn x inner m) (HasElse x) no_else else_step

    if_sound : (t : Token) (ts : Tokens) → opens x Decisions ≡ true → Is symbol.If t → Yields (λ s rest. IsStatement x s (t ∷ ts) rest) (read.if_by x inner m t.pos ts)
    if_sound t ts o i = and_then _ _ ts branch_sound
        (λ b us d. and_then _ _ us branches_sound
        (λ bs vs l. and_then _ _ vs else_sound
        (λ es ws e. behind_closing _ symbol.If (tree.conditional t.pos b.0 (statements_of b.1) bs (statements_of es)) ws (λ rest c. an_if o i d l e c))))

    -- choices, and the statements for them
    module _ {C : Type 0} (choices : Reader C) (P : C → Tokens → Tokens → Type 0) (sound : Sound choices P) where
      arm_sound : (R : C → List Statement → Tokens → Tokens → Type 0) → ((cs : C) (ss : List Statement) (ts us vs rest : Tokens) → P cs ts us → Word symbol.Arrow us vs → AreStatements x ss vs rest → R cs ss ts rest)
          → Sound (read.arm_by x inner m choices) (λ a ts rest. R a.0 a.1 ts rest)
      arm_sound R h = record {
        by = λ ts. and_then _ (λ cs. skip symbol.Arrow (inner >>= λ ss. got (cs, ss))) ts sound
            (λ cs us d. behind_word _ symbol.Arrow (inner >>= λ ss. got (cs, ss)) us (λ vs w. and_then _ (λ ss. got (cs, ss)) vs sequences (λ ss rest l. h cs ss ts us vs rest d w l)));
      }

    alternative_sound : Sound (read.arm_by x inner m (read.choices_by x m)) (λ a ts rest. IsAlternative x a.0 a.1 ts rest)
    alternative_sound = arm_sound (read.choices_by x m) (AreChoices x) choices_sound (IsAlternative x) (λ cs ss ts us vs rest d w l. an_alternative d w l)

    alternatives_sound : Sound (read.alternatives_by x inner m) (AreAlternatives x)
    alternatives_sound = record {
      by = λ ts. behind_word _ symbol.When _ ts
          (λ us w. and_then _ _ us alternative_sound
          (λ a vs d. list_sound symbol.When (read.arm_by x inner m (read.choices_by x m)) with_alternative (λ b zs rest. IsAlternative x b.0 b.1 zs rest) (λ alts rest. AreAlternatives x alts ts rest) alternative_sound
          (λ alts b zs ws rest l w d. more_alternatives l w d) (suc m) (with_alternative tree.no_alternatives a) vs (one_alternative w d)));
    }

    handler_sound : Sound (read.arm_by x inner m (read.exceptions_by x m)) (λ a ts rest. IsHandler x a.0 a.1 ts rest)
    handler_sound = arm_sound (read.exceptions_by x m) (AreExceptions x) exceptions_sound (IsHandler x) (λ cs ss ts us vs rest d w l. a_handler d w l)

    handler_list_sound : Sound (read.arms_by x inner m (read.exceptions_by x m) with_handler tree.no_handlers) (AreHandlers x)
    handler_list_sound = record {
      by = λ ts. behind_word _ symbol.When _ ts
          (λ us w. and_then _ _ us handler_sound
          (λ a vs d. list_sound symbol.When (read.arm_by x inner m (read.exceptions_by x m)) with_handler (λ b zs rest. IsHandler x b.0 b.1 zs rest) (λ hs rest. AreHandlers x hs ts rest) handler_sound
          (λ hs b zs ws rest l w d. more_handlers l w d) (suc m) (with_handler tree.no_handlers a) vs (one_handler w d)));
    }

    case_sound : (t : Token) (ts : Tokens) → opens x Types ≡ true → Is symbol.Case t → Yields (λ s rest. IsStatement x s (t ∷ ts) rest) (read.case_by x inner m t.pos ts)
    case_sound t ts o i = and_then _ _ ts exprs
        (λ e us d. behind_word _ symbol.Is _ us (λ vs w. and_then _ _ vs alternatives_sound (λ alts ws l. behind_closing _ symbol.Case (tree.case_of t.pos e alts) ws (λ rest c. a_case o i d w l c))))

    loop_sound : (p : Pos) (s : LoopScheme) (ts : Tokens) (Q : Statement → Tokens → Type 0) → ((ss : List Statement) (rest : Tokens) → IsLoop x ss ts rest → Q (tree.repeat p s (statements_of ss)) rest) → Yields Q (read.loop_by x inner m p s ts)
    loop_sound p s ts Q h = behind_word _ symbol.Loop _ ts (λ us w. and_then _ _ us sequences (λ ss vs l. behind_closing _ symbol.Loop (tree.repeat p s (statements_of ss)) vs (λ rest c. h ss rest (a_loop w l c))))

    while_sound : (t : Token) (ts : Tokens) → opens x Decisions ≡ true → Is symbol.While t → Yields (λ s rest. IsStatement x s (t ∷ ts) rest) (read.while_by x inner m t.pos ts)
    while_sound t ts o i = and_then _ _ ts exprs (λ e us d. loop_sound t.pos (While e) us _ (λ ss rest l. a_while o i d l))

    for_sound : (t : Token) (ts : Tokens) → opens x Types ≡ true → Is symbol.For t → Yields (λ s rest. IsStatement x s (t ∷ ts) rest) (read.for_by x inner m t.pos ts)
    for_sound t ts o i = behind_identifier _ _ ts
        (λ u us n. behind_word _ symbol.In _ us
        (λ vs w. and_then _ _ vs direction_sound
        (λ d ws p. and_then _ _ ws ranges
        (λ r zs q. loop_sound t.pos (For (identifier_of u) d r) zs _ (λ ss rest l. a_for o i n w p q l)))))

    handlers_step : (found : Symbol) (t : Token) (us : Tokens) → Is found t → YieldsTurn (λ hs rest. HasHandlers x hs (t ∷ us) rest) (read.handlers_turn x inner m found t) t us
    handlers_step symbol.Exception t us i = provided_yields (λ hs rest. HasHandlers x hs (t ∷ us) rest) (opens x Exceptions) _ t us
        (λ o. weaken (λ hs rest. AreHandlers x hs us rest) (λ hs rest. HasHandlers x hs (t ∷ us) rest) _ (handler_list_sound.by us) (λ hs rest l. some_handlers o (word i) l))
    handlers_step _ t us i = no_handlers

    handlers_sound : Sound (read.handlers_by x inner m) (HasHandlers x)
    handlers_sound = by_token (Leave tree.no_handlers) (read.handlers_turn x inner m) (HasHandlers x) no_handlers handlers_step

    pub handled_sound : Sound (read.handled_by x inner m) (IsHandled x)
    handled_sound = record { by = λ ts. and_then _ _ ts sequences (λ ss us l. and_then _ _ us handlers_sound (λ hs rest h. a_sequence l h)) }

    block_sound : (p : Pos) (ds : Option (List Declaration)) (ts : Tokens) (Q : Statement → Tokens → Type 0)
        → ((h : Handled) (us vs rest : Tokens) → IsHandled x h ts us → Word symbol.End us vs → Word symbol.Semicolon vs rest → Q (tree.block p ds h) rest) → Yields Q (read.block_by x inner m p ds ts)
    block_sound p ds ts Q f = and_then _ _ ts handled_sound (λ h us d. behind_word _ symbol.End _ us (λ vs a. behind_word _ symbol.Semicolon (got (tree.block p ds h)) vs (λ rest b. f h us vs rest d a b)))

    declaring_sound : (t : Token) (ts : Tokens) → opens x Decisions ≡ true → Is symbol.Declare t → Yields (λ s rest. IsStatement x s (t ∷ ts) rest) (read.declaring_by x inner m t.pos ts)
    declaring_sound t ts o i = and_then _ _ ts local_declarations (λ ds us d. behind_word _ symbol.Begin _ us (λ vs w. block_sound t.pos (Some ds) vs _ (λ h ws zs rest p a b. a_declaring_block o i d w p a b)))

    compound_step : (found : Symbol) (t : Token) (us : Tokens) → Is found t → YieldsTurn (λ s rest. IsStatement x s (t ∷ us) rest) (read.compound_turn x inner m found t) t us
    compound_step symbol.If t us i = provided_yields (λ s rest. IsStatement x s (t ∷ us) rest) (opens x Decisions) _ t us (λ o. if_sound t us o i)
    compound_step symbol.Case t us i = provided_yields (λ s rest. IsStatement x s (t ∷ us) rest) (opens x Types) _ t us (λ o. case_sound t us o i)
    compound_step symbol.Loop t us i = provided_yields (λ s rest. IsStatement x s (t ∷ us) rest) (opens x Decisions) _ t us (λ o. loop_sound t.pos Forever (t ∷ us) _ (λ ss rest l. an_endless_loop o l))
    compound_step symbol.While t us i = provided_yields (λ s rest. IsStatement x s (t ∷ us) rest) (opens x Decisions) _ t us (λ o. while_sound t us o i)
    compound_step symbol.For t us i = provided_yields (λ s rest. IsStatement x s (t ∷ us) rest) (opens x Types) _ t us (λ o. for_sound t us o i)
    compound_step symbol.Begin t us i = provided_yields (λ s rest. IsStatement x s (t ∷ us) rest) (opens x Decisions) _ t us (λ o. block_sound t.pos None us _ (λ h vs ws rest p a b. a_block o i p a b))
    compound_step symbol.Declare t us i = provided_yields (λ s rest. IsStatement x s (t ∷ us) rest) (opens x Decisions) _ t us (λ o. declaring_sound t us o i)
    compound_step _ t us i = tt

    compound_sound : Sound (read.compound_by x inner m) (IsStatement x)
    compound_sound = by_token Refuse (read.compound_turn x inner m) (IsStatement x) tt compound_step

    step : (found : Symbol) (t : Token) (us : Tokens) → Is found t → YieldsTurn (λ s rest. IsStatement x s (t ∷ us) rest) (read.statement_turn x inner m found t) t us
    step symbol.Null t us i = behind_word _ symbol.Semicolon (got (tree.null t.pos)) us (λ rest w. a_null i w)
    step symbol.Identifier t us i = named_sound t us
    step symbol.Pragma t us i = and_then _ (λ a. got (tree.exemption t.pos a)) (t ∷ us) pragmas (λ a rest d. an_exemption d)
    step symbol.Exit t us i = provided_yields (λ s rest. IsStatement x s (t ∷ us) rest) (opens x Decisions) _ t us
        (λ o. and_then _ _ us condition_sound (λ e vs d. behind_word _ symbol.Semicolon (got (tree.exit t.pos e)) vs (λ rest w. an_exit o i d w)))
    step symbol.Return t us i = and_then _ _ us result_sound (λ e vs d. behind_word _ symbol.Semicolon (got (tree.returns t.pos e)) vs (λ rest w. a_return i d w))
    step symbol.Raise t us i = provided_yields (λ s rest. IsStatement x s (t ∷ us) rest) (opens x Exceptions) _ t us
        (λ o. and_then _ _ us raised_sound (λ n vs d. behind_word _ symbol.Semicolon (got (tree.raise t.pos n)) vs (λ rest w. a_raise o i d w)))
    step _ t us i = compound_sound.by (t ∷ us)

    statement_sound : Sound (read.statement_by x inner m) (IsStatement x)
    statement_sound = by_token Refuse (read.statement_turn x inner m) (IsStatement x) tt step

    another_sound : (b : Bool) (ts us : Tokens) (t : Token) (ss : List Statement) → AreStatements x ss ts (t ∷ us) → YieldsTurn (λ zs rest. AreStatements x zs ts rest) (cond b (Look (read.statement_by x inner m >>= λ s. got (ss ++ s ∷ []))) (Leave ss)) t us
    another_sound true ts us t ss l = and_then _ (λ s. got (ss ++ s ∷ [])) (t ∷ us) statement_sound (λ s rest d. more_statements l d)
    another_sound false ts us t ss l = l

    pub statements_by_sound : Sound (read.statements_by x inner m) (AreStatements x)
    statements_by_sound = record {
      by = λ ts. and_then _ _ ts statement_sound
          (λ s us d. repeat_yields (λ zs rest. AreStatements x zs ts rest) (read.statements_turn x inner m) (λ found t ss vs i l. another_sound (read.begins_statement found) ts vs t ss l) (suc m) (s ∷ []) us (one_statement d));
    }

pub statements_sound : (x : Extent) (m : ℕ) → Sound (read.statements x m) (AreStatements x)
statements_sound x zero = record { by = λ ts. tt }
statements_sound x (suc m) = statements_by_sound x m (sound_below x m) (read.statements x m) (statements_sound x m)

-- behind BEGIN
pub at_handled_sound : (x : Extent) (m : ℕ) → Sound (at_handled x m) (IsHandled x)
at_handled_sound x m = handled_sound x (suc m) (sound_below x (suc m)) (read.statements x (suc m)) (statements_sound x (suc m))
