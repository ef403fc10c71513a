-- How statements with statements in them are read, answer by answer.
use Rattle.std.proofs.Common.{◌≡◌, ℕ, suc, ◌<◌, ◌≤◌, true, false, List, [], ◌∷◌, ◌++◌, length, Option, Some, None, refl, ap, sym, ◌∙◌, subst, arith}
use Rattle.cov_base.specs.declared.position.Pos.{Pos}
use Rattle.ada_lexer.specs.declared.token.Token.{Token}
use Rattle.ada_syntax.specs.Tree.{Expr}
use Rattle.ada_syntax.specs.StatementTree as tree
use Rattle.ada_syntax.specs.StatementTree.{Statement, Branches, Alternatives, Handlers, Handled}
use Rattle.ada_syntax.specs.StatementView.{statements_of, branches_of}
use Rattle.ada_syntax.specs.declared.name.Identifier.{Identifier}
use Rattle.ada_syntax.specs.declared.declaration.Declaration.{Declaration}
use Rattle.ada_syntax.specs.declared.declaration.DiscreteRange.{DiscreteRange}
use Rattle.ada_syntax.specs.declared.statement.Branch.{Branch}
use Rattle.ada_syntax.specs.declared.statement.LoopScheme.{LoopScheme}
use Rattle.ada_syntax.specs.declared.statement.LoopScheme.TheVariants.{Forever, While, For}
use Rattle.ada_syntax.specs.declared.statement.Direction.{Direction}
use Rattle.expression_parser.specs.declared.symbol.Symbol.{Symbol}
use Rattle.expression_parser.specs.declared.symbol.Symbol.TheVariants as symbol
use Rattle.expression_parser.specs.declared.extent.Extent.{Extent}
use Rattle.expression_parser.specs.declared.extent.Extent.TheVariants.{Decisions, Types}
use Rattle.expression_parser.specs.Symbols.{symbol_of, same, Is, identifier_of}
use Rattle.expression_parser.specs.Extents.{opens}
use Rattle.expression_parser.specs.Reading.{Tokens, Reading, Reader, Got, Stuck, Turn, Refuse, Leave, Take, Look, got, goes_on, ◌>>=◌, provided, expect, skip}
use Rattle.expression_parser.specs.Depth.{at_expr}
use Rattle.expression_parser.specs.Shows.{Reads, More, Skipped, Identified, after}
use Rattle.expression_parser.proofs.Comes.{got_bind}
use Rattle.expression_parser.proofs.NameCode.{after_some, after_none}
use Rattle.declaration_parser.specs.SubtypeReading.{range_by}
use Rattle.declaration_parser.specs.DeclarationReading.{declarations_by}
use Rattle.ada_parser.specs.Lists.{closing, ending, before}
use Rattle.ada_parser.specs.Endings.{Closed, NotClosed, Ended, NotEnded}
use Rattle.ada_parser.specs.Trees.{with_branch}
use Rattle.ada_parser.specs.Parts.{branch_parts}
use Rattle.ada_parser.specs.Bodies.{at_if_rest, at_case_arms}
use Rattle.ada_parser.specs.StatementReading as read
use Rattle.ada_parser.specs.StatementDepth as at
use Rattle.ada_parser.proofs.ArmCode.{inner_then, inner_stuck, behind_fails}
use Rattle.ada_parser.proofs.BeforeWords.{before_then, before_stuck}
use Rattle.ada_parser.proofs.Steps.{both, first_fails, word_then, no_word, deeper, takes, takes_deeper, looks, leaves, turns, list_step, list_step_fail, list_end, closing_then, no_closing, ending_then, no_ending}

branches_push : (zs : List Branch) (a : Branch) → branches_of (zs ++ a ∷ []) ≡ with_branch (branches_of zs) (branch_parts a)
branches_push [] a = refl
branches_push (z ∷ zs) a = ap (λ r. tree.branch z.condition (statements_of z.statements.items) r) (branches_push zs a)

module _ (x : Extent) where
  -- expr THEN stmts
  abbrev branch_rest : ℕ → Expr → Reader (Expr × List Statement)
  branch_rest m e = read.statements x m >>= λ ss. got (e, ss)

  pub branch_read : (ts us rest : Tokens) (e : Expr) (ss : List Statement) → Reads (before symbol.Then (at_expr x)) ts (Got e us) → length us < length ts → Reads (at.at_statements x) us (Got ss rest) → Reads (at.at_branch x) ts (Got (e, ss) rest)
  branch_read ts us rest e ss r l s = before_then symbol.Then (at_expr x) branch_rest ts us e (Got (e, ss) rest) r l (inner_then x (λ zs. (e, zs)) s)

  pub branch_fail : (ts rest : Tokens) → Reads (before symbol.Then (at_expr x)) ts (Stuck rest) → Reads (at.at_branch x) ts (Stuck rest)
  branch_fail ts rest r = before_stuck symbol.Then (at_expr x) branch_rest ts rest r

  pub branch_empty : (ts us rest : Tokens) (e : Expr) → Reads (before symbol.Then (at_expr x)) ts (Got e us) → length us < length ts → Reads (at.at_statements x) us (Stuck rest) → Reads (at.at_branch x) ts (Stuck rest)
  branch_empty ts us rest e r l s = before_then symbol.Then (at_expr x) branch_rest ts us e (Stuck rest) r l (inner_stuck x (λ ss. got (e, ss)) s)

  -- {ELSIF expr THEN stmts}
  abbrev pub branch_turns : ℕ → Symbol → Token → Branches → Turn Branches
  branch_turns = turns symbol.Elsif (at.at_branch x) with_branch

  pub branches_begin : (ts : Tokens) (q : Reading Branches) → More branch_turns ts tree.no_branches q → Reads (at.at_branches x) ts q
  branches_begin ts q f = record { by = λ m h. f.by m (suc m) h (omega arith) }

  pub branches_step : (ts us rest : Tokens) (zs : List Branch) (a : Branch) → after symbol.Elsif ts ≡ Some us → Reads (at.at_branch x) us (Got (branch_parts a) rest) → length rest < length us → (q : Reading Branches) → More branch_turns rest (branches_of (zs ++ a ∷ [])) q
      → More branch_turns ts (branches_of zs) q
  branches_step ts us rest zs a e r l q f = list_step symbol.Elsif (at.at_branch x) with_branch ts us rest (branches_of zs) (branch_parts a) e r l q (subst (λ z. More branch_turns rest z q) (branches_push zs a) f)

  pub branches_step_fail : (ts us rest : Tokens) (zs : List Branch) → after symbol.Elsif ts ≡ Some us → Reads (at.at_branch x) us (Stuck rest) → More branch_turns ts (branches_of zs) (Stuck rest)
  branches_step_fail ts us rest zs e r = list_step_fail symbol.Elsif (at.at_branch x) with_branch ts us rest (branches_of zs) e r

  pub branches_end : (ts : Tokens) (zs : List Branch) → after symbol.Elsif ts ≡ None → More branch_turns ts (branches_of zs) (Got (branches_of zs) ts)
  branches_end ts zs e = list_end symbol.Elsif (at.at_branch x) with_branch ts (branches_of zs) e

  -- [ELSE stmts]
  abbrev else_on : ℕ → Symbol → Token → Turn (List Statement)
  else_on m = read.else_turn x (read.statements x m) m

  else_leave : (m : ℕ) (s : Symbol) (t : Token) → same s symbol.Else ≡ false → else_on m s t ≡ Leave []
  else_leave m symbol.Else t h = cc
  else_leave m _ t h = refl

  pub no_else : (ts : Tokens) → after symbol.Else ts ≡ None → Reads (at.at_else x) ts (Got [] ts)
  no_else [] e = record { by = λ m h. refl }
  no_else (t ∷ us) e = leaves (Leave []) else_on t us [] (λ m. else_leave m (symbol_of t.lexeme) t (after_none symbol.Else t us e).is_not)

  pub an_else : (ts us : Tokens) (q : Reading (List Statement)) → after symbol.Else ts ≡ Some us → Reads (at.at_statements x) us q → Reads (at.at_else x) ts q
  an_else ts us q e f = let n = after_some symbol.Else ts us e in rw n.here (takes_deeper (Leave []) else_on n.t us (read.statements x) (λ m. ap (λ s. else_on m s n.t) n.is) f)

  -- IF
  module _ (p : Pos) where
    abbrev if_closes : Expr × List Statement → Branches → List Statement → Reader Statement
    if_closes b bs es = closing symbol.If (tree.conditional p b.0 (statements_of b.1) bs (statements_of es))

    abbrev after_first : ℕ → Expr × List Statement → Reader Statement
    after_first m b = at.at_branches x m >>= λ bs. at.at_else x m >>= λ es. if_closes b bs es

    abbrev after_others : Expr × List Statement → ℕ → Branches → Reader Statement
    after_others b m bs = at.at_else x m >>= λ es. if_closes b bs es

    module _ (b : Expr × List Statement) where
      pub if_rest_read : (ts us vs rest : Tokens) (bs : Branches) (es : List Statement) → Reads (at.at_branches x) ts (Got bs us) → length us ≤ length ts → Reads (at.at_else x) us (Got es vs) → length vs ≤ length us → Closed symbol.If vs rest
          → Reads (at_if_rest x p b) ts (Got (tree.conditional p b.0 (statements_of b.1) bs (statements_of es)) rest)
      if_rest_read ts us vs rest bs es s k e n c = both (after_others b) s k (both (λ m zs. if_closes b bs zs) e n (closing_then _ c))

      pub if_others_fail : (ts rest : Tokens) → Reads (at.at_branches x) ts (Stuck rest) → Reads (at_if_rest x p b) ts (Stuck rest)
      if_others_fail ts rest s = first_fails (after_others b) s

      pub if_else_fail : (ts us rest : Tokens) (bs : Branches) → Reads (at.at_branches x) ts (Got bs us) → length us ≤ length ts → Reads (at.at_else x) us (Stuck rest) → Reads (at_if_rest x p b) ts (Stuck rest)
      if_else_fail ts us rest bs s k e = both (after_others b) s k (first_fails (λ m zs. if_closes b bs zs) e)

      pub if_open : (ts us vs rest : Tokens) (bs : Branches) (es : List Statement) → Reads (at.at_branches x) ts (Got bs us) → length us ≤ length ts → Reads (at.at_else x) us (Got es vs) → length vs ≤ length us → NotClosed symbol.If vs rest
          → Reads (at_if_rest x p b) ts (Stuck rest)
      if_open ts us vs rest bs es s k e n c = both (after_others b) s k (both (λ m zs. if_closes b bs zs) e n (no_closing _ c))

    pub if_then : (ts us : Tokens) (b : Branch) (q : Reading Statement) → Reads (at.at_branch x) ts (Got (branch_parts b) us) → length us < length ts → Reads (at_if_rest x p (branch_parts b)) us q → Reads (at.at_if x p) ts q
    if_then ts us b q r l f = both after_first r (omega arith) f

    pub if_fail : (ts rest : Tokens) → Reads (at.at_branch x) ts (Stuck rest) → Reads (at.at_if x p) ts (Stuck rest)
    if_fail ts rest r = first_fails after_first r

    -- CASE
    abbrev case_rest : ℕ → Expr → Reader Statement
    case_rest m e = at_case_arms x p e m

    pub case_then : (ts us : Tokens) (e : Expr) (q : Reading Statement) → Reads (before symbol.Is (at_expr x)) ts (Got e us) → length us < length ts → Reads (at_case_arms x p e) us q → Reads (at.at_case x p) ts q
    case_then ts us e q r l f = before_then symbol.Is (at_expr x) case_rest ts us e q r l (λ m h. f.by m (omega (arith, h)))

    pub case_fail : (ts rest : Tokens) → Reads (before symbol.Is (at_expr x)) ts (Stuck rest) → Reads (at.at_case x p) ts (Stuck rest)
    case_fail ts rest r = before_stuck symbol.Is (at_expr x) case_rest ts rest r

    module _ (e : Expr) where
      abbrev case_closes : ℕ → Alternatives → Reader Statement
      case_closes m alts = closing symbol.Case (tree.case_of p e alts)

      pub arms_read : (ts us rest : Tokens) (alts : Alternatives) → Reads (at.at_alternatives x) ts (Got alts us) → length us < length ts → Closed symbol.Case us rest → Reads (at_case_arms x p e) ts (Got (tree.case_of p e alts) rest)
      arms_read ts us rest alts r l c = both case_closes r (omega arith) (closing_then _ c)

      pub arms_fail : (ts rest : Tokens) → Reads (at.at_alternatives x) ts (Stuck rest) → Reads (at_case_arms x p e) ts (Stuck rest)
      arms_fail ts rest r = first_fails case_closes r

      pub arms_open : (ts us rest : Tokens) (alts : Alternatives) → Reads (at.at_alternatives x) ts (Got alts us) → length us < length ts → NotClosed symbol.Case us rest → Reads (at_case_arms x p e) ts (Stuck rest)
      arms_open ts us rest alts r l c = both case_closes r (omega arith) (no_closing _ c)

    -- LOOP
    module _ (s : LoopScheme) where
      abbrev loop_closes : List Statement → Reader Statement
      loop_closes ss = closing symbol.Loop (tree.repeat p s (statements_of ss))

      looped : {ss : List Statement} {ts us vs : Tokens} {q : Reading Statement} → Skipped symbol.Loop ts us → Reads (at.at_statements x) us (Got ss vs) → loop_closes ss vs ≡ q → Reads (at.at_loop x p s) ts q
      looped {us = us} w r e = record { by = λ m h. got_bind (λ _. read.statements x m >>= loop_closes) w.here (got_bind loop_closes (deeper (read.statements x) us r m (omega (arith, w.shorter))) e) }

      pub loop_read : (ts us vs rest : Tokens) (ss : List Statement) → Skipped symbol.Loop ts us → Reads (at.at_statements x) us (Got ss vs) → Closed symbol.Loop vs rest → Reads (at.at_loop x p s) ts (Got (tree.repeat p s (statements_of ss)) rest)
      loop_read ts us vs rest ss w r c = looped w r (c.by _)

      pub loop_open : (ts us vs rest : Tokens) (ss : List Statement) → Skipped symbol.Loop ts us → Reads (at.at_statements x) us (Got ss vs) → NotClosed symbol.Loop vs rest → Reads (at.at_loop x p s) ts (Stuck rest)
      loop_open ts us vs rest ss w r c = looped w r (c.by _)

      pub loop_none : (ts rest : Tokens) → expect symbol.Loop ts ≡ Stuck rest → Reads (at.at_loop x p s) ts (Stuck rest)
      loop_none ts rest e = no_word symbol.Loop (λ m. read.statements x m >>= loop_closes) e

      pub loop_empty : (ts us rest : Tokens) → Skipped symbol.Loop ts us → Reads (at.at_statements x) us (Stuck rest) → Reads (at.at_loop x p s) ts (Stuck rest)
      loop_empty ts us rest w r = behind_fails x loop_closes w r

    -- WHILE
    pub while_read : (ts us : Tokens) (e : Expr) (q : Reading Statement) → Reads (at_expr x) ts (Got e us) → length us < length ts → Reads (at.at_loop x p (While e)) us q → Reads (at.at_while x p) ts q
    while_read ts us e q r l f = both (λ m z. at.at_loop x p (While z) m) r (omega arith) f

    pub while_fail : (ts rest : Tokens) → Reads (at_expr x) ts (Stuck rest) → Reads (at.at_while x p) ts (Stuck rest)
    while_fail ts rest r = first_fails (λ m z. at.at_loop x p (While z) m) r

    -- FOR
    abbrev after_direction : Identifier → ℕ → Direction → Reader Statement
    after_direction i m d = range_by x m >>= λ r. at.at_loop x p (For i d r) m

    abbrev after_in : ℕ → Identifier → Reader Statement
    after_in m i = read.direction_by >>= after_direction i m

    abbrev after_parameter : ℕ → Identifier → Reader Statement
    after_parameter m i = skip symbol.In (after_in m i)

    identified : {ts us : Tokens} {i : Identifier} {q : Reading Statement} → Identified ts us i → Reads (λ m. after_parameter m i) us q → Reads (at.at_for x p) ts q
    identified {ts} {us} {i} {q} k f = record {
      by = λ m h. got_bind (λ u. after_parameter m (identifier_of u)) k.here (ap (λ z. after_parameter m z us) (sym k.same) ∙ f.by m (omega (arith, k.shorter)));
    }

    directed : (i : Identifier) {ts us : Tokens} {d : Direction} {q : Reading Statement} → read.direction_by ts ≡ Got d us → length us ≤ length ts → Reads (λ m. after_direction i m d) us q → Reads (λ m. after_in m i) ts q
    directed i e l f = record { by = λ m h. got_bind (after_direction i m) e (f.by m (omega arith)) }

    pub for_read : (ts us vs ws zs : Tokens) (i : Identifier) (d : Direction) (r : DiscreteRange) (q : Reading Statement) → Identified ts us i → Skipped symbol.In us vs → read.direction_by vs ≡ Got d ws → length ws ≤ length vs
        → Reads (range_by x) ws (Got r zs) → length zs < length ws → Reads (at.at_loop x p (For i d r)) zs q → Reads (at.at_for x p) ts q
    for_read ts us vs ws zs i d r q k w e l s n f = identified k (word_then (λ m. after_in m i) w (directed i e l (both (λ m r. at.at_loop x p (For i d r) m) s (omega arith) f)))

    pub for_fail : (ts rest : Tokens) → expect symbol.Identifier ts ≡ Stuck rest → Reads (at.at_for x p) ts (Stuck rest)
    for_fail ts rest e = record { by = λ m h. ap (goes_on (λ u. after_parameter m (identifier_of u))) e }

    pub for_no_in : (ts us rest : Tokens) (i : Identifier) → Identified ts us i → expect symbol.In us ≡ Stuck rest → Reads (at.at_for x p) ts (Stuck rest)
    for_no_in ts us rest i k e = identified k (no_word symbol.In (λ m. after_in m i) e)

    pub for_range_fail : (ts us vs ws rest : Tokens) (i : Identifier) (d : Direction) → Identified ts us i → Skipped symbol.In us vs → read.direction_by vs ≡ Got d ws → length ws ≤ length vs → Reads (range_by x) ws (Stuck rest) → Reads (at.at_for x p) ts (Stuck rest)
    for_range_fail ts us vs ws rest i d k w e l s = identified k (word_then (λ m. after_in m i) w (directed i e l (first_fails (λ m r. at.at_loop x p (For i d r) m) s)))

    -- BEGIN
    module _ (ds : Option (List Declaration)) where
      pub block_read : (ts us rest : Tokens) (h : Handled) → Reads (at.at_handled x) ts (Got h us) → length us < length ts → Ended us rest → Reads (at.at_block x p ds) ts (Got (tree.block p ds h) rest)
      block_read ts us rest h r l c = both (λ m z. ending (tree.block p ds z)) r (omega arith) (ending_then _ c)

      pub block_fail : (ts rest : Tokens) → Reads (at.at_handled x) ts (Stuck rest) → Reads (at.at_block x p ds) ts (Stuck rest)
      block_fail ts rest r = first_fails (λ m z. ending (tree.block p ds z)) r

      pub block_open : (ts us rest : Tokens) (h : Handled) → Reads (at.at_handled x) ts (Got h us) → length us < length ts → NotEnded us rest → Reads (at.at_block x p ds) ts (Stuck rest)
      block_open ts us rest h r l c = both (λ m z. ending (tree.block p ds z)) r (omega arith) (no_ending _ c)

    -- DECLARE
    abbrev blocks : List Declaration → ℕ → Reader Statement
    blocks ds m = read.block_by x (read.statements x m) m p (Some ds)

    abbrev begun : ℕ → List Declaration → Reader Statement
    begun m ds = blocks ds m

    pub block_at : (es ds : List Declaration) (ts : Tokens) (q : Reading Statement) → es ≡ ds → Reads (at.at_block x p (Some es)) ts q → Reads (at.at_block x p (Some ds)) ts q
    block_at es ds ts q e f = subst (λ z. Reads (at.at_block x p (Some z)) ts q) e f

    pub declaring_read : (ts us : Tokens) (ds : List Declaration) (q : Reading Statement) → Reads (before symbol.Begin (declarations_by x)) ts (Got ds us) → length us < length ts → Reads (at.at_block x p (Some ds)) us q → Reads (at.at_declaring x p) ts q
    declaring_read ts us ds q r l f = before_then symbol.Begin (declarations_by x) begun ts us ds q r l (λ m h. deeper (blocks ds) us f m h)

    pub declaring_fail : (ts rest : Tokens) → Reads (before symbol.Begin (declarations_by x)) ts (Stuck rest) → Reads (at.at_declaring x p) ts (Stuck rest)
    declaring_fail ts rest r = before_stuck symbol.Begin (declarations_by x) begun ts rest r

  -- by the first token
  abbrev compound_on : ℕ → Symbol → Token → Turn Statement
  compound_on m = read.compound_turn x (read.statements x m) m

  pub an_if : (t : Token) (us : Tokens) (q : Reading Statement) → Is symbol.If t → opens x Decisions ≡ true → Reads (at.at_if x t.pos) us q → Reads (at.at_compound x) (t ∷ us) q
  an_if t us q i o f = takes Refuse compound_on t us (at.at_if x t.pos) (λ m. ap (λ s. compound_on m s t) i ∙ ap (λ b. provided b (Take (at.at_if x t.pos m))) o) f

  pub a_case : (t : Token) (us : Tokens) (q : Reading Statement) → Is symbol.Case t → opens x Types ≡ true → Reads (at.at_case x t.pos) us q → Reads (at.at_compound x) (t ∷ us) q
  a_case t us q i o f = takes Refuse compound_on t us (at.at_case x t.pos) (λ m. ap (λ s. compound_on m s t) i ∙ ap (λ b. provided b (Take (at.at_case x t.pos m))) o) f

  pub a_loop : (t : Token) (us : Tokens) (q : Reading Statement) → Is symbol.Loop t → opens x Decisions ≡ true → Reads (at.at_loop x t.pos Forever) (t ∷ us) q → Reads (at.at_compound x) (t ∷ us) q
  a_loop t us q i o f = looks Refuse compound_on t us (at.at_loop x t.pos Forever) (λ m. ap (λ s. compound_on m s t) i ∙ ap (λ b. provided b (Look (at.at_loop x t.pos Forever m))) o) f

  pub a_while : (t : Token) (us : Tokens) (q : Reading Statement) → Is symbol.While t → opens x Decisions ≡ true → Reads (at.at_while x t.pos) us q → Reads (at.at_compound x) (t ∷ us) q
  a_while t us q i o f = takes Refuse compound_on t us (at.at_while x t.pos) (λ m. ap (λ s. compound_on m s t) i ∙ ap (λ b. provided b (Take (at.at_while x t.pos m))) o) f

  pub a_for : (t : Token) (us : Tokens) (q : Reading Statement) → Is symbol.For t → opens x Types ≡ true → Reads (at.at_for x t.pos) us q → Reads (at.at_compound x) (t ∷ us) q
  a_for t us q i o f = takes Refuse compound_on t us (at.at_for x t.pos) (λ m. ap (λ s. compound_on m s t) i ∙ ap (λ b. provided b (Take (at.at_for x t.pos m))) o) f

  abbrev plain_block : Token → ℕ → Reader Statement
  plain_block t m = read.block_by x (read.statements x m) m t.pos None

  pub a_block : (t : Token) (us : Tokens) (q : Reading Statement) → Is symbol.Begin t → opens x Decisions ≡ true → Reads (at.at_block x t.pos None) us q → Reads (at.at_compound x) (t ∷ us) q
  a_block t us q i o f = takes_deeper Refuse compound_on t us (plain_block t) (λ m. ap (λ s. compound_on m s t) i ∙ ap (λ b. provided b (Take (plain_block t m))) o) f

  pub a_declaring : (t : Token) (us : Tokens) (q : Reading Statement) → Is symbol.Declare t → opens x Decisions ≡ true → Reads (at.at_declaring x t.pos) us q → Reads (at.at_compound x) (t ∷ us) q
  a_declaring t us q i o f = takes Refuse compound_on t us (at.at_declaring x t.pos) (λ m. ap (λ s. compound_on m s t) i ∙ ap (λ b. provided b (Take (at.at_declaring x t.pos m))) o) f

pub ruleset branches_rules = (branches_begin, branches_step, branches_step_fail, branches_end)
