-- The body of a function returns a value where its text returns, and that of a procedure never does.
use Rattle.std.proofs.Common.{◌≡◌, nat_eq, Bool, true, false, if◌then◌else◌, List, [], ◌∷◌, ◌++◌, length, Option, Some, None, option_map, IfSome, IfOk, refl, sym, ap, ◌∙◌}
use Rattle.std.specs.Prelude.{◌&&◌, ◌||◌, is_none}
use Rattle.cov_base.specs.declared.position.Pos.{Pos}
use Rattle.ada_syntax.specs.StatementTree as text
use Rattle.ada_syntax.specs.declared.statement.LoopScheme.TheVariants as scheme
use Rattle.ada_meaning.specs.Declared.{gives, some_gives, branch_gives, alternative_gives, handler_gives}
use Rattle.ada_meaning.specs.Tree as tree
use Rattle.ada_rules.specs.Plan.{◌>>=◌, rule}
use Rattle.ada_rules.specs.Types.{type_in, fits}
use Rattle.ada_rules.specs.Entities.{key, Parameter}
use Rattle.ada_rules.specs.Environment.{typing, Returning, no_result, result_of, typed_rule, State, Given, given, Env, with_local, opened, in_loop, in_handler, hide, statement_label, started}
use Rattle.ada_rules.specs.Denoted.{Judged, Denoted, a_mark, a_value, a_variable, a_routine, a_call, an_exception, a_unit, the_test_io, a_thing}
use Rattle.ada_rules.specs.Expressions.{itself, denoted, judged, decision}
use Rattle.ada_rules.specs.Declarations.{new_value, all_declared}
use Rattle.ada_rules.specs.Statements.{stmts_of, one, target, call_of, Chosen, branches_of, Selector, selector, all_chosen, Arm, alternatives_of, ends_with_others, case_of, turned, loop_parameter, one_object_more, is_reverse, returned, returned_value, exception_of, where_allowed, all_caught, is_last, declarations_in, Frame, block_of, typed_stmt, stated, all_stated, branched, all_arms, all_handlers, all_handled, has_return, any_return, branches_return, arms_return, handlers_return, frame_returns}
use Rattle.legal_laws.proofs.Passing.{IfPassed, if_map, if_test, answered, part_so, typed_so}
use Rattle.legal_laws.proofs.Passing.{any_answer}

-- whether `return` has a value
abbrev pub returns_value : Returning → Bool
returns_value no_result = false
returns_value (result_of t) = true

or_assoc : (a b c : Bool) → (a || b || c) ≡ (a || (b || c))
or_assoc true b c = refl
or_assoc false b c = refl

or_and : (a b r : Bool) → ((a || b) && r) ≡ (a && r || b && r)
or_and true b true = refl
or_and true true false = refl
or_and true false false = refl
or_and false b r = refl

or_alike : (x y r : Bool) {a b : Bool} → a ≡ (x && r) → b ≡ (y && r) → (a || b) ≡ ((x || y) && r)
or_alike x y r h k = (λ i. h i || k i) ∙ sym (or_and x y r)

or_false : (a : Bool) → (a || false) ≡ a
or_false true = refl
or_false false = refl

joined_give : (xs ys : List tree.Stmt) → some_gives (stmts_of (xs ++ ys)) ≡ (some_gives (stmts_of xs) || some_gives (stmts_of ys))
joined_give [] ys = refl
joined_give (x ∷ xs) ys =
    ap (λ b. gives x || b) (joined_give xs ys) ∙ sym (or_assoc (gives x) (some_gives (stmts_of xs)) (some_gives (stmts_of ys)))

abbrev branches_give : List Chosen → Bool
branches_give [] = false
branches_give (c ∷ cs) = some_gives (stmts_of c.statements) || branches_give cs

branches_and_else : (cs : List Chosen) (other : List tree.Stmt) → branch_gives (branches_of cs other) ≡ (branches_give cs || some_gives (stmts_of other))
branches_and_else [] other = refl
branches_and_else (c ∷ cs) other =
    ap (λ b. some_gives (stmts_of c.statements) || b) (branches_and_else cs other)
    ∙ sym (or_assoc (some_gives (stmts_of c.statements)) (branches_give cs) (some_gives (stmts_of other)))

abbrev arms_give : List Arm → Bool
arms_give [] = false
arms_give (a ∷ rest) = some_gives (stmts_of a.statements) || arms_give rest

alternatives_alike : (arms : List Arm) → alternative_gives (alternatives_of arms) ≡ arms_give arms
alternatives_alike [] = refl
alternatives_alike (a ∷ rest) = ap (λ b. some_gives (stmts_of a.statements) || b) (alternatives_alike rest)

-- what one statement gives
abbrev IsQuiet : tree.Stmt → Type 0
IsQuiet x = gives x ≡ false

procedure_quiet : (l : tree.Label) (d : Denoted) → IfSome (call_of l d) IsQuiet
procedure_quiet l (a_mark i t) = tt
procedure_quiet l (a_value x) = tt
procedure_quiet l (a_variable v) = tt
procedure_quiet l (a_routine r) = if_test IsQuiet (nat_eq (length r.parameters) 0) _ (if_none r.result)
  where
    if_none : (o : Option Parameter) → (nat_eq (length r.parameters) 0 ≡ true)
        → IfSome (if is_none o then Some (tree.procedure_call l r.callee tree.no_actual) else None) IsQuiet
    if_none None e = refl
    if_none (Some q) e = tt
procedure_quiet l (a_call r actuals) = if_none r.result
  where
    if_none : (o : Option Parameter)
        → IfSome (if is_none o then Some (tree.procedure_call l r.callee actuals) else None) IsQuiet
    if_none None = refl
    if_none (Some q) = tt
procedure_quiet l (an_exception e) = tt
procedure_quiet l (a_unit n) = tt
procedure_quiet l the_test_io = tt
procedure_quiet l a_thing = tt

abbrev pub As : Env → Bool → Given (List tree.Stmt) → Type 0
As env b g = some_gives (stmts_of g.value) ≡ (b && returns_value env.returning)

module _ (env : Env) (step : env.step ≡ typing) where
  stmt_quiet : (t : State) (l : tree.Label) (x : Option tree.Stmt) → IfSome x IsQuiet → IfPassed (typed_stmt env l t x).outcome (As env false)
  stmt_quiet t l x h =
      typed_so (As env false) env.step (one (tree.null_statement l) t) (option_map (λ y. one y t) x) step
      (if_map IsQuiet (As env false) (λ y. one y t) x h (λ y k. ap (λ b. b || false) k))

  abbrev Gives : tree.Stmt → Type 0
  Gives x = gives x ≡ returns_value env.returning

  stmt_gives : (t : State) (l : tree.Label) (x : Option tree.Stmt) → IfSome x Gives → IfPassed (typed_stmt env l t x).outcome (As env true)
  stmt_gives t l x h =
      typed_so (As env true) env.step (one (tree.null_statement l) t) (option_map (λ y. one y t) x) step
      (if_map Gives (As env true) (λ y. one y t) x h (λ y k. or_false (gives y) ∙ k))

allowed_quiet : (b : Bool) (x : tree.Stmt) → IsQuiet x → IfSome (where_allowed b x) IsQuiet
allowed_quiet b x h = if_test IsQuiet b (Some x) (λ e. h)

returned_gives : (l : tree.Label) (r : Returning) → IfSome (returned l r) (λ x. gives x ≡ returns_value r)
returned_gives l no_result = refl
returned_gives l (result_of t) = tt

value_gives : (l : tree.Label) (x : Judged) (r : Returning) → IfSome (returned_value l x r) (λ y. gives y ≡ returns_value r)
value_gives l x no_result = tt
value_gives l x (result_of t) = if_test (λ y. gives y ≡ true) (fits (type_in t) x.kind) _ (λ e. refl)

raised_quiet : (l : tree.Label) (o : Option tree.ExceptionName) → IfSome (option_map (tree.raise_statement l) o) IsQuiet
raised_quiet l None = tt
raised_quiet l (Some e) = refl

abbrev BranchesAs : Env → Bool → Given (List Chosen) → Type 0
BranchesAs env b g = branches_give g.value ≡ (b && returns_value env.returning)

abbrev ArmsAs : Env → Bool → Given (List Arm) → Type 0
ArmsAs env b g = arms_give g.value ≡ (b && returns_value env.returning)

abbrev HandlersAs : Env → Bool → Given tree.Handlers → Type 0
HandlersAs env b g = handler_gives g.value ≡ (b && returns_value env.returning)

abbrev pub FrameAs : Env → Bool → Given Frame → Type 0
FrameAs env b f = (some_gives (stmts_of f.value.statements) || handler_gives f.value.handlers) ≡ (b && returns_value env.returning)

quiet_row : (x : tree.Stmt) → IsQuiet x → some_gives (stmts_of (x ∷ [])) ≡ false
quiet_row x h = ap (λ b. b || false) h

mutual
  pub stated_gives : (env : Env) → (s : State) (x : text.Statement) → env.step ≡ typing → IfOk (stated env s x).answer (As env (has_return x))
  stated_gives env s (text.null q) step = refl
  stated_gives env s (text.assignment q n i) step =
      answered (As env false) q _
      (part_so (λ x. Unit {0}) (As env false) (target env (started s) n).answer
      (λ v. new_value env v.next q v.value.subtype i >>= (λ x. rule (Some (one (tree.assignment (statement_label s q) v.value.object v.value.parts x.value.value) x.next))))
      (any_answer (target env (started s) n).answer)
      (λ v u. part_so (λ x. Unit {0}) (As env false) (new_value env v.next q v.value.subtype i).answer
      (λ x. rule (Some (one (tree.assignment (statement_label s q) v.value.object v.value.parts x.value.value) x.next)))
      (any_answer (new_value env v.next q v.value.subtype i).answer) (λ x w. refl)))
  stated_gives env s (text.call q n) step =
      answered (As env false) q _
      (part_so (λ x. Unit {0}) (As env false) (denoted env (started s) n).answer
      (λ d. typed_stmt env (statement_label s q) d.next (call_of (statement_label s q) d.value)) (any_answer (denoted env (started s) n).answer)
      (λ d u. stmt_quiet env step d.next (statement_label s q) (call_of (statement_label s q) d.value) (procedure_quiet (statement_label s q) d.value)))
  stated_gives env s (text.exemption q a) step = refl
  stated_gives env s (text.conditional q e ss bs es) step =
      answered (As env (any_return ss || branches_return bs || any_return es)) q _
      (part_so (λ x. Unit {0}) (As env (any_return ss || branches_return bs || any_return es)) (decision env (started s) q e).answer
      (λ t. all_stated env t.next q ss >>= (λ xs. branched env xs.next q bs >>= (λ ys. all_stated env ys.next q es
      >>= (λ zs. rule (Some (one (tree.if_statement (statement_label s q) (tree.branch t.value.0 t.value.1 (stmts_of xs.value) (branches_of ys.value zs.value))) zs.next))))))
      (any_answer (decision env (started s) q e).answer)
      (λ t u. part_so (As env (any_return ss)) (As env (any_return ss || branches_return bs || any_return es)) (all_stated env t.next q ss).answer
      (λ xs. branched env xs.next q bs >>= (λ ys. all_stated env ys.next q es
      >>= (λ zs. rule (Some (one (tree.if_statement (statement_label s q) (tree.branch t.value.0 t.value.1 (stmts_of xs.value) (branches_of ys.value zs.value))) zs.next)))))
      (all_give env t.next q ss step)
      (λ xs h. part_so (BranchesAs env (branches_return bs)) (As env (any_return ss || branches_return bs || any_return es)) (branched env xs.next q bs).answer
      (λ ys. all_stated env ys.next q es
      >>= (λ zs. rule (Some (one (tree.if_statement (statement_label s q) (tree.branch t.value.0 t.value.1 (stmts_of xs.value) (branches_of ys.value zs.value))) zs.next))))
      (branched_give env xs.next q bs step)
      (λ ys k. part_so (As env (any_return es)) (As env (any_return ss || branches_return bs || any_return es)) (all_stated env ys.next q es).answer
      (λ zs. rule (Some (one (tree.if_statement (statement_label s q) (tree.branch t.value.0 t.value.1 (stmts_of xs.value) (branches_of ys.value zs.value))) zs.next)))
      (all_give env ys.next q es step)
      (λ zs l. or_false (some_gives (stmts_of xs.value) || branch_gives (branches_of ys.value zs.value))
      ∙ (ap (λ b. some_gives (stmts_of xs.value) || b) (branches_and_else ys.value zs.value)
      ∙ (sym (or_assoc (some_gives (stmts_of xs.value)) (branches_give ys.value) (some_gives (stmts_of zs.value)))
      ∙ or_alike (any_return ss || branches_return bs) (any_return es) (returns_value env.returning)
      (or_alike (any_return ss) (branches_return bs) (returns_value env.returning) h k) l)))))))
  stated_gives env s (text.case_of q e alternatives) step =
      answered (As env (arms_return alternatives)) q _
      (part_so (λ x. Unit {0}) (As env (arms_return alternatives)) (selector env (started s) e).answer
      (λ x. all_arms env x.next x.value q alternatives
      >>= (λ arms. typed_rule env.step (one (tree.null_statement (statement_label s q)) arms.next) (case_of env s q x.value arms)))
      (any_answer (selector env (started s) e).answer)
      (λ x u. part_so (ArmsAs env (arms_return alternatives)) (As env (arms_return alternatives)) (all_arms env x.next x.value q alternatives).answer
      (λ arms. typed_rule env.step (one (tree.null_statement (statement_label s q)) arms.next) (case_of env s q x.value arms))
      (arms_all_give env x.next x.value q alternatives step)
      (λ arms h. typed_so (As env (arms_return alternatives)) env.step (one (tree.null_statement (statement_label s q)) arms.next) (case_of env s q x.value arms) step
      (if_test (As env (arms_return alternatives)) (ends_with_others arms.value) _
      (λ b. or_false (alternative_gives (alternatives_of arms.value)) ∙ (alternatives_alike arms.value ∙ h))))))
  stated_gives env s (text.repeat q scheme.Forever ss) step =
      answered (As env (any_return ss)) q _
      (part_so (As env (any_return ss)) (As env (any_return ss)) (all_stated (in_loop env) (started s) q ss).answer
      (λ xs. rule (Some (one (tree.bare_loop (statement_label s q) (stmts_of xs.value)) xs.next)))
      (all_give (in_loop env) (started s) q ss step) (λ xs h. or_false (some_gives (stmts_of xs.value)) ∙ h))
  stated_gives env s (text.repeat q (scheme.While e) ss) step =
      answered (As env (any_return ss)) q _
      (part_so (λ x. Unit {0}) (As env (any_return ss)) (decision env (started s) q e).answer
      (λ t. all_stated (in_loop env) t.next q ss >>= (λ xs. rule (Some (one (tree.while_loop (statement_label s q) t.value.0 t.value.1 (stmts_of xs.value)) xs.next))))
      (any_answer (decision env (started s) q e).answer)
      (λ t u. part_so (As env (any_return ss)) (As env (any_return ss)) (all_stated (in_loop env) t.next q ss).answer
      (λ xs. rule (Some (one (tree.while_loop (statement_label s q) t.value.0 t.value.1 (stmts_of xs.value)) xs.next)))
      (all_give (in_loop env) t.next q ss step) (λ xs h. or_false (some_gives (stmts_of xs.value)) ∙ h)))
  stated_gives env s (text.repeat q (scheme.For i d r) ss) step =
      answered (As env (any_return ss)) q _
      (part_so (λ x. Unit {0}) (As env (any_return ss)) (hide [] i).answer
      (λ region. turned (with_local (opened env) region) (started s) r
      >>= (λ t. all_stated (in_loop (with_local (opened env) ((key i, loop_parameter t.next.objects t.value) ∷ []))) (one_object_more q t.value.subtype t.next) q ss
      >>= (λ xs. rule (Some (one (tree.for_loop (statement_label s q) t.next.objects (is_reverse d) t.value.over (stmts_of xs.value)) xs.next)))))
      (any_answer (hide [] i).answer)
      (λ region u. part_so (λ x. Unit {0}) (As env (any_return ss)) (turned (with_local (opened env) region) (started s) r).answer
      (λ t. all_stated (in_loop (with_local (opened env) ((key i, loop_parameter t.next.objects t.value) ∷ []))) (one_object_more q t.value.subtype t.next) q ss
      >>= (λ xs. rule (Some (one (tree.for_loop (statement_label s q) t.next.objects (is_reverse d) t.value.over (stmts_of xs.value)) xs.next))))
      (any_answer (turned (with_local (opened env) region) (started s) r).answer)
      (λ t v. part_so (As env (any_return ss)) (As env (any_return ss))
      (all_stated (in_loop (with_local (opened env) ((key i, loop_parameter t.next.objects t.value) ∷ []))) (one_object_more q t.value.subtype t.next) q ss).answer
      (λ xs. rule (Some (one (tree.for_loop (statement_label s q) t.next.objects (is_reverse d) t.value.over (stmts_of xs.value)) xs.next)))
      (all_give (in_loop (with_local (opened env) ((key i, loop_parameter t.next.objects t.value) ∷ []))) (one_object_more q t.value.subtype t.next) q ss step)
      (λ xs h. or_false (some_gives (stmts_of xs.value)) ∙ h))))
  stated_gives env s (text.exit q None) step =
      answered (As env false) q _
      (stmt_quiet env step (started s) (statement_label s q) (where_allowed env.is_looping (tree.exit_statement (statement_label s q)))
      (allowed_quiet env.is_looping (tree.exit_statement (statement_label s q)) refl))
  stated_gives env s (text.exit q (Some e)) step =
      answered (As env false) q _
      (part_so (λ x. Unit {0}) (As env false) (decision env (started s) q e).answer
      (λ t. typed_stmt env (statement_label s q) t.next (where_allowed env.is_looping (tree.exit_when (statement_label s q) t.value.0 t.value.1)))
      (any_answer (decision env (started s) q e).answer)
      (λ t u. stmt_quiet env step t.next (statement_label s q) (where_allowed env.is_looping (tree.exit_when (statement_label s q) t.value.0 t.value.1))
      (allowed_quiet env.is_looping (tree.exit_when (statement_label s q) t.value.0 t.value.1) refl)))
  stated_gives env s (text.returns q None) step =
      answered (As env true) q _
      (stmt_gives env step (started s) (statement_label s q) (returned (statement_label s q) env.returning) (returned_gives (statement_label s q) env.returning))
  stated_gives env s (text.returns q (Some e)) step =
      answered (As env true) q _
      (part_so (λ x. Unit {0}) (As env true) (judged env itself (started s) e).answer
      (λ x. typed_stmt env (statement_label s q) x.next (returned_value (statement_label s q) x.value env.returning))
      (any_answer (judged env itself (started s) e).answer)
      (λ x u. stmt_gives env step x.next (statement_label s q) (returned_value (statement_label s q) x.value env.returning)
      (value_gives (statement_label s q) x.value env.returning)))
  stated_gives env s (text.raise q None) step =
      answered (As env false) q _
      (stmt_quiet env step (started s) (statement_label s q) (where_allowed env.is_handling (tree.raise_again (statement_label s q)))
      (allowed_quiet env.is_handling (tree.raise_again (statement_label s q)) refl))
  stated_gives env s (text.raise q (Some n)) step =
      answered (As env false) q _
      (part_so (λ x. Unit {0}) (As env false) (denoted env (started s) n).answer
      (λ d. typed_stmt env (statement_label s q) d.next (option_map (tree.raise_statement (statement_label s q)) (exception_of d.value)))
      (any_answer (denoted env (started s) n).answer)
      (λ d u. stmt_quiet env step d.next (statement_label s q) (option_map (tree.raise_statement (statement_label s q)) (exception_of d.value))
      (raised_quiet (statement_label s q) (exception_of d.value))))
  stated_gives env s (text.block q ds h) step =
      answered (As env (frame_returns h)) q _
      (part_so (λ x. Unit {0}) (As env (frame_returns h)) (all_declared (opened env) s q (declarations_in ds)).answer
      (λ x. all_handled (with_local (opened env) x.region) x.next q h >>= (λ f. rule (Some (one (tree.block_statement (block_of x.made f.value)) f.next))))
      (any_answer (all_declared (opened env) s q (declarations_in ds)).answer)
      (λ x u. part_so (FrameAs env (frame_returns h)) (As env (frame_returns h)) (all_handled (with_local (opened env) x.region) x.next q h).answer
      (λ f. rule (Some (one (tree.block_statement (block_of x.made f.value)) f.next)))
      (handled_gives (with_local (opened env) x.region) x.next q h step)
      (λ f k. or_false (some_gives (stmts_of f.value.statements) || handler_gives f.value.handlers) ∙ k)))

  pub all_give : (env : Env) → (s : State) (q : Pos) (xs : text.Statements) → env.step ≡ typing → IfOk (all_stated env s q xs).answer (As env (any_return xs))
  all_give env s q text.no_statements step = refl
  all_give env s q (text.then_also x xs) step =
      answered (As env (has_return x || any_return xs)) q _
      (part_so (As env (has_return x)) (As env (has_return x || any_return xs)) (stated env s x).answer
      (λ y. all_stated env y.next q xs >>= (λ ys. rule (Some (given (y.value ++ ys.value) ys.next)))) (stated_gives env s x step)
      (λ y h. part_so (As env (any_return xs)) (As env (has_return x || any_return xs)) (all_stated env y.next q xs).answer
      (λ ys. rule (Some (given (y.value ++ ys.value) ys.next))) (all_give env y.next q xs step)
      (λ ys k. joined_give y.value ys.value ∙ or_alike (has_return x) (any_return xs) (returns_value env.returning) h k)))

  pub branched_give : (env : Env) → (s : State) (q : Pos) (bs : text.Branches) → env.step ≡ typing → IfOk (branched env s q bs).answer (BranchesAs env (branches_return bs))
  branched_give env s q text.no_branches step = refl
  branched_give env s q (text.branch e ss bs) step =
      answered (BranchesAs env (any_return ss || branches_return bs)) q _
      (part_so (λ x. Unit {0}) (BranchesAs env (any_return ss || branches_return bs)) (decision env s q e).answer
      (λ t. all_stated env t.next q ss >>= (λ xs. branched env xs.next q bs
      >>= (λ ys. rule (Some (given (record { label = t.value.0; test = t.value.1; statements = xs.value } ∷ ys.value) ys.next)))))
      (any_answer (decision env s q e).answer)
      (λ t u. part_so (As env (any_return ss)) (BranchesAs env (any_return ss || branches_return bs)) (all_stated env t.next q ss).answer
      (λ xs. branched env xs.next q bs >>= (λ ys. rule (Some (given (record { label = t.value.0; test = t.value.1; statements = xs.value } ∷ ys.value) ys.next))))
      (all_give env t.next q ss step)
      (λ xs h. part_so (BranchesAs env (branches_return bs)) (BranchesAs env (any_return ss || branches_return bs)) (branched env xs.next q bs).answer
      (λ ys. rule (Some (given (record { label = t.value.0; test = t.value.1; statements = xs.value } ∷ ys.value) ys.next)))
      (branched_give env xs.next q bs step)
      (λ ys k. or_alike (any_return ss) (branches_return bs) (returns_value env.returning) h k))))

  pub arms_all_give : (env : Env) → (s : State) (x : Selector) (q : Pos) (rest : text.Alternatives) → env.step ≡ typing
      → IfOk (all_arms env s x q rest).answer (ArmsAs env (arms_return rest))
  arms_all_give env s x q text.no_alternatives step = refl
  arms_all_give env s x q (text.alternative cs ss rest) step =
      answered (ArmsAs env (any_return ss || arms_return rest)) q _
      (part_so (λ x. Unit {0}) (ArmsAs env (any_return ss || arms_return rest)) (all_chosen env s x q cs).answer
      (λ ds. all_stated env ds.next q ss >>= (λ xs. all_arms env xs.next x q rest
      >>= (λ ys. rule (Some (given (record { choices = ds.value; statements = xs.value } ∷ ys.value) ys.next)))))
      (any_answer (all_chosen env s x q cs).answer)
      (λ ds u. part_so (As env (any_return ss)) (ArmsAs env (any_return ss || arms_return rest)) (all_stated env ds.next q ss).answer
      (λ xs. all_arms env xs.next x q rest >>= (λ ys. rule (Some (given (record { choices = ds.value; statements = xs.value } ∷ ys.value) ys.next))))
      (all_give env ds.next q ss step)
      (λ xs h. part_so (ArmsAs env (arms_return rest)) (ArmsAs env (any_return ss || arms_return rest)) (all_arms env xs.next x q rest).answer
      (λ ys. rule (Some (given (record { choices = ds.value; statements = xs.value } ∷ ys.value) ys.next)))
      (arms_all_give env xs.next x q rest step)
      (λ ys k. or_alike (any_return ss) (arms_return rest) (returns_value env.returning) h k))))

  pub handlers_give : (env : Env) → (s : State) (q : Pos) (hs : text.Handlers) → env.step ≡ typing → IfOk (all_handlers env s q hs).answer (HandlersAs env (handlers_return hs))
  handlers_give env s q text.no_handlers step = refl
  handlers_give env s q (text.handler cs ss hs) step =
      answered (HandlersAs env (any_return ss || handlers_return hs)) q _
      (part_so (λ x. Unit {0}) (HandlersAs env (any_return ss || handlers_return hs)) (all_caught env s (is_last hs && nat_eq (length cs) 1) q cs).answer
      (λ ds. all_stated (in_handler env) ds.next q ss >>= (λ xs. all_handlers env xs.next q hs
      >>= (λ ys. rule (Some (given (tree.handler ds.value (stmts_of xs.value) ys.value) ys.next)))))
      (any_answer (all_caught env s (is_last hs && nat_eq (length cs) 1) q cs).answer)
      (λ ds u. part_so (As env (any_return ss)) (HandlersAs env (any_return ss || handlers_return hs)) (all_stated (in_handler env) ds.next q ss).answer
      (λ xs. all_handlers env xs.next q hs >>= (λ ys. rule (Some (given (tree.handler ds.value (stmts_of xs.value) ys.value) ys.next))))
      (all_give (in_handler env) ds.next q ss step)
      (λ xs h. part_so (HandlersAs env (handlers_return hs)) (HandlersAs env (any_return ss || handlers_return hs)) (all_handlers env xs.next q hs).answer
      (λ ys. rule (Some (given (tree.handler ds.value (stmts_of xs.value) ys.value) ys.next)))
      (handlers_give env xs.next q hs step)
      (λ ys k. or_alike (any_return ss) (handlers_return hs) (returns_value env.returning) h k))))

  pub handled_gives : (env : Env) → (s : State) (q : Pos) (h : text.Handled) → env.step ≡ typing → IfOk (all_handled env s q h).answer (FrameAs env (frame_returns h))
  handled_gives env s q (text.handled ss hs) step =
      answered (FrameAs env (any_return ss || handlers_return hs)) q _
      (part_so (As env (any_return ss)) (FrameAs env (any_return ss || handlers_return hs)) (all_stated env s q ss).answer
      (λ xs. all_handlers env xs.next q hs >>= (λ ys. rule (Some (given (record { statements = xs.value; handlers = ys.value }) ys.next))))
      (all_give env s q ss step)
      (λ xs h. part_so (HandlersAs env (handlers_return hs)) (FrameAs env (any_return ss || handlers_return hs)) (all_handlers env xs.next q hs).answer
      (λ ys. rule (Some (given (record { statements = xs.value; handlers = ys.value }) ys.next)))
      (handlers_give env xs.next q hs step)
      (λ ys k. or_alike (any_return ss) (handlers_return hs) (returns_value env.returning) h k)))
