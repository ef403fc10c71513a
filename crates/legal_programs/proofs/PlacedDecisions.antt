-- The decisions of statements stand where they stand in the text.
use Rattle.std.proofs.Common.{◌≡◌, ℕ, nat_eq, Bool, true, false, if◌then◌else◌, List, [], ◌∷◌, ◌++◌, map, length, Option, Some, None, option_map, IfSome, IfOk, refl, sym, ap, ◌∙◌, subst, append-nil, append_assoc}
use Rattle.std.specs.Prelude.{◌&&◌}
use Rattle.std.specs.Option.{option_and_then}
use Rattle.cov_base.specs.declared.position.Pos.{Pos}
use Rattle.ada_syntax.specs.StatementTree as text
use Rattle.ada_syntax.specs.Tree as source
use Rattle.ada_syntax.specs.Tree.{expr_pos, name_pos}
use Rattle.ada_syntax.specs.declared.declaration.Constancy.{Constancy}
use Rattle.ada_syntax.specs.declared.declaration.Declaration.{Declaration}
use Rattle.ada_syntax.specs.declared.declaration.DeclarationKind.{DeclarationKind}
use Rattle.ada_syntax.specs.declared.declaration.DeclarationKind.TheVariants as declares
use Rattle.ada_syntax.specs.declared.declaration.DiscreteRange.{DiscreteRange}
use Rattle.ada_syntax.specs.declared.declaration.DiscreteRange.TheVariants as discrete
use Rattle.ada_syntax.specs.declared.declaration.Initial.{Initial}
use Rattle.ada_syntax.specs.declared.name.Identifier.{Identifier}
use Rattle.ada_syntax.specs.declared.statement.LoopScheme.TheVariants as scheme
use Rattle.ada_meaning.specs.Collected.{Decision, after_if, after_while, after_exit, in_expr, in_parts, in_value, in_turns, in_decision, in_declarations, in_stmt, in_stmts, in_branches, in_alternatives, in_handlers, in_block}
use Rattle.ada_meaning.specs.Tree as tree
use Rattle.ada_rules.specs.Plan.{◌>>=◌, rule}
use Rattle.ada_rules.specs.Types.{AdaSubtype, is_discrete, common}
use Rattle.ada_rules.specs.Entities.{key, Variable, Region}
use Rattle.ada_rules.specs.Environment.{typing, typed_rule, State, Given, given, Env, with_local, opened, in_loop, in_handler, new_identity, one_type_more, hide, hide_all, statement_label, started}
use Rattle.ada_rules.specs.Denoted.{Judged, Denoted, a_variable, an_exception, expr_of}
use Rattle.ada_rules.specs.Expressions.{itself, is_circuit, denoted, judged, decision, scalar_mark}
use Rattle.ada_rules.specs.Declarations.{indicated, defined, NewValue, value_place, new_value, any_value, known_of, value_for, Declared, may_be_bare, one_name, known_constant, lying_in, local_bare, local_set, objects_declared, exceptions_from, type_declared, subtype_declared, kind_declared, declared, all_declared}
use Rattle.ada_rules.specs.Statements.{stmts_of, one, any_variable, writable, target, call_of, Chosen, branches_of, Selector, any_selector, selector_of, selector, all_chosen, Arm, alternatives_of, ends_with_others, case_of, Turns, any_turns, turns_between, turns_over, turned, loop_parameter, one_object_more, is_reverse, returned, returned_value, exception_of, where_allowed, all_caught, is_last, declarations_in, Frame, block_of, typed_stmt, stated, all_stated, branched, all_arms, all_handlers, all_handled}
use Rattle.legal_laws.proofs.KnownObjects.{of_one}
use Rattle.legal_laws.proofs.NumberedObjects.{exceptions_made, inside_only, mapped_any}
use Rattle.legal_laws.proofs.Passing.{IfPassed, if_map, if_then, if_test, answered, part_so, typed_so, both_ok, any_answer}
use Rattle.legal_programs.specs.Deciding.{IsWholeRegion, IsWholeEnv, in_form, in_denoted, JudgesFrom}
use Rattle.legal_programs.specs.DecisionPlaces.{name_decisions, expr_decisions, test_decisions, initial_decisions, kind_decisions, declared_decisions, turns_decisions, decision_places, all_decision_places, branch_decisions, alternative_decisions, handler_decisions, handled_decisions}
use Rattle.legal_programs.proofs.DecidedExpressions.{in_expr_of, any_of, judged_decides}
use Rattle.legal_programs.proofs.DecidedParts.{value_in}
use Rattle.legal_programs.proofs.DecidedStatements.{bare_decisions, decisions_of_both, joined_decisions, chosen_decisions, branches_decisions, arm_decisions, alternatives_decisions, call_decisions, allowed_decisions, returned_decisions, value_decisions}
use Rattle.legal_programs.proofs.PlacedExpressions.{At, at_as, at_joined, NameAt, ValueAt, TestAt, denoted_placed, judged_placed, decision_placed}
use Rattle.legal_programs.proofs.WholeRegions.{local_whole, opened_whole, loop_whole, handler_whole, hidden_whole, all_hidden_whole, RegionWhole, declared_whole}

module _ (env : Env) (step : env.step ≡ typing) (is : IsWholeEnv env) where
  abbrev BothAt : State → source.Expr → Given Judged → Type 0
  BothAt s e x = JudgesFrom itself (is_circuit e) s x × ValueAt (expr_decisions itself e) x.value

  both_placed : (s : State) (e : source.Expr) → IfOk (judged env itself s e).answer (BothAt s e)
  both_placed s e =
      both_ok (JudgesFrom itself (is_circuit e) s) (λ x. ValueAt (expr_decisions itself e) x.value) (judged env itself s e).answer
      (judged_decides env step is itself s e) (judged_placed env step is itself s e)

  -- what an object is set to
  abbrev pub SetAt : List Pos → Given NewValue → Type 0
  SetAt ps g = (k : ℕ) → At (in_value k g.value.value) ps

  pub new_value_placed : (s : State) (q : Pos) (t : AdaSubtype) (i : Initial) → IfOk (new_value env s q t i).answer (SetAt (expr_decisions itself i.value))
  new_value_placed s q t i =
      answered (SetAt (expr_decisions itself i.value)) (value_place q t i.others) _
      (part_so (BothAt s i.value) (SetAt (expr_decisions itself i.value)) (judged env itself s i.value).answer
      (λ x. typed_rule env.step (given (record { value = any_value; known = None }) x.next)
      (option_map (λ v. given (record { value = v; known = known_of i.others x.value }) x.next) (value_for t i.others x.value)))
      (both_placed s i.value)
      (λ x h. typed_so (SetAt (expr_decisions itself i.value)) env.step _ _ step
      (if_map (λ v. (k : ℕ) → in_value k v ≡ in_form k x.value.form) (SetAt (expr_decisions itself i.value))
      (λ v. given (record { value = v; known = known_of i.others x.value }) x.next) (value_for t i.others x.value)
      (value_in env step is t i.others x.value h.0.clear h.0.is_plain)
      (λ v e k. at_as (in_value k v) (in_form k x.value.form) (expr_decisions itself i.value) (e k) (h.1 k)))))

  -- targets, selectors and the ranges of loops
  abbrev pub TargetAt : List Pos → Given Variable → Type 0
  TargetAt ps g = (k : ℕ) → At (in_parts k g.value.parts) ps

  target_of : (ps : List Pos) (t : State) (d : Denoted) → NameAt ps d → IfSome (option_map (λ v. given v t) (writable d)) (TargetAt ps)
  target_of ps t (a_variable v) h = of_variable v.is_writable
    where
      of_variable : (b : Bool) → IfSome (option_map (λ w. given w t) (if b then Some v else None)) (TargetAt ps)
      of_variable true = h
      of_variable false = tt
  target_of ps t d h = tt

  pub target_placed : (s : State) (n : source.Name) → IfOk (target env s n).answer (TargetAt (name_decisions n))
  target_placed s n =
      answered (TargetAt (name_decisions n)) (name_pos n) _
      (part_so (λ d. NameAt (name_decisions n) d.value) (TargetAt (name_decisions n)) (denoted env s n).answer
      (λ d. typed_rule env.step (given any_variable d.next) (option_map (λ v. given v d.next) (writable d.value))) (denoted_placed env step is s n)
      (λ d h. typed_so (TargetAt (name_decisions n)) env.step (given any_variable d.next) _ step (target_of (name_decisions n) d.next d.value h)))

  abbrev pub SelectorAt : List Pos → Given Selector → Type 0
  SelectorAt ps g = (k : ℕ) → At (in_expr k g.value.expr) ps

  pub selector_placed : (s : State) (e : source.Expr) → IfOk (selector env s e).answer (SelectorAt (expr_decisions itself e))
  selector_placed s e =
      answered (SelectorAt (expr_decisions itself e)) (expr_pos e) _
      (part_so (BothAt s e) (SelectorAt (expr_decisions itself e)) (judged env itself s e).answer
      (λ x. typed_rule env.step (given any_selector x.next) (option_map (λ y. given y x.next) (selector_of x.value)))
      (both_placed s e)
      (λ x h. typed_so (SelectorAt (expr_decisions itself e)) env.step (given any_selector x.next) _ step
      (if_map (λ y. (k : ℕ) → in_expr k y.expr ≡ in_form k x.value.form) (SelectorAt (expr_decisions itself e)) (λ y. given y x.next) (selector_of x.value)
      (if_test (λ y. (k : ℕ) → in_expr k y.expr ≡ in_form k x.value.form) (is_discrete x.value.kind) _ (λ b k. in_expr_of k x.value h.0.is_plain))
      (λ y same k. at_as (in_expr k y.expr) (in_form k x.value.form) (expr_decisions itself e) (same k) (h.1 k)))))

  abbrev pub TurnsAt : List Pos → Given Turns → Type 0
  TurnsAt ps g = (k : ℕ) → At (in_turns k g.value.over) ps

  pub turned_placed : (s : State) (r : DiscreteRange) → IfOk (turned env s r).answer (TurnsAt (turns_decisions r))
  turned_placed s (discrete.Mark n) =
      answered (TurnsAt []) (name_pos n) _
      (part_so (λ m. Unit {0}) (TurnsAt []) (scalar_mark env s n).answer (λ m. rule (Some (given (turns_over m.value.subtype) m.next)))
      (any_answer (scalar_mark env s n).answer) (λ m u k. refl))
  turned_placed s (discrete.Bounds b) =
      let ps = expr_decisions itself b.low ++ expr_decisions itself b.high in
      answered (TurnsAt ps) (expr_pos b.low) _
      (part_so (BothAt s b.low) (TurnsAt ps) (judged env itself s b.low).answer
      (λ x. judged env itself x.next b.high >>= (λ y. typed_rule env.step (given any_turns y.next)
      (option_map (λ t. given t y.next) (option_and_then (turns_between x.value y.value) (common x.value.kind y.value.kind)))))
      (both_placed s b.low)
      (λ x h. part_so (BothAt x.next b.high) (TurnsAt ps) (judged env itself x.next b.high).answer
      (λ y. typed_rule env.step (given any_turns y.next)
      (option_map (λ t. given t y.next) (option_and_then (turns_between x.value y.value) (common x.value.kind y.value.kind))))
      (both_placed x.next b.high)
      (λ y l. typed_so (TurnsAt ps) env.step (given any_turns y.next) _ step
      (if_map (λ t. (k : ℕ) → in_turns k t.over ≡ (in_expr k (expr_of x.value) ++ in_expr k (expr_of y.value))) (TurnsAt ps) (λ t. given t y.next)
      (option_and_then (turns_between x.value y.value) (common x.value.kind y.value.kind))
      (if_then (λ k. Unit {0}) (λ t. (k : ℕ) → in_turns k t.over ≡ (in_expr k (expr_of x.value) ++ in_expr k (expr_of y.value))) (turns_between x.value y.value)
      (common x.value.kind y.value.kind) (any_of (common x.value.kind y.value.kind))
      (λ c u. if_test (λ t. (k : ℕ) → in_turns k t.over ≡ (in_expr k (expr_of x.value) ++ in_expr k (expr_of y.value))) (is_discrete c) _ (λ b k. refl)))
      (λ t same k. at_as (in_turns k t.over) (in_form k x.value.form ++ in_form k y.value.form) ps
      (same k ∙ (λ i. in_expr_of k x.value h.0.is_plain i ++ in_expr_of k y.value l.0.is_plain i))
      (at_joined (in_form k x.value.form) (in_form k y.value.form) (expr_decisions itself b.low) (expr_decisions itself b.high) (h.1 k) (l.1 k)))))))

-- declarations
abbrev pub Declares : List Pos → Declared → Type 0
Declares ps x = At (in_declarations x.made) ps

module _ (env : Env) (step : env.step ≡ typing) (whole : IsWholeEnv env) (inside : env.is_library ≡ false) where
  set_placed : (q : Pos) (c : Constancy) (region : Region) (i : Identifier) (a : AdaSubtype) (v : Given NewValue) (ps : List Pos)
      → ((k : ℕ) → At (in_value k v.value.value) ps) → Declares ps (local_set env q c region (i ∷ []) a v)
  set_placed q c region i a v ps h =
      let k = known_constant env c a (lying_in env a) v.value.known v.next in
      let l = statement_label k.next q in
      at_as (in_value l.number v.value.value ++ []) (in_value l.number v.value.value) ps (append-nil (in_value l.number v.value.value)) (h l.number)

  objects_placed : (q : Pos) (c : Constancy) (region : Region) (h : IsWholeRegion region) (is : List Identifier) (t : Given AdaSubtype) (i : Option Initial)
      → IfPassed (objects_declared env q c region is t i).outcome (Declares (initial_decisions i))
  objects_placed q c region h is t None =
      inside_only (Declares []) env.is_library _ _ inside
      (typed_so (Declares []) env.step (local_bare c region is t) (option_map (λ u. local_bare c region is t) (may_be_bare c)) step
      (mapped_any (Declares []) (may_be_bare c) (local_bare c region is t) (ap (map (λ d. d.label.place)) (bare_decisions t.value t.next.objects is))))
  objects_placed q c region h is t (Some i) =
      let ps = expr_decisions itself i.value in
      inside_only (Declares ps) env.is_library _ _ inside
      (part_so (SetAt env step whole ps) (Declares ps) (new_value (with_local env region) t.next q t.value i).answer
      (λ v. typed_rule env.step (local_set env q c region is t.value v) (option_map (λ u. local_set env q c region is t.value v) (one_name is)))
      (new_value_placed (with_local env region) step (local_whole env region whole h) t.next q t.value i)
      (λ v l. typed_so (Declares ps) env.step _ _ step
      (of_one (Declares ps) is (λ js. local_set env q c region js t.value v) tt
      (λ j same. subst (λ js. Declares ps (local_set env q c region js t.value v)) (sym same) (set_placed q c region j t.value v ps l)))))

  kind_placed : (s : State) (q : Pos) (d : DeclarationKind) → IfPassed (kind_declared env s q d).outcome (Declares (kind_decisions d))
  kind_placed s q (declares.Type i d) =
      part_so (λ x. Unit {0}) (Declares []) (hide env.local i).answer
      (λ region. defined (with_local env region) (one_type_more s) q (new_identity env s) d >>= (λ x. rule (Some (type_declared env q i (new_identity env s) x))))
      (any_answer (hide env.local i).answer)
      (λ region u. part_so (λ x. Unit {0}) (Declares []) (defined (with_local env region) (one_type_more s) q (new_identity env s) d).answer
      (λ x. rule (Some (type_declared env q i (new_identity env s) x))) (any_answer (defined (with_local env region) (one_type_more s) q (new_identity env s) d).answer)
      (λ x h. refl))
  kind_placed s q (declares.Subtype i t) =
      part_so (λ x. Unit {0}) (Declares []) (hide env.local i).answer
      (λ region. indicated (with_local env region) (one_type_more s) t >>= (λ x. rule (Some (subtype_declared i region (new_identity env s) x))))
      (any_answer (hide env.local i).answer)
      (λ region u. part_so (λ x. Unit {0}) (Declares []) (indicated (with_local env region) (one_type_more s) t).answer
      (λ x. rule (Some (subtype_declared i region (new_identity env s) x))) (any_answer (indicated (with_local env region) (one_type_more s) t).answer)
      (λ x h. refl))
  kind_placed s q (declares.Object is c t i) =
      part_so IsWholeRegion (Declares (initial_decisions i)) (hide_all q env.local is).answer
      (λ region. indicated (with_local env region) s t >>= (λ x. objects_declared env q c region is x i)) (all_hidden_whole q env.local is whole.regions.0)
      (λ region h. part_so (λ x. Unit {0}) (Declares (initial_decisions i)) (indicated (with_local env region) s t).answer (λ x. objects_declared env q c region is x i)
      (any_answer (indicated (with_local env region) s t).answer) (λ x u. objects_placed q c region h is x i))
  kind_placed s q (declares.Exception is) =
      part_so (λ x. Unit {0}) (Declares []) (hide_all q env.local is).answer (λ region. rule (Some (exceptions_from env s region is)))
      (any_answer (hide_all q env.local is).answer)
      (λ region u. ap (λ ds. map (λ d. d.label.place) (in_declarations ds)) (exceptions_made env s region is))
  kind_placed s q (declares.Pragma a) = refl

  declaration_placed : (s : State) (d : Declaration) → IfOk (declared env s d).answer (Declares (kind_decisions d.kind))
  declaration_placed s d = answered (Declares (kind_decisions d.kind)) d.pos (kind_declared env s d.pos d.kind).outcome (kind_placed s d.pos d.kind)

abbrev pub DeclaresIn : List Pos → Declared → Type 0
DeclaresIn ps x = Declares ps x × RegionWhole x

pub declarations_placed : (env : Env) (s : State) (q : Pos) (ds : List Declaration) → env.step ≡ typing → IsWholeEnv env → env.is_library ≡ false
    → IfOk (all_declared env s q ds).answer (DeclaresIn (declared_decisions ds))
declarations_placed env s q [] step whole inside = (refl, whole.regions.0)
declarations_placed env s q (d ∷ ds) step whole inside =
    answered (DeclaresIn (declared_decisions (d ∷ ds))) q _
    (part_so (DeclaresIn (kind_decisions d.kind)) (DeclaresIn (declared_decisions (d ∷ ds))) (declared env s d).answer
    (λ x. all_declared (with_local env x.region) x.next q ds >>= (λ xs. rule (Some (record { region = xs.region; next = xs.next; made = x.made ++ xs.made }))))
    (both_ok (Declares (kind_decisions d.kind)) RegionWhole (declared env s d).answer (declaration_placed env step whole inside s d) (declared_whole env s d whole.regions.0))
    (λ x h. part_so (DeclaresIn (declared_decisions ds)) (DeclaresIn (declared_decisions (d ∷ ds))) (all_declared (with_local env x.region) x.next q ds).answer
    (λ xs. rule (Some (record { region = xs.region; next = xs.next; made = x.made ++ xs.made })))
    (declarations_placed (with_local env x.region) x.next q ds step (local_whole env x.region whole h.1) inside)
    (λ xs k. (
      at_as (in_declarations (x.made ++ xs.made)) (in_declarations x.made ++ in_declarations xs.made) (declared_decisions (d ∷ ds)) (decisions_of_both x.made xs.made)
          (at_joined (in_declarations x.made) (in_declarations xs.made) (kind_decisions d.kind) (declared_decisions ds) h.0 k.0),
      k.1,
    ))))

-- statements
abbrev pub As : List Pos → Given (List tree.Stmt) → Type 0
As ps g = At (in_stmts (stmts_of g.value)) ps

abbrev BranchesAs : List Pos → Given (List Chosen) → Type 0
BranchesAs ps g = (k : ℕ) → At (chosen_decisions k g.value) ps

abbrev ArmsAs : List Pos → Given (List Arm) → Type 0
ArmsAs ps g = At (arm_decisions g.value) ps

abbrev HandlersAs : List Pos → Given tree.Handlers → Type 0
HandlersAs ps g = At (in_handlers g.value) ps

abbrev pub FrameAs : List Pos → Given Frame → Type 0
FrameAs ps f = At (in_stmts (stmts_of f.value.statements) ++ in_handlers f.value.handlers) ps

one_placed : (x : tree.Stmt) (ps : List Pos) → At (in_stmt x) ps → At (in_stmts (stmts_of (x ∷ []))) ps
one_placed x ps h = at_as (in_stmt x ++ []) (in_stmt x) ps (append-nil (in_stmt x)) h

stmt_placed : (env : Env) (t : State) (l : tree.Label) (x : Option tree.Stmt) (ps : List Pos) → env.step ≡ typing → IfSome x (λ y. At (in_stmt y) ps)
    → IfPassed (typed_stmt env l t x).outcome (As ps)
stmt_placed env t l x ps step h =
    typed_so (As ps) env.step (one (tree.null_statement l) t) (option_map (λ y. one y t) x) step
    (if_map (λ y. At (in_stmt y) ps) (As ps) (λ y. one y t) x h (λ y k. one_placed y ps k))

some_placed : (ds : List Decision) (x : Option tree.Stmt) (ps : List Pos) → IfSome x (λ y. in_stmt y ≡ ds) → At ds ps → IfSome x (λ y. At (in_stmt y) ps)
some_placed ds None ps e h = tt
some_placed ds (Some y) ps e h = at_as (in_stmt y) ds ps e h

-- a block or a body
pub block_placed : (ds : List tree.Declaration) (f : Frame) (ps qs : List Pos) → At (in_declarations ds) ps
    → At (in_stmts (stmts_of f.statements) ++ in_handlers f.handlers) qs → At (in_block (block_of ds f)) (ps ++ qs)
block_placed ds f ps qs h k =
    at_as (in_block (block_of ds f)) (in_declarations ds ++ (in_stmts (stmts_of f.statements) ++ in_handlers f.handlers)) (ps ++ qs)
    (append_assoc (in_declarations ds) (in_stmts (stmts_of f.statements)) (in_handlers f.handlers))
    (at_joined (in_declarations ds) (in_stmts (stmts_of f.statements) ++ in_handlers f.handlers) ps qs h k)

raised_placed : (l : tree.Label) (d : Denoted) → IfSome (option_map (tree.raise_statement l) (exception_of d)) (λ y. At (in_stmt y) [])
raised_placed l (an_exception e) = refl
raised_placed l d = tt

mutual
  pub stated_placed : (env : Env) (s : State) (x : text.Statement) → env.step ≡ typing → IsWholeEnv env → IfOk (stated env s x).answer (As (decision_places x))
  stated_placed env s (text.null q) step whole = refl
  stated_placed env s (text.assignment q n i) step whole =
      let ps = name_decisions n ++ expr_decisions itself i.value in
      answered (As ps) q _
      (part_so (TargetAt env step whole (name_decisions n)) (As ps) (target env (started s) n).answer
      (λ v. new_value env v.next q v.value.subtype i >>= (λ x. rule (Some (one (tree.assignment (statement_label s q) v.value.object v.value.parts x.value.value) x.next))))
      (target_placed env step whole (started s) n)
      (λ v h. part_so (SetAt env step whole (expr_decisions itself i.value)) (As ps) (new_value env v.next q v.value.subtype i).answer
      (λ x. rule (Some (one (tree.assignment (statement_label s q) v.value.object v.value.parts x.value.value) x.next)))
      (new_value_placed env step whole v.next q v.value.subtype i)
      (λ x k. one_placed (tree.assignment (statement_label s q) v.value.object v.value.parts x.value.value) ps
      (at_joined (in_parts s.statements v.value.parts) (in_value s.statements x.value.value) (name_decisions n) (expr_decisions itself i.value) (h s.statements) (k s.statements)))))
  stated_placed env s (text.call q n) step whole =
      answered (As (name_decisions n)) q _
      (part_so (λ d. NameAt (name_decisions n) d.value) (As (name_decisions n)) (denoted env (started s) n).answer
      (λ d. typed_stmt env (statement_label s q) d.next (call_of (statement_label s q) d.value)) (denoted_placed env step whole (started s) n)
      (λ d h. stmt_placed env d.next (statement_label s q) (call_of (statement_label s q) d.value) (name_decisions n) step
      (some_placed (in_denoted s.statements d.value) (call_of (statement_label s q) d.value) (name_decisions n) (call_decisions (statement_label s q) d.value) (h s.statements))))
  stated_placed env s (text.exemption q a) step whole = refl
  stated_placed env s (text.conditional q e ss bs es) step whole =
      let ps = (test_decisions e ++ all_decision_places ss) ++ (branch_decisions bs ++ all_decision_places es) in
      answered (As ps) q _
      (part_so (TestAt (test_decisions e)) (As ps) (decision env (started s) q e).answer
      (λ t. all_stated env t.next q ss >>= (λ xs. branched env xs.next q bs >>= (λ ys. all_stated env ys.next q es
      >>= (λ zs. rule (Some (one (tree.if_statement (statement_label s q) (tree.branch t.value.0 t.value.1 (stmts_of xs.value) (branches_of ys.value zs.value))) zs.next))))))
      (decision_placed env step whole (started s) q e)
      (λ t u. part_so (As (all_decision_places ss)) (As ps) (all_stated env t.next q ss).answer
      (λ xs. branched env xs.next q bs >>= (λ ys. all_stated env ys.next q es
      >>= (λ zs. rule (Some (one (tree.if_statement (statement_label s q) (tree.branch t.value.0 t.value.1 (stmts_of xs.value) (branches_of ys.value zs.value))) zs.next)))))
      (all_placed env t.next q ss step whole)
      (λ xs h. part_so (BranchesAs (branch_decisions bs)) (As ps) (branched env xs.next q bs).answer
      (λ ys. all_stated env ys.next q es
      >>= (λ zs. rule (Some (one (tree.if_statement (statement_label s q) (tree.branch t.value.0 t.value.1 (stmts_of xs.value) (branches_of ys.value zs.value))) zs.next))))
      (branched_placed env xs.next q bs step whole)
      (λ ys k. part_so (As (all_decision_places es)) (As ps) (all_stated env ys.next q es).answer
      (λ zs. rule (Some (one (tree.if_statement (statement_label s q) (tree.branch t.value.0 t.value.1 (stmts_of xs.value) (branches_of ys.value zs.value))) zs.next)))
      (all_placed env ys.next q es step whole)
      (λ zs l. one_placed (tree.if_statement (statement_label s q) (tree.branch t.value.0 t.value.1 (stmts_of xs.value) (branches_of ys.value zs.value))) ps
      (at_joined (in_decision s.statements after_if t.value.0 t.value.1 ++ in_stmts (stmts_of xs.value)) (in_branches s.statements (branches_of ys.value zs.value))
      (test_decisions e ++ all_decision_places ss) (branch_decisions bs ++ all_decision_places es)
      (at_joined (in_decision s.statements after_if t.value.0 t.value.1) (in_stmts (stmts_of xs.value)) (test_decisions e) (all_decision_places ss) (u s.statements after_if) h)
      (at_as (in_branches s.statements (branches_of ys.value zs.value)) (chosen_decisions s.statements ys.value ++ in_stmts (stmts_of zs.value)) (branch_decisions bs ++ all_decision_places es)
      (branches_decisions s.statements ys.value zs.value)
      (at_joined (chosen_decisions s.statements ys.value) (in_stmts (stmts_of zs.value)) (branch_decisions bs) (all_decision_places es) (k s.statements) l))))))))
  stated_placed env s (text.case_of q e alternatives) step whole =
      let ps = expr_decisions itself e ++ alternative_decisions alternatives in
      answered (As ps) q _
      (part_so (SelectorAt env step whole (expr_decisions itself e)) (As ps) (selector env (started s) e).answer
      (λ x. all_arms env x.next x.value q alternatives
      >>= (λ arms. typed_rule env.step (one (tree.null_statement (statement_label s q)) arms.next) (case_of env s q x.value arms)))
      (selector_placed env step whole (started s) e)
      (λ x u. part_so (ArmsAs (alternative_decisions alternatives)) (As ps) (all_arms env x.next x.value q alternatives).answer
      (λ arms. typed_rule env.step (one (tree.null_statement (statement_label s q)) arms.next) (case_of env s q x.value arms))
      (arms_all_placed env x.next x.value q alternatives step whole)
      (λ arms h. typed_so (As ps) env.step (one (tree.null_statement (statement_label s q)) arms.next) (case_of env s q x.value arms) step
      (if_test (As ps) (ends_with_others arms.value) _
      (λ b. one_placed (tree.case_statement (statement_label s q) x.value.expr (alternatives_of arms.value)) ps
      (at_joined (in_expr s.statements x.value.expr) (in_alternatives (alternatives_of arms.value)) (expr_decisions itself e) (alternative_decisions alternatives) (u s.statements)
      (at_as (in_alternatives (alternatives_of arms.value)) (arm_decisions arms.value) (alternative_decisions alternatives) (alternatives_decisions arms.value) h)))))))
  stated_placed env s (text.repeat q scheme.Forever ss) step whole =
      answered (As (all_decision_places ss)) q _
      (part_so (As (all_decision_places ss)) (As (all_decision_places ss)) (all_stated (in_loop env) (started s) q ss).answer
      (λ xs. rule (Some (one (tree.bare_loop (statement_label s q) (stmts_of xs.value)) xs.next)))
      (all_placed (in_loop env) (started s) q ss step (loop_whole env whole))
      (λ xs h. one_placed (tree.bare_loop (statement_label s q) (stmts_of xs.value)) (all_decision_places ss) h))
  stated_placed env s (text.repeat q (scheme.While e) ss) step whole =
      let ps = test_decisions e ++ all_decision_places ss in
      answered (As ps) q _
      (part_so (TestAt (test_decisions e)) (As ps) (decision env (started s) q e).answer
      (λ t. all_stated (in_loop env) t.next q ss >>= (λ xs. rule (Some (one (tree.while_loop (statement_label s q) t.value.0 t.value.1 (stmts_of xs.value)) xs.next))))
      (decision_placed env step whole (started s) q e)
      (λ t u. part_so (As (all_decision_places ss)) (As ps) (all_stated (in_loop env) t.next q ss).answer
      (λ xs. rule (Some (one (tree.while_loop (statement_label s q) t.value.0 t.value.1 (stmts_of xs.value)) xs.next)))
      (all_placed (in_loop env) t.next q ss step (loop_whole env whole))
      (λ xs h. one_placed (tree.while_loop (statement_label s q) t.value.0 t.value.1 (stmts_of xs.value)) ps
      (at_joined (in_decision s.statements after_while t.value.0 t.value.1) (in_stmts (stmts_of xs.value)) (test_decisions e) (all_decision_places ss) (u s.statements after_while) h))))
  stated_placed env s (text.repeat q (scheme.For i d r) ss) step whole =
      let ps = turns_decisions r ++ all_decision_places ss in
      answered (As ps) q _
      (part_so IsWholeRegion (As ps) (hide [] i).answer
      (λ region. turned (with_local (opened env) region) (started s) r
      >>= (λ t. all_stated (in_loop (with_local (opened env) ((key i, loop_parameter t.next.objects t.value) ∷ []))) (one_object_more q t.value.subtype t.next) q ss
      >>= (λ xs. rule (Some (one (tree.for_loop (statement_label s q) t.next.objects (is_reverse d) t.value.over (stmts_of xs.value)) xs.next)))))
      (hidden_whole [] i tt)
      (λ region v. part_so (λ t. (k : ℕ) → At (in_turns k t.value.over) (turns_decisions r)) (As ps) (turned (with_local (opened env) region) (started s) r).answer
      (λ t. all_stated (in_loop (with_local (opened env) ((key i, loop_parameter t.next.objects t.value) ∷ []))) (one_object_more q t.value.subtype t.next) q ss
      >>= (λ xs. rule (Some (one (tree.for_loop (statement_label s q) t.next.objects (is_reverse d) t.value.over (stmts_of xs.value)) xs.next))))
      (turned_placed (with_local (opened env) region) step (local_whole (opened env) region (opened_whole env whole) v) (started s) r)
      (λ t u. part_so (As (all_decision_places ss)) (As ps)
      (all_stated (in_loop (with_local (opened env) ((key i, loop_parameter t.next.objects t.value) ∷ []))) (one_object_more q t.value.subtype t.next) q ss).answer
      (λ xs. rule (Some (one (tree.for_loop (statement_label s q) t.next.objects (is_reverse d) t.value.over (stmts_of xs.value)) xs.next)))
      (all_placed (in_loop (with_local (opened env) ((key i, loop_parameter t.next.objects t.value) ∷ []))) (one_object_more q t.value.subtype t.next) q ss step
      (loop_whole _ (local_whole (opened env) ((key i, loop_parameter t.next.objects t.value) ∷ []) (opened_whole env whole) (refl, tt))))
      (λ xs h. one_placed (tree.for_loop (statement_label s q) t.next.objects (is_reverse d) t.value.over (stmts_of xs.value)) ps
      (at_joined (in_turns s.statements t.value.over) (in_stmts (stmts_of xs.value)) (turns_decisions r) (all_decision_places ss) (u s.statements) h)))))
  stated_placed env s (text.exit q None) step whole =
      answered (As []) q _
      (stmt_placed env (started s) (statement_label s q) (where_allowed env.is_looping (tree.exit_statement (statement_label s q))) [] step
      (some_placed [] _ [] (allowed_decisions env.is_looping (tree.exit_statement (statement_label s q))) refl))
  stated_placed env s (text.exit q (Some e)) step whole =
      answered (As (test_decisions e)) q _
      (part_so (TestAt (test_decisions e)) (As (test_decisions e)) (decision env (started s) q e).answer
      (λ t. typed_stmt env (statement_label s q) t.next (where_allowed env.is_looping (tree.exit_when (statement_label s q) t.value.0 t.value.1)))
      (decision_placed env step whole (started s) q e)
      (λ t u. stmt_placed env t.next (statement_label s q) (where_allowed env.is_looping (tree.exit_when (statement_label s q) t.value.0 t.value.1)) (test_decisions e) step
      (some_placed _ _ (test_decisions e) (allowed_decisions env.is_looping (tree.exit_when (statement_label s q) t.value.0 t.value.1)) (u s.statements after_exit))))
  stated_placed env s (text.returns q None) step whole =
      answered (As []) q _
      (stmt_placed env (started s) (statement_label s q) (returned (statement_label s q) env.returning) [] step
      (some_placed [] _ [] (returned_decisions (statement_label s q) env.returning) refl))
  stated_placed env s (text.returns q (Some e)) step whole =
      answered (As (expr_decisions itself e)) q _
      (part_so (BothAt env step whole (started s) e) (As (expr_decisions itself e)) (judged env itself (started s) e).answer
      (λ x. typed_stmt env (statement_label s q) x.next (returned_value (statement_label s q) x.value env.returning)) (both_placed env step whole (started s) e)
      (λ x u. stmt_placed env x.next (statement_label s q) (returned_value (statement_label s q) x.value env.returning) (expr_decisions itself e) step
      (some_placed (in_expr s.statements (expr_of x.value)) _ (expr_decisions itself e) (value_decisions (statement_label s q) x.value env.returning)
      (at_as (in_expr s.statements (expr_of x.value)) (in_form s.statements x.value.form) (expr_decisions itself e) (in_expr_of s.statements x.value u.0.is_plain) (u.1 s.statements)))))
  stated_placed env s (text.raise q None) step whole =
      answered (As []) q _
      (stmt_placed env (started s) (statement_label s q) (where_allowed env.is_handling (tree.raise_again (statement_label s q))) [] step
      (some_placed [] _ [] (allowed_decisions env.is_handling (tree.raise_again (statement_label s q))) refl))
  stated_placed env s (text.raise q (Some n)) step whole =
      answered (As []) q _
      (part_so (λ d. Unit {0}) (As []) (denoted env (started s) n).answer
      (λ d. typed_stmt env (statement_label s q) d.next (option_map (tree.raise_statement (statement_label s q)) (exception_of d.value)))
      (any_answer (denoted env (started s) n).answer)
      (λ d u. stmt_placed env d.next (statement_label s q) (option_map (tree.raise_statement (statement_label s q)) (exception_of d.value)) [] step
      (raised_placed (statement_label s q) d.value)))
  stated_placed env s (text.block q ds h) step whole =
      let ps = declared_decisions (declarations_in ds) ++ handled_decisions h in
      answered (As ps) q _
      (part_so (DeclaresIn (declared_decisions (declarations_in ds))) (As ps) (all_declared (opened env) s q (declarations_in ds)).answer
      (λ x. all_handled (with_local (opened env) x.region) x.next q h >>= (λ f. rule (Some (one (tree.block_statement (block_of x.made f.value)) f.next))))
      (declarations_placed (opened env) s q (declarations_in ds) step (opened_whole env whole) refl)
      (λ x u. part_so (FrameAs (handled_decisions h)) (As ps) (all_handled (with_local (opened env) x.region) x.next q h).answer
      (λ f. rule (Some (one (tree.block_statement (block_of x.made f.value)) f.next)))
      (handled_placed (with_local (opened env) x.region) x.next q h step (local_whole (opened env) x.region (opened_whole env whole) u.1))
      (λ f k. one_placed (tree.block_statement (block_of x.made f.value)) ps
      (block_placed x.made f.value (declared_decisions (declarations_in ds)) (handled_decisions h) u.0 k))))

  pub all_placed : (env : Env) (s : State) (q : Pos) (xs : text.Statements) → env.step ≡ typing → IsWholeEnv env → IfOk (all_stated env s q xs).answer (As (all_decision_places xs))
  all_placed env s q text.no_statements step whole = refl
  all_placed env s q (text.then_also x xs) step whole =
      answered (As (decision_places x ++ all_decision_places xs)) q _
      (part_so (As (decision_places x)) (As (decision_places x ++ all_decision_places xs)) (stated env s x).answer
      (λ y. all_stated env y.next q xs >>= (λ ys. rule (Some (given (y.value ++ ys.value) ys.next)))) (stated_placed env s x step whole)
      (λ y h. part_so (As (all_decision_places xs)) (As (decision_places x ++ all_decision_places xs)) (all_stated env y.next q xs).answer (λ ys. rule (Some (given (y.value ++ ys.value) ys.next)))
      (all_placed env y.next q xs step whole)
      (λ ys k. at_as (in_stmts (stmts_of (y.value ++ ys.value))) (in_stmts (stmts_of y.value) ++ in_stmts (stmts_of ys.value)) (decision_places x ++ all_decision_places xs)
      (joined_decisions y.value ys.value)
      (at_joined (in_stmts (stmts_of y.value)) (in_stmts (stmts_of ys.value)) (decision_places x) (all_decision_places xs) h k))))

  pub branched_placed : (env : Env) (s : State) (q : Pos) (bs : text.Branches) → env.step ≡ typing → IsWholeEnv env → IfOk (branched env s q bs).answer (BranchesAs (branch_decisions bs))
  branched_placed env s q text.no_branches step whole = λ k. refl
  branched_placed env s q (text.branch e ss bs) step whole =
      let ps = (test_decisions e ++ all_decision_places ss) ++ branch_decisions bs in
      answered (BranchesAs ps) q _
      (part_so (TestAt (test_decisions e)) (BranchesAs ps) (decision env s q e).answer
      (λ t. all_stated env t.next q ss >>= (λ xs. branched env xs.next q bs
      >>= (λ ys. rule (Some (given (record { label = t.value.0; test = t.value.1; statements = xs.value } ∷ ys.value) ys.next)))))
      (decision_placed env step whole s q e)
      (λ t u. part_so (As (all_decision_places ss)) (BranchesAs ps) (all_stated env t.next q ss).answer
      (λ xs. branched env xs.next q bs >>= (λ ys. rule (Some (given (record { label = t.value.0; test = t.value.1; statements = xs.value } ∷ ys.value) ys.next))))
      (all_placed env t.next q ss step whole)
      (λ xs h. part_so (BranchesAs (branch_decisions bs)) (BranchesAs ps) (branched env xs.next q bs).answer
      (λ ys. rule (Some (given (record { label = t.value.0; test = t.value.1; statements = xs.value } ∷ ys.value) ys.next)))
      (branched_placed env xs.next q bs step whole)
      (λ ys k n. at_joined (in_decision n after_if t.value.0 t.value.1 ++ in_stmts (stmts_of xs.value)) (chosen_decisions n ys.value) (test_decisions e ++ all_decision_places ss) (branch_decisions bs)
      (at_joined (in_decision n after_if t.value.0 t.value.1) (in_stmts (stmts_of xs.value)) (test_decisions e) (all_decision_places ss) (u n after_if) h) (k n)))))

  pub arms_all_placed : (env : Env) (s : State) (x : Selector) (q : Pos) (rest : text.Alternatives) → env.step ≡ typing → IsWholeEnv env
      → IfOk (all_arms env s x q rest).answer (ArmsAs (alternative_decisions rest))
  arms_all_placed env s x q text.no_alternatives step whole = refl
  arms_all_placed env s x q (text.alternative cs ss rest) step whole =
      let ps = all_decision_places ss ++ alternative_decisions rest in
      answered (ArmsAs ps) q _
      (part_so (λ ds. Unit {0}) (ArmsAs ps) (all_chosen env s x q cs).answer
      (λ ds. all_stated env ds.next q ss >>= (λ xs. all_arms env xs.next x q rest
      >>= (λ ys. rule (Some (given (record { choices = ds.value; statements = xs.value } ∷ ys.value) ys.next)))))
      (any_answer (all_chosen env s x q cs).answer)
      (λ ds u. part_so (As (all_decision_places ss)) (ArmsAs ps) (all_stated env ds.next q ss).answer
      (λ xs. all_arms env xs.next x q rest >>= (λ ys. rule (Some (given (record { choices = ds.value; statements = xs.value } ∷ ys.value) ys.next))))
      (all_placed env ds.next q ss step whole)
      (λ xs h. part_so (ArmsAs (alternative_decisions rest)) (ArmsAs ps) (all_arms env xs.next x q rest).answer
      (λ ys. rule (Some (given (record { choices = ds.value; statements = xs.value } ∷ ys.value) ys.next)))
      (arms_all_placed env xs.next x q rest step whole)
      (λ ys k. at_joined (in_stmts (stmts_of xs.value)) (arm_decisions ys.value) (all_decision_places ss) (alternative_decisions rest) h k))))

  pub handlers_placed : (env : Env) (s : State) (q : Pos) (hs : text.Handlers) → env.step ≡ typing → IsWholeEnv env → IfOk (all_handlers env s q hs).answer (HandlersAs (handler_decisions hs))
  handlers_placed env s q text.no_handlers step whole = refl
  handlers_placed env s q (text.handler cs ss hs) step whole =
      let ps = all_decision_places ss ++ handler_decisions hs in
      answered (HandlersAs ps) q _
      (part_so (λ ds. Unit {0}) (HandlersAs ps) (all_caught env s (is_last hs && nat_eq (length cs) 1) q cs).answer
      (λ ds. all_stated (in_handler env) ds.next q ss >>= (λ xs. all_handlers env xs.next q hs
      >>= (λ ys. rule (Some (given (tree.handler ds.value (stmts_of xs.value) ys.value) ys.next)))))
      (any_answer (all_caught env s (is_last hs && nat_eq (length cs) 1) q cs).answer)
      (λ ds u. part_so (As (all_decision_places ss)) (HandlersAs ps) (all_stated (in_handler env) ds.next q ss).answer
      (λ xs. all_handlers env xs.next q hs >>= (λ ys. rule (Some (given (tree.handler ds.value (stmts_of xs.value) ys.value) ys.next))))
      (all_placed (in_handler env) ds.next q ss step (handler_whole env whole))
      (λ xs h. part_so (HandlersAs (handler_decisions hs)) (HandlersAs ps) (all_handlers env xs.next q hs).answer
      (λ ys. rule (Some (given (tree.handler ds.value (stmts_of xs.value) ys.value) ys.next)))
      (handlers_placed env xs.next q hs step whole)
      (λ ys k. at_joined (in_stmts (stmts_of xs.value)) (in_handlers ys.value) (all_decision_places ss) (handler_decisions hs) h k))))

  pub handled_placed : (env : Env) (s : State) (q : Pos) (h : text.Handled) → env.step ≡ typing → IsWholeEnv env → IfOk (all_handled env s q h).answer (FrameAs (handled_decisions h))
  handled_placed env s q (text.handled ss hs) step whole =
      let ps = all_decision_places ss ++ handler_decisions hs in
      answered (FrameAs ps) q _
      (part_so (As (all_decision_places ss)) (FrameAs ps) (all_stated env s q ss).answer
      (λ xs. all_handlers env xs.next q hs >>= (λ ys. rule (Some (given (record { statements = xs.value; handlers = ys.value }) ys.next))))
      (all_placed env s q ss step whole)
      (λ xs h. part_so (HandlersAs (handler_decisions hs)) (FrameAs ps) (all_handlers env xs.next q hs).answer
      (λ ys. rule (Some (given (record { statements = xs.value; handlers = ys.value }) ys.next)))
      (handlers_placed env xs.next q hs step whole)
      (λ ys k. at_joined (in_stmts (stmts_of xs.value)) (in_handlers ys.value) (all_decision_places ss) (handler_decisions hs) h k)))
