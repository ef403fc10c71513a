-- Statements number their decisions in the order in which they stand in the typed program.
use Rattle.std.proofs.Common.{◌≡◌, ◌+◌, ℕ, nat_eq, Bool, true, false, if◌then◌else◌, List, [], ◌∷◌, ◌++◌, length, Option, Some, None, option_map, IfSome, IfOk, refl, sym, ap, ◌∙◌, subst, append-nil, append_assoc}
use Rattle.std.specs.Prelude.{◌&&◌, is_none}
use Rattle.cov_base.specs.declared.position.Pos.{Pos}
use Rattle.ada_syntax.specs.StatementTree as text
use Rattle.ada_syntax.specs.declared.declaration.Constancy.{Constancy}
use Rattle.ada_syntax.specs.declared.declaration.Declaration.{Declaration}
use Rattle.ada_syntax.specs.declared.declaration.DeclarationKind.{DeclarationKind}
use Rattle.ada_syntax.specs.declared.declaration.DeclarationKind.TheVariants as declares
use Rattle.ada_syntax.specs.declared.declaration.Initial.{Initial}
use Rattle.ada_syntax.specs.declared.name.Identifier.{Identifier}
use Rattle.ada_syntax.specs.declared.statement.LoopScheme.TheVariants as scheme
use Rattle.ada_meaning.specs.Collected.{Decision, after_if, after_while, after_exit, in_expr, in_parts, in_actuals, in_value, in_turns, in_decision, in_declarations, in_stmt, in_stmts, in_branches, in_alternatives, in_handlers, in_block}
use Rattle.ada_meaning.specs.Tree as tree
use Rattle.ada_rules.specs.Plan.{◌>>=◌, rule}
use Rattle.ada_rules.specs.Types.{AdaSubtype, type_in, fits}
use Rattle.ada_rules.specs.Entities.{key, Parameter, raisable, Region, redefined}
use Rattle.ada_rules.specs.Environment.{typing, Returning, no_result, result_of, typed_rule, State, Given, given, Env, owner_of, with_local, opened, in_loop, in_handler, new_identity, one_type_more, hide, hide_all, statement_label, started}
use Rattle.ada_rules.specs.Denoted.{Judged, Denoted, a_routine, a_call, an_exception, expr_of}
use Rattle.ada_rules.specs.Expressions.{itself, is_circuit, denoted, judged, decision}
use Rattle.ada_rules.specs.Declarations.{indicated, defined, NewValue, new_value, Declared, may_be_bare, one_name, known_constant, lying_in, with_objects, bare_declarations, local_bare, local_set, objects_declared, exception_declared, exceptions_from, type_declared, subtype_declared, kind_declared, declared, all_declared}
use Rattle.ada_rules.specs.Statements.{stmts_of, one, target, call_of, Chosen, branches_of, Selector, selector, all_chosen, Arm, alternatives_of, ends_with_others, case_of, turned, loop_parameter, one_object_more, is_reverse, returned, returned_value, exception_of, where_allowed, all_caught, is_last, declarations_in, Frame, block_of, typed_stmt, stated, all_stated, branched, all_arms, all_handlers, all_handled}
use Rattle.legal_laws.proofs.KnownObjects.{of_one}
use Rattle.legal_laws.proofs.NumberedObjects.{exceptions_made, inside_only, mapped_any}
use Rattle.legal_laws.proofs.Passing.{IfPassed, if_map, if_test, answered, part_so, typed_so, both_ok, any_answer}
use Rattle.legal_programs.specs.Deciding.{Decides, IsWholeRegion, IsWholeEnv, in_form, in_denoted, DenotesFrom, JudgesFrom}
use Rattle.legal_programs.proofs.Deciding.{decides_none, decides_same, decides_joined, decides_as, decides_behind, decides_before}
use Rattle.legal_programs.proofs.DecidedExpressions.{in_expr_of, Decided, denoted_decides, judged_decides, decision_decides}
use Rattle.legal_programs.proofs.DecidedParts.{Calm, constant_calm, indicated_calm, defined_calm, new_value_decides, target_decides, SelectorFrom, selector_decides, turned_decides, all_chosen_calm, all_caught_calm}
use Rattle.legal_programs.proofs.WholeRegions.{local_whole, opened_whole, loop_whole, handler_whole, hidden_whole, all_hidden_whole, RegionWhole, declared_whole}

abbrev pub Declares : State → Declared → Type 0
Declares s x = Decides s (in_declarations x.made) x.next

exceptions_decided : (env : Env) (s : State) (region : Region) (is : List Identifier) → Decides s [] (exceptions_from env s region is).next
exceptions_decided env s region [] = decides_same s
exceptions_decided env s region (i ∷ is) =
    decides_behind s (exception_declared env i s) _ [] (decides_none s (exception_declared env i s) refl refl)
    (exceptions_decided env (exception_declared env i s) (redefined (key i) (raisable (tree.declared (owner_of env) s.exceptions)) region) is)

exceptions_declare : (env : Env) (s : State) (region : Region) (is : List Identifier) → Declares s (exceptions_from env s region is)
exceptions_declare env s region is =
    subst (λ ds. Decides s (in_declarations ds) (exceptions_from env s region is).next) (sym (exceptions_made env s region is)) (exceptions_decided env s region is)

pub bare_decisions : (t : AdaSubtype) (n : ℕ) (is : List Identifier) → in_declarations (bare_declarations t n is) ≡ []
bare_decisions t n [] = refl
bare_decisions t n (i ∷ is) = bare_decisions t (n + 1) is

pub decisions_of_both : (ds es : List tree.Declaration) → in_declarations (ds ++ es) ≡ (in_declarations ds ++ in_declarations es)
decisions_of_both [] es = refl
decisions_of_both (tree.initialized l d v ∷ ds) es =
    ap (λ xs. in_value l.number v ++ xs) (decisions_of_both ds es) ∙ sym (append_assoc (in_value l.number v) (in_declarations ds) (in_declarations es))
decisions_of_both (tree.without_value d t ∷ ds) es = decisions_of_both ds es

module _ (env : Env) (step : env.step ≡ typing) (whole : IsWholeEnv env) (inside : env.is_library ≡ false) where
  set_decides : (q : Pos) (c : Constancy) (region : Region) (i : Identifier) (a : AdaSubtype) (v : Given NewValue) (s : State)
      → ((k : ℕ) → Decides s (in_value k v.value.value) v.next) → Declares s (local_set env q c region (i ∷ []) a v)
  set_decides q c region i a v s h =
      let k = known_constant env c a (lying_in env a) v.value.known v.next in
      let l = statement_label k.next q in
      decides_as s (local_set env q c region (i ∷ []) a v).next (in_value l.number v.value.value) (in_value l.number v.value.value ++ []) (sym (append-nil (in_value l.number v.value.value)))
      (decides_before s k.next _ (in_value l.number v.value.value)
      (decides_as s k.next (in_value l.number v.value.value ++ []) (in_value l.number v.value.value) (append-nil (in_value l.number v.value.value))
      (decides_joined s v.next k.next (in_value l.number v.value.value) [] (h l.number) (constant_calm env c a (lying_in env a) v.value.known v.next))) refl refl)

  objects_decide : (q : Pos) (c : Constancy) (region : Region) (h : IsWholeRegion region) (is : List Identifier) (s : State) (t : Given AdaSubtype) (i : Option Initial)
      → Decides s [] t.next → IfPassed (objects_declared env q c region is t i).outcome (Declares s)
  objects_decide q c region h is s t None k =
      let made = decides_as s (with_objects t.value is t.next) [] _ (sym (bare_decisions t.value t.next.objects is)) (decides_before s t.next (with_objects t.value is t.next) [] k refl refl) in
      inside_only (Declares s) env.is_library _ _ inside
      (typed_so (Declares s) env.step (local_bare c region is t) (option_map (λ u. local_bare c region is t) (may_be_bare c)) step
      (mapped_any (Declares s) (may_be_bare c) (local_bare c region is t) made))
  objects_decide q c region h is s t (Some i) k =
      inside_only (Declares s) env.is_library _ _ inside
      (part_so (λ v. (j : ℕ) → Decides t.next (in_value j v.value.value) v.next) (Declares s) (new_value (with_local env region) t.next q t.value i).answer
      (λ v. typed_rule env.step (local_set env q c region is t.value v) (option_map (λ u. local_set env q c region is t.value v) (one_name is)))
      (new_value_decides (with_local env region) step (local_whole env region whole h) t.next q t.value i)
      (λ v l. typed_so (Declares s) env.step _ _ step
      (of_one (Declares s) is (λ js. local_set env q c region js t.value v) tt
      (λ j same. subst (λ js. Declares s (local_set env q c region js t.value v)) (sym same)
      (set_decides q c region j t.value v s (λ n. decides_behind s t.next v.next _ k (l n)))))))

  kind_decides : (s : State) (q : Pos) (d : DeclarationKind) → IfPassed (kind_declared env s q d).outcome (Declares s)
  kind_decides s q (declares.Type i d) =
      part_so IsWholeRegion (Declares s) (hide env.local i).answer
      (λ region. defined (with_local env region) (one_type_more s) q (new_identity env s) d >>= (λ x. rule (Some (type_declared env q i (new_identity env s) x))))
      (hidden_whole env.local i whole.regions.0)
      (λ region h. part_so (Calm (one_type_more s)) (Declares s) (defined (with_local env region) (one_type_more s) q (new_identity env s) d).answer
      (λ x. rule (Some (type_declared env q i (new_identity env s) x)))
      (defined_calm (with_local env region) step (local_whole env region whole h) (one_type_more s) q (new_identity env s) d)
      (λ x k. decides_before s x.next _ [] (decides_behind s (one_type_more s) x.next [] (decides_none s (one_type_more s) refl refl) k) refl refl))
  kind_decides s q (declares.Subtype i t) =
      part_so IsWholeRegion (Declares s) (hide env.local i).answer
      (λ region. indicated (with_local env region) (one_type_more s) t >>= (λ x. rule (Some (subtype_declared i region (new_identity env s) x))))
      (hidden_whole env.local i whole.regions.0)
      (λ region h. part_so (Calm (one_type_more s)) (Declares s) (indicated (with_local env region) (one_type_more s) t).answer
      (λ x. rule (Some (subtype_declared i region (new_identity env s) x))) (indicated_calm (with_local env region) step (local_whole env region whole h) (one_type_more s) t)
      (λ x k. decides_behind s (one_type_more s) x.next [] (decides_none s (one_type_more s) refl refl) k))
  kind_decides s q (declares.Object is c t i) =
      part_so IsWholeRegion (Declares s) (hide_all q env.local is).answer
      (λ region. indicated (with_local env region) s t >>= (λ x. objects_declared env q c region is x i)) (all_hidden_whole q env.local is whole.regions.0)
      (λ region h. part_so (Calm s) (Declares s) (indicated (with_local env region) s t).answer (λ x. objects_declared env q c region is x i)
      (indicated_calm (with_local env region) step (local_whole env region whole h) s t) (λ x k. objects_decide q c region h is s x i k))
  kind_decides s q (declares.Exception is) =
      part_so (λ x. Unit {0}) (Declares s) (hide_all q env.local is).answer (λ region. rule (Some (exceptions_from env s region is)))
      (any_answer (hide_all q env.local is).answer) (λ region u. exceptions_declare env s region is)
  kind_decides s q (declares.Pragma a) = decides_same s

  declaration_decides : (s : State) (d : Declaration) → IfOk (declared env s d).answer (Declares s)
  declaration_decides s d = answered (Declares s) d.pos (kind_declared env s d.pos d.kind).outcome (kind_decides s d.pos d.kind)

-- declarations in order, and the region behind them
abbrev pub DeclaresIn : State → Declared → Type 0
DeclaresIn s x = Declares s x × RegionWhole x

pub declarations_decide : (env : Env) (s : State) (q : Pos) (ds : List Declaration) → env.step ≡ typing → IsWholeEnv env → env.is_library ≡ false
    → IfOk (all_declared env s q ds).answer (DeclaresIn s)
declarations_decide env s q [] step whole inside = (decides_same s, whole.regions.0)
declarations_decide env s q (d ∷ ds) step whole inside =
    answered (DeclaresIn s) q _
    (part_so (DeclaresIn s) (DeclaresIn s) (declared env s d).answer
    (λ x. all_declared (with_local env x.region) x.next q ds >>= (λ xs. rule (Some (record { region = xs.region; next = xs.next; made = x.made ++ xs.made }))))
    (both_ok (Declares s) RegionWhole (declared env s d).answer (declaration_decides env step whole inside s d) (declared_whole env s d whole.regions.0))
    (λ x h. part_so (DeclaresIn x.next) (DeclaresIn s) (all_declared (with_local env x.region) x.next q ds).answer
    (λ xs. rule (Some (record { region = xs.region; next = xs.next; made = x.made ++ xs.made })))
    (declarations_decide (with_local env x.region) x.next q ds step (local_whole env x.region whole h.1) inside)
    (λ xs k. (decides_as s xs.next _ _ (sym (decisions_of_both x.made xs.made)) (decides_joined s x.next xs.next _ _ h.0 k.0), k.1))))

-- statements
pub joined_decisions : (xs ys : List tree.Stmt) → in_stmts (stmts_of (xs ++ ys)) ≡ (in_stmts (stmts_of xs) ++ in_stmts (stmts_of ys))
joined_decisions [] ys = refl
joined_decisions (x ∷ xs) ys =
    ap (λ zs. in_stmt x ++ zs) (joined_decisions xs ys) ∙ sym (append_assoc (in_stmt x) (in_stmts (stmts_of xs)) (in_stmts (stmts_of ys)))

abbrev pub chosen_decisions : ℕ → List Chosen → List Decision
chosen_decisions k [] = []
chosen_decisions k (c ∷ cs) = (in_decision k after_if c.label c.test ++ in_stmts (stmts_of c.statements)) ++ chosen_decisions k cs

pub branches_decisions : (k : ℕ) (cs : List Chosen) (other : List tree.Stmt) → in_branches k (branches_of cs other) ≡ (chosen_decisions k cs ++ in_stmts (stmts_of other))
branches_decisions k [] other = refl
branches_decisions k (c ∷ cs) other =
    ap (λ zs. (in_decision k after_if c.label c.test ++ in_stmts (stmts_of c.statements)) ++ zs) (branches_decisions k cs other)
    ∙ sym (append_assoc (in_decision k after_if c.label c.test ++ in_stmts (stmts_of c.statements)) (chosen_decisions k cs) (in_stmts (stmts_of other)))

abbrev pub arm_decisions : List Arm → List Decision
arm_decisions [] = []
arm_decisions (a ∷ rest) = in_stmts (stmts_of a.statements) ++ arm_decisions rest

pub alternatives_decisions : (arms : List Arm) → in_alternatives (alternatives_of arms) ≡ arm_decisions arms
alternatives_decisions [] = refl
alternatives_decisions (a ∷ rest) = ap (λ zs. in_stmts (stmts_of a.statements) ++ zs) (alternatives_decisions rest)

abbrev pub As : State → Given (List tree.Stmt) → Type 0
As s g = Decides s (in_stmts (stmts_of g.value)) g.next

abbrev BranchesAs : State → Given (List Chosen) → Type 0
BranchesAs s g = (k : ℕ) → Decides s (chosen_decisions k g.value) g.next

abbrev ArmsAs : State → Given (List Arm) → Type 0
ArmsAs s g = Decides s (arm_decisions g.value) g.next

abbrev HandlersAs : State → Given tree.Handlers → Type 0
HandlersAs s g = Decides s (in_handlers g.value) g.next

abbrev pub FrameAs : State → Given Frame → Type 0
FrameAs s f = Decides s (in_stmts (stmts_of f.value.statements) ++ in_handlers f.value.handlers) f.next

begun : (s : State) → Decides s [] (started s)
begun s = decides_none s (started s) refl refl

from_start : (s t : State) (ds : List Decision) → Decides (started s) ds t → Decides s ds t
from_start s t ds h = decides_behind s (started s) t ds (begun s) h

one_decided : (s t : State) (x : tree.Stmt) → Decides s (in_stmt x) t → Decides s (in_stmts (stmts_of (x ∷ []))) t
one_decided s t x h = decides_as s t (in_stmt x) (in_stmt x ++ []) (sym (append-nil (in_stmt x))) h

stmt_decided : (env : Env) (s t : State) (l : tree.Label) (x : Option tree.Stmt) → env.step ≡ typing → IfSome x (λ y. Decides s (in_stmt y) t)
    → IfPassed (typed_stmt env l t x).outcome (As s)
stmt_decided env s t l x step h =
    typed_so (As s) env.step (one (tree.null_statement l) t) (option_map (λ y. one y t) x) step
    (if_map (λ y. Decides s (in_stmt y) t) (As s) (λ y. one y t) x h (λ y k. one_decided s t y k))

pub call_decisions : (l : tree.Label) (d : Denoted) → IfSome (call_of l d) (λ y. in_stmt y ≡ in_denoted l.number d)
call_decisions l (a_routine r) = if_test (λ y. in_stmt y ≡ []) (nat_eq (length r.parameters) 0) _ (if_none r.result)
  where
    if_none : (o : Option Parameter) → (nat_eq (length r.parameters) 0 ≡ true)
        → IfSome (if is_none o then Some (tree.procedure_call l r.callee tree.no_actual) else None) (λ y. in_stmt y ≡ [])
    if_none None e = refl
    if_none (Some q) e = tt
call_decisions l (a_call r actuals) = if_none r.result
  where
    if_none : (o : Option Parameter)
        → IfSome (if is_none o then Some (tree.procedure_call l r.callee actuals) else None) (λ y. in_stmt y ≡ in_actuals l.number actuals)
    if_none None = refl
    if_none (Some q) = tt
call_decisions l d = tt

some_decided : (s t : State) (ds : List Decision) (x : Option tree.Stmt) → IfSome x (λ y. in_stmt y ≡ ds) → Decides s ds t → IfSome x (λ y. Decides s (in_stmt y) t)
some_decided s t ds None e h = tt
some_decided s t ds (Some y) e h = decides_as s t ds (in_stmt y) (sym e) h

pub allowed_decisions : (b : Bool) (x : tree.Stmt) → IfSome (where_allowed b x) (λ y. in_stmt y ≡ in_stmt x)
allowed_decisions b x = if_test (λ y. in_stmt y ≡ in_stmt x) b (Some x) (λ e. refl)

pub returned_decisions : (l : tree.Label) (r : Returning) → IfSome (returned l r) (λ y. in_stmt y ≡ [])
returned_decisions l no_result = refl
returned_decisions l (result_of t) = tt

pub value_decisions : (l : tree.Label) (x : Judged) (r : Returning) → IfSome (returned_value l x r) (λ y. in_stmt y ≡ in_expr l.number (expr_of x))
value_decisions l x no_result = tt
value_decisions l x (result_of t) = if_test (λ y. in_stmt y ≡ in_expr l.number (expr_of x)) (fits (type_in t) x.kind) _ (λ e. refl)

-- a block or a body
pub block_decided : (s t u : State) (ds : List tree.Declaration) (f : Frame) → Decides s (in_declarations ds) t
    → Decides t (in_stmts (stmts_of f.statements) ++ in_handlers f.handlers) u → Decides s (in_block (block_of ds f)) u
block_decided s t u ds f h k =
    decides_as s u (in_declarations ds ++ (in_stmts (stmts_of f.statements) ++ in_handlers f.handlers)) (in_block (block_of ds f))
    (sym (append_assoc (in_declarations ds) (in_stmts (stmts_of f.statements)) (in_handlers f.handlers)))
    (decides_joined s t u (in_declarations ds) (in_stmts (stmts_of f.statements) ++ in_handlers f.handlers) h k)

raised_calm : (env : Env) → env.step ≡ typing → IsWholeEnv env → (s : State) (l : tree.Label) (d : Given Denoted) → DenotesFrom (started s) d
    → IfSome (option_map (tree.raise_statement l) (exception_of d.value)) (λ y. Decides s (in_stmt y) d.next)
raised_calm env step whole s l d h = of_denoted d.value (h.decides 0)
  where
    of_denoted : (x : Denoted) → Decides (started s) (in_denoted 0 x) d.next → IfSome (option_map (tree.raise_statement l) (exception_of x)) (λ y. Decides s (in_stmt y) d.next)
    of_denoted (an_exception e) k = from_start s d.next [] k
    of_denoted x k = tt

mutual
  pub stated_decides : (env : Env) (s : State) (x : text.Statement) → env.step ≡ typing → IsWholeEnv env → IfOk (stated env s x).answer (As s)
  stated_decides env s (text.null q) step whole = one_decided s (started s) (tree.null_statement (statement_label s q)) (begun s)
  stated_decides env s (text.assignment q n i) step whole =
      answered (As s) q _
      (part_so (λ v. (k : ℕ) → Decides (started s) (in_parts k v.value.parts) v.next) (As s) (target env (started s) n).answer
      (λ v. new_value env v.next q v.value.subtype i >>= (λ x. rule (Some (one (tree.assignment (statement_label s q) v.value.object v.value.parts x.value.value) x.next))))
      (target_decides env step whole (started s) n)
      (λ v h. part_so (λ x. (k : ℕ) → Decides v.next (in_value k x.value.value) x.next) (As s) (new_value env v.next q v.value.subtype i).answer
      (λ x. rule (Some (one (tree.assignment (statement_label s q) v.value.object v.value.parts x.value.value) x.next)))
      (new_value_decides env step whole v.next q v.value.subtype i)
      (λ x k. one_decided s x.next (tree.assignment (statement_label s q) v.value.object v.value.parts x.value.value)
      (from_start s x.next _ (decides_joined (started s) v.next x.next _ _ (h s.statements) (k s.statements))))))
  stated_decides env s (text.call q n) step whole =
      answered (As s) q _
      (part_so (DenotesFrom (started s)) (As s) (denoted env (started s) n).answer
      (λ d. typed_stmt env (statement_label s q) d.next (call_of (statement_label s q) d.value)) (denoted_decides env step whole (started s) n)
      (λ d h. stmt_decided env s d.next (statement_label s q) (call_of (statement_label s q) d.value) step
      (some_decided s d.next (in_denoted s.statements d.value) (call_of (statement_label s q) d.value) (call_decisions (statement_label s q) d.value)
      (from_start s d.next _ (h.decides s.statements)))))
  stated_decides env s (text.exemption q a) step whole = decides_same s
  stated_decides env s (text.conditional q e ss bs es) step whole =
      answered (As s) q _
      (part_so (Decided (started s)) (As s) (decision env (started s) q e).answer
      (λ t. all_stated env t.next q ss >>= (λ xs. branched env xs.next q bs >>= (λ ys. all_stated env ys.next q es
      >>= (λ zs. rule (Some (one (tree.if_statement (statement_label s q) (tree.branch t.value.0 t.value.1 (stmts_of xs.value) (branches_of ys.value zs.value))) zs.next))))))
      (decision_decides env step whole (started s) q e)
      (λ t u. part_so (As t.next) (As s) (all_stated env t.next q ss).answer
      (λ xs. branched env xs.next q bs >>= (λ ys. all_stated env ys.next q es
      >>= (λ zs. rule (Some (one (tree.if_statement (statement_label s q) (tree.branch t.value.0 t.value.1 (stmts_of xs.value) (branches_of ys.value zs.value))) zs.next)))))
      (all_decide env t.next q ss step whole)
      (λ xs h. part_so (BranchesAs xs.next) (As s) (branched env xs.next q bs).answer
      (λ ys. all_stated env ys.next q es
      >>= (λ zs. rule (Some (one (tree.if_statement (statement_label s q) (tree.branch t.value.0 t.value.1 (stmts_of xs.value) (branches_of ys.value zs.value))) zs.next))))
      (branched_decide env xs.next q bs step whole)
      (λ ys k. part_so (As ys.next) (As s) (all_stated env ys.next q es).answer
      (λ zs. rule (Some (one (tree.if_statement (statement_label s q) (tree.branch t.value.0 t.value.1 (stmts_of xs.value) (branches_of ys.value zs.value))) zs.next)))
      (all_decide env ys.next q es step whole)
      (λ zs l. one_decided s zs.next (tree.if_statement (statement_label s q) (tree.branch t.value.0 t.value.1 (stmts_of xs.value) (branches_of ys.value zs.value)))
      (from_start s zs.next _
      (decides_joined (started s) xs.next zs.next _ _
      (decides_joined (started s) t.next xs.next _ _ (u s.statements after_if) h)
      (decides_as xs.next zs.next (chosen_decisions s.statements ys.value ++ in_stmts (stmts_of zs.value)) (in_branches s.statements (branches_of ys.value zs.value))
      (sym (branches_decisions s.statements ys.value zs.value))
      (decides_joined xs.next ys.next zs.next _ _ (k s.statements) l)))))))))
  stated_decides env s (text.case_of q e alternatives) step whole =
      answered (As s) q _
      (part_so (SelectorFrom env step whole (started s)) (As s) (selector env (started s) e).answer
      (λ x. all_arms env x.next x.value q alternatives
      >>= (λ arms. typed_rule env.step (one (tree.null_statement (statement_label s q)) arms.next) (case_of env s q x.value arms)))
      (selector_decides env step whole (started s) e)
      (λ x u. part_so (ArmsAs x.next) (As s) (all_arms env x.next x.value q alternatives).answer
      (λ arms. typed_rule env.step (one (tree.null_statement (statement_label s q)) arms.next) (case_of env s q x.value arms))
      (arms_all_decide env x.next x.value q alternatives step whole)
      (λ arms h. typed_so (As s) env.step (one (tree.null_statement (statement_label s q)) arms.next) (case_of env s q x.value arms) step
      (if_test (As s) (ends_with_others arms.value) _
      (λ b. one_decided s _ (tree.case_statement (statement_label s q) x.value.expr (alternatives_of arms.value))
      (decides_before s arms.next _ _
      (from_start s arms.next _ (decides_joined (started s) x.next arms.next _ _ (u s.statements)
      (decides_as x.next arms.next (arm_decisions arms.value) (in_alternatives (alternatives_of arms.value)) (sym (alternatives_decisions arms.value)) h))) refl refl))))))
  stated_decides env s (text.repeat q scheme.Forever ss) step whole =
      answered (As s) q _
      (part_so (As (started s)) (As s) (all_stated (in_loop env) (started s) q ss).answer
      (λ xs. rule (Some (one (tree.bare_loop (statement_label s q) (stmts_of xs.value)) xs.next)))
      (all_decide (in_loop env) (started s) q ss step (loop_whole env whole))
      (λ xs h. one_decided s xs.next (tree.bare_loop (statement_label s q) (stmts_of xs.value)) (from_start s xs.next _ h)))
  stated_decides env s (text.repeat q (scheme.While e) ss) step whole =
      answered (As s) q _
      (part_so (Decided (started s)) (As s) (decision env (started s) q e).answer
      (λ t. all_stated (in_loop env) t.next q ss >>= (λ xs. rule (Some (one (tree.while_loop (statement_label s q) t.value.0 t.value.1 (stmts_of xs.value)) xs.next))))
      (decision_decides env step whole (started s) q e)
      (λ t u. part_so (As t.next) (As s) (all_stated (in_loop env) t.next q ss).answer
      (λ xs. rule (Some (one (tree.while_loop (statement_label s q) t.value.0 t.value.1 (stmts_of xs.value)) xs.next)))
      (all_decide (in_loop env) t.next q ss step (loop_whole env whole))
      (λ xs h. one_decided s xs.next (tree.while_loop (statement_label s q) t.value.0 t.value.1 (stmts_of xs.value))
      (from_start s xs.next _ (decides_joined (started s) t.next xs.next _ _ (u s.statements after_while) h)))))
  stated_decides env s (text.repeat q (scheme.For i d r) ss) step whole =
      answered (As s) q _
      (part_so IsWholeRegion (As s) (hide [] i).answer
      (λ region. turned (with_local (opened env) region) (started s) r
      >>= (λ t. all_stated (in_loop (with_local (opened env) ((key i, loop_parameter t.next.objects t.value) ∷ []))) (one_object_more q t.value.subtype t.next) q ss
      >>= (λ xs. rule (Some (one (tree.for_loop (statement_label s q) t.next.objects (is_reverse d) t.value.over (stmts_of xs.value)) xs.next)))))
      (hidden_whole [] i tt)
      (λ region v. part_so (λ t. (k : ℕ) → Decides (started s) (in_turns k t.value.over) t.next) (As s) (turned (with_local (opened env) region) (started s) r).answer
      (λ t. all_stated (in_loop (with_local (opened env) ((key i, loop_parameter t.next.objects t.value) ∷ []))) (one_object_more q t.value.subtype t.next) q ss
      >>= (λ xs. rule (Some (one (tree.for_loop (statement_label s q) t.next.objects (is_reverse d) t.value.over (stmts_of xs.value)) xs.next))))
      (turned_decides (with_local (opened env) region) step (local_whole (opened env) region (opened_whole env whole) v) (started s) r)
      (λ t u. part_so (As (one_object_more q t.value.subtype t.next)) (As s)
      (all_stated (in_loop (with_local (opened env) ((key i, loop_parameter t.next.objects t.value) ∷ []))) (one_object_more q t.value.subtype t.next) q ss).answer
      (λ xs. rule (Some (one (tree.for_loop (statement_label s q) t.next.objects (is_reverse d) t.value.over (stmts_of xs.value)) xs.next)))
      (all_decide (in_loop (with_local (opened env) ((key i, loop_parameter t.next.objects t.value) ∷ []))) (one_object_more q t.value.subtype t.next) q ss step
      (loop_whole _ (local_whole (opened env) ((key i, loop_parameter t.next.objects t.value) ∷ []) (opened_whole env whole) (refl, tt))))
      (λ xs h. one_decided s xs.next (tree.for_loop (statement_label s q) t.next.objects (is_reverse d) t.value.over (stmts_of xs.value))
      (from_start s xs.next _ (decides_joined (started s) t.next xs.next _ _ (u s.statements)
      (decides_behind t.next (one_object_more q t.value.subtype t.next) xs.next _ (decides_none t.next (one_object_more q t.value.subtype t.next) refl refl) h)))))))
  stated_decides env s (text.exit q None) step whole =
      answered (As s) q _
      (stmt_decided env s (started s) (statement_label s q) (where_allowed env.is_looping (tree.exit_statement (statement_label s q))) step
      (some_decided s (started s) [] _ (allowed_decisions env.is_looping (tree.exit_statement (statement_label s q))) (begun s)))
  stated_decides env s (text.exit q (Some e)) step whole =
      answered (As s) q _
      (part_so (Decided (started s)) (As s) (decision env (started s) q e).answer
      (λ t. typed_stmt env (statement_label s q) t.next (where_allowed env.is_looping (tree.exit_when (statement_label s q) t.value.0 t.value.1)))
      (decision_decides env step whole (started s) q e)
      (λ t u. stmt_decided env s t.next (statement_label s q) (where_allowed env.is_looping (tree.exit_when (statement_label s q) t.value.0 t.value.1)) step
      (some_decided s t.next _ _ (allowed_decisions env.is_looping (tree.exit_when (statement_label s q) t.value.0 t.value.1))
      (from_start s t.next _ (u s.statements after_exit)))))
  stated_decides env s (text.returns q None) step whole =
      answered (As s) q _
      (stmt_decided env s (started s) (statement_label s q) (returned (statement_label s q) env.returning) step
      (some_decided s (started s) [] _ (returned_decisions (statement_label s q) env.returning) (begun s)))
  stated_decides env s (text.returns q (Some e)) step whole =
      answered (As s) q _
      (part_so (JudgesFrom itself (is_circuit e) (started s)) (As s) (judged env itself (started s) e).answer
      (λ x. typed_stmt env (statement_label s q) x.next (returned_value (statement_label s q) x.value env.returning)) (judged_decides env step whole itself (started s) e)
      (λ x u. stmt_decided env s x.next (statement_label s q) (returned_value (statement_label s q) x.value env.returning) step
      (some_decided s x.next (in_expr s.statements (expr_of x.value)) _ (value_decisions (statement_label s q) x.value env.returning)
      (from_start s x.next _ (decides_as (started s) x.next (in_form s.statements x.value.form) _ (sym (in_expr_of s.statements x.value u.is_plain)) (u.decides s.statements))))))
  stated_decides env s (text.raise q None) step whole =
      answered (As s) q _
      (stmt_decided env s (started s) (statement_label s q) (where_allowed env.is_handling (tree.raise_again (statement_label s q))) step
      (some_decided s (started s) [] _ (allowed_decisions env.is_handling (tree.raise_again (statement_label s q))) (begun s)))
  stated_decides env s (text.raise q (Some n)) step whole =
      answered (As s) q _
      (part_so (DenotesFrom (started s)) (As s) (denoted env (started s) n).answer
      (λ d. typed_stmt env (statement_label s q) d.next (option_map (tree.raise_statement (statement_label s q)) (exception_of d.value)))
      (denoted_decides env step whole (started s) n)
      (λ d u. stmt_decided env s d.next (statement_label s q) (option_map (tree.raise_statement (statement_label s q)) (exception_of d.value)) step
      (raised_calm env step whole s (statement_label s q) d u)))
  stated_decides env s (text.block q ds h) step whole =
      answered (As s) q _
      (part_so (DeclaresIn s) (As s) (all_declared (opened env) s q (declarations_in ds)).answer
      (λ x. all_handled (with_local (opened env) x.region) x.next q h >>= (λ f. rule (Some (one (tree.block_statement (block_of x.made f.value)) f.next))))
      (declarations_decide (opened env) s q (declarations_in ds) step (opened_whole env whole) refl)
      (λ x u. part_so (FrameAs x.next) (As s) (all_handled (with_local (opened env) x.region) x.next q h).answer
      (λ f. rule (Some (one (tree.block_statement (block_of x.made f.value)) f.next)))
      (handled_decide (with_local (opened env) x.region) x.next q h step (local_whole (opened env) x.region (opened_whole env whole) u.1))
      (λ f k. one_decided s f.next (tree.block_statement (block_of x.made f.value)) (block_decided s x.next f.next x.made f.value u.0 k))))

  pub all_decide : (env : Env) (s : State) (q : Pos) (xs : text.Statements) → env.step ≡ typing → IsWholeEnv env → IfOk (all_stated env s q xs).answer (As s)
  all_decide env s q text.no_statements step whole = decides_same s
  all_decide env s q (text.then_also x xs) step whole =
      answered (As s) q _
      (part_so (As s) (As s) (stated env s x).answer
      (λ y. all_stated env y.next q xs >>= (λ ys. rule (Some (given (y.value ++ ys.value) ys.next)))) (stated_decides env s x step whole)
      (λ y h. part_so (As y.next) (As s) (all_stated env y.next q xs).answer (λ ys. rule (Some (given (y.value ++ ys.value) ys.next)))
      (all_decide env y.next q xs step whole)
      (λ ys k. decides_as s ys.next _ _ (sym (joined_decisions y.value ys.value))
      (decides_joined s y.next ys.next (in_stmts (stmts_of y.value)) (in_stmts (stmts_of ys.value)) h k))))

  pub branched_decide : (env : Env) (s : State) (q : Pos) (bs : text.Branches) → env.step ≡ typing → IsWholeEnv env → IfOk (branched env s q bs).answer (BranchesAs s)
  branched_decide env s q text.no_branches step whole = λ k. decides_same s
  branched_decide env s q (text.branch e ss bs) step whole =
      answered (BranchesAs s) q _
      (part_so (Decided s) (BranchesAs s) (decision env s q e).answer
      (λ t. all_stated env t.next q ss >>= (λ xs. branched env xs.next q bs
      >>= (λ ys. rule (Some (given (record { label = t.value.0; test = t.value.1; statements = xs.value } ∷ ys.value) ys.next)))))
      (decision_decides env step whole s q e)
      (λ t u. part_so (As t.next) (BranchesAs s) (all_stated env t.next q ss).answer
      (λ xs. branched env xs.next q bs >>= (λ ys. rule (Some (given (record { label = t.value.0; test = t.value.1; statements = xs.value } ∷ ys.value) ys.next))))
      (all_decide env t.next q ss step whole)
      (λ xs h. part_so (BranchesAs xs.next) (BranchesAs s) (branched env xs.next q bs).answer
      (λ ys. rule (Some (given (record { label = t.value.0; test = t.value.1; statements = xs.value } ∷ ys.value) ys.next)))
      (branched_decide env xs.next q bs step whole)
      (λ ys k n. decides_joined s xs.next ys.next _ _ (decides_joined s t.next xs.next _ _ (u n after_if) h) (k n)))))

  pub arms_all_decide : (env : Env) (s : State) (x : Selector) (q : Pos) (rest : text.Alternatives) → env.step ≡ typing → IsWholeEnv env
      → IfOk (all_arms env s x q rest).answer (ArmsAs s)
  arms_all_decide env s x q text.no_alternatives step whole = decides_same s
  arms_all_decide env s x q (text.alternative cs ss rest) step whole =
      answered (ArmsAs s) q _
      (part_so (Calm s) (ArmsAs s) (all_chosen env s x q cs).answer
      (λ ds. all_stated env ds.next q ss >>= (λ xs. all_arms env xs.next x q rest
      >>= (λ ys. rule (Some (given (record { choices = ds.value; statements = xs.value } ∷ ys.value) ys.next)))))
      (all_chosen_calm env step whole s x q cs)
      (λ ds u. part_so (As ds.next) (ArmsAs s) (all_stated env ds.next q ss).answer
      (λ xs. all_arms env xs.next x q rest >>= (λ ys. rule (Some (given (record { choices = ds.value; statements = xs.value } ∷ ys.value) ys.next))))
      (all_decide env ds.next q ss step whole)
      (λ xs h. part_so (ArmsAs xs.next) (ArmsAs s) (all_arms env xs.next x q rest).answer
      (λ ys. rule (Some (given (record { choices = ds.value; statements = xs.value } ∷ ys.value) ys.next)))
      (arms_all_decide env xs.next x q rest step whole)
      (λ ys k. decides_behind s ds.next ys.next _ u (decides_joined ds.next xs.next ys.next _ _ h k)))))

  pub handlers_decide : (env : Env) (s : State) (q : Pos) (hs : text.Handlers) → env.step ≡ typing → IsWholeEnv env → IfOk (all_handlers env s q hs).answer (HandlersAs s)
  handlers_decide env s q text.no_handlers step whole = decides_same s
  handlers_decide env s q (text.handler cs ss hs) step whole =
      answered (HandlersAs s) q _
      (part_so (Calm s) (HandlersAs s) (all_caught env s (is_last hs && nat_eq (length cs) 1) q cs).answer
      (λ ds. all_stated (in_handler env) ds.next q ss >>= (λ xs. all_handlers env xs.next q hs
      >>= (λ ys. rule (Some (given (tree.handler ds.value (stmts_of xs.value) ys.value) ys.next)))))
      (all_caught_calm env step whole s (is_last hs && nat_eq (length cs) 1) q cs)
      (λ ds u. part_so (As ds.next) (HandlersAs s) (all_stated (in_handler env) ds.next q ss).answer
      (λ xs. all_handlers env xs.next q hs >>= (λ ys. rule (Some (given (tree.handler ds.value (stmts_of xs.value) ys.value) ys.next))))
      (all_decide (in_handler env) ds.next q ss step (handler_whole env whole))
      (λ xs h. part_so (HandlersAs xs.next) (HandlersAs s) (all_handlers env xs.next q hs).answer
      (λ ys. rule (Some (given (tree.handler ds.value (stmts_of xs.value) ys.value) ys.next)))
      (handlers_decide env xs.next q hs step whole)
      (λ ys k. decides_behind s ds.next ys.next _ u (decides_joined ds.next xs.next ys.next _ _ h k)))))

  pub handled_decide : (env : Env) (s : State) (q : Pos) (h : text.Handled) → env.step ≡ typing → IsWholeEnv env → IfOk (all_handled env s q h).answer (FrameAs s)
  handled_decide env s q (text.handled ss hs) step whole =
      answered (FrameAs s) q _
      (part_so (As s) (FrameAs s) (all_stated env s q ss).answer
      (λ xs. all_handlers env xs.next q hs >>= (λ ys. rule (Some (given (record { statements = xs.value; handlers = ys.value }) ys.next))))
      (all_decide env s q ss step whole)
      (λ xs h. part_so (HandlersAs xs.next) (FrameAs s) (all_handlers env xs.next q hs).answer
      (λ ys. rule (Some (given (record { statements = xs.value; handlers = ys.value }) ys.next)))
      (handlers_decide env xs.next q hs step whole)
      (λ ys k. decides_joined s xs.next ys.next _ _ h k)))
