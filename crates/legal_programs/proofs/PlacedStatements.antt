-- Statement obligations stand where their statements stand in the text.
use Rattle.std.proofs.Common.{◌≡◌, nat_eq, false, List, [], ◌∷◌, ◌++◌, map, length, Option, Some, None, option_map, IfSome, IfOk, refl, sym, ap, ◌∙◌, subst, append-nil, append_assoc}
use Rattle.std.specs.Prelude.{◌&&◌}
use Rattle.cov_base.specs.declared.position.Pos.{Pos}
use Rattle.ada_syntax.specs.StatementTree as text
use Rattle.ada_syntax.specs.declared.declaration.Constancy.{Constancy}
use Rattle.ada_syntax.specs.declared.declaration.Declaration.{Declaration}
use Rattle.ada_syntax.specs.declared.declaration.DeclarationKind.{DeclarationKind}
use Rattle.ada_syntax.specs.declared.declaration.DeclarationKind.TheVariants as declares
use Rattle.ada_syntax.specs.declared.declaration.Initial.{Initial}
use Rattle.ada_syntax.specs.declared.name.Identifier.{Identifier}
use Rattle.ada_syntax.specs.declared.statement.LoopScheme.TheVariants as scheme
use Rattle.ada_meaning.specs.Collected.{declaration_labels, labels, all_labels, branch_labels, alternative_labels, handler_labels, block_labels}
use Rattle.ada_meaning.specs.Tree as tree
use Rattle.ada_rules.specs.Plan.{◌>>=◌, rule}
use Rattle.ada_rules.specs.Types.{AdaSubtype}
use Rattle.ada_rules.specs.Entities.{key, Region}
use Rattle.ada_rules.specs.Environment.{typing, typed_rule, State, Given, given, Env, with_local, opened, in_loop, in_handler, new_identity, one_type_more, hide, hide_all, statement_label, started}
use Rattle.ada_rules.specs.Expressions.{itself, denoted, judged, decision}
use Rattle.ada_rules.specs.Declarations.{indicated, defined, new_value, Declared, may_be_bare, one_name, local_bare, local_set, objects_declared, exceptions_from, type_declared, subtype_declared, kind_declared, declared, all_declared}
use Rattle.ada_rules.specs.Statements.{stmts_of, one, target, call_of, Chosen, branches_of, Selector, selector, all_chosen, Arm, alternatives_of, ends_with_others, case_of, turned, loop_parameter, one_object_more, is_reverse, returned, returned_value, exception_of, where_allowed, all_caught, is_last, declarations_in, Frame, block_of, typed_stmt, stated, all_stated, branched, all_arms, all_handlers, all_handled}
use Rattle.legal_laws.proofs.Passing.{IfPassed, if_map, if_test, answered, part_so, typed_so, typed_either, any_answer}
use Rattle.legal_laws.proofs.NumberedObjects.{exceptions_made, inside_only, mapped_any}
use Rattle.legal_programs.specs.TextPlaces.{place_if, kind_places, declared_places, places, all_places, branch_places, alternative_places, handler_places, handled_places}
use Rattle.legal_programs.proofs.Lists.{map_joined}
use Rattle.legal_programs.proofs.LabelledStatements.{bare_labels, labels_of_both, joined_labels, chosen_labels, branches_labels, arm_labels, alternatives_labels, IsPlain, call_plain, allowed_plain, returned_plain, value_plain, raised_plain}

-- labels that stand at these places
abbrev pub Stand : List tree.Label → List Pos → Type 0
Stand ls ps = map (λ l. l.place) ls ≡ ps

stand_joined : (xs ys : List tree.Label) (ps qs : List Pos) → Stand xs ps → Stand ys qs → Stand (xs ++ ys) (ps ++ qs)
stand_joined xs ys ps qs h k = map_joined (λ l. l.place) xs ys ∙ (λ i. h i ++ k i)

stand_as : (xs ys : List tree.Label) (ps : List Pos) → xs ≡ ys → Stand xs ps → Stand ys ps
stand_as xs ys ps e h = subst (λ zs. Stand zs ps) e h

abbrev pub Declares : List Pos → Declared → Type 0
Declares ps x = Stand (declaration_labels x.made) ps

module _ (env : Env) (step : env.step ≡ typing) (inside : env.is_library ≡ false) where
  objects_placed : (q : Pos) (c : Constancy) (region : Region) (is : List Identifier) (t : Given AdaSubtype) (i : Option Initial)
      → IfPassed (objects_declared env q c region is t i).outcome (Declares (place_if q i))
  objects_placed q c region is t None =
      inside_only (Declares []) env.is_library _ _ inside
      (typed_so (Declares []) env.step (local_bare c region is t) (option_map (λ u. local_bare c region is t) (may_be_bare c)) step
      (mapped_any (Declares []) (may_be_bare c) (local_bare c region is t) (stand_as [] _ [] (sym (bare_labels t.value t.next.objects is)) refl)))
  objects_placed q c region is t (Some i) =
      inside_only (Declares (q ∷ [])) env.is_library _ _ inside
      (part_so (λ v. Unit {0}) (Declares (q ∷ [])) (new_value (with_local env region) t.next q t.value i).answer
      (λ v. typed_rule env.step (local_set env q c region is t.value v) (option_map (λ u. local_set env q c region is t.value v) (one_name is)))
      (any_answer (new_value (with_local env region) t.next q t.value i).answer)
      (λ v k. typed_so (Declares (q ∷ [])) env.step _ _ step
      (mapped_any (Declares (q ∷ [])) (one_name is) (local_set env q c region is t.value v) refl)))

  kind_placed : (s : State) (q : Pos) (d : DeclarationKind) → IfPassed (kind_declared env s q d).outcome (Declares (kind_places q d))
  kind_placed s q (declares.Type i d) =
      part_so (λ x. Unit {0}) (Declares []) (hide env.local i).answer
      (λ region. defined (with_local env region) (one_type_more s) q (new_identity env s) d >>= (λ x. rule (Some (type_declared env q i (new_identity env s) x))))
      (any_answer (hide env.local i).answer)
      (λ region u. part_so (λ x. Unit {0}) (Declares []) (defined (with_local env region) (one_type_more s) q (new_identity env s) d).answer
      (λ x. rule (Some (type_declared env q i (new_identity env s) x))) (any_answer (defined (with_local env region) (one_type_more s) q (new_identity env s) d).answer)
      (λ x h. refl))
  kind_placed s q (declares.Subtype i t) =
      part_so (λ x. Unit {0}) (Declares []) (hide env.local i).answer
      (λ region. indicated (with_local env region) (one_type_more s) t >>= (λ x. rule (Some (subtype_declared i region (new_identity env s) x))))
      (any_answer (hide env.local i).answer)
      (λ region u. part_so (λ x. Unit {0}) (Declares []) (indicated (with_local env region) (one_type_more s) t).answer
      (λ x. rule (Some (subtype_declared i region (new_identity env s) x))) (any_answer (indicated (with_local env region) (one_type_more s) t).answer)
      (λ x h. refl))
  kind_placed s q (declares.Object is c t i) =
      part_so (λ x. Unit {0}) (Declares (place_if q i)) (hide_all q env.local is).answer
      (λ region. indicated (with_local env region) s t >>= (λ x. objects_declared env q c region is x i)) (any_answer (hide_all q env.local is).answer)
      (λ region u. part_so (λ x. Unit {0}) (Declares (place_if q i)) (indicated (with_local env region) s t).answer (λ x. objects_declared env q c region is x i)
      (any_answer (indicated (with_local env region) s t).answer) (λ x h. objects_placed q c region is x i))
  kind_placed s q (declares.Exception is) =
      part_so (λ x. Unit {0}) (Declares []) (hide_all q env.local is).answer (λ region. rule (Some (exceptions_from env s region is)))
      (any_answer (hide_all q env.local is).answer)
      (λ region u. ap (λ ds. map (λ l. l.place) (declaration_labels ds)) (exceptions_made env s region is))
  kind_placed s q (declares.Pragma a) = refl

  declaration_placed : (s : State) (d : Declaration) → IfOk (declared env s d).answer (Declares (kind_places d.pos d.kind))
  declaration_placed s d = answered (Declares (kind_places d.pos d.kind)) d.pos (kind_declared env s d.pos d.kind).outcome (kind_placed s d.pos d.kind)

pub declarations_placed : (env : Env) (s : State) (q : Pos) (ds : List Declaration) → env.step ≡ typing → env.is_library ≡ false
    → IfOk (all_declared env s q ds).answer (Declares (declared_places ds))
declarations_placed env s q [] step inside = refl
declarations_placed env s q (d ∷ ds) step inside =
    answered (Declares (declared_places (d ∷ ds))) q _
    (part_so (Declares (kind_places d.pos d.kind)) (Declares (declared_places (d ∷ ds))) (declared env s d).answer
    (λ x. all_declared (with_local env x.region) x.next q ds >>= (λ xs. rule (Some (record { region = xs.region; next = xs.next; made = x.made ++ xs.made }))))
    (declaration_placed env step inside s d)
    (λ x h. part_so (Declares (declared_places ds)) (Declares (declared_places (d ∷ ds))) (all_declared (with_local env x.region) x.next q ds).answer
    (λ xs. rule (Some (record { region = xs.region; next = xs.next; made = x.made ++ xs.made })))
    (declarations_placed (with_local env x.region) x.next q ds step inside)
    (λ xs k. stand_as _ _ _ (sym (labels_of_both x.made xs.made)) (stand_joined _ _ _ _ h k))))

-- statements
abbrev pub As : List Pos → Given (List tree.Stmt) → Type 0
As ps g = Stand (all_labels (stmts_of g.value)) ps

abbrev BranchesAs : List Pos → Given (List Chosen) → Type 0
BranchesAs ps g = Stand (chosen_labels g.value) ps

abbrev ArmsAs : List Pos → Given (List Arm) → Type 0
ArmsAs ps g = Stand (arm_labels g.value) ps

abbrev HandlersAs : List Pos → Given tree.Handlers → Type 0
HandlersAs ps g = Stand (handler_labels g.value) ps

abbrev pub FrameAs : List Pos → Given Frame → Type 0
FrameAs ps f = Stand (all_labels (stmts_of f.value.statements) ++ handler_labels f.value.handlers) ps

one_placed : (x : tree.Stmt) (ps : List Pos) → Stand (labels x) ps → Stand (all_labels (stmts_of (x ∷ []))) ps
one_placed x ps h = stand_as (labels x) (labels x ++ []) ps (sym (append-nil (labels x))) h

plain_placed : (s : State) (q : Pos) (x : tree.Stmt) → IsPlain (statement_label s q) x → Stand (all_labels (stmts_of (x ∷ []))) (q ∷ [])
plain_placed s q x h = one_placed x (q ∷ []) (ap (map (λ l. l.place)) h)

stmt_plain : (env : Env) (s t : State) (q : Pos) (x : Option tree.Stmt) → IfSome x (IsPlain (statement_label s q))
    → IfPassed (typed_stmt env (statement_label s q) t x).outcome (As (q ∷ []))
stmt_plain env s t q x h =
    typed_either (As (q ∷ [])) env.step (one (tree.null_statement (statement_label s q)) t) (option_map (λ y. one y t) x) refl
    (if_map (IsPlain (statement_label s q)) (As (q ∷ [])) (λ y. one y t) x h (λ y k. plain_placed s q y k))

-- a block or a body
pub block_placed : (ds : List tree.Declaration) (f : Frame) (ps qs : List Pos) → Stand (declaration_labels ds) ps
    → Stand (all_labels (stmts_of f.statements) ++ handler_labels f.handlers) qs → Stand (block_labels (block_of ds f)) (ps ++ qs)
block_placed ds f ps qs h k =
    stand_as (declaration_labels ds ++ (all_labels (stmts_of f.statements) ++ handler_labels f.handlers)) (block_labels (block_of ds f)) (ps ++ qs)
    (sym (append_assoc (declaration_labels ds) (all_labels (stmts_of f.statements)) (handler_labels f.handlers)))
    (stand_joined _ _ _ _ h k)

first_place : (l : tree.Label) (q : Pos) (ls : List tree.Label) (ps : List Pos) → l.place ≡ q → Stand ls ps → Stand (l ∷ ls) (q ∷ ps)
first_place l q ls ps e h = λ i. e i ∷ h i

mutual
  pub stated_placed : (env : Env) (s : State) (x : text.Statement) → env.step ≡ typing → IfOk (stated env s x).answer (As (places x))
  stated_placed env s (text.null q) step = plain_placed s q (tree.null_statement (statement_label s q)) refl
  stated_placed env s (text.assignment q n i) step =
      answered (As (q ∷ [])) q _
      (part_so (λ x. Unit {0}) (As (q ∷ [])) (target env (started s) n).answer
      (λ v. new_value env v.next q v.value.subtype i >>= (λ x. rule (Some (one (tree.assignment (statement_label s q) v.value.object v.value.parts x.value.value) x.next))))
      (any_answer (target env (started s) n).answer)
      (λ v h. part_so (λ x. Unit {0}) (As (q ∷ [])) (new_value env v.next q v.value.subtype i).answer
      (λ x. rule (Some (one (tree.assignment (statement_label s q) v.value.object v.value.parts x.value.value) x.next)))
      (any_answer (new_value env v.next q v.value.subtype i).answer) (λ x k. refl)))
  stated_placed env s (text.call q n) step =
      answered (As (q ∷ [])) q _
      (part_so (λ x. Unit {0}) (As (q ∷ [])) (denoted env (started s) n).answer
      (λ d. typed_stmt env (statement_label s q) d.next (call_of (statement_label s q) d.value)) (any_answer (denoted env (started s) n).answer)
      (λ d h. stmt_plain env s d.next q (call_of (statement_label s q) d.value) (call_plain (statement_label s q) d.value)))
  stated_placed env s (text.exemption q a) step = refl
  stated_placed env s (text.conditional q e ss bs es) step =
      answered (As (places (text.conditional q e ss bs es))) q _
      (part_so (λ x. Unit {0}) (As (places (text.conditional q e ss bs es))) (decision env (started s) q e).answer
      (λ t. all_stated env t.next q ss >>= (λ xs. branched env xs.next q bs >>= (λ ys. all_stated env ys.next q es
      >>= (λ zs. rule (Some (one (tree.if_statement (statement_label s q) (tree.branch t.value.0 t.value.1 (stmts_of xs.value) (branches_of ys.value zs.value))) zs.next))))))
      (any_answer (decision env (started s) q e).answer)
      (λ t u. part_so (As (all_places ss)) (As (places (text.conditional q e ss bs es))) (all_stated env t.next q ss).answer
      (λ xs. branched env xs.next q bs >>= (λ ys. all_stated env ys.next q es
      >>= (λ zs. rule (Some (one (tree.if_statement (statement_label s q) (tree.branch t.value.0 t.value.1 (stmts_of xs.value) (branches_of ys.value zs.value))) zs.next)))))
      (all_placed env t.next q ss step)
      (λ xs h. part_so (BranchesAs (branch_places bs)) (As (places (text.conditional q e ss bs es))) (branched env xs.next q bs).answer
      (λ ys. all_stated env ys.next q es
      >>= (λ zs. rule (Some (one (tree.if_statement (statement_label s q) (tree.branch t.value.0 t.value.1 (stmts_of xs.value) (branches_of ys.value zs.value))) zs.next))))
      (branched_placed env xs.next q bs step)
      (λ ys k. part_so (As (all_places es)) (As (places (text.conditional q e ss bs es))) (all_stated env ys.next q es).answer
      (λ zs. rule (Some (one (tree.if_statement (statement_label s q) (tree.branch t.value.0 t.value.1 (stmts_of xs.value) (branches_of ys.value zs.value))) zs.next)))
      (all_placed env ys.next q es step)
      (λ zs l. one_placed (tree.if_statement (statement_label s q) (tree.branch t.value.0 t.value.1 (stmts_of xs.value) (branches_of ys.value zs.value))) (places (text.conditional q e ss bs es))
      (first_place (statement_label s q) q (all_labels (stmts_of xs.value) ++ branch_labels (branches_of ys.value zs.value)) (all_places ss ++ (branch_places bs ++ all_places es)) refl
      (stand_joined (all_labels (stmts_of xs.value)) (branch_labels (branches_of ys.value zs.value)) (all_places ss) (branch_places bs ++ all_places es) h
      (stand_as (chosen_labels ys.value ++ all_labels (stmts_of zs.value)) (branch_labels (branches_of ys.value zs.value)) (branch_places bs ++ all_places es)
      (sym (branches_labels ys.value zs.value))
      (stand_joined (chosen_labels ys.value) (all_labels (stmts_of zs.value)) (branch_places bs) (all_places es) k l)))))))))
  stated_placed env s (text.case_of q e alternatives) step =
      answered (As (q ∷ alternative_places alternatives)) q _
      (part_so (λ x. Unit {0}) (As (q ∷ alternative_places alternatives)) (selector env (started s) e).answer
      (λ x. all_arms env x.next x.value q alternatives
      >>= (λ arms. typed_rule env.step (one (tree.null_statement (statement_label s q)) arms.next) (case_of env s q x.value arms)))
      (any_answer (selector env (started s) e).answer)
      (λ x u. part_so (ArmsAs (alternative_places alternatives)) (As (q ∷ alternative_places alternatives)) (all_arms env x.next x.value q alternatives).answer
      (λ arms. typed_rule env.step (one (tree.null_statement (statement_label s q)) arms.next) (case_of env s q x.value arms))
      (arms_all_placed env x.next x.value q alternatives step)
      (λ arms h. typed_so (As (q ∷ alternative_places alternatives)) env.step (one (tree.null_statement (statement_label s q)) arms.next) (case_of env s q x.value arms) step
      (if_test (As (q ∷ alternative_places alternatives)) (ends_with_others arms.value) _
      (λ b. one_placed (tree.case_statement (statement_label s q) x.value.expr (alternatives_of arms.value)) (q ∷ alternative_places alternatives)
      (first_place (statement_label s q) q (alternative_labels (alternatives_of arms.value)) (alternative_places alternatives) refl
      (stand_as (arm_labels arms.value) (alternative_labels (alternatives_of arms.value)) (alternative_places alternatives) (sym (alternatives_labels arms.value)) h)))))))
  stated_placed env s (text.repeat q scheme.Forever ss) step =
      answered (As (q ∷ all_places ss)) q _
      (part_so (As (all_places ss)) (As (q ∷ all_places ss)) (all_stated (in_loop env) (started s) q ss).answer
      (λ xs. rule (Some (one (tree.bare_loop (statement_label s q) (stmts_of xs.value)) xs.next)))
      (all_placed (in_loop env) (started s) q ss step)
      (λ xs h. one_placed (tree.bare_loop (statement_label s q) (stmts_of xs.value)) (q ∷ all_places ss)
      (first_place (statement_label s q) q (all_labels (stmts_of xs.value)) (all_places ss) refl h)))
  stated_placed env s (text.repeat q (scheme.While e) ss) step =
      answered (As (q ∷ all_places ss)) q _
      (part_so (λ x. Unit {0}) (As (q ∷ all_places ss)) (decision env (started s) q e).answer
      (λ t. all_stated (in_loop env) t.next q ss >>= (λ xs. rule (Some (one (tree.while_loop (statement_label s q) t.value.0 t.value.1 (stmts_of xs.value)) xs.next))))
      (any_answer (decision env (started s) q e).answer)
      (λ t u. part_so (As (all_places ss)) (As (q ∷ all_places ss)) (all_stated (in_loop env) t.next q ss).answer
      (λ xs. rule (Some (one (tree.while_loop (statement_label s q) t.value.0 t.value.1 (stmts_of xs.value)) xs.next)))
      (all_placed (in_loop env) t.next q ss step)
      (λ xs h. one_placed (tree.while_loop (statement_label s q) t.value.0 t.value.1 (stmts_of xs.value)) (q ∷ all_places ss)
      (first_place (statement_label s q) q (all_labels (stmts_of xs.value)) (all_places ss) refl h))))
  stated_placed env s (text.repeat q (scheme.For i d r) ss) step =
      answered (As (q ∷ all_places ss)) q _
      (part_so (λ x. Unit {0}) (As (q ∷ all_places ss)) (hide [] i).answer
      (λ region. turned (with_local (opened env) region) (started s) r
      >>= (λ t. all_stated (in_loop (with_local (opened env) ((key i, loop_parameter t.next.objects t.value) ∷ []))) (one_object_more q t.value.subtype t.next) q ss
      >>= (λ xs. rule (Some (one (tree.for_loop (statement_label s q) t.next.objects (is_reverse d) t.value.over (stmts_of xs.value)) xs.next)))))
      (any_answer (hide [] i).answer)
      (λ region v. part_so (λ x. Unit {0}) (As (q ∷ all_places ss)) (turned (with_local (opened env) region) (started s) r).answer
      (λ t. all_stated (in_loop (with_local (opened env) ((key i, loop_parameter t.next.objects t.value) ∷ []))) (one_object_more q t.value.subtype t.next) q ss
      >>= (λ xs. rule (Some (one (tree.for_loop (statement_label s q) t.next.objects (is_reverse d) t.value.over (stmts_of xs.value)) xs.next))))
      (any_answer (turned (with_local (opened env) region) (started s) r).answer)
      (λ t u. part_so (As (all_places ss)) (As (q ∷ all_places ss))
      (all_stated (in_loop (with_local (opened env) ((key i, loop_parameter t.next.objects t.value) ∷ []))) (one_object_more q t.value.subtype t.next) q ss).answer
      (λ xs. rule (Some (one (tree.for_loop (statement_label s q) t.next.objects (is_reverse d) t.value.over (stmts_of xs.value)) xs.next)))
      (all_placed (in_loop (with_local (opened env) ((key i, loop_parameter t.next.objects t.value) ∷ []))) (one_object_more q t.value.subtype t.next) q ss step)
      (λ xs h. one_placed (tree.for_loop (statement_label s q) t.next.objects (is_reverse d) t.value.over (stmts_of xs.value)) (q ∷ all_places ss)
      (first_place (statement_label s q) q (all_labels (stmts_of xs.value)) (all_places ss) refl h)))))
  stated_placed env s (text.exit q None) step =
      answered (As (q ∷ [])) q _
      (stmt_plain env s (started s) q (where_allowed env.is_looping (tree.exit_statement (statement_label s q)))
      (allowed_plain (statement_label s q) env.is_looping (tree.exit_statement (statement_label s q)) refl))
  stated_placed env s (text.exit q (Some e)) step =
      answered (As (q ∷ [])) q _
      (part_so (λ x. Unit {0}) (As (q ∷ [])) (decision env (started s) q e).answer
      (λ t. typed_stmt env (statement_label s q) t.next (where_allowed env.is_looping (tree.exit_when (statement_label s q) t.value.0 t.value.1)))
      (any_answer (decision env (started s) q e).answer)
      (λ t u. stmt_plain env s t.next q (where_allowed env.is_looping (tree.exit_when (statement_label s q) t.value.0 t.value.1))
      (allowed_plain (statement_label s q) env.is_looping (tree.exit_when (statement_label s q) t.value.0 t.value.1) refl)))
  stated_placed env s (text.returns q None) step =
      answered (As (q ∷ [])) q _
      (stmt_plain env s (started s) q (returned (statement_label s q) env.returning) (returned_plain (statement_label s q) env.returning))
  stated_placed env s (text.returns q (Some e)) step =
      answered (As (q ∷ [])) q _
      (part_so (λ x. Unit {0}) (As (q ∷ [])) (judged env itself (started s) e).answer
      (λ x. typed_stmt env (statement_label s q) x.next (returned_value (statement_label s q) x.value env.returning)) (any_answer (judged env itself (started s) e).answer)
      (λ x u. stmt_plain env s x.next q (returned_value (statement_label s q) x.value env.returning) (value_plain (statement_label s q) x.value env.returning)))
  stated_placed env s (text.raise q None) step =
      answered (As (q ∷ [])) q _
      (stmt_plain env s (started s) q (where_allowed env.is_handling (tree.raise_again (statement_label s q)))
      (allowed_plain (statement_label s q) env.is_handling (tree.raise_again (statement_label s q)) refl))
  stated_placed env s (text.raise q (Some n)) step =
      answered (As (q ∷ [])) q _
      (part_so (λ x. Unit {0}) (As (q ∷ [])) (denoted env (started s) n).answer
      (λ d. typed_stmt env (statement_label s q) d.next (option_map (tree.raise_statement (statement_label s q)) (exception_of d.value)))
      (any_answer (denoted env (started s) n).answer)
      (λ d u. stmt_plain env s d.next q (option_map (tree.raise_statement (statement_label s q)) (exception_of d.value))
      (raised_plain (statement_label s q) (exception_of d.value))))
  stated_placed env s (text.block q ds h) step =
      answered (As (declared_places (declarations_in ds) ++ handled_places h)) q _
      (part_so (Declares (declared_places (declarations_in ds))) (As (declared_places (declarations_in ds) ++ handled_places h)) (all_declared (opened env) s q (declarations_in ds)).answer
      (λ x. all_handled (with_local (opened env) x.region) x.next q h >>= (λ f. rule (Some (one (tree.block_statement (block_of x.made f.value)) f.next))))
      (declarations_placed (opened env) s q (declarations_in ds) step refl)
      (λ x u. part_so (FrameAs (handled_places h)) (As (declared_places (declarations_in ds) ++ handled_places h)) (all_handled (with_local (opened env) x.region) x.next q h).answer
      (λ f. rule (Some (one (tree.block_statement (block_of x.made f.value)) f.next)))
      (handled_placed (with_local (opened env) x.region) x.next q h step)
      (λ f k. one_placed (tree.block_statement (block_of x.made f.value)) (declared_places (declarations_in ds) ++ handled_places h)
      (block_placed x.made f.value (declared_places (declarations_in ds)) (handled_places h) u k))))

  pub all_placed : (env : Env) (s : State) (q : Pos) (xs : text.Statements) → env.step ≡ typing → IfOk (all_stated env s q xs).answer (As (all_places xs))
  all_placed env s q text.no_statements step = refl
  all_placed env s q (text.then_also x xs) step =
      answered (As (places x ++ all_places xs)) q _
      (part_so (As (places x)) (As (places x ++ all_places xs)) (stated env s x).answer
      (λ y. all_stated env y.next q xs >>= (λ ys. rule (Some (given (y.value ++ ys.value) ys.next)))) (stated_placed env s x step)
      (λ y h. part_so (As (all_places xs)) (As (places x ++ all_places xs)) (all_stated env y.next q xs).answer (λ ys. rule (Some (given (y.value ++ ys.value) ys.next)))
      (all_placed env y.next q xs step)
      (λ ys k. stand_as (all_labels (stmts_of y.value) ++ all_labels (stmts_of ys.value)) _ _ (sym (joined_labels y.value ys.value))
      (stand_joined (all_labels (stmts_of y.value)) (all_labels (stmts_of ys.value)) (places x) (all_places xs) h k))))

  pub branched_placed : (env : Env) (s : State) (q : Pos) (bs : text.Branches) → env.step ≡ typing → IfOk (branched env s q bs).answer (BranchesAs (branch_places bs))
  branched_placed env s q text.no_branches step = refl
  branched_placed env s q (text.branch e ss bs) step =
      answered (BranchesAs (all_places ss ++ branch_places bs)) q _
      (part_so (λ x. Unit {0}) (BranchesAs (all_places ss ++ branch_places bs)) (decision env s q e).answer
      (λ t. all_stated env t.next q ss >>= (λ xs. branched env xs.next q bs
      >>= (λ ys. rule (Some (given (record { label = t.value.0; test = t.value.1; statements = xs.value } ∷ ys.value) ys.next)))))
      (any_answer (decision env s q e).answer)
      (λ t u. part_so (As (all_places ss)) (BranchesAs (all_places ss ++ branch_places bs)) (all_stated env t.next q ss).answer
      (λ xs. branched env xs.next q bs >>= (λ ys. rule (Some (given (record { label = t.value.0; test = t.value.1; statements = xs.value } ∷ ys.value) ys.next))))
      (all_placed env t.next q ss step)
      (λ xs h. part_so (BranchesAs (branch_places bs)) (BranchesAs (all_places ss ++ branch_places bs)) (branched env xs.next q bs).answer
      (λ ys. rule (Some (given (record { label = t.value.0; test = t.value.1; statements = xs.value } ∷ ys.value) ys.next)))
      (branched_placed env xs.next q bs step)
      (λ ys k. stand_joined (all_labels (stmts_of xs.value)) (chosen_labels ys.value) (all_places ss) (branch_places bs) h k))))

  pub arms_all_placed : (env : Env) (s : State) (x : Selector) (q : Pos) (rest : text.Alternatives) → env.step ≡ typing
      → IfOk (all_arms env s x q rest).answer (ArmsAs (alternative_places rest))
  arms_all_placed env s x q text.no_alternatives step = refl
  arms_all_placed env s x q (text.alternative cs ss rest) step =
      answered (ArmsAs (all_places ss ++ alternative_places rest)) q _
      (part_so (λ x. Unit {0}) (ArmsAs (all_places ss ++ alternative_places rest)) (all_chosen env s x q cs).answer
      (λ ds. all_stated env ds.next q ss >>= (λ xs. all_arms env xs.next x q rest
      >>= (λ ys. rule (Some (given (record { choices = ds.value; statements = xs.value } ∷ ys.value) ys.next)))))
      (any_answer (all_chosen env s x q cs).answer)
      (λ ds u. part_so (As (all_places ss)) (ArmsAs (all_places ss ++ alternative_places rest)) (all_stated env ds.next q ss).answer
      (λ xs. all_arms env xs.next x q rest >>= (λ ys. rule (Some (given (record { choices = ds.value; statements = xs.value } ∷ ys.value) ys.next))))
      (all_placed env ds.next q ss step)
      (λ xs h. part_so (ArmsAs (alternative_places rest)) (ArmsAs (all_places ss ++ alternative_places rest)) (all_arms env xs.next x q rest).answer
      (λ ys. rule (Some (given (record { choices = ds.value; statements = xs.value } ∷ ys.value) ys.next)))
      (arms_all_placed env xs.next x q rest step)
      (λ ys k. stand_joined (all_labels (stmts_of xs.value)) (arm_labels ys.value) (all_places ss) (alternative_places rest) h k))))

  pub handlers_placed : (env : Env) (s : State) (q : Pos) (hs : text.Handlers) → env.step ≡ typing → IfOk (all_handlers env s q hs).answer (HandlersAs (handler_places hs))
  handlers_placed env s q text.no_handlers step = refl
  handlers_placed env s q (text.handler cs ss hs) step =
      answered (HandlersAs (all_places ss ++ handler_places hs)) q _
      (part_so (λ x. Unit {0}) (HandlersAs (all_places ss ++ handler_places hs)) (all_caught env s (is_last hs && nat_eq (length cs) 1) q cs).answer
      (λ ds. all_stated (in_handler env) ds.next q ss >>= (λ xs. all_handlers env xs.next q hs
      >>= (λ ys. rule (Some (given (tree.handler ds.value (stmts_of xs.value) ys.value) ys.next)))))
      (any_answer (all_caught env s (is_last hs && nat_eq (length cs) 1) q cs).answer)
      (λ ds u. part_so (As (all_places ss)) (HandlersAs (all_places ss ++ handler_places hs)) (all_stated (in_handler env) ds.next q ss).answer
      (λ xs. all_handlers env xs.next q hs >>= (λ ys. rule (Some (given (tree.handler ds.value (stmts_of xs.value) ys.value) ys.next))))
      (all_placed (in_handler env) ds.next q ss step)
      (λ xs h. part_so (HandlersAs (handler_places hs)) (HandlersAs (all_places ss ++ handler_places hs)) (all_handlers env xs.next q hs).answer
      (λ ys. rule (Some (given (tree.handler ds.value (stmts_of xs.value) ys.value) ys.next)))
      (handlers_placed env xs.next q hs step)
      (λ ys k. stand_joined (all_labels (stmts_of xs.value)) (handler_labels ys.value) (all_places ss) (handler_places hs) h k))))

  pub handled_placed : (env : Env) (s : State) (q : Pos) (h : text.Handled) → env.step ≡ typing → IfOk (all_handled env s q h).answer (FrameAs (handled_places h))
  handled_placed env s q (text.handled ss hs) step =
      answered (FrameAs (all_places ss ++ handler_places hs)) q _
      (part_so (As (all_places ss)) (FrameAs (all_places ss ++ handler_places hs)) (all_stated env s q ss).answer
      (λ xs. all_handlers env xs.next q hs >>= (λ ys. rule (Some (given (record { statements = xs.value; handlers = ys.value }) ys.next))))
      (all_placed env s q ss step)
      (λ xs h. part_so (HandlersAs (handler_places hs)) (FrameAs (all_places ss ++ handler_places hs)) (all_handlers env xs.next q hs).answer
      (λ ys. rule (Some (given (record { statements = xs.value; handlers = ys.value }) ys.next)))
      (handlers_placed env xs.next q hs step)
      (λ ys k. stand_joined (all_labels (stmts_of xs.value)) (handler_labels ys.value) (all_places ss) (handler_places hs) h k)))
