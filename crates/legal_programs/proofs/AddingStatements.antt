-- Statements only add to the state, in both steps.
use Rattle.std.proofs.Common.{nat_eq, Bool, true, false, ◌&&◌, List, [], ◌∷◌, ◌++◌, length, Option, Some, None, option_map, IfSome, IfOk, refl}
use Rattle.std.specs.Option.{option_and_then}
use Rattle.cov_base.specs.declared.position.Pos.{Pos}
use Rattle.ada_syntax.specs.StatementTree as text
use Rattle.ada_syntax.specs.Tree as source
use Rattle.ada_syntax.specs.Tree.{expr_pos, name_pos}
use Rattle.ada_syntax.specs.declared.declaration.DiscreteRange.{DiscreteRange}
use Rattle.ada_syntax.specs.declared.declaration.DiscreteRange.TheVariants as discrete
use Rattle.ada_syntax.specs.declared.statement.Choice.{Choice}
use Rattle.ada_syntax.specs.declared.statement.Choice.TheVariants as choice
use Rattle.ada_syntax.specs.declared.statement.ExceptionChoice.{ExceptionChoice}
use Rattle.ada_syntax.specs.declared.statement.ExceptionChoice.TheVariants as taken
use Rattle.ada_syntax.specs.declared.statement.LoopScheme.TheVariants as scheme
use Rattle.ada_meaning.specs.Tree as tree
use Rattle.ada_rules.specs.Plan.{◌>>=◌, rule}
use Rattle.ada_rules.specs.Types.{AdaSubtype, fits, common}
use Rattle.ada_rules.specs.Entities.{key}
use Rattle.ada_rules.specs.Environment.{typed_rule, State, Given, given, Env, with_local, opened, in_loop, in_handler, demanded, hide, statement_label, started}
use Rattle.ada_rules.specs.Expressions.{itself, denoted, judged, decision, static_part, scalar_mark}
use Rattle.ada_rules.specs.Declarations.{new_value, all_declared}
use Rattle.ada_rules.specs.Statements.{stmts_of, one, any_variable, writable, target, call_of, branches_of, Selector, any_selector, selector_of, selector, among, chosen, all_chosen, Arm, ends_with_others, has_others, choices_in, case_of, any_turns, turns_between, turns_over, turned, loop_parameter, one_object_more, is_reverse, returned, returned_value, exception_of, where_allowed, caught, all_caught, is_last, declarations_in, block_of, typed_stmt, stated, all_stated, branched, all_arms, all_handlers, all_handled}
use Rattle.ada_rules.specs.Statics.{in_order, covers}
use Rattle.legal_laws.specs.Kept.{OnlyDecides}
use Rattle.legal_laws.proofs.Passing.{IfPassed, if_test, answered, part_so, weaker_ok}
use Rattle.legal_laws.proofs.KeptExpressions.{denoted_behind, decision_behind}
use Rattle.legal_laws.proofs.Passing.{typed_either, any_answer}
use Rattle.legal_programs.specs.Growing.{Adds}
use Rattle.legal_programs.proofs.Adding.{adds_same, adds_both, adds_decides, adds_demanded, adds_started, adds_none, Add, AddsOn, expression_adds, static_adds, scalar_mark_adds, mapped_adds, new_value_adds, declarations_add}

-- a loop parameter has one word
adds_parameter : (q : Pos) (t : AdaSubtype) (s : State) → Adds s (one_object_more q t s)
adds_parameter q t s = adds_none s (one_object_more q t s) refl refl refl refl refl refl refl refl refl refl refl

module _ (env : Env) where
  name_adds : (s : State) (n : source.Name) → IfOk (denoted env s n).answer (Add s)
  name_adds s n =
      weaker_ok (λ x. OnlyDecides s x.next) (Add s) (denoted env s n).answer (denoted_behind env s n) (λ x h. adds_decides s x.next h)

  pub decision_adds : (s : State) (q : Pos) (e : source.Expr) → IfOk (decision env s q e).answer (Add s)
  decision_adds s q e =
      weaker_ok (λ x. OnlyDecides s x.next) (Add s) (decision env s q e).answer (decision_behind env s q e) (λ x h. adds_decides s x.next h)

  target_adds : (s : State) (n : source.Name) → IfOk (target env s n).answer (Add s)
  target_adds s n =
      answered (Add s) (name_pos n) _
      (part_so (Add s) (Add s) (denoted env s n).answer
      (λ d. typed_rule env.step (given any_variable d.next) (option_map (λ v. given v d.next) (writable d.value))) (name_adds s n)
      (λ d h. typed_either (Add s) env.step (given any_variable d.next) _ h
      (mapped_adds env s d.next (λ v. v) (writable d.value) h)))

  pub selector_adds : (s : State) (e : source.Expr) → IfOk (selector env s e).answer (Add s)
  selector_adds s e =
      answered (Add s) (expr_pos e) _
      (part_so (Add s) (Add s) (judged env itself s e).answer
      (λ x. typed_rule env.step (given any_selector x.next) (option_map (λ y. given y x.next) (selector_of x.value)))
      (expression_adds env s e)
      (λ x h. typed_either (Add s) env.step (given any_selector x.next) _ h
      (mapped_adds env s x.next (λ v. v) (selector_of x.value) h)))

  turned_adds : (s : State) (r : DiscreteRange) → IfOk (turned env s r).answer (Add s)
  turned_adds s (discrete.Mark n) =
      answered (Add s) (name_pos n) _
      (part_so (Add s) (Add s) (scalar_mark env s n).answer (λ m. rule (Some (given (turns_over m.value.subtype) m.next)))
      (scalar_mark_adds env s n) (λ m h. h))
  turned_adds s (discrete.Bounds b) =
      answered (Add s) (expr_pos b.low) _
      (part_so (Add s) (Add s) (judged env itself s b.low).answer
      (λ x. judged env itself x.next b.high >>= (λ y. typed_rule env.step (given any_turns y.next)
      (option_map (λ t. given t y.next) (option_and_then (turns_between x.value y.value) (common x.value.kind y.value.kind)))))
      (expression_adds env s b.low)
      (λ x h. part_so (Add x.next) (Add s) (judged env itself x.next b.high).answer
      (λ y. typed_rule env.step (given any_turns y.next)
      (option_map (λ t. given t y.next) (option_and_then (turns_between x.value y.value) (common x.value.kind y.value.kind))))
      (expression_adds env x.next b.high)
      (λ y k. typed_either (Add s) env.step (given any_turns y.next) _ (adds_both s x.next y.next h k)
      (mapped_adds env s y.next (λ v. v) (option_and_then (turns_between x.value y.value) (common x.value.kind y.value.kind))
      (adds_both s x.next y.next h k)))))

  -- choices
  chosen_adds : (s : State) (x : Selector) (c : Choice) → IfOk (chosen env s x c).answer (Add s)
  chosen_adds s x (choice.Value e) =
      answered (Add s) (expr_pos e) _
      (part_so (Add s) (Add s) (static_part env s (fits x.type) (among x.values) e).answer
      (λ v. rule (Some (given (tree.value_choice v.value.value) v.next)))
      (static_adds env s (fits x.type) (among x.values) e) (λ v h. h))
  chosen_adds s x (choice.Range b) =
      answered (Add s) (expr_pos b.low) _
      (part_so (Add s) (Add s) (static_part env s (fits x.type) (among x.values) b.low).answer
      (λ low. static_part env low.next (fits x.type) (among x.values) b.high >>= (λ high. rule (Some (given (tree.range_choice low.value.value high.value.value)
      (demanded env (expr_pos b.low) (in_order low.value.value high.value.value) high.next)))))
      (static_adds env s (fits x.type) (among x.values) b.low)
      (λ low h. part_so (Add low.next) (Add s) (static_part env low.next (fits x.type) (among x.values) b.high).answer
      (λ high. rule (Some (given (tree.range_choice low.value.value high.value.value)
      (demanded env (expr_pos b.low) (in_order low.value.value high.value.value) high.next))))
      (static_adds env low.next (fits x.type) (among x.values) b.high)
      (λ high k. adds_both s low.next _ h (adds_both low.next high.next _ k
      (adds_demanded env (expr_pos b.low) (in_order low.value.value high.value.value) high.next)))))
  chosen_adds s x (choice.Others q) = adds_same s

  pub all_chosen_add : (s : State) (x : Selector) (q : Pos) (cs : List Choice) → IfOk (all_chosen env s x q cs).answer (Add s)
  all_chosen_add s x q [] = adds_same s
  all_chosen_add s x q (c ∷ cs) =
      answered (Add s) q _
      (part_so (Add s) (Add s) (chosen env s x c).answer
      (λ d. all_chosen env d.next x q cs >>= (λ ds. rule (Some (given (d.value ∷ ds.value) ds.next)))) (chosen_adds s x c)
      (λ d h. part_so (Add d.next) (Add s) (all_chosen env d.next x q cs).answer (λ ds. rule (Some (given (d.value ∷ ds.value) ds.next)))
      (all_chosen_add d.next x q cs) (λ ds k. adds_both s d.next ds.next h k)))

  allowed_adds : {A : Type 0} (s : State) (b : Bool) (x : Given A) → Add s x → IfSome (where_allowed b x) (Add s)
  allowed_adds s true x h = h
  allowed_adds s false x h = tt

  caught_adds : (s : State) (b : Bool) (c : ExceptionChoice) → IfOk (caught env s b c).answer (Add s)
  caught_adds s b (taken.Named n) =
      answered (Add s) (name_pos n) _
      (part_so (Add s) (Add s) (denoted env s n).answer
      (λ d. typed_rule env.step (given tree.other_exceptions d.next) (option_map (λ e. given (tree.named_exception e) d.next) (exception_of d.value))) (name_adds s n)
      (λ d h. typed_either (Add s) env.step (given tree.other_exceptions d.next) _ h
      (mapped_adds env s d.next tree.named_exception (exception_of d.value) h)))
  caught_adds s b (taken.Others q) =
      answered (Add s) q _
      (typed_either (Add s) env.step (given tree.other_exceptions s) (where_allowed b (given tree.other_exceptions s)) (adds_same s)
      (allowed_adds s b (given tree.other_exceptions s) (adds_same s)))

  pub all_caught_add : (s : State) (b : Bool) (q : Pos) (cs : List ExceptionChoice) → IfOk (all_caught env s b q cs).answer (Add s)
  all_caught_add s b q [] = adds_same s
  all_caught_add s b q (c ∷ cs) =
      answered (Add s) q _
      (part_so (Add s) (Add s) (caught env s b c).answer
      (λ d. all_caught env d.next b q cs >>= (λ ds. rule (Some (given (d.value ∷ ds.value) ds.next)))) (caught_adds s b c)
      (λ d h. part_so (Add d.next) (Add s) (all_caught env d.next b q cs).answer (λ ds. rule (Some (given (d.value ∷ ds.value) ds.next)))
      (all_caught_add d.next b q cs) (λ ds k. adds_both s d.next ds.next h k)))

  stmt_adds : (s t : State) (l : tree.Label) (x : Option tree.Stmt) → Adds s t → IfPassed (typed_stmt env l t x).outcome (Add s)
  stmt_adds s t l x h =
      typed_either (Add s) env.step (one (tree.null_statement l) t) (option_map (λ y. one y t) x) h
      (mapped_adds env s t (λ y. y ∷ []) x h)

  case_adds : (s before : State) (q : Pos) (x : Selector) (arms : Given (List Arm)) → Adds s arms.next → IfSome (case_of env before q x arms) (Add s)
  case_adds s before q x arms h =
      if_test (Add s) (ends_with_others arms.value) _
      (λ b. adds_both s arms.next _ h (adds_demanded env q
      (covers x.values (has_others (choices_in arms.value)) (choices_in arms.value)) arms.next))

  start : (s : State) → Adds s (started s)
  start s = adds_started s

mutual
  pub stated_adds : (env : Env) (s : State) (x : text.Statement) → IfOk (stated env s x).answer (Add s)
  stated_adds env s (text.null q) = start env s
  stated_adds env s (text.assignment q n i) =
      answered (Add s) q _
      (part_so (Add (started s)) (Add s) (target env (started s) n).answer
      (λ v. new_value env v.next q v.value.subtype i >>= (λ x. rule (Some (one (tree.assignment (statement_label s q) v.value.object v.value.parts x.value.value) x.next))))
      (target_adds env (started s) n)
      (λ v h. part_so (Add v.next) (Add s) (new_value env v.next q v.value.subtype i).answer
      (λ x. rule (Some (one (tree.assignment (statement_label s q) v.value.object v.value.parts x.value.value) x.next)))
      (new_value_adds env v.next q v.value.subtype i)
      (λ x k. adds_both s (started s) x.next (start env s) (adds_both (started s) v.next x.next h k))))
  stated_adds env s (text.call q n) =
      answered (Add s) q _
      (part_so (Add (started s)) (Add s) (denoted env (started s) n).answer
      (λ d. typed_stmt env (statement_label s q) d.next (call_of (statement_label s q) d.value)) (name_adds env (started s) n)
      (λ d h. stmt_adds env s d.next (statement_label s q) (call_of (statement_label s q) d.value) (adds_both s (started s) d.next (start env s) h)))
  stated_adds env s (text.exemption q a) = adds_same s
  stated_adds env s (text.conditional q e ss bs es) =
      answered (Add s) q _
      (part_so (Add (started s)) (Add s) (decision env (started s) q e).answer
      (λ t. all_stated env t.next q ss >>= (λ xs. branched env xs.next q bs >>= (λ ys. all_stated env ys.next q es
      >>= (λ zs. rule (Some (one (tree.if_statement (statement_label s q) (tree.branch t.value.0 t.value.1 (stmts_of xs.value) (branches_of ys.value zs.value))) zs.next))))))
      (decision_adds env (started s) q e)
      (λ t h. part_so (Add t.next) (Add s) (all_stated env t.next q ss).answer
      (λ xs. branched env xs.next q bs >>= (λ ys. all_stated env ys.next q es
      >>= (λ zs. rule (Some (one (tree.if_statement (statement_label s q) (tree.branch t.value.0 t.value.1 (stmts_of xs.value) (branches_of ys.value zs.value))) zs.next)))))
      (all_add env t.next q ss)
      (λ xs k. part_so (Add xs.next) (Add s) (branched env xs.next q bs).answer
      (λ ys. all_stated env ys.next q es
      >>= (λ zs. rule (Some (one (tree.if_statement (statement_label s q) (tree.branch t.value.0 t.value.1 (stmts_of xs.value) (branches_of ys.value zs.value))) zs.next))))
      (branches_add env xs.next q bs)
      (λ ys l. part_so (Add ys.next) (Add s) (all_stated env ys.next q es).answer
      (λ zs. rule (Some (one (tree.if_statement (statement_label s q) (tree.branch t.value.0 t.value.1 (stmts_of xs.value) (branches_of ys.value zs.value))) zs.next)))
      (all_add env ys.next q es)
      (λ zs m. adds_both s (started s) zs.next (start env s) (adds_both (started s) t.next zs.next h
      (adds_both t.next xs.next zs.next k (adds_both xs.next ys.next zs.next l m))))))))
  stated_adds env s (text.case_of q e alternatives) =
      answered (Add s) q _
      (part_so (Add (started s)) (Add s) (selector env (started s) e).answer
      (λ x. all_arms env x.next x.value q alternatives
      >>= (λ arms. typed_rule env.step (one (tree.null_statement (statement_label s q)) arms.next) (case_of env s q x.value arms)))
      (selector_adds env (started s) e)
      (λ x h. part_so (Add x.next) (Add s) (all_arms env x.next x.value q alternatives).answer
      (λ arms. typed_rule env.step (one (tree.null_statement (statement_label s q)) arms.next) (case_of env s q x.value arms))
      (arms_add env x.next x.value q alternatives)
      (λ arms k. let all = adds_both s (started s) arms.next (start env s) (adds_both (started s) x.next arms.next h k) in
      typed_either (Add s) env.step _ _ all (case_adds env s s q x.value arms all))))
  stated_adds env s (text.repeat q scheme.Forever ss) =
      answered (Add s) q _
      (part_so (Add (started s)) (Add s) (all_stated (in_loop env) (started s) q ss).answer
      (λ xs. rule (Some (one (tree.bare_loop (statement_label s q) (stmts_of xs.value)) xs.next))) (all_add (in_loop env) (started s) q ss)
      (λ xs h. adds_both s (started s) xs.next (start env s) h))
  stated_adds env s (text.repeat q (scheme.While e) ss) =
      answered (Add s) q _
      (part_so (Add (started s)) (Add s) (decision env (started s) q e).answer
      (λ t. all_stated (in_loop env) t.next q ss >>= (λ xs. rule (Some (one (tree.while_loop (statement_label s q) t.value.0 t.value.1 (stmts_of xs.value)) xs.next))))
      (decision_adds env (started s) q e)
      (λ t h. part_so (Add t.next) (Add s) (all_stated (in_loop env) t.next q ss).answer
      (λ xs. rule (Some (one (tree.while_loop (statement_label s q) t.value.0 t.value.1 (stmts_of xs.value)) xs.next))) (all_add (in_loop env) t.next q ss)
      (λ xs k. adds_both s (started s) xs.next (start env s) (adds_both (started s) t.next xs.next h k))))
  stated_adds env s (text.repeat q (scheme.For i d r) ss) =
      answered (Add s) q _
      (part_so (λ x. Unit {0}) (Add s) (hide [] i).answer
      (λ region. turned (with_local (opened env) region) (started s) r
      >>= (λ t. all_stated (in_loop (with_local (opened env) ((key i, loop_parameter t.next.objects t.value) ∷ []))) (one_object_more q t.value.subtype t.next) q ss
      >>= (λ xs. rule (Some (one (tree.for_loop (statement_label s q) t.next.objects (is_reverse d) t.value.over (stmts_of xs.value)) xs.next)))))
      (any_answer (hide [] i).answer)
      (λ region u. part_so (Add (started s)) (Add s) (turned (with_local (opened env) region) (started s) r).answer
      (λ t. all_stated (in_loop (with_local (opened env) ((key i, loop_parameter t.next.objects t.value) ∷ []))) (one_object_more q t.value.subtype t.next) q ss
      >>= (λ xs. rule (Some (one (tree.for_loop (statement_label s q) t.next.objects (is_reverse d) t.value.over (stmts_of xs.value)) xs.next))))
      (turned_adds (with_local (opened env) region) (started s) r)
      (λ t h. part_so (Add (one_object_more q t.value.subtype t.next)) (Add s)
      (all_stated (in_loop (with_local (opened env) ((key i, loop_parameter t.next.objects t.value) ∷ []))) (one_object_more q t.value.subtype t.next) q ss).answer
      (λ xs. rule (Some (one (tree.for_loop (statement_label s q) t.next.objects (is_reverse d) t.value.over (stmts_of xs.value)) xs.next)))
      (all_add (in_loop (with_local (opened env) ((key i, loop_parameter t.next.objects t.value) ∷ []))) (one_object_more q t.value.subtype t.next) q ss)
      (λ xs k. adds_both s (started s) xs.next (start env s) (adds_both (started s) t.next xs.next h
      (adds_both t.next (one_object_more q t.value.subtype t.next) xs.next (adds_parameter q t.value.subtype t.next) k))))))
  stated_adds env s (text.exit q None) =
      answered (Add s) q _
      (stmt_adds env s (started s) (statement_label s q) (where_allowed env.is_looping (tree.exit_statement (statement_label s q))) (start env s))
  stated_adds env s (text.exit q (Some e)) =
      answered (Add s) q _
      (part_so (Add (started s)) (Add s) (decision env (started s) q e).answer
      (λ t. typed_stmt env (statement_label s q) t.next (where_allowed env.is_looping (tree.exit_when (statement_label s q) t.value.0 t.value.1)))
      (decision_adds env (started s) q e)
      (λ t h. stmt_adds env s t.next (statement_label s q) (where_allowed env.is_looping (tree.exit_when (statement_label s q) t.value.0 t.value.1))
      (adds_both s (started s) t.next (start env s) h)))
  stated_adds env s (text.returns q None) =
      answered (Add s) q _
      (stmt_adds env s (started s) (statement_label s q) (returned (statement_label s q) env.returning) (start env s))
  stated_adds env s (text.returns q (Some e)) =
      answered (Add s) q _
      (part_so (Add (started s)) (Add s) (judged env itself (started s) e).answer
      (λ x. typed_stmt env (statement_label s q) x.next (returned_value (statement_label s q) x.value env.returning))
      (expression_adds env (started s) e)
      (λ x h. stmt_adds env s x.next (statement_label s q) (returned_value (statement_label s q) x.value env.returning)
      (adds_both s (started s) x.next (start env s) h)))
  stated_adds env s (text.raise q None) =
      answered (Add s) q _
      (stmt_adds env s (started s) (statement_label s q) (where_allowed env.is_handling (tree.raise_again (statement_label s q))) (start env s))
  stated_adds env s (text.raise q (Some n)) =
      answered (Add s) q _
      (part_so (Add (started s)) (Add s) (denoted env (started s) n).answer
      (λ d. typed_stmt env (statement_label s q) d.next (option_map (tree.raise_statement (statement_label s q)) (exception_of d.value)))
      (name_adds env (started s) n)
      (λ d h. stmt_adds env s d.next (statement_label s q) (option_map (tree.raise_statement (statement_label s q)) (exception_of d.value))
      (adds_both s (started s) d.next (start env s) h)))
  stated_adds env s (text.block q ds h) =
      answered (Add s) q _
      (part_so (AddsOn s) (Add s) (all_declared (opened env) s q (declarations_in ds)).answer
      (λ x. all_handled (with_local (opened env) x.region) x.next q h >>= (λ f. rule (Some (one (tree.block_statement (block_of x.made f.value)) f.next))))
      (declarations_add (opened env) s q (declarations_in ds))
      (λ x k. part_so (Add x.next) (Add s) (all_handled (with_local (opened env) x.region) x.next q h).answer
      (λ f. rule (Some (one (tree.block_statement (block_of x.made f.value)) f.next))) (handled_add (with_local (opened env) x.region) x.next q h)
      (λ f l. adds_both s x.next f.next k l)))

  pub all_add : (env : Env) (s : State) (q : Pos) (xs : text.Statements) → IfOk (all_stated env s q xs).answer (Add s)
  all_add env s q text.no_statements = adds_same s
  all_add env s q (text.then_also x xs) =
      answered (Add s) q _
      (part_so (Add s) (Add s) (stated env s x).answer
      (λ y. all_stated env y.next q xs >>= (λ ys. rule (Some (given (y.value ++ ys.value) ys.next)))) (stated_adds env s x)
      (λ y h. part_so (Add y.next) (Add s) (all_stated env y.next q xs).answer (λ ys. rule (Some (given (y.value ++ ys.value) ys.next)))
      (all_add env y.next q xs) (λ ys k. adds_both s y.next ys.next h k)))

  pub branches_add : (env : Env) (s : State) (q : Pos) (bs : text.Branches) → IfOk (branched env s q bs).answer (Add s)
  branches_add env s q text.no_branches = adds_same s
  branches_add env s q (text.branch e ss bs) =
      answered (Add s) q _
      (part_so (Add s) (Add s) (decision env s q e).answer
      (λ t. all_stated env t.next q ss >>= (λ xs. branched env xs.next q bs
      >>= (λ ys. rule (Some (given (record { label = t.value.0; test = t.value.1; statements = xs.value } ∷ ys.value) ys.next)))))
      (decision_adds env s q e)
      (λ t h. part_so (Add t.next) (Add s) (all_stated env t.next q ss).answer
      (λ xs. branched env xs.next q bs >>= (λ ys. rule (Some (given (record { label = t.value.0; test = t.value.1; statements = xs.value } ∷ ys.value) ys.next))))
      (all_add env t.next q ss)
      (λ xs k. part_so (Add xs.next) (Add s) (branched env xs.next q bs).answer
      (λ ys. rule (Some (given (record { label = t.value.0; test = t.value.1; statements = xs.value } ∷ ys.value) ys.next)))
      (branches_add env xs.next q bs)
      (λ ys l. adds_both s t.next ys.next h (adds_both t.next xs.next ys.next k l)))))

  pub arms_add : (env : Env) (s : State) (x : Selector) (q : Pos) (rest : text.Alternatives) → IfOk (all_arms env s x q rest).answer (Add s)
  arms_add env s x q text.no_alternatives = adds_same s
  arms_add env s x q (text.alternative cs ss rest) =
      answered (Add s) q _
      (part_so (Add s) (Add s) (all_chosen env s x q cs).answer
      (λ ds. all_stated env ds.next q ss >>= (λ xs. all_arms env xs.next x q rest
      >>= (λ ys. rule (Some (given (record { choices = ds.value; statements = xs.value } ∷ ys.value) ys.next)))))
      (all_chosen_add env s x q cs)
      (λ ds h. part_so (Add ds.next) (Add s) (all_stated env ds.next q ss).answer
      (λ xs. all_arms env xs.next x q rest >>= (λ ys. rule (Some (given (record { choices = ds.value; statements = xs.value } ∷ ys.value) ys.next))))
      (all_add env ds.next q ss)
      (λ xs k. part_so (Add xs.next) (Add s) (all_arms env xs.next x q rest).answer
      (λ ys. rule (Some (given (record { choices = ds.value; statements = xs.value } ∷ ys.value) ys.next)))
      (arms_add env xs.next x q rest)
      (λ ys l. adds_both s ds.next ys.next h (adds_both ds.next xs.next ys.next k l)))))

  pub handlers_add : (env : Env) (s : State) (q : Pos) (hs : text.Handlers) → IfOk (all_handlers env s q hs).answer (Add s)
  handlers_add env s q text.no_handlers = adds_same s
  handlers_add env s q (text.handler cs ss hs) =
      answered (Add s) q _
      (part_so (Add s) (Add s) (all_caught env s (is_last hs && nat_eq (length cs) 1) q cs).answer
      (λ ds. all_stated (in_handler env) ds.next q ss >>= (λ xs. all_handlers env xs.next q hs
      >>= (λ ys. rule (Some (given (tree.handler ds.value (stmts_of xs.value) ys.value) ys.next)))))
      (all_caught_add env s (is_last hs && nat_eq (length cs) 1) q cs)
      (λ ds h. part_so (Add ds.next) (Add s) (all_stated (in_handler env) ds.next q ss).answer
      (λ xs. all_handlers env xs.next q hs >>= (λ ys. rule (Some (given (tree.handler ds.value (stmts_of xs.value) ys.value) ys.next))))
      (all_add (in_handler env) ds.next q ss)
      (λ xs k. part_so (Add xs.next) (Add s) (all_handlers env xs.next q hs).answer
      (λ ys. rule (Some (given (tree.handler ds.value (stmts_of xs.value) ys.value) ys.next)))
      (handlers_add env xs.next q hs)
      (λ ys l. adds_both s ds.next ys.next h (adds_both ds.next xs.next ys.next k l)))))

  pub handled_add : (env : Env) (s : State) (q : Pos) (h : text.Handled) → IfOk (all_handled env s q h).answer (Add s)
  handled_add env s q (text.handled ss hs) =
      answered (Add s) q _
      (part_so (Add s) (Add s) (all_stated env s q ss).answer
      (λ xs. all_handlers env xs.next q hs >>= (λ ys. rule (Some (given (record { statements = xs.value; handlers = ys.value }) ys.next))))
      (all_add env s q ss)
      (λ xs h. part_so (Add xs.next) (Add s) (all_handlers env xs.next q hs).answer
      (λ ys. rule (Some (given (record { statements = xs.value; handlers = ys.value }) ys.next))) (handlers_add env xs.next q hs)
      (λ ys k. adds_both s xs.next ys.next h k)))
