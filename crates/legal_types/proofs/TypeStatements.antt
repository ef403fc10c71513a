-- What the types weigh that statements declare, in both steps.
use Rattle.std.proofs.Common.{ℕ, ◌+◌, Result, nat_eq, Bool, true, false, ◌&&◌, List, [], ◌∷◌, ◌++◌, length, Option, Some, None, option_map, IfSome, IfOk, refl}
use Rattle.std.specs.Option.{option_and_then}
use Rattle.cov_base.specs.declared.position.Pos.{Pos}
use Rattle.ada_syntax.specs.StatementTree as text
use Rattle.ada_syntax.specs.Tree as source
use Rattle.ada_syntax.specs.Tree.{expr_pos, name_pos}
use Rattle.ada_syntax.specs.declared.declaration.DiscreteRange.{DiscreteRange}
use Rattle.ada_syntax.specs.declared.declaration.DiscreteRange.TheVariants as discrete
use Rattle.ada_syntax.specs.declared.statement.Choice.{Choice}
use Rattle.ada_syntax.specs.declared.statement.Choice.TheVariants as choice
use Rattle.ada_syntax.specs.declared.statement.ExceptionChoice.{ExceptionChoice}
use Rattle.ada_syntax.specs.declared.statement.ExceptionChoice.TheVariants as taken
use Rattle.ada_syntax.specs.declared.statement.LoopScheme.TheVariants as scheme
use Rattle.ada_meaning.specs.Tree as tree
use Rattle.ada_rules.specs.Plan.{◌>>=◌, rule}
use Rattle.ada_rules.specs.Types.{AdaSubtype, fits, common}
use Rattle.ada_rules.specs.Entities.{key}
use Rattle.ada_rules.specs.Environment.{typed_rule, State, Given, given, Env, with_local, opened, in_loop, in_handler, demanded, hide, statement_label, started}
use Rattle.ada_rules.specs.Expressions.{itself, denoted, judged, decision, static_part, scalar_mark}
use Rattle.ada_rules.specs.Declarations.{new_value, all_declared}
use Rattle.ada_rules.specs.Statements.{stmts_of, one, any_variable, writable, target, call_of, branches_of, Selector, any_selector, selector_of, selector, among, chosen, all_chosen, Arm, ends_with_others, case_of, any_turns, turns_between, turns_over, turned, loop_parameter, one_object_more, is_reverse, returned, returned_value, exception_of, where_allowed, caught, all_caught, is_last, declarations_in, block_of, typed_stmt, stated, all_stated, branched, all_arms, all_handlers, all_handled}
use Rattle.ada_rules.specs.Statics.{in_order}
use Rattle.legal_laws.specs.Kept.{OnlyDecides}
use Rattle.legal_laws.proofs.Passing.{IfPassed, if_test, answered, part_so, weaker_ok}
use Rattle.legal_laws.proofs.KeptExpressions.{denoted_behind, decision_behind}
use Rattle.legal_laws.proofs.Passing.{typed_either, any_answer}
use Rattle.legal_types.specs.TypeTokens.{declared_types, statement_types, statements_types, branches_types, alternatives_types, handlers_types, handled_types}
use Rattle.legal_types.specs.Weights.{Keeps, Weighs}
use Rattle.legal_types.proofs.TypeDeclarations.{WeighsOn, of_keeps, weighs_both, weighs_behind, declarations_weigh, keeps_same, keeps_both, keeps_decides, keeps_demanded, keeps_started, Keep, expression_keeps, static_keeps, scalar_mark_keeps, mapped_keeps, new_value_keeps}

-- a loop parameter has one word
keeps_parameter : (q : Pos) (t : AdaSubtype) (s : State) → Keeps s (one_object_more q t s)
keeps_parameter q t s = record { types = refl }

module _ (env : Env) where
  name_keeps : (s : State) (n : source.Name) → IfOk (denoted env s n).answer (Keep s)
  name_keeps s n =
      weaker_ok (λ x. OnlyDecides s x.next) (Keep s) (denoted env s n).answer (denoted_behind env s n) (λ x h. keeps_decides s x.next h)

  pub decision_keeps : (s : State) (q : Pos) (e : source.Expr) → IfOk (decision env s q e).answer (Keep s)
  decision_keeps s q e =
      weaker_ok (λ x. OnlyDecides s x.next) (Keep s) (decision env s q e).answer (decision_behind env s q e) (λ x h. keeps_decides s x.next h)

  target_keeps : (s : State) (n : source.Name) → IfOk (target env s n).answer (Keep s)
  target_keeps s n =
      answered (Keep s) (name_pos n) _
      (part_so (Keep s) (Keep s) (denoted env s n).answer
      (λ d. typed_rule env.step (given any_variable d.next) (option_map (λ v. given v d.next) (writable d.value))) (name_keeps s n)
      (λ d h. typed_either (Keep s) env.step (given any_variable d.next) _ h
      (mapped_keeps env s d.next (λ v. v) (writable d.value) h)))

  pub selector_keeps : (s : State) (e : source.Expr) → IfOk (selector env s e).answer (Keep s)
  selector_keeps s e =
      answered (Keep s) (expr_pos e) _
      (part_so (Keep s) (Keep s) (judged env itself s e).answer
      (λ x. typed_rule env.step (given any_selector x.next) (option_map (λ y. given y x.next) (selector_of x.value)))
      (expression_keeps env s e)
      (λ x h. typed_either (Keep s) env.step (given any_selector x.next) _ h
      (mapped_keeps env s x.next (λ v. v) (selector_of x.value) h)))

  turned_keeps : (s : State) (r : DiscreteRange) → IfOk (turned env s r).answer (Keep s)
  turned_keeps s (discrete.Mark n) =
      answered (Keep s) (name_pos n) _
      (part_so (Keep s) (Keep s) (scalar_mark env s n).answer (λ m. rule (Some (given (turns_over m.value.subtype) m.next)))
      (scalar_mark_keeps env s n) (λ m h. h))
  turned_keeps s (discrete.Bounds b) =
      answered (Keep s) (expr_pos b.low) _
      (part_so (Keep s) (Keep s) (judged env itself s b.low).answer
      (λ x. judged env itself x.next b.high >>= (λ y. typed_rule env.step (given any_turns y.next)
      (option_map (λ t. given t y.next) (option_and_then (turns_between x.value y.value) (common x.value.kind y.value.kind)))))
      (expression_keeps env s b.low)
      (λ x h. part_so (Keep x.next) (Keep s) (judged env itself x.next b.high).answer
      (λ y. typed_rule env.step (given any_turns y.next)
      (option_map (λ t. given t y.next) (option_and_then (turns_between x.value y.value) (common x.value.kind y.value.kind))))
      (expression_keeps env x.next b.high)
      (λ y k. typed_either (Keep s) env.step (given any_turns y.next) _ (keeps_both s x.next y.next h k)
      (mapped_keeps env s y.next (λ v. v) (option_and_then (turns_between x.value y.value) (common x.value.kind y.value.kind))
      (keeps_both s x.next y.next h k)))))

  -- choices
  chosen_keeps : (s : State) (x : Selector) (c : Choice) → IfOk (chosen env s x c).answer (Keep s)
  chosen_keeps s x (choice.Value e) =
      answered (Keep s) (expr_pos e) _
      (part_so (Keep s) (Keep s) (static_part env s (fits x.type) (among x.values) e).answer
      (λ v. rule (Some (given (tree.value_choice v.value.value) v.next)))
      (static_keeps env s (fits x.type) (among x.values) e) (λ v h. h))
  chosen_keeps s x (choice.Range b) =
      answered (Keep s) (expr_pos b.low) _
      (part_so (Keep s) (Keep s) (static_part env s (fits x.type) (among x.values) b.low).answer
      (λ low. static_part env low.next (fits x.type) (among x.values) b.high >>= (λ high. rule (Some (given (tree.range_choice low.value.value high.value.value)
      (demanded env (expr_pos b.low) (in_order low.value.value high.value.value) high.next)))))
      (static_keeps env s (fits x.type) (among x.values) b.low)
      (λ low h. part_so (Keep low.next) (Keep s) (static_part env low.next (fits x.type) (among x.values) b.high).answer
      (λ high. rule (Some (given (tree.range_choice low.value.value high.value.value)
      (demanded env (expr_pos b.low) (in_order low.value.value high.value.value) high.next))))
      (static_keeps env low.next (fits x.type) (among x.values) b.high)
      (λ high k. keeps_both s low.next _ h (keeps_both low.next high.next _ k
      (keeps_demanded env (expr_pos b.low) (in_order low.value.value high.value.value) high.next)))))
  chosen_keeps s x (choice.Others q) = keeps_same s

  pub all_chosen_keep : (s : State) (x : Selector) (q : Pos) (cs : List Choice) → IfOk (all_chosen env s x q cs).answer (Keep s)
  all_chosen_keep s x q [] = keeps_same s
  all_chosen_keep s x q (c ∷ cs) =
      answered (Keep s) q _
      (part_so (Keep s) (Keep s) (chosen env s x c).answer
      (λ d. all_chosen env d.next x q cs >>= (λ ds. rule (Some (given (d.value ∷ ds.value) ds.next)))) (chosen_keeps s x c)
      (λ d h. part_so (Keep d.next) (Keep s) (all_chosen env d.next x q cs).answer (λ ds. rule (Some (given (d.value ∷ ds.value) ds.next)))
      (all_chosen_keep d.next x q cs) (λ ds k. keeps_both s d.next ds.next h k)))

  allowed_keeps : {A : Type 0} (s : State) (b : Bool) (x : Given A) → Keep s x → IfSome (where_allowed b x) (Keep s)
  allowed_keeps s true x h = h
  allowed_keeps s false x h = tt

  caught_keeps : (s : State) (b : Bool) (c : ExceptionChoice) → IfOk (caught env s b c).answer (Keep s)
  caught_keeps s b (taken.Named n) =
      answered (Keep s) (name_pos n) _
      (part_so (Keep s) (Keep s) (denoted env s n).answer
      (λ d. typed_rule env.step (given tree.other_exceptions d.next) (option_map (λ e. given (tree.named_exception e) d.next) (exception_of d.value))) (name_keeps s n)
      (λ d h. typed_either (Keep s) env.step (given tree.other_exceptions d.next) _ h
      (mapped_keeps env s d.next tree.named_exception (exception_of d.value) h)))
  caught_keeps s b (taken.Others q) =
      answered (Keep s) q _
      (typed_either (Keep s) env.step (given tree.other_exceptions s) (where_allowed b (given tree.other_exceptions s)) (keeps_same s)
      (allowed_keeps s b (given tree.other_exceptions s) (keeps_same s)))

  pub all_caught_keep : (s : State) (b : Bool) (q : Pos) (cs : List ExceptionChoice) → IfOk (all_caught env s b q cs).answer (Keep s)
  all_caught_keep s b q [] = keeps_same s
  all_caught_keep s b q (c ∷ cs) =
      answered (Keep s) q _
      (part_so (Keep s) (Keep s) (caught env s b c).answer
      (λ d. all_caught env d.next b q cs >>= (λ ds. rule (Some (given (d.value ∷ ds.value) ds.next)))) (caught_keeps s b c)
      (λ d h. part_so (Keep d.next) (Keep s) (all_caught env d.next b q cs).answer (λ ds. rule (Some (given (d.value ∷ ds.value) ds.next)))
      (all_caught_keep d.next b q cs) (λ ds k. keeps_both s d.next ds.next h k)))

  stmt_keeps : (s t : State) (l : tree.Label) (x : Option tree.Stmt) → Keeps s t → IfPassed (typed_stmt env l t x).outcome (Keep s)
  stmt_keeps s t l x h =
      typed_either (Keep s) env.step (one (tree.null_statement l) t) (option_map (λ y. one y t) x) h
      (mapped_keeps env s t (λ y. y ∷ []) x h)

  start : (s : State) → Keeps s (started s)
  start s = keeps_started s

-- the same with a weight
abbrev pub Weigh : {A : Type 0} → Option ℕ → ℕ → State → Given A → Type 0
Weigh o n s g = Weighs o n s g.next

pub light : {A : Type 0} (o : Option ℕ) (s : State) (answer : Result (Given A) Pos) → IfOk answer (Keep s) → IfOk answer (Weigh o 0 s)
light o s answer h = weaker_ok (Keep s) (Weigh o 0 s) answer h (λ x k. of_keeps o 0 s x.next k)

case_weighs : (env : Env) (o : Option ℕ) (n : ℕ) (s before : State) (q : Pos) (x : Selector) (arms : Given (List Arm)) → Weighs o n s arms.next
    → IfSome (case_of env before q x arms) (Weigh o n s)
case_weighs env o n s before q x arms h =
    if_test (Weigh o n s) (ends_with_others arms.value) _ (λ b. record { most = h.most; each = h.each })

mutual
  pub stated_weighs : (env : Env) (s : State) (x : text.Statement) → IfOk (stated env s x).answer (Weigh env.generic (statement_types x) s)
  stated_weighs env s (text.null q) = light env.generic s (stated env s (text.null q)).answer
      (start env s)
  stated_weighs env s (text.assignment q n i) = light env.generic s (stated env s (text.assignment q n i)).answer
      (answered (Keep s) q _
      (part_so (Keep (started s)) (Keep s) (target env (started s) n).answer
      (λ v. new_value env v.next q v.value.subtype i >>= (λ x. rule (Some (one (tree.assignment (statement_label s q) v.value.object v.value.parts x.value.value) x.next))))
      (target_keeps env (started s) n)
      (λ v h. part_so (Keep v.next) (Keep s) (new_value env v.next q v.value.subtype i).answer
      (λ x. rule (Some (one (tree.assignment (statement_label s q) v.value.object v.value.parts x.value.value) x.next)))
      (new_value_keeps env v.next q v.value.subtype i)
      (λ x k. keeps_both s (started s) x.next (start env s) (keeps_both (started s) v.next x.next h k)))))
  stated_weighs env s (text.call q n) = light env.generic s (stated env s (text.call q n)).answer
      (answered (Keep s) q _
      (part_so (Keep (started s)) (Keep s) (denoted env (started s) n).answer
      (λ d. typed_stmt env (statement_label s q) d.next (call_of (statement_label s q) d.value)) (name_keeps env (started s) n)
      (λ d h. stmt_keeps env s d.next (statement_label s q) (call_of (statement_label s q) d.value) (keeps_both s (started s) d.next (start env s) h))))
  stated_weighs env s (text.exemption q a) = light env.generic s (stated env s (text.exemption q a)).answer
      (keeps_same s)
  stated_weighs env s (text.exit q None) = light env.generic s (stated env s (text.exit q None)).answer
      (answered (Keep s) q _
      (stmt_keeps env s (started s) (statement_label s q) (where_allowed env.is_looping (tree.exit_statement (statement_label s q))) (start env s)))
  stated_weighs env s (text.exit q (Some e)) = light env.generic s (stated env s (text.exit q (Some e))).answer
      (answered (Keep s) q _
      (part_so (Keep (started s)) (Keep s) (decision env (started s) q e).answer
      (λ t. typed_stmt env (statement_label s q) t.next (where_allowed env.is_looping (tree.exit_when (statement_label s q) t.value.0 t.value.1)))
      (decision_keeps env (started s) q e)
      (λ t h. stmt_keeps env s t.next (statement_label s q) (where_allowed env.is_looping (tree.exit_when (statement_label s q) t.value.0 t.value.1))
      (keeps_both s (started s) t.next (start env s) h))))
  stated_weighs env s (text.returns q None) = light env.generic s (stated env s (text.returns q None)).answer
      (answered (Keep s) q _
      (stmt_keeps env s (started s) (statement_label s q) (returned (statement_label s q) env.returning) (start env s)))
  stated_weighs env s (text.returns q (Some e)) = light env.generic s (stated env s (text.returns q (Some e))).answer
      (answered (Keep s) q _
      (part_so (Keep (started s)) (Keep s) (judged env itself (started s) e).answer
      (λ x. typed_stmt env (statement_label s q) x.next (returned_value (statement_label s q) x.value env.returning))
      (expression_keeps env (started s) e)
      (λ x h. stmt_keeps env s x.next (statement_label s q) (returned_value (statement_label s q) x.value env.returning)
      (keeps_both s (started s) x.next (start env s) h))))
  stated_weighs env s (text.raise q None) = light env.generic s (stated env s (text.raise q None)).answer
      (answered (Keep s) q _
      (stmt_keeps env s (started s) (statement_label s q) (where_allowed env.is_handling (tree.raise_again (statement_label s q))) (start env s)))
  stated_weighs env s (text.raise q (Some n)) = light env.generic s (stated env s (text.raise q (Some n))).answer
      (answered (Keep s) q _
      (part_so (Keep (started s)) (Keep s) (denoted env (started s) n).answer
      (λ d. typed_stmt env (statement_label s q) d.next (option_map (tree.raise_statement (statement_label s q)) (exception_of d.value)))
      (name_keeps env (started s) n)
      (λ d h. stmt_keeps env s d.next (statement_label s q) (option_map (tree.raise_statement (statement_label s q)) (exception_of d.value))
      (keeps_both s (started s) d.next (start env s) h))))
  stated_weighs env s (text.conditional q e ss bs es) =
      let n = statements_types ss + (branches_types bs + statements_types es) in
      answered (Weigh env.generic n s) q _
      (part_so (Keep (started s)) (Weigh env.generic n s) (decision env (started s) q e).answer
      (λ t. all_stated env t.next q ss >>= (λ xs. branched env xs.next q bs >>= (λ ys. all_stated env ys.next q es
      >>= (λ zs. rule (Some (one (tree.if_statement (statement_label s q) (tree.branch t.value.0 t.value.1 (stmts_of xs.value) (branches_of ys.value zs.value))) zs.next))))))
      (decision_keeps env (started s) q e)
      (λ t h. part_so (Weigh env.generic (statements_types ss) t.next) (Weigh env.generic n s) (all_stated env t.next q ss).answer
      (λ xs. branched env xs.next q bs >>= (λ ys. all_stated env ys.next q es
      >>= (λ zs. rule (Some (one (tree.if_statement (statement_label s q) (tree.branch t.value.0 t.value.1 (stmts_of xs.value) (branches_of ys.value zs.value))) zs.next)))))
      (all_weigh env t.next q ss)
      (λ xs k. part_so (Weigh env.generic (branches_types bs) xs.next) (Weigh env.generic n s) (branched env xs.next q bs).answer
      (λ ys. all_stated env ys.next q es
      >>= (λ zs. rule (Some (one (tree.if_statement (statement_label s q) (tree.branch t.value.0 t.value.1 (stmts_of xs.value) (branches_of ys.value zs.value))) zs.next))))
      (branches_weigh env xs.next q bs)
      (λ ys l. part_so (Weigh env.generic (statements_types es) ys.next) (Weigh env.generic n s) (all_stated env ys.next q es).answer
      (λ zs. rule (Some (one (tree.if_statement (statement_label s q) (tree.branch t.value.0 t.value.1 (stmts_of xs.value) (branches_of ys.value zs.value))) zs.next)))
      (all_weigh env ys.next q es)
      (λ zs m. weighs_behind env.generic n s (started s) zs.next (start env s) (weighs_behind env.generic n (started s) t.next zs.next h
      (weighs_both env.generic (statements_types ss) (branches_types bs + statements_types es) t.next xs.next zs.next k
      (weighs_both env.generic (branches_types bs) (statements_types es) xs.next ys.next zs.next l m))))))))
  stated_weighs env s (text.case_of q e alternatives) =
      let n = alternatives_types alternatives in
      answered (Weigh env.generic n s) q _
      (part_so (Keep (started s)) (Weigh env.generic n s) (selector env (started s) e).answer
      (λ x. all_arms env x.next x.value q alternatives
      >>= (λ arms. typed_rule env.step (one (tree.null_statement (statement_label s q)) arms.next) (case_of env s q x.value arms)))
      (selector_keeps env (started s) e)
      (λ x h. part_so (Weigh env.generic n x.next) (Weigh env.generic n s) (all_arms env x.next x.value q alternatives).answer
      (λ arms. typed_rule env.step (one (tree.null_statement (statement_label s q)) arms.next) (case_of env s q x.value arms))
      (arms_weigh env x.next x.value q alternatives)
      (λ arms k. let all = weighs_behind env.generic n s (started s) arms.next (start env s) (weighs_behind env.generic n (started s) x.next arms.next h k) in
      typed_either (Weigh env.generic n s) env.step _ _ all (case_weighs env env.generic n s s q x.value arms all))))
  stated_weighs env s (text.repeat q scheme.Forever ss) =
      let n = statements_types ss in
      answered (Weigh env.generic n s) q _
      (part_so (Weigh env.generic n (started s)) (Weigh env.generic n s) (all_stated (in_loop env) (started s) q ss).answer
      (λ xs. rule (Some (one (tree.bare_loop (statement_label s q) (stmts_of xs.value)) xs.next))) (all_weigh (in_loop env) (started s) q ss)
      (λ xs h. weighs_behind env.generic n s (started s) xs.next (start env s) h))
  stated_weighs env s (text.repeat q (scheme.While e) ss) =
      let n = statements_types ss in
      answered (Weigh env.generic n s) q _
      (part_so (Keep (started s)) (Weigh env.generic n s) (decision env (started s) q e).answer
      (λ t. all_stated (in_loop env) t.next q ss >>= (λ xs. rule (Some (one (tree.while_loop (statement_label s q) t.value.0 t.value.1 (stmts_of xs.value)) xs.next))))
      (decision_keeps env (started s) q e)
      (λ t h. part_so (Weigh env.generic n t.next) (Weigh env.generic n s) (all_stated (in_loop env) t.next q ss).answer
      (λ xs. rule (Some (one (tree.while_loop (statement_label s q) t.value.0 t.value.1 (stmts_of xs.value)) xs.next))) (all_weigh (in_loop env) t.next q ss)
      (λ xs k. weighs_behind env.generic n s (started s) xs.next (start env s) (weighs_behind env.generic n (started s) t.next xs.next h k))))
  stated_weighs env s (text.repeat q (scheme.For i d r) ss) =
      let n = statements_types ss in
      answered (Weigh env.generic n s) q _
      (part_so (λ x. Unit {0}) (Weigh env.generic n s) (hide [] i).answer
      (λ region. turned (with_local (opened env) region) (started s) r
      >>= (λ t. all_stated (in_loop (with_local (opened env) ((key i, loop_parameter t.next.objects t.value) ∷ []))) (one_object_more q t.value.subtype t.next) q ss
      >>= (λ xs. rule (Some (one (tree.for_loop (statement_label s q) t.next.objects (is_reverse d) t.value.over (stmts_of xs.value)) xs.next)))))
      (any_answer (hide [] i).answer)
      (λ region u. part_so (Keep (started s)) (Weigh env.generic n s) (turned (with_local (opened env) region) (started s) r).answer
      (λ t. all_stated (in_loop (with_local (opened env) ((key i, loop_parameter t.next.objects t.value) ∷ []))) (one_object_more q t.value.subtype t.next) q ss
      >>= (λ xs. rule (Some (one (tree.for_loop (statement_label s q) t.next.objects (is_reverse d) t.value.over (stmts_of xs.value)) xs.next))))
      (turned_keeps (with_local (opened env) region) (started s) r)
      (λ t h. part_so (Weigh env.generic n (one_object_more q t.value.subtype t.next)) (Weigh env.generic n s)
      (all_stated (in_loop (with_local (opened env) ((key i, loop_parameter t.next.objects t.value) ∷ []))) (one_object_more q t.value.subtype t.next) q ss).answer
      (λ xs. rule (Some (one (tree.for_loop (statement_label s q) t.next.objects (is_reverse d) t.value.over (stmts_of xs.value)) xs.next)))
      (all_weigh (in_loop (with_local (opened env) ((key i, loop_parameter t.next.objects t.value) ∷ []))) (one_object_more q t.value.subtype t.next) q ss)
      (λ xs k. weighs_behind env.generic n s (started s) xs.next (start env s) (weighs_behind env.generic n (started s) t.next xs.next h
      (weighs_behind env.generic n t.next (one_object_more q t.value.subtype t.next) xs.next (keeps_parameter q t.value.subtype t.next) k))))))
  stated_weighs env s (text.block q ds h) =
      let n = declared_types (declarations_in ds) + handled_types h in
      answered (Weigh env.generic n s) q _
      (part_so (WeighsOn env.generic (declared_types (declarations_in ds)) s) (Weigh env.generic n s) (all_declared (opened env) s q (declarations_in ds)).answer
      (λ x. all_handled (with_local (opened env) x.region) x.next q h >>= (λ f. rule (Some (one (tree.block_statement (block_of x.made f.value)) f.next))))
      (declarations_weigh (opened env) s q (declarations_in ds))
      (λ x k. part_so (Weigh env.generic (handled_types h) x.next) (Weigh env.generic n s) (all_handled (with_local (opened env) x.region) x.next q h).answer
      (λ f. rule (Some (one (tree.block_statement (block_of x.made f.value)) f.next))) (handled_weighs (with_local (opened env) x.region) x.next q h)
      (λ f l. weighs_both env.generic (declared_types (declarations_in ds)) (handled_types h) s x.next f.next k l)))

  pub all_weigh : (env : Env) (s : State) (q : Pos) (xs : text.Statements) → IfOk (all_stated env s q xs).answer (Weigh env.generic (statements_types xs) s)
  all_weigh env s q text.no_statements = of_keeps env.generic 0 s s (keeps_same s)
  all_weigh env s q (text.then_also x xs) =
      let n = statement_types x + statements_types xs in
      answered (Weigh env.generic n s) q _
      (part_so (Weigh env.generic (statement_types x) s) (Weigh env.generic n s) (stated env s x).answer
      (λ y. all_stated env y.next q xs >>= (λ ys. rule (Some (given (y.value ++ ys.value) ys.next)))) (stated_weighs env s x)
      (λ y h. part_so (Weigh env.generic (statements_types xs) y.next) (Weigh env.generic n s) (all_stated env y.next q xs).answer (λ ys. rule (Some (given (y.value ++ ys.value) ys.next)))
      (all_weigh env y.next q xs) (λ ys k. weighs_both env.generic (statement_types x) (statements_types xs) s y.next ys.next h k)))

  pub branches_weigh : (env : Env) (s : State) (q : Pos) (bs : text.Branches) → IfOk (branched env s q bs).answer (Weigh env.generic (branches_types bs) s)
  branches_weigh env s q text.no_branches = of_keeps env.generic 0 s s (keeps_same s)
  branches_weigh env s q (text.branch e ss bs) =
      let n = statements_types ss + branches_types bs in
      answered (Weigh env.generic n s) q _
      (part_so (Keep s) (Weigh env.generic n s) (decision env s q e).answer
      (λ t. all_stated env t.next q ss >>= (λ xs. branched env xs.next q bs
      >>= (λ ys. rule (Some (given (record { label = t.value.0; test = t.value.1; statements = xs.value } ∷ ys.value) ys.next)))))
      (decision_keeps env s q e)
      (λ t h. part_so (Weigh env.generic (statements_types ss) t.next) (Weigh env.generic n s) (all_stated env t.next q ss).answer
      (λ xs. branched env xs.next q bs >>= (λ ys. rule (Some (given (record { label = t.value.0; test = t.value.1; statements = xs.value } ∷ ys.value) ys.next))))
      (all_weigh env t.next q ss)
      (λ xs k. part_so (Weigh env.generic (branches_types bs) xs.next) (Weigh env.generic n s) (branched env xs.next q bs).answer
      (λ ys. rule (Some (given (record { label = t.value.0; test = t.value.1; statements = xs.value } ∷ ys.value) ys.next)))
      (branches_weigh env xs.next q bs)
      (λ ys l. weighs_behind env.generic n s t.next ys.next h (weighs_both env.generic (statements_types ss) (branches_types bs) t.next xs.next ys.next k l)))))

  pub arms_weigh : (env : Env) (s : State) (x : Selector) (q : Pos) (rest : text.Alternatives) → IfOk (all_arms env s x q rest).answer (Weigh env.generic (alternatives_types rest) s)
  arms_weigh env s x q text.no_alternatives = of_keeps env.generic 0 s s (keeps_same s)
  arms_weigh env s x q (text.alternative cs ss rest) =
      let n = statements_types ss + alternatives_types rest in
      answered (Weigh env.generic n s) q _
      (part_so (Keep s) (Weigh env.generic n s) (all_chosen env s x q cs).answer
      (λ ds. all_stated env ds.next q ss >>= (λ xs. all_arms env xs.next x q rest
      >>= (λ ys. rule (Some (given (record { choices = ds.value; statements = xs.value } ∷ ys.value) ys.next)))))
      (all_chosen_keep env s x q cs)
      (λ ds h. part_so (Weigh env.generic (statements_types ss) ds.next) (Weigh env.generic n s) (all_stated env ds.next q ss).answer
      (λ xs. all_arms env xs.next x q rest >>= (λ ys. rule (Some (given (record { choices = ds.value; statements = xs.value } ∷ ys.value) ys.next))))
      (all_weigh env ds.next q ss)
      (λ xs k. part_so (Weigh env.generic (alternatives_types rest) xs.next) (Weigh env.generic n s) (all_arms env xs.next x q rest).answer
      (λ ys. rule (Some (given (record { choices = ds.value; statements = xs.value } ∷ ys.value) ys.next)))
      (arms_weigh env xs.next x q rest)
      (λ ys l. weighs_behind env.generic n s ds.next ys.next h (weighs_both env.generic (statements_types ss) (alternatives_types rest) ds.next xs.next ys.next k l)))))

  pub handlers_weigh : (env : Env) (s : State) (q : Pos) (hs : text.Handlers) → IfOk (all_handlers env s q hs).answer (Weigh env.generic (handlers_types hs) s)
  handlers_weigh env s q text.no_handlers = of_keeps env.generic 0 s s (keeps_same s)
  handlers_weigh env s q (text.handler cs ss hs) =
      let n = statements_types ss + handlers_types hs in
      answered (Weigh env.generic n s) q _
      (part_so (Keep s) (Weigh env.generic n s) (all_caught env s (is_last hs && nat_eq (length cs) 1) q cs).answer
      (λ ds. all_stated (in_handler env) ds.next q ss >>= (λ xs. all_handlers env xs.next q hs
      >>= (λ ys. rule (Some (given (tree.handler ds.value (stmts_of xs.value) ys.value) ys.next)))))
      (all_caught_keep env s (is_last hs && nat_eq (length cs) 1) q cs)
      (λ ds h. part_so (Weigh env.generic (statements_types ss) ds.next) (Weigh env.generic n s) (all_stated (in_handler env) ds.next q ss).answer
      (λ xs. all_handlers env xs.next q hs >>= (λ ys. rule (Some (given (tree.handler ds.value (stmts_of xs.value) ys.value) ys.next))))
      (all_weigh (in_handler env) ds.next q ss)
      (λ xs k. part_so (Weigh env.generic (handlers_types hs) xs.next) (Weigh env.generic n s) (all_handlers env xs.next q hs).answer
      (λ ys. rule (Some (given (tree.handler ds.value (stmts_of xs.value) ys.value) ys.next)))
      (handlers_weigh env xs.next q hs)
      (λ ys l. weighs_behind env.generic n s ds.next ys.next h (weighs_both env.generic (statements_types ss) (handlers_types hs) ds.next xs.next ys.next k l)))))

  pub handled_weighs : (env : Env) (s : State) (q : Pos) (h : text.Handled) → IfOk (all_handled env s q h).answer (Weigh env.generic (handled_types h) s)
  handled_weighs env s q (text.handled ss hs) =
      let n = statements_types ss + handlers_types hs in
      answered (Weigh env.generic n s) q _
      (part_so (Weigh env.generic (statements_types ss) s) (Weigh env.generic n s) (all_stated env s q ss).answer
      (λ xs. all_handlers env xs.next q hs >>= (λ ys. rule (Some (given (record { statements = xs.value; handlers = ys.value }) ys.next))))
      (all_weigh env s q ss)
      (λ xs h. part_so (Weigh env.generic (handlers_types hs) xs.next) (Weigh env.generic n s) (all_handlers env xs.next q hs).answer
      (λ ys. rule (Some (given (record { statements = xs.value; handlers = ys.value }) ys.next))) (handlers_weigh env xs.next q hs)
      (λ ys k. weighs_both env.generic (statements_types ss) (handlers_types hs) s xs.next ys.next h k)))
