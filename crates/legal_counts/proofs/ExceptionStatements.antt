-- Statements add no more exceptions than their blocks name, in both steps.
use Rattle.std.proofs.Common.{ℕ, ◌+◌, Result, nat_eq, ◌&&◌, List, [], ◌∷◌, ◌++◌, length, Option, Some, None, option_map, IfSome, IfOk, refl}
use Rattle.cov_base.specs.declared.position.Pos.{Pos}
use Rattle.ada_syntax.specs.StatementTree as text
use Rattle.ada_syntax.specs.declared.statement.LoopScheme.TheVariants as scheme
use Rattle.ada_meaning.specs.Tree as tree
use Rattle.ada_rules.specs.Types.{AdaSubtype}
use Rattle.ada_rules.specs.Plan.{◌>>=◌, rule}
use Rattle.ada_rules.specs.Entities.{key}
use Rattle.ada_rules.specs.Environment.{typed_rule, State, Given, given, Env, with_local, opened, in_loop, in_handler, hide, statement_label, started}
use Rattle.ada_rules.specs.Expressions.{itself, denoted, judged, decision}
use Rattle.ada_rules.specs.Declarations.{new_value, all_declared}
use Rattle.ada_rules.specs.Statements.{stmts_of, one, target, call_of, branches_of, Selector, selector, all_chosen, Arm, ends_with_others, case_of, turned, loop_parameter, one_object_more, is_reverse, returned, returned_value, exception_of, where_allowed, all_caught, is_last, declarations_in, block_of, typed_stmt, stated, all_stated, branched, all_arms, all_handlers, all_handled}
use Rattle.legal_laws.proofs.Passing.{IfPassed, if_test, answered, part_so, weaker_ok, typed_either, any_answer}
use Rattle.legal_counts.proofs.ExceptionNames.{declared_exceptions, statement_exceptions, statements_exceptions, branches_exceptions, alternatives_exceptions, handlers_exceptions, handled_exceptions}
use Rattle.legal_counts.proofs.ExceptionDeclarations.{Keeps, Adds, Keep, Add, AddsOn, of_keeps, adds_both, adds_behind, keeps_same, keeps_both, expression_keeps, name_keeps, decision_keeps, target_keeps, selector_keeps, turned_keeps, all_chosen_keep, all_caught_keep, new_value_keeps, mapped_keeps, declarations_add}

keeps_parameter : (q : Pos) (t : AdaSubtype) (s : State) → Keeps s (one_object_more q t s)
keeps_parameter q t s = record { exceptions = refl }

start : (env : Env) (s : State) → Keeps s (started s)
start env s = record { exceptions = refl }

stmt_keeps : (env : Env) (s t : State) (l : tree.Label) (x : Option tree.Stmt) → Keeps s t → IfPassed (typed_stmt env l t x).outcome (Keep s)
stmt_keeps env s t l x h =
    typed_either (Keep s) env.step (one (tree.null_statement l) t) (option_map (λ y. one y t) x) h
    (mapped_keeps env s t (λ y. y ∷ []) x h)

no_more : {A : Type 0} (o : Option ℕ) (s : State) (answer : Result (Given A) Pos) → IfOk answer (Keep s) → IfOk answer (Add o 0 s)
no_more o s answer h = weaker_ok (Keep s) (Add o 0 s) answer h (λ x k. of_keeps o 0 s x.next k)

case_adds : (env : Env) (o : Option ℕ) (n : ℕ) (s before : State) (q : Pos) (x : Selector) (arms : Given (List Arm)) → Adds o n s arms.next
    → IfSome (case_of env before q x arms) (Add o n s)
case_adds env o n s before q x arms h =
    if_test (Add o n s) (ends_with_others arms.value) _ (λ b. record { most = h.most; each = h.each })

mutual
  pub stated_adds : (env : Env) (s : State) (x : text.Statement) → IfOk (stated env s x).answer (Add env.generic (statement_exceptions x) s)
  stated_adds env s (text.null q) = no_more env.generic s (stated env s (text.null q)).answer
      (start env s)
  stated_adds env s (text.assignment q n i) = no_more env.generic s (stated env s (text.assignment q n i)).answer
      (answered (Keep s) q _
      (part_so (Keep (started s)) (Keep s) (target env (started s) n).answer
      (λ v. new_value env v.next q v.value.subtype i >>= (λ x. rule (Some (one (tree.assignment (statement_label s q) v.value.object v.value.parts x.value.value) x.next))))
      (target_keeps env (started s) n)
      (λ v h. part_so (Keep v.next) (Keep s) (new_value env v.next q v.value.subtype i).answer
      (λ x. rule (Some (one (tree.assignment (statement_label s q) v.value.object v.value.parts x.value.value) x.next)))
      (new_value_keeps env v.next q v.value.subtype i)
      (λ x k. keeps_both s (started s) x.next (start env s) (keeps_both (started s) v.next x.next h k)))))
  stated_adds env s (text.call q n) = no_more env.generic s (stated env s (text.call q n)).answer
      (answered (Keep s) q _
      (part_so (Keep (started s)) (Keep s) (denoted env (started s) n).answer
      (λ d. typed_stmt env (statement_label s q) d.next (call_of (statement_label s q) d.value)) (name_keeps env (started s) n)
      (λ d h. stmt_keeps env s d.next (statement_label s q) (call_of (statement_label s q) d.value) (keeps_both s (started s) d.next (start env s) h))))
  stated_adds env s (text.exemption q a) = no_more env.generic s (stated env s (text.exemption q a)).answer
      (keeps_same s)
  stated_adds env s (text.exit q None) = no_more env.generic s (stated env s (text.exit q None)).answer
      (answered (Keep s) q _
      (stmt_keeps env s (started s) (statement_label s q) (where_allowed env.is_looping (tree.exit_statement (statement_label s q))) (start env s)))
  stated_adds env s (text.exit q (Some e)) = no_more env.generic s (stated env s (text.exit q (Some e))).answer
      (answered (Keep s) q _
      (part_so (Keep (started s)) (Keep s) (decision env (started s) q e).answer
      (λ t. typed_stmt env (statement_label s q) t.next (where_allowed env.is_looping (tree.exit_when (statement_label s q) t.value.0 t.value.1)))
      (decision_keeps env (started s) q e)
      (λ t h. stmt_keeps env s t.next (statement_label s q) (where_allowed env.is_looping (tree.exit_when (statement_label s q) t.value.0 t.value.1))
      (keeps_both s (started s) t.next (start env s) h))))
  stated_adds env s (text.returns q None) = no_more env.generic s (stated env s (text.returns q None)).answer
      (answered (Keep s) q _
      (stmt_keeps env s (started s) (statement_label s q) (returned (statement_label s q) env.returning) (start env s)))
  stated_adds env s (text.returns q (Some e)) = no_more env.generic s (stated env s (text.returns q (Some e))).answer
      (answered (Keep s) q _
      (part_so (Keep (started s)) (Keep s) (judged env itself (started s) e).answer
      (λ x. typed_stmt env (statement_label s q) x.next (returned_value (statement_label s q) x.value env.returning))
      (expression_keeps env (started s) e)
      (λ x h. stmt_keeps env s x.next (statement_label s q) (returned_value (statement_label s q) x.value env.returning)
      (keeps_both s (started s) x.next (start env s) h))))
  stated_adds env s (text.raise q None) = no_more env.generic s (stated env s (text.raise q None)).answer
      (answered (Keep s) q _
      (stmt_keeps env s (started s) (statement_label s q) (where_allowed env.is_handling (tree.raise_again (statement_label s q))) (start env s)))
  stated_adds env s (text.raise q (Some n)) = no_more env.generic s (stated env s (text.raise q (Some n))).answer
      (answered (Keep s) q _
      (part_so (Keep (started s)) (Keep s) (denoted env (started s) n).answer
      (λ d. typed_stmt env (statement_label s q) d.next (option_map (tree.raise_statement (statement_label s q)) (exception_of d.value)))
      (name_keeps env (started s) n)
      (λ d h. stmt_keeps env s d.next (statement_label s q) (option_map (tree.raise_statement (statement_label s q)) (exception_of d.value))
      (keeps_both s (started s) d.next (start env s) h))))
  stated_adds env s (text.conditional q e ss bs es) =
      let n = statements_exceptions ss + (branches_exceptions bs + statements_exceptions es) in
      answered (Add env.generic n s) q _
      (part_so (Keep (started s)) (Add env.generic n s) (decision env (started s) q e).answer
      (λ t. all_stated env t.next q ss >>= (λ xs. branched env xs.next q bs >>= (λ ys. all_stated env ys.next q es
      >>= (λ zs. rule (Some (one (tree.if_statement (statement_label s q) (tree.branch t.value.0 t.value.1 (stmts_of xs.value) (branches_of ys.value zs.value))) zs.next))))))
      (decision_keeps env (started s) q e)
      (λ t h. part_so (Add env.generic (statements_exceptions ss) t.next) (Add env.generic n s) (all_stated env t.next q ss).answer
      (λ xs. branched env xs.next q bs >>= (λ ys. all_stated env ys.next q es
      >>= (λ zs. rule (Some (one (tree.if_statement (statement_label s q) (tree.branch t.value.0 t.value.1 (stmts_of xs.value) (branches_of ys.value zs.value))) zs.next)))))
      (all_add env t.next q ss)
      (λ xs k. part_so (Add env.generic (branches_exceptions bs) xs.next) (Add env.generic n s) (branched env xs.next q bs).answer
      (λ ys. all_stated env ys.next q es
      >>= (λ zs. rule (Some (one (tree.if_statement (statement_label s q) (tree.branch t.value.0 t.value.1 (stmts_of xs.value) (branches_of ys.value zs.value))) zs.next))))
      (branches_add env xs.next q bs)
      (λ ys l. part_so (Add env.generic (statements_exceptions es) ys.next) (Add env.generic n s) (all_stated env ys.next q es).answer
      (λ zs. rule (Some (one (tree.if_statement (statement_label s q) (tree.branch t.value.0 t.value.1 (stmts_of xs.value) (branches_of ys.value zs.value))) zs.next)))
      (all_add env ys.next q es)
      (λ zs m. adds_behind env.generic n s (started s) zs.next (start env s) (adds_behind env.generic n (started s) t.next zs.next h
      (adds_both env.generic (statements_exceptions ss) (branches_exceptions bs + statements_exceptions es) t.next xs.next zs.next k
      (adds_both env.generic (branches_exceptions bs) (statements_exceptions es) xs.next ys.next zs.next l m))))))))
  stated_adds env s (text.case_of q e alternatives) =
      let n = alternatives_exceptions alternatives in
      answered (Add env.generic n s) q _
      (part_so (Keep (started s)) (Add env.generic n s) (selector env (started s) e).answer
      (λ x. all_arms env x.next x.value q alternatives
      >>= (λ arms. typed_rule env.step (one (tree.null_statement (statement_label s q)) arms.next) (case_of env s q x.value arms)))
      (selector_keeps env (started s) e)
      (λ x h. part_so (Add env.generic n x.next) (Add env.generic n s) (all_arms env x.next x.value q alternatives).answer
      (λ arms. typed_rule env.step (one (tree.null_statement (statement_label s q)) arms.next) (case_of env s q x.value arms))
      (arms_add env x.next x.value q alternatives)
      (λ arms k. let all = adds_behind env.generic n s (started s) arms.next (start env s) (adds_behind env.generic n (started s) x.next arms.next h k) in
      typed_either (Add env.generic n s) env.step _ _ all (case_adds env env.generic n s s q x.value arms all))))
  stated_adds env s (text.repeat q scheme.Forever ss) =
      let n = statements_exceptions ss in
      answered (Add env.generic n s) q _
      (part_so (Add env.generic n (started s)) (Add env.generic n s) (all_stated (in_loop env) (started s) q ss).answer
      (λ xs. rule (Some (one (tree.bare_loop (statement_label s q) (stmts_of xs.value)) xs.next))) (all_add (in_loop env) (started s) q ss)
      (λ xs h. adds_behind env.generic n s (started s) xs.next (start env s) h))
  stated_adds env s (text.repeat q (scheme.While e) ss) =
      let n = statements_exceptions ss in
      answered (Add env.generic n s) q _
      (part_so (Keep (started s)) (Add env.generic n s) (decision env (started s) q e).answer
      (λ t. all_stated (in_loop env) t.next q ss >>= (λ xs. rule (Some (one (tree.while_loop (statement_label s q) t.value.0 t.value.1 (stmts_of xs.value)) xs.next))))
      (decision_keeps env (started s) q e)
      (λ t h. part_so (Add env.generic n t.next) (Add env.generic n s) (all_stated (in_loop env) t.next q ss).answer
      (λ xs. rule (Some (one (tree.while_loop (statement_label s q) t.value.0 t.value.1 (stmts_of xs.value)) xs.next))) (all_add (in_loop env) t.next q ss)
      (λ xs k. adds_behind env.generic n s (started s) xs.next (start env s) (adds_behind env.generic n (started s) t.next xs.next h k))))
  stated_adds env s (text.repeat q (scheme.For i d r) ss) =
      let n = statements_exceptions ss in
      answered (Add env.generic n s) q _
      (part_so (λ x. Unit {0}) (Add env.generic n s) (hide [] i).answer
      (λ region. turned (with_local (opened env) region) (started s) r
      >>= (λ t. all_stated (in_loop (with_local (opened env) ((key i, loop_parameter t.next.objects t.value) ∷ []))) (one_object_more q t.value.subtype t.next) q ss
      >>= (λ xs. rule (Some (one (tree.for_loop (statement_label s q) t.next.objects (is_reverse d) t.value.over (stmts_of xs.value)) xs.next)))))
      (any_answer (hide [] i).answer)
      (λ region u. part_so (Keep (started s)) (Add env.generic n s) (turned (with_local (opened env) region) (started s) r).answer
      (λ t. all_stated (in_loop (with_local (opened env) ((key i, loop_parameter t.next.objects t.value) ∷ []))) (one_object_more q t.value.subtype t.next) q ss
      >>= (λ xs. rule (Some (one (tree.for_loop (statement_label s q) t.next.objects (is_reverse d) t.value.over (stmts_of xs.value)) xs.next))))
      (turned_keeps (with_local (opened env) region) (started s) r)
      (λ t h. part_so (Add env.generic n (one_object_more q t.value.subtype t.next)) (Add env.generic n s)
      (all_stated (in_loop (with_local (opened env) ((key i, loop_parameter t.next.objects t.value) ∷ []))) (one_object_more q t.value.subtype t.next) q ss).answer
      (λ xs. rule (Some (one (tree.for_loop (statement_label s q) t.next.objects (is_reverse d) t.value.over (stmts_of xs.value)) xs.next)))
      (all_add (in_loop (with_local (opened env) ((key i, loop_parameter t.next.objects t.value) ∷ []))) (one_object_more q t.value.subtype t.next) q ss)
      (λ xs k. adds_behind env.generic n s (started s) xs.next (start env s) (adds_behind env.generic n (started s) t.next xs.next h
      (adds_behind env.generic n t.next (one_object_more q t.value.subtype t.next) xs.next (keeps_parameter q t.value.subtype t.next) k))))))
  stated_adds env s (text.block q ds h) =
      let n = declared_exceptions (declarations_in ds) + handled_exceptions h in
      answered (Add env.generic n s) q _
      (part_so (AddsOn env.generic (declared_exceptions (declarations_in ds)) s) (Add env.generic n s) (all_declared (opened env) s q (declarations_in ds)).answer
      (λ x. all_handled (with_local (opened env) x.region) x.next q h >>= (λ f. rule (Some (one (tree.block_statement (block_of x.made f.value)) f.next))))
      (declarations_add (opened env) s q (declarations_in ds))
      (λ x k. part_so (Add env.generic (handled_exceptions h) x.next) (Add env.generic n s) (all_handled (with_local (opened env) x.region) x.next q h).answer
      (λ f. rule (Some (one (tree.block_statement (block_of x.made f.value)) f.next))) (handled_adds (with_local (opened env) x.region) x.next q h)
      (λ f l. adds_both env.generic (declared_exceptions (declarations_in ds)) (handled_exceptions h) s x.next f.next k l)))

  pub all_add : (env : Env) (s : State) (q : Pos) (xs : text.Statements) → IfOk (all_stated env s q xs).answer (Add env.generic (statements_exceptions xs) s)
  all_add env s q text.no_statements = of_keeps env.generic 0 s s (keeps_same s)
  all_add env s q (text.then_also x xs) =
      let n = statement_exceptions x + statements_exceptions xs in
      answered (Add env.generic n s) q _
      (part_so (Add env.generic (statement_exceptions x) s) (Add env.generic n s) (stated env s x).answer
      (λ y. all_stated env y.next q xs >>= (λ ys. rule (Some (given (y.value ++ ys.value) ys.next)))) (stated_adds env s x)
      (λ y h. part_so (Add env.generic (statements_exceptions xs) y.next) (Add env.generic n s) (all_stated env y.next q xs).answer (λ ys. rule (Some (given (y.value ++ ys.value) ys.next)))
      (all_add env y.next q xs) (λ ys k. adds_both env.generic (statement_exceptions x) (statements_exceptions xs) s y.next ys.next h k)))

  pub branches_add : (env : Env) (s : State) (q : Pos) (bs : text.Branches) → IfOk (branched env s q bs).answer (Add env.generic (branches_exceptions bs) s)
  branches_add env s q text.no_branches = of_keeps env.generic 0 s s (keeps_same s)
  branches_add env s q (text.branch e ss bs) =
      let n = statements_exceptions ss + branches_exceptions bs in
      answered (Add env.generic n s) q _
      (part_so (Keep s) (Add env.generic n s) (decision env s q e).answer
      (λ t. all_stated env t.next q ss >>= (λ xs. branched env xs.next q bs
      >>= (λ ys. rule (Some (given (record { label = t.value.0; test = t.value.1; statements = xs.value } ∷ ys.value) ys.next)))))
      (decision_keeps env s q e)
      (λ t h. part_so (Add env.generic (statements_exceptions ss) t.next) (Add env.generic n s) (all_stated env t.next q ss).answer
      (λ xs. branched env xs.next q bs >>= (λ ys. rule (Some (given (record { label = t.value.0; test = t.value.1; statements = xs.value } ∷ ys.value) ys.next))))
      (all_add env t.next q ss)
      (λ xs k. part_so (Add env.generic (branches_exceptions bs) xs.next) (Add env.generic n s) (branched env xs.next q bs).answer
      (λ ys. rule (Some (given (record { label = t.value.0; test = t.value.1; statements = xs.value } ∷ ys.value) ys.next)))
      (branches_add env xs.next q bs)
      (λ ys l. adds_behind env.generic n s t.next ys.next h (adds_both env.generic (statements_exceptions ss) (branches_exceptions bs) t.next xs.next ys.next k l)))))

  pub arms_add : (env : Env) (s : State) (x : Selector) (q : Pos) (rest : text.Alternatives) → IfOk (all_arms env s x q rest).answer (Add env.generic (alternatives_exceptions rest) s)
  arms_add env s x q text.no_alternatives = of_keeps env.generic 0 s s (keeps_same s)
  arms_add env s x q (text.alternative cs ss rest) =
      let n = statements_exceptions ss + alternatives_exceptions rest in
      answered (Add env.generic n s) q _
      (part_so (Keep s) (Add env.generic n s) (all_chosen env s x q cs).answer
      (λ ds. all_stated env ds.next q ss >>= (λ xs. all_arms env xs.next x q rest
      >>= (λ ys. rule (Some (given (record { choices = ds.value; statements = xs.value } ∷ ys.value) ys.next)))))
      (all_chosen_keep env s x q cs)
      (λ ds h. part_so (Add env.generic (statements_exceptions ss) ds.next) (Add env.generic n s) (all_stated env ds.next q ss).answer
      (λ xs. all_arms env xs.next x q rest >>= (λ ys. rule (Some (given (record { choices = ds.value; statements = xs.value } ∷ ys.value) ys.next))))
      (all_add env ds.next q ss)
      (λ xs k. part_so (Add env.generic (alternatives_exceptions rest) xs.next) (Add env.generic n s) (all_arms env xs.next x q rest).answer
      (λ ys. rule (Some (given (record { choices = ds.value; statements = xs.value } ∷ ys.value) ys.next)))
      (arms_add env xs.next x q rest)
      (λ ys l. adds_behind env.generic n s ds.next ys.next h (adds_both env.generic (statements_exceptions ss) (alternatives_exceptions rest) ds.next xs.next ys.next k l)))))

  pub handlers_add : (env : Env) (s : State) (q : Pos) (hs : text.Handlers) → IfOk (all_handlers env s q hs).answer (Add env.generic (handlers_exceptions hs) s)
  handlers_add env s q text.no_handlers = of_keeps env.generic 0 s s (keeps_same s)
  handlers_add env s q (text.handler cs ss hs) =
      let n = statements_exceptions ss + handlers_exceptions hs in
      answered (Add env.generic n s) q _
      (part_so (Keep s) (Add env.generic n s) (all_caught env s (is_last hs && nat_eq (length cs) 1) q cs).answer
      (λ ds. all_stated (in_handler env) ds.next q ss >>= (λ xs. all_handlers env xs.next q hs
      >>= (λ ys. rule (Some (given (tree.handler ds.value (stmts_of xs.value) ys.value) ys.next)))))
      (all_caught_keep env s (is_last hs && nat_eq (length cs) 1) q cs)
      (λ ds h. part_so (Add env.generic (statements_exceptions ss) ds.next) (Add env.generic n s) (all_stated (in_handler env) ds.next q ss).answer
      (λ xs. all_handlers env xs.next q hs >>= (λ ys. rule (Some (given (tree.handler ds.value (stmts_of xs.value) ys.value) ys.next))))
      (all_add (in_handler env) ds.next q ss)
      (λ xs k. part_so (Add env.generic (handlers_exceptions hs) xs.next) (Add env.generic n s) (all_handlers env xs.next q hs).answer
      (λ ys. rule (Some (given (tree.handler ds.value (stmts_of xs.value) ys.value) ys.next)))
      (handlers_add env xs.next q hs)
      (λ ys l. adds_behind env.generic n s ds.next ys.next h (adds_both env.generic (statements_exceptions ss) (handlers_exceptions hs) ds.next xs.next ys.next k l)))))

  pub handled_adds : (env : Env) (s : State) (q : Pos) (h : text.Handled) → IfOk (all_handled env s q h).answer (Add env.generic (handled_exceptions h) s)
  handled_adds env s q (text.handled ss hs) =
      let n = statements_exceptions ss + handlers_exceptions hs in
      answered (Add env.generic n s) q _
      (part_so (Add env.generic (statements_exceptions ss) s) (Add env.generic n s) (all_stated env s q ss).answer
      (λ xs. all_handlers env xs.next q hs >>= (λ ys. rule (Some (given (record { statements = xs.value; handlers = ys.value }) ys.next))))
      (all_add env s q ss)
      (λ xs h. part_so (Add env.generic (handlers_exceptions hs) xs.next) (Add env.generic n s) (all_handlers env xs.next q hs).answer
      (λ ys. rule (Some (given (record { statements = xs.value; handlers = ys.value }) ys.next))) (handlers_add env xs.next q hs)
      (λ ys k. adds_both env.generic (statements_exceptions ss) (handlers_exceptions hs) s xs.next ys.next h k)))
