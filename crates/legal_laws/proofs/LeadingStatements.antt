-- The walk over statements only adds to its state, in both steps.
use Rattle.std.proofs.Common.{ℕ, nat_eq, Bool, true, false, ◌&&◌, List, [], ◌∷◌, ◌++◌, length, Option, Some, None, option_map, IfSome, IfOk, arith, le_refl}
use Rattle.std.specs.Option.{option_and_then}
use Rattle.cov_base.specs.declared.position.Pos.{Pos}
use Rattle.cov_base.specs.Lists.{Everywhere}
use Rattle.ada_syntax.specs.StatementTree as text
use Rattle.ada_syntax.specs.Tree as source
use Rattle.ada_syntax.specs.Tree.{expr_pos, name_pos}
use Rattle.ada_syntax.specs.declared.declaration.DiscreteRange.{DiscreteRange}
use Rattle.ada_syntax.specs.declared.declaration.DiscreteRange.TheVariants as discrete
use Rattle.ada_syntax.specs.declared.statement.Choice.{Choice}
use Rattle.ada_syntax.specs.declared.statement.Choice.TheVariants as choice
use Rattle.ada_syntax.specs.declared.statement.ExceptionChoice.{ExceptionChoice}
use Rattle.ada_syntax.specs.declared.statement.ExceptionChoice.TheVariants as taken
use Rattle.ada_syntax.specs.declared.statement.LoopScheme.TheVariants as scheme
use Rattle.ada_meaning.specs.Program.{Program}
use Rattle.ada_meaning.specs.Shape.{Shape}
use Rattle.ada_meaning.specs.Tree as tree
use Rattle.ada_rules.specs.Plan.{◌>>=◌, rule}
use Rattle.ada_rules.specs.Types.{AdaSubtype, fits, common}
use Rattle.ada_rules.specs.Entities.{key}
use Rattle.ada_rules.specs.Environment.{typed_rule, State, Given, given, Env, with_local, opened, in_loop, in_handler, demanded, hide, statement_label, started}
use Rattle.ada_rules.specs.Expressions.{itself, denoted, judged, decision, static_part, scalar_mark}
use Rattle.ada_rules.specs.Declarations.{new_value, all_declared}
use Rattle.ada_rules.specs.Statements.{stmts_of, one, any_variable, writable, target, call_of, branches_of, Selector, any_selector, selector_of, selector, among, chosen, all_chosen, Arm, ends_with_others, has_others, choices_in, case_of, any_turns, turns_between, turns_over, turned, loop_parameter, one_object_more, is_reverse, returned, returned_value, exception_of, where_allowed, caught, all_caught, is_last, declarations_in, block_of, typed_stmt, stated, all_stated, branched, all_arms, all_handlers, all_handled}
use Rattle.ada_rules.specs.Statics.{Facts, in_order, covers}
use Rattle.legal_laws.specs.Kept.{OnlyDecides}
use Rattle.legal_laws.specs.Valued.{AreFactsInBase}
use Rattle.legal_laws.proofs.Passing.{IfPassed, if_test, answered, part_so, weaker_ok}
use Rattle.legal_laws.proofs.KeptExpressions.{denoted_behind, decision_behind}
use Rattle.legal_laws.proofs.Leading.{Leads, leads_same, leads_both, leads_decides, leads_demanded, leads_started, Lead, LeadsOn, expression_leads, static_leads, scalar_mark_leads, mapped_leads, new_value_leads, declarations_lead}
use Rattle.legal_laws.proofs.Passing.{typed_either, any_answer}

module _ (p : Program) (facts : List Facts) (are : Everywhere AreFactsInBase facts) (inst : ℕ) (shape_of : tree.Object → Shape) where
  abbrev Ahead : {A : Type 0} → Option ℕ → State → Given A → Type 0
  Ahead o s g = Lead p facts are inst shape_of o s g

  abbrev Go : Option ℕ → State → State → Type 0
  Go o s t = Leads p facts are inst shape_of o s t

  both : (o : Option ℕ) (s t u : State) → Go o s t → Go o t u → Go o s u
  both o s t u h k = leads_both p facts are inst shape_of o s t u h k

  -- a loop parameter has one word
  pub leads_parameter : (o : Option ℕ) (q : Pos) (t : AdaSubtype) (s : State) → Go o s (one_object_more q t s)
  leads_parameter o q t s = record {
    back = λ c all. record {
      serves = record { met = all.serves.met; constants = all.serves.constants; limits = all.serves.limits };
      shaped = all.shaped.1;
      listed = all.listed;
    };
    counted = λ c. omega (arith, c);
    rise = le_refl s.types;
  }

  module _ (env : Env) where
    abbrev o : Option ℕ
    o = env.generic

    name_leads : (s : State) (n : source.Name) → IfOk (denoted env s n).answer (Ahead o s)
    name_leads s n =
        weaker_ok (λ x. OnlyDecides s x.next) (Ahead o s) (denoted env s n).answer (denoted_behind env s n) (λ x h. leads_decides p facts are inst shape_of o s x.next h)

    pub decision_leads : (s : State) (q : Pos) (e : source.Expr) → IfOk (decision env s q e).answer (Ahead o s)
    decision_leads s q e =
        weaker_ok (λ x. OnlyDecides s x.next) (Ahead o s) (decision env s q e).answer (decision_behind env s q e) (λ x h. leads_decides p facts are inst shape_of o s x.next h)

    target_leads : (s : State) (n : source.Name) → IfOk (target env s n).answer (Ahead o s)
    target_leads s n =
        answered (Ahead o s) (name_pos n) _
        (part_so (Ahead o s) (Ahead o s) (denoted env s n).answer
        (λ d. typed_rule env.step (given any_variable d.next) (option_map (λ v. given v d.next) (writable d.value))) (name_leads s n)
        (λ d h. typed_either (Ahead o s) env.step (given any_variable d.next) _ h
        (mapped_leads p facts are inst shape_of env s d.next (λ v. v) (writable d.value) h)))

    pub selector_leads : (s : State) (e : source.Expr) → IfOk (selector env s e).answer (Ahead o s)
    selector_leads s e =
        answered (Ahead o s) (expr_pos e) _
        (part_so (Ahead o s) (Ahead o s) (judged env itself s e).answer
        (λ x. typed_rule env.step (given any_selector x.next) (option_map (λ y. given y x.next) (selector_of x.value)))
        (expression_leads p facts are inst shape_of env s e)
        (λ x h. typed_either (Ahead o s) env.step (given any_selector x.next) _ h
        (mapped_leads p facts are inst shape_of env s x.next (λ v. v) (selector_of x.value) h)))

    turned_leads : (s : State) (r : DiscreteRange) → IfOk (turned env s r).answer (Ahead o s)
    turned_leads s (discrete.Mark n) =
        answered (Ahead o s) (name_pos n) _
        (part_so (Ahead o s) (Ahead o s) (scalar_mark env s n).answer (λ m. rule (Some (given (turns_over m.value.subtype) m.next)))
        (scalar_mark_leads p facts are inst shape_of env s n) (λ m h. h))
    turned_leads s (discrete.Bounds b) =
        answered (Ahead o s) (expr_pos b.low) _
        (part_so (Ahead o s) (Ahead o s) (judged env itself s b.low).answer
        (λ x. judged env itself x.next b.high >>= (λ y. typed_rule env.step (given any_turns y.next)
        (option_map (λ t. given t y.next) (option_and_then (turns_between x.value y.value) (common x.value.kind y.value.kind)))))
        (expression_leads p facts are inst shape_of env s b.low)
        (λ x h. part_so (Ahead o x.next) (Ahead o s) (judged env itself x.next b.high).answer
        (λ y. typed_rule env.step (given any_turns y.next)
        (option_map (λ t. given t y.next) (option_and_then (turns_between x.value y.value) (common x.value.kind y.value.kind))))
        (expression_leads p facts are inst shape_of env x.next b.high)
        (λ y k. typed_either (Ahead o s) env.step (given any_turns y.next) _ (both o s x.next y.next h k)
        (mapped_leads p facts are inst shape_of env s y.next (λ v. v) (option_and_then (turns_between x.value y.value) (common x.value.kind y.value.kind))
        (both o s x.next y.next h k)))))

    -- choices
    chosen_leads : (s : State) (x : Selector) (c : Choice) → IfOk (chosen env s x c).answer (Ahead o s)
    chosen_leads s x (choice.Value e) =
        answered (Ahead o s) (expr_pos e) _
        (part_so (Ahead o s) (Ahead o s) (static_part env s (fits x.type) (among x.values) e).answer
        (λ v. rule (Some (given (tree.value_choice v.value.value) v.next)))
        (static_leads p facts are inst shape_of env s (fits x.type) (among x.values) e) (λ v h. h))
    chosen_leads s x (choice.Range b) =
        answered (Ahead o s) (expr_pos b.low) _
        (part_so (Ahead o s) (Ahead o s) (static_part env s (fits x.type) (among x.values) b.low).answer
        (λ low. static_part env low.next (fits x.type) (among x.values) b.high >>= (λ high. rule (Some (given (tree.range_choice low.value.value high.value.value)
        (demanded env (expr_pos b.low) (in_order low.value.value high.value.value) high.next)))))
        (static_leads p facts are inst shape_of env s (fits x.type) (among x.values) b.low)
        (λ low h. part_so (Ahead o low.next) (Ahead o s) (static_part env low.next (fits x.type) (among x.values) b.high).answer
        (λ high. rule (Some (given (tree.range_choice low.value.value high.value.value)
        (demanded env (expr_pos b.low) (in_order low.value.value high.value.value) high.next))))
        (static_leads p facts are inst shape_of env low.next (fits x.type) (among x.values) b.high)
        (λ high k. both o s low.next _ h (both o low.next high.next _ k
        (leads_demanded p facts are inst shape_of o env (expr_pos b.low) (in_order low.value.value high.value.value) high.next)))))
    chosen_leads s x (choice.Others q) = leads_same p facts are inst shape_of o s

    pub all_chosen_lead : (s : State) (x : Selector) (q : Pos) (cs : List Choice) → IfOk (all_chosen env s x q cs).answer (Ahead o s)
    all_chosen_lead s x q [] = leads_same p facts are inst shape_of o s
    all_chosen_lead s x q (c ∷ cs) =
        answered (Ahead o s) q _
        (part_so (Ahead o s) (Ahead o s) (chosen env s x c).answer
        (λ d. all_chosen env d.next x q cs >>= (λ ds. rule (Some (given (d.value ∷ ds.value) ds.next)))) (chosen_leads s x c)
        (λ d h. part_so (Ahead o d.next) (Ahead o s) (all_chosen env d.next x q cs).answer (λ ds. rule (Some (given (d.value ∷ ds.value) ds.next)))
        (all_chosen_lead d.next x q cs) (λ ds k. both o s d.next ds.next h k)))

    allowed_leads : {A : Type 0} (s : State) (b : Bool) (x : Given A) → Ahead o s x → IfSome (where_allowed b x) (Ahead o s)
    allowed_leads s true x h = h
    allowed_leads s false x h = tt

    caught_leads : (s : State) (b : Bool) (c : ExceptionChoice) → IfOk (caught env s b c).answer (Ahead o s)
    caught_leads s b (taken.Named n) =
        answered (Ahead o s) (name_pos n) _
        (part_so (Ahead o s) (Ahead o s) (denoted env s n).answer
        (λ d. typed_rule env.step (given tree.other_exceptions d.next) (option_map (λ e. given (tree.named_exception e) d.next) (exception_of d.value))) (name_leads s n)
        (λ d h. typed_either (Ahead o s) env.step (given tree.other_exceptions d.next) _ h
        (mapped_leads p facts are inst shape_of env s d.next tree.named_exception (exception_of d.value) h)))
    caught_leads s b (taken.Others q) =
        answered (Ahead o s) q _
        (typed_either (Ahead o s) env.step (given tree.other_exceptions s) (where_allowed b (given tree.other_exceptions s)) (leads_same p facts are inst shape_of o s)
        (allowed_leads s b (given tree.other_exceptions s) (leads_same p facts are inst shape_of o s)))

    pub all_caught_lead : (s : State) (b : Bool) (q : Pos) (cs : List ExceptionChoice) → IfOk (all_caught env s b q cs).answer (Ahead o s)
    all_caught_lead s b q [] = leads_same p facts are inst shape_of o s
    all_caught_lead s b q (c ∷ cs) =
        answered (Ahead o s) q _
        (part_so (Ahead o s) (Ahead o s) (caught env s b c).answer
        (λ d. all_caught env d.next b q cs >>= (λ ds. rule (Some (given (d.value ∷ ds.value) ds.next)))) (caught_leads s b c)
        (λ d h. part_so (Ahead o d.next) (Ahead o s) (all_caught env d.next b q cs).answer (λ ds. rule (Some (given (d.value ∷ ds.value) ds.next)))
        (all_caught_lead d.next b q cs) (λ ds k. both o s d.next ds.next h k)))

    stmt_leads : (s t : State) (l : tree.Label) (x : Option tree.Stmt) → Go o s t → IfPassed (typed_stmt env l t x).outcome (Ahead o s)
    stmt_leads s t l x h =
        typed_either (Ahead o s) env.step (one (tree.null_statement l) t) (option_map (λ y. one y t) x) h
        (mapped_leads p facts are inst shape_of env s t (λ y. y ∷ []) x h)

    case_leads : (s before : State) (q : Pos) (x : Selector) (arms : Given (List Arm)) → Go o s arms.next → IfSome (case_of env before q x arms) (Ahead o s)
    case_leads s before q x arms h =
        if_test (Ahead o s) (ends_with_others arms.value) _
        (λ b. both o s arms.next _ h (leads_demanded p facts are inst shape_of o env q
        (covers x.values (has_others (choices_in arms.value)) (choices_in arms.value)) arms.next))

    start : (s : State) → Go o s (started s)
    start s = leads_started p facts are inst shape_of o s

  mutual
    pub stated_leads : (env : Env) (s : State) (x : text.Statement) → IfOk (stated env s x).answer (Ahead env.generic s)
    stated_leads env s (text.null q) = start env s
    stated_leads env s (text.assignment q n i) =
        answered (Ahead env.generic s) q _
        (part_so (Ahead env.generic (started s)) (Ahead env.generic s) (target env (started s) n).answer
        (λ v. new_value env v.next q v.value.subtype i >>= (λ x. rule (Some (one (tree.assignment (statement_label s q) v.value.object v.value.parts x.value.value) x.next))))
        (target_leads env (started s) n)
        (λ v h. part_so (Ahead env.generic v.next) (Ahead env.generic s) (new_value env v.next q v.value.subtype i).answer
        (λ x. rule (Some (one (tree.assignment (statement_label s q) v.value.object v.value.parts x.value.value) x.next)))
        (new_value_leads p facts are inst shape_of env v.next q v.value.subtype i)
        (λ x k. both env.generic s (started s) x.next (start env s) (both env.generic (started s) v.next x.next h k))))
    stated_leads env s (text.call q n) =
        answered (Ahead env.generic s) q _
        (part_so (Ahead env.generic (started s)) (Ahead env.generic s) (denoted env (started s) n).answer
        (λ d. typed_stmt env (statement_label s q) d.next (call_of (statement_label s q) d.value)) (name_leads env (started s) n)
        (λ d h. stmt_leads env s d.next (statement_label s q) (call_of (statement_label s q) d.value) (both env.generic s (started s) d.next (start env s) h)))
    stated_leads env s (text.exemption q a) = leads_same p facts are inst shape_of env.generic s
    stated_leads env s (text.conditional q e ss bs es) =
        answered (Ahead env.generic s) q _
        (part_so (Ahead env.generic (started s)) (Ahead env.generic s) (decision env (started s) q e).answer
        (λ t. all_stated env t.next q ss >>= (λ xs. branched env xs.next q bs >>= (λ ys. all_stated env ys.next q es
        >>= (λ zs. rule (Some (one (tree.if_statement (statement_label s q) (tree.branch t.value.0 t.value.1 (stmts_of xs.value) (branches_of ys.value zs.value))) zs.next))))))
        (decision_leads env (started s) q e)
        (λ t h. part_so (Ahead env.generic t.next) (Ahead env.generic s) (all_stated env t.next q ss).answer
        (λ xs. branched env xs.next q bs >>= (λ ys. all_stated env ys.next q es
        >>= (λ zs. rule (Some (one (tree.if_statement (statement_label s q) (tree.branch t.value.0 t.value.1 (stmts_of xs.value) (branches_of ys.value zs.value))) zs.next)))))
        (all_lead env t.next q ss)
        (λ xs k. part_so (Ahead env.generic xs.next) (Ahead env.generic s) (branched env xs.next q bs).answer
        (λ ys. all_stated env ys.next q es
        >>= (λ zs. rule (Some (one (tree.if_statement (statement_label s q) (tree.branch t.value.0 t.value.1 (stmts_of xs.value) (branches_of ys.value zs.value))) zs.next))))
        (branches_lead env xs.next q bs)
        (λ ys l. part_so (Ahead env.generic ys.next) (Ahead env.generic s) (all_stated env ys.next q es).answer
        (λ zs. rule (Some (one (tree.if_statement (statement_label s q) (tree.branch t.value.0 t.value.1 (stmts_of xs.value) (branches_of ys.value zs.value))) zs.next)))
        (all_lead env ys.next q es)
        (λ zs m. both env.generic s (started s) zs.next (start env s) (both env.generic (started s) t.next zs.next h
        (both env.generic t.next xs.next zs.next k (both env.generic xs.next ys.next zs.next l m))))))))
    stated_leads env s (text.case_of q e alternatives) =
        answered (Ahead env.generic s) q _
        (part_so (Ahead env.generic (started s)) (Ahead env.generic s) (selector env (started s) e).answer
        (λ x. all_arms env x.next x.value q alternatives
        >>= (λ arms. typed_rule env.step (one (tree.null_statement (statement_label s q)) arms.next) (case_of env s q x.value arms)))
        (selector_leads env (started s) e)
        (λ x h. part_so (Ahead env.generic x.next) (Ahead env.generic s) (all_arms env x.next x.value q alternatives).answer
        (λ arms. typed_rule env.step (one (tree.null_statement (statement_label s q)) arms.next) (case_of env s q x.value arms))
        (arms_lead env x.next x.value q alternatives)
        (λ arms k. let all = both env.generic s (started s) arms.next (start env s) (both env.generic (started s) x.next arms.next h k) in
        typed_either (Ahead env.generic s) env.step _ _ all (case_leads env s s q x.value arms all))))
    stated_leads env s (text.repeat q scheme.Forever ss) =
        answered (Ahead env.generic s) q _
        (part_so (Ahead env.generic (started s)) (Ahead env.generic s) (all_stated (in_loop env) (started s) q ss).answer
        (λ xs. rule (Some (one (tree.bare_loop (statement_label s q) (stmts_of xs.value)) xs.next))) (all_lead (in_loop env) (started s) q ss)
        (λ xs h. both env.generic s (started s) xs.next (start env s) h))
    stated_leads env s (text.repeat q (scheme.While e) ss) =
        answered (Ahead env.generic s) q _
        (part_so (Ahead env.generic (started s)) (Ahead env.generic s) (decision env (started s) q e).answer
        (λ t. all_stated (in_loop env) t.next q ss >>= (λ xs. rule (Some (one (tree.while_loop (statement_label s q) t.value.0 t.value.1 (stmts_of xs.value)) xs.next))))
        (decision_leads env (started s) q e)
        (λ t h. part_so (Ahead env.generic t.next) (Ahead env.generic s) (all_stated (in_loop env) t.next q ss).answer
        (λ xs. rule (Some (one (tree.while_loop (statement_label s q) t.value.0 t.value.1 (stmts_of xs.value)) xs.next))) (all_lead (in_loop env) t.next q ss)
        (λ xs k. both env.generic s (started s) xs.next (start env s) (both env.generic (started s) t.next xs.next h k))))
    stated_leads env s (text.repeat q (scheme.For i d r) ss) =
        answered (Ahead env.generic s) q _
        (part_so (λ x. Unit {0}) (Ahead env.generic s) (hide [] i).answer
        (λ region. turned (with_local (opened env) region) (started s) r
        >>= (λ t. all_stated (in_loop (with_local (opened env) ((key i, loop_parameter t.next.objects t.value) ∷ []))) (one_object_more q t.value.subtype t.next) q ss
        >>= (λ xs. rule (Some (one (tree.for_loop (statement_label s q) t.next.objects (is_reverse d) t.value.over (stmts_of xs.value)) xs.next)))))
        (any_answer (hide [] i).answer)
        (λ region u. part_so (Ahead env.generic (started s)) (Ahead env.generic s) (turned (with_local (opened env) region) (started s) r).answer
        (λ t. all_stated (in_loop (with_local (opened env) ((key i, loop_parameter t.next.objects t.value) ∷ []))) (one_object_more q t.value.subtype t.next) q ss
        >>= (λ xs. rule (Some (one (tree.for_loop (statement_label s q) t.next.objects (is_reverse d) t.value.over (stmts_of xs.value)) xs.next))))
        (turned_leads (with_local (opened env) region) (started s) r)
        (λ t h. part_so (Ahead env.generic (one_object_more q t.value.subtype t.next)) (Ahead env.generic s)
        (all_stated (in_loop (with_local (opened env) ((key i, loop_parameter t.next.objects t.value) ∷ []))) (one_object_more q t.value.subtype t.next) q ss).answer
        (λ xs. rule (Some (one (tree.for_loop (statement_label s q) t.next.objects (is_reverse d) t.value.over (stmts_of xs.value)) xs.next)))
        (all_lead (in_loop (with_local (opened env) ((key i, loop_parameter t.next.objects t.value) ∷ []))) (one_object_more q t.value.subtype t.next) q ss)
        (λ xs k. both env.generic s (started s) xs.next (start env s) (both env.generic (started s) t.next xs.next h
        (both env.generic t.next (one_object_more q t.value.subtype t.next) xs.next (leads_parameter env.generic q t.value.subtype t.next) k))))))
    stated_leads env s (text.exit q None) =
        answered (Ahead env.generic s) q _
        (stmt_leads env s (started s) (statement_label s q) (where_allowed env.is_looping (tree.exit_statement (statement_label s q))) (start env s))
    stated_leads env s (text.exit q (Some e)) =
        answered (Ahead env.generic s) q _
        (part_so (Ahead env.generic (started s)) (Ahead env.generic s) (decision env (started s) q e).answer
        (λ t. typed_stmt env (statement_label s q) t.next (where_allowed env.is_looping (tree.exit_when (statement_label s q) t.value.0 t.value.1)))
        (decision_leads env (started s) q e)
        (λ t h. stmt_leads env s t.next (statement_label s q) (where_allowed env.is_looping (tree.exit_when (statement_label s q) t.value.0 t.value.1))
        (both env.generic s (started s) t.next (start env s) h)))
    stated_leads env s (text.returns q None) =
        answered (Ahead env.generic s) q _
        (stmt_leads env s (started s) (statement_label s q) (returned (statement_label s q) env.returning) (start env s))
    stated_leads env s (text.returns q (Some e)) =
        answered (Ahead env.generic s) q _
        (part_so (Ahead env.generic (started s)) (Ahead env.generic s) (judged env itself (started s) e).answer
        (λ x. typed_stmt env (statement_label s q) x.next (returned_value (statement_label s q) x.value env.returning))
        (expression_leads p facts are inst shape_of env (started s) e)
        (λ x h. stmt_leads env s x.next (statement_label s q) (returned_value (statement_label s q) x.value env.returning)
        (both env.generic s (started s) x.next (start env s) h)))
    stated_leads env s (text.raise q None) =
        answered (Ahead env.generic s) q _
        (stmt_leads env s (started s) (statement_label s q) (where_allowed env.is_handling (tree.raise_again (statement_label s q))) (start env s))
    stated_leads env s (text.raise q (Some n)) =
        answered (Ahead env.generic s) q _
        (part_so (Ahead env.generic (started s)) (Ahead env.generic s) (denoted env (started s) n).answer
        (λ d. typed_stmt env (statement_label s q) d.next (option_map (tree.raise_statement (statement_label s q)) (exception_of d.value)))
        (name_leads env (started s) n)
        (λ d h. stmt_leads env s d.next (statement_label s q) (option_map (tree.raise_statement (statement_label s q)) (exception_of d.value))
        (both env.generic s (started s) d.next (start env s) h)))
    stated_leads env s (text.block q ds h) =
        answered (Ahead env.generic s) q _
        (part_so (LeadsOn p facts are inst shape_of env.generic s) (Ahead env.generic s) (all_declared (opened env) s q (declarations_in ds)).answer
        (λ x. all_handled (with_local (opened env) x.region) x.next q h >>= (λ f. rule (Some (one (tree.block_statement (block_of x.made f.value)) f.next))))
        (declarations_lead p facts are inst shape_of (opened env) s q (declarations_in ds))
        (λ x k. part_so (Ahead env.generic x.next) (Ahead env.generic s) (all_handled (with_local (opened env) x.region) x.next q h).answer
        (λ f. rule (Some (one (tree.block_statement (block_of x.made f.value)) f.next))) (handled_lead (with_local (opened env) x.region) x.next q h)
        (λ f l. both env.generic s x.next f.next k l)))

    pub all_lead : (env : Env) (s : State) (q : Pos) (xs : text.Statements) → IfOk (all_stated env s q xs).answer (Ahead env.generic s)
    all_lead env s q text.no_statements = leads_same p facts are inst shape_of env.generic s
    all_lead env s q (text.then_also x xs) =
        answered (Ahead env.generic s) q _
        (part_so (Ahead env.generic s) (Ahead env.generic s) (stated env s x).answer
        (λ y. all_stated env y.next q xs >>= (λ ys. rule (Some (given (y.value ++ ys.value) ys.next)))) (stated_leads env s x)
        (λ y h. part_so (Ahead env.generic y.next) (Ahead env.generic s) (all_stated env y.next q xs).answer (λ ys. rule (Some (given (y.value ++ ys.value) ys.next)))
        (all_lead env y.next q xs) (λ ys k. both env.generic s y.next ys.next h k)))

    pub branches_lead : (env : Env) (s : State) (q : Pos) (bs : text.Branches) → IfOk (branched env s q bs).answer (Ahead env.generic s)
    branches_lead env s q text.no_branches = leads_same p facts are inst shape_of env.generic s
    branches_lead env s q (text.branch e ss bs) =
        answered (Ahead env.generic s) q _
        (part_so (Ahead env.generic s) (Ahead env.generic s) (decision env s q e).answer
        (λ t. all_stated env t.next q ss >>= (λ xs. branched env xs.next q bs
        >>= (λ ys. rule (Some (given (record { label = t.value.0; test = t.value.1; statements = xs.value } ∷ ys.value) ys.next)))))
        (decision_leads env s q e)
        (λ t h. part_so (Ahead env.generic t.next) (Ahead env.generic s) (all_stated env t.next q ss).answer
        (λ xs. branched env xs.next q bs >>= (λ ys. rule (Some (given (record { label = t.value.0; test = t.value.1; statements = xs.value } ∷ ys.value) ys.next))))
        (all_lead env t.next q ss)
        (λ xs k. part_so (Ahead env.generic xs.next) (Ahead env.generic s) (branched env xs.next q bs).answer
        (λ ys. rule (Some (given (record { label = t.value.0; test = t.value.1; statements = xs.value } ∷ ys.value) ys.next)))
        (branches_lead env xs.next q bs)
        (λ ys l. both env.generic s t.next ys.next h (both env.generic t.next xs.next ys.next k l)))))

    pub arms_lead : (env : Env) (s : State) (x : Selector) (q : Pos) (rest : text.Alternatives) → IfOk (all_arms env s x q rest).answer (Ahead env.generic s)
    arms_lead env s x q text.no_alternatives = leads_same p facts are inst shape_of env.generic s
    arms_lead env s x q (text.alternative cs ss rest) =
        answered (Ahead env.generic s) q _
        (part_so (Ahead env.generic s) (Ahead env.generic s) (all_chosen env s x q cs).answer
        (λ ds. all_stated env ds.next q ss >>= (λ xs. all_arms env xs.next x q rest
        >>= (λ ys. rule (Some (given (record { choices = ds.value; statements = xs.value } ∷ ys.value) ys.next)))))
        (all_chosen_lead env s x q cs)
        (λ ds h. part_so (Ahead env.generic ds.next) (Ahead env.generic s) (all_stated env ds.next q ss).answer
        (λ xs. all_arms env xs.next x q rest >>= (λ ys. rule (Some (given (record { choices = ds.value; statements = xs.value } ∷ ys.value) ys.next))))
        (all_lead env ds.next q ss)
        (λ xs k. part_so (Ahead env.generic xs.next) (Ahead env.generic s) (all_arms env xs.next x q rest).answer
        (λ ys. rule (Some (given (record { choices = ds.value; statements = xs.value } ∷ ys.value) ys.next)))
        (arms_lead env xs.next x q rest)
        (λ ys l. both env.generic s ds.next ys.next h (both env.generic ds.next xs.next ys.next k l)))))

    pub handlers_lead : (env : Env) (s : State) (q : Pos) (hs : text.Handlers) → IfOk (all_handlers env s q hs).answer (Ahead env.generic s)
    handlers_lead env s q text.no_handlers = leads_same p facts are inst shape_of env.generic s
    handlers_lead env s q (text.handler cs ss hs) =
        answered (Ahead env.generic s) q _
        (part_so (Ahead env.generic s) (Ahead env.generic s) (all_caught env s (is_last hs && nat_eq (length cs) 1) q cs).answer
        (λ ds. all_stated (in_handler env) ds.next q ss >>= (λ xs. all_handlers env xs.next q hs
        >>= (λ ys. rule (Some (given (tree.handler ds.value (stmts_of xs.value) ys.value) ys.next)))))
        (all_caught_lead env s (is_last hs && nat_eq (length cs) 1) q cs)
        (λ ds h. part_so (Ahead env.generic ds.next) (Ahead env.generic s) (all_stated (in_handler env) ds.next q ss).answer
        (λ xs. all_handlers env xs.next q hs >>= (λ ys. rule (Some (given (tree.handler ds.value (stmts_of xs.value) ys.value) ys.next))))
        (all_lead (in_handler env) ds.next q ss)
        (λ xs k. part_so (Ahead env.generic xs.next) (Ahead env.generic s) (all_handlers env xs.next q hs).answer
        (λ ys. rule (Some (given (tree.handler ds.value (stmts_of xs.value) ys.value) ys.next)))
        (handlers_lead env xs.next q hs)
        (λ ys l. both env.generic s ds.next ys.next h (both env.generic ds.next xs.next ys.next k l)))))

    pub handled_lead : (env : Env) (s : State) (q : Pos) (h : text.Handled) → IfOk (all_handled env s q h).answer (Ahead env.generic s)
    handled_lead env s q (text.handled ss hs) =
        answered (Ahead env.generic s) q _
        (part_so (Ahead env.generic s) (Ahead env.generic s) (all_stated env s q ss).answer
        (λ xs. all_handlers env xs.next q hs >>= (λ ys. rule (Some (given (record { statements = xs.value; handlers = ys.value }) ys.next))))
        (all_lead env s q ss)
        (λ xs h. part_so (Ahead env.generic xs.next) (Ahead env.generic s) (all_handlers env xs.next q hs).answer
        (λ ys. rule (Some (given (record { statements = xs.value; handlers = ys.value }) ys.next))) (handlers_lead env xs.next q hs)
        (λ ys k. both env.generic s xs.next ys.next h k)))
