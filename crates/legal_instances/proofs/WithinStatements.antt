-- Statements name constants that look no further than at those before them.
use Rattle.std.proofs.Common.{◌≡◌, ℕ, nat_eq, Bool, List, [], ◌∷◌, ◌++◌, length, Option, Some, None, option_map, IfSome, IfOk, is_some, refl, ap}
use Rattle.std.specs.Prelude.{◌&&◌}
use Rattle.std.specs.Option.{option_and_then}
use Rattle.cov_base.specs.declared.position.Pos.{Pos}
use Rattle.ada_syntax.specs.StatementTree as text
use Rattle.ada_syntax.specs.Tree as source
use Rattle.ada_syntax.specs.Tree.{expr_pos, name_pos}
use Rattle.ada_syntax.specs.declared.declaration.DiscreteRange.{DiscreteRange}
use Rattle.ada_syntax.specs.declared.declaration.DiscreteRange.TheVariants as discrete
use Rattle.ada_syntax.specs.declared.statement.Choice.{Choice}
use Rattle.ada_syntax.specs.declared.statement.Choice.TheVariants as choice
use Rattle.ada_syntax.specs.declared.statement.ExceptionChoice.{ExceptionChoice}
use Rattle.ada_syntax.specs.declared.statement.ExceptionChoice.TheVariants as taken
use Rattle.ada_syntax.specs.declared.statement.LoopScheme.TheVariants as scheme
use Rattle.ada_meaning.specs.Tree as tree
use Rattle.ada_rules.specs.Plan.{◌>>=◌, rule}
use Rattle.ada_rules.specs.Types.{Kind, is_discrete, fits, common}
use Rattle.ada_rules.specs.Entities.{key}
use Rattle.ada_rules.specs.Environment.{typed_rule, State, Given, given, Env, with_local, opened, in_loop, in_handler, demanded, hide, statement_label, started}
use Rattle.ada_rules.specs.Denoted.{Judged}
use Rattle.ada_rules.specs.Expressions.{itself, denoted, judged, decision, static_part, scalar_mark}
use Rattle.ada_rules.specs.Statics.{in_order}
use Rattle.ada_rules.specs.Declarations.{new_value, all_declared}
use Rattle.ada_rules.specs.Statements.{stmts_of, one, any_variable, writable, target, call_of, branches_of, Selector, any_selector, selector_of, selector, among, chosen, all_chosen, ends_with_others, case_of, Turns, any_turns, turns_between, turns_over, turned, loop_parameter, one_object_more, is_reverse, returned, returned_value, exception_of, where_allowed, caught, all_caught, is_last, declarations_in, block_of, typed_stmt, stated, all_stated, branched, all_arms, all_handlers, all_handled}
use Rattle.legal_laws.specs.Kept.{OnlyDecides}
use Rattle.legal_laws.proofs.KeptExpressions.{denoted_behind, judged_behind, decision_behind}
use Rattle.legal_laws.proofs.Passing.{if_map, if_test, if_then, IfPassed, answered, part_so, typed_so, weaker_ok}
use Rattle.legal_instances.specs.Within.{Made, IsSubtypeWithin, IsKindWithin, IsRegionWithin, IsHere, Goes, own_of}
use Rattle.legal_instances.proofs.WithinMore.{goes_same, goes_both, here_next, here_local, here_opened, here_loop, here_handler}
use Rattle.legal_instances.proofs.WithinNames.{common_within}
use Rattle.legal_instances.proofs.WithinStatics.{GivesSo, ValuedSo, MarkSo, JudgedSo, judged_so, scalar_so, static_so, settled_so, kind_on, hidden_so}
use Rattle.legal_instances.proofs.WithinDeclarations.{NewSo, new_value_so, DeclaredSo, all_declared_so}

module _ (had : Made) where
  abbrev pub Go : {X : Type 0} → Option ℕ → State → Given X → Type 0
  Go o s g = Goes had o s g.next

  -- where only what is counted changes
  restart : (o : Option ℕ) (s t : State) → Goes had o (started s) t → Goes had o s t
  restart o s t h = record { constants = h.constants; more = h.more }

  begun : (env : Env) (s : State) → IsHere had env s → IsHere had env (started s)
  begun env s here = here_next had env s (started s) here (goes_same had env.generic s (started s) refl here.constants)

  goes_on : (o : Option ℕ) (s t u : State) → Goes had o s t → u.constants_declared ≡ t.constants_declared → Goes had o s u
  goes_on o s t u h e = goes_both had o s t u h (goes_same had o t u e h.constants)

  decides_go : (env : Env) (s t : State) → IsHere had env s → OnlyDecides s t → Goes had env.generic s t
  decides_go env s t here h = goes_same had env.generic s t (ap (λ x. x.constants_declared) h) here.constants

  module _ (env : Env) where
    abbrev o : Option ℕ
    o = env.generic

    abbrev own : State → ℕ
    own s = own_of env.generic s.constants_declared

    pub name_goes : (s : State) (n : source.Name) → IsHere had env s → IfOk (denoted env s n).answer (Go o s)
    name_goes s n here = weaker_ok (λ x. OnlyDecides s x.next) (Go o s) (denoted env s n).answer (denoted_behind env s n) (λ x h. decides_go env s x.next here h)

    decision_goes : (s : State) (q : Pos) (e : source.Expr) → IsHere had env s → IfOk (decision env s q e).answer (Go o s)
    decision_goes s q e here = weaker_ok (λ x. OnlyDecides s x.next) (Go o s) (decision env s q e).answer (decision_behind env s q e) (λ x h. decides_go env s x.next here h)

    pub judged_goes : (s : State) (e : source.Expr) → IsHere had env s → IfOk (judged env itself s e).answer (Go o s)
    judged_goes s e here = weaker_ok (λ x. OnlyDecides s x.next) (Go o s) (judged env itself s e).answer (judged_behind env itself s e) (λ x h. decides_go env s x.next here h)

    pub mapped_goes : {A B : Type 0} (s t : State) (f : A → B) (x : Option A) → Goes had o s t → IfSome (option_map (λ v. given (f v) t) x) (Go o s)
    mapped_goes s t f None h = tt
    mapped_goes s t f (Some x) h = h

    target_goes : (s : State) (n : source.Name) → IsHere had env s → IfOk (target env s n).answer (Go o s)
    target_goes s n here =
        answered (Go o s) (name_pos n) _
        (part_so (Go o s) (Go o s) (denoted env s n).answer
        (λ d. typed_rule env.step (given any_variable d.next) (option_map (λ v. given v d.next) (writable d.value))) (name_goes s n here)
        (λ d h. typed_so (Go o s) env.step (given any_variable d.next) _ here.place.step (mapped_goes s d.next (λ v. v) (writable d.value) h)))

    selector_goes : (s : State) (e : source.Expr) → IsHere had env s → IfOk (selector env s e).answer (Go o s)
    selector_goes s e here =
        answered (Go o s) (expr_pos e) _
        (part_so (Go o s) (Go o s) (judged env itself s e).answer
        (λ x. typed_rule env.step (given any_selector x.next) (option_map (λ y. given y x.next) (selector_of x.value)))
        (judged_goes s e here)
        (λ x h. typed_so (Go o s) env.step (given any_selector x.next) _ here.place.step (mapped_goes s x.next (λ v. v) (selector_of x.value) h)))

    chosen_goes : (s : State) (x : Selector) (c : Choice) → IsHere had env s → IfOk (chosen env s x c).answer (Go o s)
    chosen_goes s x (choice.Value e) here =
        answered (Go o s) (expr_pos e) _
        (part_so (GivesSo had o (ValuedSo had o) s) (Go o s) (static_part env s (fits x.type) (among x.values) e).answer
        (λ v. rule (Some (given (tree.value_choice v.value.value) v.next))) (static_so had env s (fits x.type) (among x.values) e here) (λ v h. h.goes))
    chosen_goes s x (choice.Range b) here =
        answered (Go o s) (expr_pos b.low) _
        (part_so (GivesSo had o (ValuedSo had o) s) (Go o s) (static_part env s (fits x.type) (among x.values) b.low).answer
        (λ low. static_part env low.next (fits x.type) (among x.values) b.high
        >>= (λ high. rule (Some (given (tree.range_choice low.value.value high.value.value) (demanded env (expr_pos b.low) (in_order low.value.value high.value.value) high.next)))))
        (static_so had env s (fits x.type) (among x.values) b.low here)
        (λ low h. part_so (GivesSo had o (ValuedSo had o) low.next) (Go o s) (static_part env low.next (fits x.type) (among x.values) b.high).answer
        (λ high. rule (Some (given (tree.range_choice low.value.value high.value.value) (demanded env (expr_pos b.low) (in_order low.value.value high.value.value) high.next))))
        (static_so had env low.next (fits x.type) (among x.values) b.high (here_next had env s low.next here h.goes))
        (λ high k. goes_on o s high.next _ (goes_both had o s low.next high.next h.goes k.goes) refl)))
    chosen_goes s x (choice.Others p) here = goes_same had o s s refl here.constants

    all_chosen_go : (s : State) (x : Selector) (q : Pos) (cs : List Choice) → IsHere had env s → IfOk (all_chosen env s x q cs).answer (Go o s)
    all_chosen_go s x q [] here = goes_same had o s s refl here.constants
    all_chosen_go s x q (c ∷ cs) here =
        answered (Go o s) q _
        (part_so (Go o s) (Go o s) (chosen env s x c).answer (λ d. all_chosen env d.next x q cs >>= (λ ds. rule (Some (given (d.value ∷ ds.value) ds.next))))
        (chosen_goes s x c here)
        (λ d h. part_so (Go o d.next) (Go o s) (all_chosen env d.next x q cs).answer (λ ds. rule (Some (given (d.value ∷ ds.value) ds.next)))
        (all_chosen_go d.next x q cs (here_next had env s d.next here h)) (λ ds k. goes_both had o s d.next ds.next h k)))

    caught_goes : (s : State) (b : Bool) (c : ExceptionChoice) → IsHere had env s → IfOk (caught env s b c).answer (Go o s)
    caught_goes s b (taken.Named n) here =
        answered (Go o s) (name_pos n) _
        (part_so (Go o s) (Go o s) (denoted env s n).answer
        (λ d. typed_rule env.step (given tree.other_exceptions d.next) (option_map (λ e. given (tree.named_exception e) d.next) (exception_of d.value))) (name_goes s n here)
        (λ d h. typed_so (Go o s) env.step _ _ here.place.step (mapped_goes s d.next tree.named_exception (exception_of d.value) h)))
    caught_goes s b (taken.Others p) here =
        answered (Go o s) p _
        (typed_so (Go o s) env.step _ _ here.place.step (if_test (Go o s) b (Some (given tree.other_exceptions s)) (λ e. goes_same had o s s refl here.constants)))

    all_caught_go : (s : State) (b : Bool) (q : Pos) (cs : List ExceptionChoice) → IsHere had env s → IfOk (all_caught env s b q cs).answer (Go o s)
    all_caught_go s b q [] here = goes_same had o s s refl here.constants
    all_caught_go s b q (c ∷ cs) here =
        answered (Go o s) q _
        (part_so (Go o s) (Go o s) (caught env s b c).answer (λ d. all_caught env d.next b q cs >>= (λ ds. rule (Some (given (d.value ∷ ds.value) ds.next))))
        (caught_goes s b c here)
        (λ d h. part_so (Go o d.next) (Go o s) (all_caught env d.next b q cs).answer (λ ds. rule (Some (given (d.value ∷ ds.value) ds.next)))
        (all_caught_go d.next b q cs (here_next had env s d.next here h)) (λ ds k. goes_both had o s d.next ds.next h k)))

    -- the range of a loop parameter
    abbrev TurnsSo : ℕ → Turns → Type 0
    TurnsSo n t = IsSubtypeWithin had (is_some o) n t.subtype

    between_so : (n : ℕ) (x y : Judged) (k : Kind) → IsKindWithin had (is_some o) n k → IfSome (turns_between x y k) (TurnsSo n)
    between_so n x y k h = if_test (TurnsSo n) (is_discrete k) _ (λ b. ((tt, tt), settled_so had env n k h))

    turned_so : (s : State) (r : DiscreteRange) → IsHere had env s → IfOk (turned env s r).answer (GivesSo had o TurnsSo s)
    turned_so s (discrete.Mark n) here =
        answered (GivesSo had o TurnsSo s) (name_pos n) _
        (part_so (GivesSo had o (MarkSo had o) s) (GivesSo had o TurnsSo s) (scalar_mark env s n).answer (λ m. rule (Some (given (turns_over m.value.subtype) m.next)))
        (scalar_so had env s n here) (λ m h. record { goes = h.goes; value = h.value }))
    turned_so s (discrete.Bounds b) here =
        answered (GivesSo had o TurnsSo s) (expr_pos b.low) _
        (part_so (GivesSo had o (JudgedSo had o) s) (GivesSo had o TurnsSo s) (judged env itself s b.low).answer
        (λ x. judged env itself x.next b.high >>= (λ y. typed_rule env.step (given any_turns y.next)
        (option_map (λ t. given t y.next) (option_and_then (turns_between x.value y.value) (common x.value.kind y.value.kind)))))
        (judged_so had env s b.low here)
        (λ x h. part_so (GivesSo had o (JudgedSo had o) x.next) (GivesSo had o TurnsSo s) (judged env itself x.next b.high).answer
        (λ y. typed_rule env.step (given any_turns y.next)
        (option_map (λ t. given t y.next) (option_and_then (turns_between x.value y.value) (common x.value.kind y.value.kind))))
        (judged_so had env x.next b.high (here_next had env s x.next here h.goes))
        (λ y k. typed_so (GivesSo had o TurnsSo s) env.step (given any_turns y.next) _ here.place.step
        (if_map (TurnsSo (own y.next)) (GivesSo had o TurnsSo s) (λ t. given t y.next) (option_and_then (turns_between x.value y.value) (common x.value.kind y.value.kind))
        (if_then (IsKindWithin had (is_some o) (own y.next)) (TurnsSo (own y.next)) (turns_between x.value y.value) (common x.value.kind y.value.kind)
        (common_within had (is_some o) (own y.next) x.value.kind y.value.kind (kind_on had o (own x.next) (own y.next) k.goes.more x.value.kind h.value.kind) k.value.kind)
        (λ c l. between_so (own y.next) x.value y.value c l))
        (λ t l. record { goes = goes_both had o s x.next y.next h.goes k.goes; value = l })))))

    stmt_goes : (s t : State) (l : tree.Label) (x : Option tree.Stmt) → IsHere had env s → Goes had o s t → IfPassed (typed_stmt env l t x).outcome (Go o s)
    stmt_goes s t l x here h = typed_so (Go o s) env.step (one (tree.null_statement l) t) (option_map (λ y. one y t) x) here.place.step (mapped_goes s t (λ y. y ∷ []) x h)

  mutual
    pub stated_goes : (env : Env) (s : State) (x : text.Statement) → IsHere had env s → IfOk (stated env s x).answer (Go env.generic s)
    stated_goes env s (text.null q) here = goes_same had env.generic s (started s) refl here.constants
    stated_goes env s (text.assignment q n i) here =
        answered (Go env.generic s) q _
        (part_so (Go env.generic (started s)) (Go env.generic s) (target env (started s) n).answer
        (λ v. new_value env v.next q v.value.subtype i >>= (λ x. rule (Some (one (tree.assignment (statement_label s q) v.value.object v.value.parts x.value.value) x.next))))
        (target_goes env (started s) n (begun env s here))
        (λ v h. part_so (GivesSo had env.generic (NewSo had env.generic) v.next) (Go env.generic s) (new_value env v.next q v.value.subtype i).answer
        (λ x. rule (Some (one (tree.assignment (statement_label s q) v.value.object v.value.parts x.value.value) x.next)))
        (new_value_so had env v.next q v.value.subtype i (here_next had env (started s) v.next (begun env s here) h))
        (λ x k. restart env.generic s x.next (goes_both had env.generic (started s) v.next x.next h k.goes))))
    stated_goes env s (text.call q n) here =
        answered (Go env.generic s) q _
        (part_so (Go env.generic (started s)) (Go env.generic s) (denoted env (started s) n).answer
        (λ d. typed_stmt env (statement_label s q) d.next (call_of (statement_label s q) d.value)) (name_goes env (started s) n (begun env s here))
        (λ d h. stmt_goes env s d.next (statement_label s q) (call_of (statement_label s q) d.value) here (restart env.generic s d.next h)))
    stated_goes env s (text.exemption q a) here = goes_same had env.generic s s refl here.constants
    stated_goes env s (text.conditional q e ss bs es) here =
        answered (Go env.generic s) q _
        (part_so (Go env.generic (started s)) (Go env.generic s) (decision env (started s) q e).answer
        (λ t. all_stated env t.next q ss >>= (λ xs. branched env xs.next q bs >>= (λ ys. all_stated env ys.next q es
        >>= (λ zs. rule (Some (one (tree.if_statement (statement_label s q) (tree.branch t.value.0 t.value.1 (stmts_of xs.value) (branches_of ys.value zs.value))) zs.next))))))
        (decision_goes env (started s) q e (begun env s here))
        (λ t u. part_so (Go env.generic t.next) (Go env.generic s) (all_stated env t.next q ss).answer
        (λ xs. branched env xs.next q bs >>= (λ ys. all_stated env ys.next q es
        >>= (λ zs. rule (Some (one (tree.if_statement (statement_label s q) (tree.branch t.value.0 t.value.1 (stmts_of xs.value) (branches_of ys.value zs.value))) zs.next)))))
        (all_stated_go env t.next q ss (here_next had env (started s) t.next (begun env s here) u))
        (λ xs h. part_so (Go env.generic xs.next) (Go env.generic s) (branched env xs.next q bs).answer
        (λ ys. all_stated env ys.next q es
        >>= (λ zs. rule (Some (one (tree.if_statement (statement_label s q) (tree.branch t.value.0 t.value.1 (stmts_of xs.value) (branches_of ys.value zs.value))) zs.next))))
        (branched_go env xs.next q bs (here_next had env (started s) xs.next (begun env s here) (goes_both had env.generic (started s) t.next xs.next u h)))
        (λ ys k. part_so (Go env.generic ys.next) (Go env.generic s) (all_stated env ys.next q es).answer
        (λ zs. rule (Some (one (tree.if_statement (statement_label s q) (tree.branch t.value.0 t.value.1 (stmts_of xs.value) (branches_of ys.value zs.value))) zs.next)))
        (all_stated_go env ys.next q es (here_next had env (started s) ys.next (begun env s here)
        (goes_both had env.generic (started s) xs.next ys.next (goes_both had env.generic (started s) t.next xs.next u h) k)))
        (λ zs l. restart env.generic s zs.next
        (goes_both had env.generic (started s) ys.next zs.next (goes_both had env.generic (started s) xs.next ys.next (goes_both had env.generic (started s) t.next xs.next u h) k) l))))))
    stated_goes env s (text.case_of q e alternatives) here =
        answered (Go env.generic s) q _
        (part_so (Go env.generic (started s)) (Go env.generic s) (selector env (started s) e).answer
        (λ x. all_arms env x.next x.value q alternatives
        >>= (λ arms. typed_rule env.step (one (tree.null_statement (statement_label s q)) arms.next) (case_of env s q x.value arms)))
        (selector_goes env (started s) e (begun env s here))
        (λ x u. part_so (Go env.generic x.next) (Go env.generic s) (all_arms env x.next x.value q alternatives).answer
        (λ arms. typed_rule env.step (one (tree.null_statement (statement_label s q)) arms.next) (case_of env s q x.value arms))
        (arms_go env x.next x.value q alternatives (here_next had env (started s) x.next (begun env s here) u))
        (λ arms h. typed_so (Go env.generic s) env.step (one (tree.null_statement (statement_label s q)) arms.next) (case_of env s q x.value arms) here.place.step
        (if_test (Go env.generic s) (ends_with_others arms.value) _
        (λ b. goes_on env.generic s arms.next _ (restart env.generic s arms.next (goes_both had env.generic (started s) x.next arms.next u h)) refl)))))
    stated_goes env s (text.repeat q scheme.Forever ss) here =
        answered (Go env.generic s) q _
        (part_so (Go env.generic (started s)) (Go env.generic s) (all_stated (in_loop env) (started s) q ss).answer
        (λ xs. rule (Some (one (tree.bare_loop (statement_label s q) (stmts_of xs.value)) xs.next)))
        (all_stated_go (in_loop env) (started s) q ss (here_loop had env (started s) (begun env s here)))
        (λ xs h. restart env.generic s xs.next h))
    stated_goes env s (text.repeat q (scheme.While e) ss) here =
        answered (Go env.generic s) q _
        (part_so (Go env.generic (started s)) (Go env.generic s) (decision env (started s) q e).answer
        (λ t. all_stated (in_loop env) t.next q ss >>= (λ xs. rule (Some (one (tree.while_loop (statement_label s q) t.value.0 t.value.1 (stmts_of xs.value)) xs.next))))
        (decision_goes env (started s) q e (begun env s here))
        (λ t u. part_so (Go env.generic t.next) (Go env.generic s) (all_stated (in_loop env) t.next q ss).answer
        (λ xs. rule (Some (one (tree.while_loop (statement_label s q) t.value.0 t.value.1 (stmts_of xs.value)) xs.next)))
        (all_stated_go (in_loop env) t.next q ss (here_loop had env t.next (here_next had env (started s) t.next (begun env s here) u)))
        (λ xs h. restart env.generic s xs.next (goes_both had env.generic (started s) t.next xs.next u h))))
    stated_goes env s (text.repeat q (scheme.For i d r) ss) here =
        answered (Go env.generic s) q _
        (part_so (IsRegionWithin had (is_some env.generic) (own_of env.generic s.constants_declared)) (Go env.generic s) (hide [] i).answer
        (λ region. turned (with_local (opened env) region) (started s) r
        >>= (λ t. all_stated (in_loop (with_local (opened env) ((key i, loop_parameter t.next.objects t.value) ∷ []))) (one_object_more q t.value.subtype t.next) q ss
        >>= (λ xs. rule (Some (one (tree.for_loop (statement_label s q) t.next.objects (is_reverse d) t.value.over (stmts_of xs.value)) xs.next)))))
        (hidden_so had (is_some env.generic) (own_of env.generic s.constants_declared) [] i tt)
        (λ region v. part_so (GivesSo had env.generic (TurnsSo env) (started s)) (Go env.generic s) (turned (with_local (opened env) region) (started s) r).answer
        (λ t. all_stated (in_loop (with_local (opened env) ((key i, loop_parameter t.next.objects t.value) ∷ []))) (one_object_more q t.value.subtype t.next) q ss
        >>= (λ xs. rule (Some (one (tree.for_loop (statement_label s q) t.next.objects (is_reverse d) t.value.over (stmts_of xs.value)) xs.next))))
        (turned_so (with_local (opened env) region) (started s) r (here_local had (opened env) (started s) region (here_opened had env (started s) (begun env s here)) v))
        (λ t u. part_so (Go env.generic (one_object_more q t.value.subtype t.next)) (Go env.generic s)
        (all_stated (in_loop (with_local (opened env) ((key i, loop_parameter t.next.objects t.value) ∷ []))) (one_object_more q t.value.subtype t.next) q ss).answer
        (λ xs. rule (Some (one (tree.for_loop (statement_label s q) t.next.objects (is_reverse d) t.value.over (stmts_of xs.value)) xs.next)))
        (all_stated_go (in_loop (with_local (opened env) ((key i, loop_parameter t.next.objects t.value) ∷ []))) (one_object_more q t.value.subtype t.next) q ss
        (here_loop had (with_local (opened env) ((key i, loop_parameter t.next.objects t.value) ∷ [])) (one_object_more q t.value.subtype t.next)
        (here_local had (opened env) (one_object_more q t.value.subtype t.next) ((key i, loop_parameter t.next.objects t.value) ∷ [])
        (here_opened had env (one_object_more q t.value.subtype t.next)
        (here_next had env t.next (one_object_more q t.value.subtype t.next) (here_next had env (started s) t.next (begun env s here) u.goes)
        (goes_same had env.generic t.next (one_object_more q t.value.subtype t.next) refl u.goes.constants)))
        (record { subtype = u.value; known = tt }, tt))))
        (λ xs h. restart env.generic s xs.next
        (goes_both had env.generic (started s) (one_object_more q t.value.subtype t.next) xs.next
        (goes_on env.generic (started s) t.next (one_object_more q t.value.subtype t.next) u.goes refl) h)))))
    stated_goes env s (text.exit q None) here =
        answered (Go env.generic s) q _
        (stmt_goes env s (started s) (statement_label s q) (where_allowed env.is_looping (tree.exit_statement (statement_label s q))) here
        (goes_same had env.generic s (started s) refl here.constants))
    stated_goes env s (text.exit q (Some e)) here =
        answered (Go env.generic s) q _
        (part_so (Go env.generic (started s)) (Go env.generic s) (decision env (started s) q e).answer
        (λ t. typed_stmt env (statement_label s q) t.next (where_allowed env.is_looping (tree.exit_when (statement_label s q) t.value.0 t.value.1)))
        (decision_goes env (started s) q e (begun env s here))
        (λ t u. stmt_goes env s t.next (statement_label s q) (where_allowed env.is_looping (tree.exit_when (statement_label s q) t.value.0 t.value.1)) here
        (restart env.generic s t.next u)))
    stated_goes env s (text.returns q None) here =
        answered (Go env.generic s) q _
        (stmt_goes env s (started s) (statement_label s q) (returned (statement_label s q) env.returning) here
        (goes_same had env.generic s (started s) refl here.constants))
    stated_goes env s (text.returns q (Some e)) here =
        answered (Go env.generic s) q _
        (part_so (Go env.generic (started s)) (Go env.generic s) (judged env itself (started s) e).answer
        (λ x. typed_stmt env (statement_label s q) x.next (returned_value (statement_label s q) x.value env.returning)) (judged_goes env (started s) e (begun env s here))
        (λ x u. stmt_goes env s x.next (statement_label s q) (returned_value (statement_label s q) x.value env.returning) here (restart env.generic s x.next u)))
    stated_goes env s (text.raise q None) here =
        answered (Go env.generic s) q _
        (stmt_goes env s (started s) (statement_label s q) (where_allowed env.is_handling (tree.raise_again (statement_label s q))) here
        (goes_same had env.generic s (started s) refl here.constants))
    stated_goes env s (text.raise q (Some n)) here =
        answered (Go env.generic s) q _
        (part_so (Go env.generic (started s)) (Go env.generic s) (denoted env (started s) n).answer
        (λ d. typed_stmt env (statement_label s q) d.next (option_map (tree.raise_statement (statement_label s q)) (exception_of d.value)))
        (name_goes env (started s) n (begun env s here))
        (λ d u. stmt_goes env s d.next (statement_label s q) (option_map (tree.raise_statement (statement_label s q)) (exception_of d.value)) here (restart env.generic s d.next u)))
    stated_goes env s (text.block q ds h) here =
        answered (Go env.generic s) q _
        (part_so (DeclaredSo had env.generic s) (Go env.generic s) (all_declared (opened env) s q (declarations_in ds)).answer
        (λ x. all_handled (with_local (opened env) x.region) x.next q h >>= (λ f. rule (Some (one (tree.block_statement (block_of x.made f.value)) f.next))))
        (all_declared_so had (opened env) s q (declarations_in ds) (here_opened had env s here))
        (λ x u. part_so (Go env.generic x.next) (Go env.generic s) (all_handled (with_local (opened env) x.region) x.next q h).answer
        (λ f. rule (Some (one (tree.block_statement (block_of x.made f.value)) f.next)))
        (handled_go (with_local (opened env) x.region) x.next q h
        (here_local had (opened env) x.next x.region (here_opened had env x.next (here_next had env s x.next here u.goes)) u.region))
        (λ f k. goes_both had env.generic s x.next f.next u.goes k)))

    pub all_stated_go : (env : Env) (s : State) (q : Pos) (xs : text.Statements) → IsHere had env s → IfOk (all_stated env s q xs).answer (Go env.generic s)
    all_stated_go env s q text.no_statements here = goes_same had env.generic s s refl here.constants
    all_stated_go env s q (text.then_also x xs) here =
        answered (Go env.generic s) q _
        (part_so (Go env.generic s) (Go env.generic s) (stated env s x).answer
        (λ y. all_stated env y.next q xs >>= (λ ys. rule (Some (given (y.value ++ ys.value) ys.next)))) (stated_goes env s x here)
        (λ y h. part_so (Go env.generic y.next) (Go env.generic s) (all_stated env y.next q xs).answer (λ ys. rule (Some (given (y.value ++ ys.value) ys.next)))
        (all_stated_go env y.next q xs (here_next had env s y.next here h)) (λ ys k. goes_both had env.generic s y.next ys.next h k)))

    pub branched_go : (env : Env) (s : State) (q : Pos) (bs : text.Branches) → IsHere had env s → IfOk (branched env s q bs).answer (Go env.generic s)
    branched_go env s q text.no_branches here = goes_same had env.generic s s refl here.constants
    branched_go env s q (text.branch e ss bs) here =
        answered (Go env.generic s) q _
        (part_so (Go env.generic s) (Go env.generic s) (decision env s q e).answer
        (λ t. all_stated env t.next q ss >>= (λ xs. branched env xs.next q bs
        >>= (λ ys. rule (Some (given (record { label = t.value.0; test = t.value.1; statements = xs.value } ∷ ys.value) ys.next)))))
        (decision_goes env s q e here)
        (λ t u. part_so (Go env.generic t.next) (Go env.generic s) (all_stated env t.next q ss).answer
        (λ xs. branched env xs.next q bs >>= (λ ys. rule (Some (given (record { label = t.value.0; test = t.value.1; statements = xs.value } ∷ ys.value) ys.next))))
        (all_stated_go env t.next q ss (here_next had env s t.next here u))
        (λ xs h. part_so (Go env.generic xs.next) (Go env.generic s) (branched env xs.next q bs).answer
        (λ ys. rule (Some (given (record { label = t.value.0; test = t.value.1; statements = xs.value } ∷ ys.value) ys.next)))
        (branched_go env xs.next q bs (here_next had env s xs.next here (goes_both had env.generic s t.next xs.next u h)))
        (λ ys k. goes_both had env.generic s xs.next ys.next (goes_both had env.generic s t.next xs.next u h) k))))

    pub arms_go : (env : Env) (s : State) (x : Selector) (q : Pos) (rest : text.Alternatives) → IsHere had env s → IfOk (all_arms env s x q rest).answer (Go env.generic s)
    arms_go env s x q text.no_alternatives here = goes_same had env.generic s s refl here.constants
    arms_go env s x q (text.alternative cs ss rest) here =
        answered (Go env.generic s) q _
        (part_so (Go env.generic s) (Go env.generic s) (all_chosen env s x q cs).answer
        (λ ds. all_stated env ds.next q ss >>= (λ xs. all_arms env xs.next x q rest
        >>= (λ ys. rule (Some (given (record { choices = ds.value; statements = xs.value } ∷ ys.value) ys.next)))))
        (all_chosen_go env s x q cs here)
        (λ ds u. part_so (Go env.generic ds.next) (Go env.generic s) (all_stated env ds.next q ss).answer
        (λ xs. all_arms env xs.next x q rest >>= (λ ys. rule (Some (given (record { choices = ds.value; statements = xs.value } ∷ ys.value) ys.next))))
        (all_stated_go env ds.next q ss (here_next had env s ds.next here u))
        (λ xs h. part_so (Go env.generic xs.next) (Go env.generic s) (all_arms env xs.next x q rest).answer
        (λ ys. rule (Some (given (record { choices = ds.value; statements = xs.value } ∷ ys.value) ys.next)))
        (arms_go env xs.next x q rest (here_next had env s xs.next here (goes_both had env.generic s ds.next xs.next u h)))
        (λ ys k. goes_both had env.generic s xs.next ys.next (goes_both had env.generic s ds.next xs.next u h) k))))

    pub handlers_go : (env : Env) (s : State) (q : Pos) (hs : text.Handlers) → IsHere had env s → IfOk (all_handlers env s q hs).answer (Go env.generic s)
    handlers_go env s q text.no_handlers here = goes_same had env.generic s s refl here.constants
    handlers_go env s q (text.handler cs ss hs) here =
        answered (Go env.generic s) q _
        (part_so (Go env.generic s) (Go env.generic s) (all_caught env s (is_last hs && nat_eq (length cs) 1) q cs).answer
        (λ ds. all_stated (in_handler env) ds.next q ss >>= (λ xs. all_handlers env xs.next q hs
        >>= (λ ys. rule (Some (given (tree.handler ds.value (stmts_of xs.value) ys.value) ys.next)))))
        (all_caught_go env s (is_last hs && nat_eq (length cs) 1) q cs here)
        (λ ds u. part_so (Go env.generic ds.next) (Go env.generic s) (all_stated (in_handler env) ds.next q ss).answer
        (λ xs. all_handlers env xs.next q hs >>= (λ ys. rule (Some (given (tree.handler ds.value (stmts_of xs.value) ys.value) ys.next))))
        (all_stated_go (in_handler env) ds.next q ss (here_handler had env ds.next (here_next had env s ds.next here u)))
        (λ xs h. part_so (Go env.generic xs.next) (Go env.generic s) (all_handlers env xs.next q hs).answer
        (λ ys. rule (Some (given (tree.handler ds.value (stmts_of xs.value) ys.value) ys.next)))
        (handlers_go env xs.next q hs (here_next had env s xs.next here (goes_both had env.generic s ds.next xs.next u h)))
        (λ ys k. goes_both had env.generic s xs.next ys.next (goes_both had env.generic s ds.next xs.next u h) k))))

    pub handled_go : (env : Env) (s : State) (q : Pos) (h : text.Handled) → IsHere had env s → IfOk (all_handled env s q h).answer (Go env.generic s)
    handled_go env s q (text.handled ss hs) here =
        answered (Go env.generic s) q _
        (part_so (Go env.generic s) (Go env.generic s) (all_stated env s q ss).answer
        (λ xs. all_handlers env xs.next q hs >>= (λ ys. rule (Some (given (record { statements = xs.value; handlers = ys.value }) ys.next))))
        (all_stated_go env s q ss here)
        (λ xs h. part_so (Go env.generic xs.next) (Go env.generic s) (all_handlers env xs.next q hs).answer
        (λ ys. rule (Some (given (record { statements = xs.value; handlers = ys.value }) ys.next)))
        (handlers_go env xs.next q hs (here_next had env s xs.next here h))
        (λ ys k. goes_both had env.generic s xs.next ys.next h k)))
