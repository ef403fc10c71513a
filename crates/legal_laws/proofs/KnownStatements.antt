-- Statements in the step of types, where all that they may name is known: they are well-formed.
use Rattle.std.proofs.Common.{◌≡◌, ℕ, nat_eq, Bool, true, ◌&&◌, List, [], ◌∷◌, ◌++◌, length, Option, Some, None, option_map, IfSome, IfOk, refl, sym, ap, ◌∙◌, subst, arith, inl, inr}
use Rattle.cov_base.specs.declared.position.Pos.{Pos}
use Rattle.cov_base.specs.Lists.{Everywhere}
use Rattle.ada_syntax.specs.StatementTree as text
use Rattle.ada_syntax.specs.Tree as source
use Rattle.ada_syntax.specs.declared.declaration.Declaration.{Declaration}
use Rattle.ada_syntax.specs.declared.name.Identifier.{Identifier}
use Rattle.ada_syntax.specs.declared.statement.LoopScheme.TheVariants as scheme
use Rattle.ada_meaning.specs.Program.{Program}
use Rattle.ada_meaning.specs.Shape.{Shape}
use Rattle.ada_meaning.specs.Tree as tree
use Rattle.ada_meaning.specs.WellFormed.{IsScalar, IsTest, IsValue, IsException, IsStatement, AreStatements, AreHandlers, behind, behind_all}
use Rattle.ada_rules.specs.Plan.{◌>>=◌, rule, outcome_after}
use Rattle.ada_rules.specs.Types.{AdaType}
use Rattle.ada_rules.specs.Entities.{key, Variable}
use Rattle.ada_rules.specs.Environment.{Returning, no_result, result_of, typed_rule, State, Given, given, Env, with_local, opened, in_loop, in_handler, hide, statement_label, started}
use Rattle.ada_rules.specs.Expressions.{itself, denoted, judged, decision}
use Rattle.ada_rules.specs.Declarations.{NewValue, new_value, all_declared}
use Rattle.ada_rules.specs.Statements.{stmts_of, one, target, call_of, Chosen, branches_of, Selector, selector, all_chosen, Arm, ends_with_others, has_others, choices_in, case_of, Turns, turned, loop_parameter, one_object_more, is_reverse, returned, returned_value, exception_of, where_allowed, all_caught, is_last, declarations_in, Frame, block_of, typed_stmt, stated, all_stated, branched, all_arms, all_handlers, all_handled}
use Rattle.ada_rules.specs.Statics.{Facts, covers}
use Rattle.legal_laws.specs.Kept.{OnlyDecides}
use Rattle.legal_laws.specs.Known.{IsKnownSubtype, IsRegion}
use Rattle.legal_laws.specs.Served.{IsFinal}
use Rattle.legal_laws.specs.Standing.{with_types, Stands, ReturnsAs}
use Rattle.legal_laws.specs.Valued.{AreFactsInBase, HaveFacts}
use Rattle.legal_laws.specs.Written.{AreDeclared, AreWritten, IsStatementText, AreStatementTexts, AreBranchTexts, AreAlternativeTexts, AreHandlerTexts, IsHandledText}
use Rattle.legal_laws.proofs.Passing.{IfPassed, if_map, if_test, answered, part_so, typed_so, both_ok, each_ok, weaker_ok}
use Rattle.legal_laws.proofs.Identities.{types_more}
use Rattle.legal_laws.proofs.KeptExpressions.{decision_behind}
use Rattle.legal_laws.proofs.KnownCalls.{call_known, returned_known, statements_joined, IsBranch, branches_known, IsArm, alternatives_known, exception_known, value_returned, AreAllChosen, all_chosen_known, AreAllCaught, all_caught_known}
use Rattle.legal_laws.proofs.KnownDeclarations.{AreAllMade, declarations_known, stands_led, stands_local}
use Rattle.legal_laws.proofs.KnownExpressions.{decision_known}
use Rattle.legal_laws.proofs.KnownRegions.{hidden_known, local_known, opened_known, loop_known, handler_known}
use Rattle.legal_laws.proofs.KnownValues.{GivesValue, expression, IsNewValue, new_value_known, GivesName, name, IsTarget, target_known, IsSelector, selector_known, AreTurns, turned_known}
use Rattle.legal_laws.proofs.Leading.{Leads, leads_both, leads_decides, leads_demanded, leads_started, Lead, LeadsOn, declarations_lead}
use Rattle.legal_laws.proofs.LeadingStatements.{leads_parameter, stated_leads, all_lead, branches_lead, arms_lead, handlers_lead, handled_lead, all_chosen_lead, all_caught_lead}
use Rattle.legal_laws.proofs.Wider.{env_wider, subtype_wider}

pub declared_texts : (ds : Option (List Declaration)) → AreDeclared ds → AreWritten (declarations_in ds)
declared_texts None h = tt
declared_texts (Some ds) h = h

module _ (p : Program) (facts : List Facts) (has : HaveFacts p.instances facts) (are : Everywhere AreFactsInBase facts) (inst : ℕ) (shape_of : tree.Object → Shape)
    (function : Bool) where
  abbrev Final : Option ℕ → State → Type 0
  Final o s = IsFinal facts inst p shape_of o s

  abbrev Standing : (AdaType → Type 0) → (tree.Object → Type 0) → Env → State → Type 0
  Standing types Sees env s = Stands p inst shape_of types Sees env s

  abbrev Returns : (AdaType → Type 0) → Env → Type 0
  Returns types env = ReturnsAs p inst types function env.returning

  abbrev Go : Option ℕ → State → State → Type 0
  Go o s t = Leads p facts are inst shape_of o s t

  abbrev Ahead : {A : Type 0} → Option ℕ → State → Given A → Type 0
  Ahead o s g = Lead p facts are inst shape_of o s g

  abbrev One : (tree.Object → Type 0) → Env → tree.Stmt → Type 0
  One Sees env x = IsStatement p inst shape_of function Sees env.is_looping env.is_handling x

  abbrev All : (tree.Object → Type 0) → Env → List tree.Stmt → Type 0
  All Sees env xs = AreStatements p inst shape_of function Sees env.is_looping env.is_handling (stmts_of xs)

  -- what statements come to, where the final program keeps the state behind them
  abbrev Shown : (tree.Object → Type 0) → Env → Given (List tree.Stmt) → Type 0
  Shown Sees env g = Final env.generic g.next → All Sees env g.value

  pub returns_more : (types more : AdaType → Type 0) → ((t : AdaType) → types t → more t) → (r : Returning) → ReturnsAs p inst types function r
      → ReturnsAs p inst more function r
  returns_more types more among no_result h = h
  returns_more types more among (result_of t) h = (h.0, (h.1.0, subtype_wider p inst types more among t h.1.1))

  -- a state behind this one
  led : (types : AdaType → Type 0) (Sees : tree.Object → Type 0) (env : Env) (s t : State) → Standing types Sees env s → Go env.generic s t → Standing types Sees env t
  led types Sees env s t st go = stands_led p facts has are inst shape_of types Sees env env.generic s t st go

  -- where a construct stands in a loop, or in a handler
  pub in_loop_stands : (types : AdaType → Type 0) (Sees : tree.Object → Type 0) (env : Env) (s : State) → Standing types Sees env s → Standing types Sees (in_loop env) s
  in_loop_stands types Sees env s st = record {
    place = loop_known p inst types shape_of Sees env st.place;
    world = st.world;
    apart = st.apart;
    older = st.older;
    counted = st.counted;
    alone = st.alone;
  }

  pub in_handler_stands : (types : AdaType → Type 0) (Sees : tree.Object → Type 0) (env : Env) (s : State) → Standing types Sees env s → Standing types Sees (in_handler env) s
  in_handler_stands types Sees env s st = record {
    place = handler_known p inst types shape_of Sees env st.place;
    world = st.world;
    apart = st.apart;
    older = st.older;
    counted = st.counted;
    alone = st.alone;
  }

  pub opened_stands : (types : AdaType → Type 0) (Sees : tree.Object → Type 0) (env : Env) (s : State) → Standing types Sees env s → Standing types Sees (opened env) s
  opened_stands types Sees env s st = record {
    place = opened_known p inst types shape_of Sees env st.place;
    world = st.world;
    apart = st.apart;
    older = st.older;
    counted = st.counted;
    alone = st.alone;
  }

  -- in a for loop its parameter is visible
  pub parameter_stands : (types : AdaType → Type 0) (Sees : tree.Object → Type 0) (env : Env) (s t : State) (q : Pos) (i : Identifier) (x : Turns) → Standing types Sees env s
      → Go env.generic s t → IsKnownSubtype p inst types x.subtype → Final env.generic (one_object_more q x.subtype t)
      → Standing types (behind Sees t.objects) (in_loop (with_local (opened env) ((key i, loop_parameter t.objects x) ∷ []))) (one_object_more q x.subtype t)
  parameter_stands types Sees env s t q i x st go known all =
      let now = led types Sees env s t st go in
      let count = now.counted in
      record {
        place = loop_known p inst types shape_of (behind Sees t.objects) (with_local (opened env) ((key i, loop_parameter t.objects x) ∷ []))
            (local_known p inst types shape_of (behind Sees t.objects) (opened env) ((key i, loop_parameter t.objects x) ∷ [])
            (opened_known p inst types shape_of (behind Sees t.objects) env
            (env_wider p inst types types (λ u h. h) shape_of Sees (behind Sees t.objects) (λ o h. inl h) env st.place)) (
              record {
                visible = inr refl;
                parts = tt;
                shape = ap (λ n. shape_of (tree.local_object n)) now.counted ∙ all.shaped.0;
                subtype = known;
              },
              tt,
            ));
        world = st.world;
        apart = st.apart;
        older = now.older;
        counted = omega (arith, count);
        alone = st.alone;
      }

  -- a rule on types that a statement has to pass
  stmt_known : (types : AdaType → Type 0) (Sees : tree.Object → Type 0) (env : Env) (s t : State) (l : tree.Label) (x : Option tree.Stmt) → Standing types Sees env s
      → IfSome x (One Sees env) → IfPassed (typed_stmt env l t x).outcome (Shown Sees env)
  stmt_known types Sees env s t l x st h =
      typed_so (Shown Sees env) env.step (one (tree.null_statement l) t) (option_map (λ y. one y t) x) st.place.step
      (if_map (One Sees env) (Shown Sees env) (λ y. one y t) x h (λ y k all. (k, tt)))

  allowed : (Sees : tree.Object → Type 0) (env : Env) (b : Bool) (x : tree.Stmt) → (b ≡ true → One Sees env x) → IfSome (where_allowed b x) (One Sees env)
  allowed Sees env b x h = if_test (One Sees env) b (Some x) h

  start : (o : Option ℕ) (s : State) → Go o s (started s)
  start o s = leads_started p facts are inst shape_of o s

  both : (o : Option ℕ) (s t u : State) → Go o s t → Go o t u → Go o s u
  both o s t u h k = leads_both p facts are inst shape_of o s t u h k

  decided_go : (o : Option ℕ) (s t : State) → OnlyDecides s t → Go o s t
  decided_go o s t h = leads_decides p facts are inst shape_of o s t h

  -- a test with the state behind it
  abbrev Tested : (tree.Object → Type 0) → Env → State → Given (tree.Label × tree.Test) → Type 0
  Tested Sees env s t = Ahead env.generic s t × IsTest p inst shape_of Sees t.value.1

  test : (types : AdaType → Type 0) (Sees : tree.Object → Type 0) (env : Env) (s : State) (q : Pos) (e : source.Expr) → Standing types Sees env s
      → IfOk (decision env s q e).answer (Tested Sees env s)
  test types Sees env s q e st =
      ok_pair (decision_behind env s q e) (decision_known p inst types st.apart shape_of Sees env st.place s q e)
    where
      ok_pair : IfOk (decision env s q e).answer (λ g. OnlyDecides s g.next) → IfOk (decision env s q e).answer (λ g. IsTest p inst shape_of Sees g.value.1)
          → IfOk (decision env s q e).answer (Tested Sees env s)
      ok_pair h k =
          weaker_ok (λ g. OnlyDecides s g.next × IsTest p inst shape_of Sees g.value.1) (Tested Sees env s) (decision env s q e).answer
          (both_ok (λ g. OnlyDecides s g.next) (λ g. IsTest p inst shape_of Sees g.value.1) (decision env s q e).answer h k)
          (λ g l. (decided_go env.generic s g.next l.0, l.1))

  -- an assignment
  assigned : (types : AdaType → Type 0) (Sees : tree.Object → Type 0) (env : Env) (s : State) (l : tree.Label) (st : Standing types Sees env s)
      (t : State) (v : Given Variable) (x : Given NewValue) → IsTarget p inst types st.apart shape_of Sees env st.place t v
      → IsNewValue p inst types st.apart shape_of Sees env st.place v.next v.value.subtype x
      → One Sees env (tree.assignment l v.value.object v.value.parts x.value.value)
  assigned types Sees env s l st t v x h k = (
    h.variable.visible,
    (
      h.variable.parts,
      subst (λ z. IsValue p inst shape_of Sees z x.value.value) (sym h.variable.shape) (k.set h.variable.subtype).value,
    ),
  )

  abbrev BranchesShown : (tree.Object → Type 0) → Env → Given (List Chosen) → Type 0
  BranchesShown Sees env g = Final env.generic g.next → Everywhere (IsBranch p inst shape_of Sees function env.is_looping env.is_handling) g.value

  abbrev ArmsShown : (tree.Object → Type 0) → Env → Given (List Arm) → Type 0
  ArmsShown Sees env g = Final env.generic g.next → Everywhere (IsArm p inst shape_of Sees function env.is_looping env.is_handling) g.value

  abbrev HandlersShown : (tree.Object → Type 0) → Env → Given tree.Handlers → Type 0
  HandlersShown Sees env g = Final env.generic g.next → AreHandlers p inst shape_of function Sees env.is_looping g.value

  abbrev pub FrameShown : (tree.Object → Type 0) → Env → Frame → Type 0
  FrameShown Sees env f = All Sees env f.statements × AreHandlers p inst shape_of function Sees env.is_looping f.handlers

  mutual
    pub stated_known : (types : AdaType → Type 0) (Sees : tree.Object → Type 0) (env : Env) (s : State) (x : text.Statement) → Standing types Sees env s
        → Returns types env → IsStatementText x → IfOk (stated env s x).answer (Shown Sees env)
    stated_known types Sees env s (text.null q) st returns written = λ all. (tt, tt)
    stated_known types Sees env s (text.assignment q n i) st returns written =
        let first = led types Sees env s (started s) st (start env.generic s) in
        answered (Shown Sees env) q _
        (part_so (IsTarget p inst types first.apart shape_of Sees env first.place (started s)) (Shown Sees env) (target env (started s) n).answer
        (λ v. new_value env v.next q v.value.subtype i >>= (λ x. rule (Some (one (tree.assignment (statement_label s q) v.value.object v.value.parts x.value.value) x.next))))
        (target_known p inst types first.apart shape_of Sees env first.place (started s) n)
        (λ v h. part_so (IsNewValue p inst types first.apart shape_of Sees env first.place v.next v.value.subtype) (Shown Sees env) (new_value env v.next q v.value.subtype i).answer
        (λ x. rule (Some (one (tree.assignment (statement_label s q) v.value.object v.value.parts x.value.value) x.next)))
        (new_value_known p inst types first.apart shape_of Sees env first.place v.next q v.value.subtype i)
        (λ x k all. (assigned types Sees env (started s) (statement_label s q) first (started s) v x h k, tt))))
    stated_known types Sees env s (text.call q n) st returns written =
        let first = led types Sees env s (started s) st (start env.generic s) in
        answered (Shown Sees env) q _
        (part_so (GivesName p inst types first.apart shape_of Sees env first.place (started s)) (Shown Sees env) (denoted env (started s) n).answer
        (λ d. typed_stmt env (statement_label s q) d.next (call_of (statement_label s q) d.value))
        (name p inst types first.apart shape_of Sees env first.place (started s) n)
        (λ d h. stmt_known types Sees env s d.next (statement_label s q) (call_of (statement_label s q) d.value) st
        (call_known p inst shape_of Sees types function env.is_looping env.is_handling (statement_label s q) d.value h.0)))
    stated_known types Sees env s (text.exemption q a) st returns written = λ all. tt
    stated_known types Sees env s (text.conditional q e ss bs es) st returns written =
        let first = led types Sees env s (started s) st (start env.generic s) in
        answered (Shown Sees env) q _
        (part_so (Tested Sees env (started s)) (Shown Sees env) (decision env (started s) q e).answer
        (λ t. all_stated env t.next q ss >>= (λ xs. branched env xs.next q bs >>= (λ ys. all_stated env ys.next q es
        >>= (λ zs. rule (Some (one (tree.if_statement (statement_label s q) (tree.branch t.value.0 t.value.1 (stmts_of xs.value) (branches_of ys.value zs.value))) zs.next))))))
        (test types Sees env (started s) q e first)
        (λ t h. let at_t = led types Sees env (started s) t.next first h.0 in
        part_so (λ xs. Ahead env.generic t.next xs × Shown Sees env xs) (Shown Sees env) (all_stated env t.next q ss).answer
        (λ xs. branched env xs.next q bs >>= (λ ys. all_stated env ys.next q es
        >>= (λ zs. rule (Some (one (tree.if_statement (statement_label s q) (tree.branch t.value.0 t.value.1 (stmts_of xs.value) (branches_of ys.value zs.value))) zs.next)))))
        (both_ok (Ahead env.generic t.next) (Shown Sees env) (all_stated env t.next q ss).answer (all_lead p facts are inst shape_of env t.next q ss)
        (all_known types Sees env t.next q ss at_t returns written.0))
        (λ xs k. let at_x = led types Sees env t.next xs.next at_t k.0 in
        part_so (λ ys. Ahead env.generic xs.next ys × BranchesShown Sees env ys) (Shown Sees env) (branched env xs.next q bs).answer
        (λ ys. all_stated env ys.next q es
        >>= (λ zs. rule (Some (one (tree.if_statement (statement_label s q) (tree.branch t.value.0 t.value.1 (stmts_of xs.value) (branches_of ys.value zs.value))) zs.next))))
        (both_ok (Ahead env.generic xs.next) (BranchesShown Sees env) (branched env xs.next q bs).answer (branches_lead p facts are inst shape_of env xs.next q bs)
        (branches_shown types Sees env xs.next q bs at_x returns written.1.0))
        (λ ys l. let at_y = led types Sees env xs.next ys.next at_x l.0 in
        part_so (λ zs. Ahead env.generic ys.next zs × Shown Sees env zs) (Shown Sees env) (all_stated env ys.next q es).answer
        (λ zs. rule (Some (one (tree.if_statement (statement_label s q) (tree.branch t.value.0 t.value.1 (stmts_of xs.value) (branches_of ys.value zs.value))) zs.next)))
        (both_ok (Ahead env.generic ys.next) (Shown Sees env) (all_stated env ys.next q es).answer (all_lead p facts are inst shape_of env ys.next q es)
        (all_known types Sees env ys.next q es at_y returns written.1.1))
        (λ zs m all.
        let at_ys = m.0.back at_y.counted all in
        let at_xs = l.0.back at_x.counted at_ys in (
          (
            h.1,
            (k.1 at_xs, branches_known p inst shape_of Sees function env.is_looping env.is_handling ys.value zs.value (l.1 at_ys) (m.1 all)),
          ),
          tt,
        ))))))
    stated_known types Sees env s (text.case_of q e alternatives) st returns written =
        let first = led types Sees env s (started s) st (start env.generic s) in
        answered (Shown Sees env) q _
        (part_so (IsSelector p inst types first.apart shape_of Sees env first.place (started s)) (Shown Sees env) (selector env (started s) e).answer
        (λ x. all_arms env x.next x.value q alternatives
        >>= (λ arms. typed_rule env.step (one (tree.null_statement (statement_label s q)) arms.next) (case_of env s q x.value arms)))
        (selector_known p inst types first.apart shape_of Sees env first.place (started s) e)
        (λ x h. let at_x = led types Sees env (started s) x.next first (decided_go env.generic (started s) x.next h.only) in
        part_so (λ arms. Ahead env.generic x.next arms × ArmsShown Sees env arms) (Shown Sees env) (all_arms env x.next x.value q alternatives).answer
        (λ arms. typed_rule env.step (one (tree.null_statement (statement_label s q)) arms.next) (case_of env s q x.value arms))
        (both_ok (Ahead env.generic x.next) (ArmsShown Sees env) (all_arms env x.next x.value q alternatives).answer
        (arms_lead p facts are inst shape_of env x.next x.value q alternatives) (arms_shown types Sees env x.next x.value q alternatives at_x returns written))
        (λ arms k. typed_so (Shown Sees env) env.step (one (tree.null_statement (statement_label s q)) arms.next) (case_of env s q x.value arms) st.place.step
        (if_test (Shown Sees env) (ends_with_others arms.value) _
        (λ b all. let at_a = led types Sees env x.next arms.next at_x k.0 in
        let last = (leads_demanded p facts are inst shape_of env.generic env q
        (covers x.value.values (has_others (choices_in arms.value)) (choices_in arms.value)) arms.next).back at_a.counted all in (
          (h.expr, alternatives_known p inst shape_of Sees function env.is_looping env.is_handling arms.value (k.1 last)),
          tt,
        ))))))
    stated_known types Sees env s (text.repeat q scheme.Forever ss) st returns written =
        let first = led types Sees env s (started s) st (start env.generic s) in
        answered (Shown Sees env) q _
        (part_so (Shown Sees (in_loop env)) (Shown Sees env) (all_stated (in_loop env) (started s) q ss).answer
        (λ xs. rule (Some (one (tree.bare_loop (statement_label s q) (stmts_of xs.value)) xs.next)))
        (all_known types Sees (in_loop env) (started s) q ss (in_loop_stands types Sees env (started s) first) returns written)
        (λ xs h all. (h all, tt)))
    stated_known types Sees env s (text.repeat q (scheme.While e) ss) st returns written =
        let first = led types Sees env s (started s) st (start env.generic s) in
        answered (Shown Sees env) q _
        (part_so (Tested Sees env (started s)) (Shown Sees env) (decision env (started s) q e).answer
        (λ t. all_stated (in_loop env) t.next q ss >>= (λ xs. rule (Some (one (tree.while_loop (statement_label s q) t.value.0 t.value.1 (stmts_of xs.value)) xs.next))))
        (test types Sees env (started s) q e first)
        (λ t h. part_so (Shown Sees (in_loop env)) (Shown Sees env) (all_stated (in_loop env) t.next q ss).answer
        (λ xs. rule (Some (one (tree.while_loop (statement_label s q) t.value.0 t.value.1 (stmts_of xs.value)) xs.next)))
        (all_known types Sees (in_loop env) t.next q ss (in_loop_stands types Sees env t.next (led types Sees env (started s) t.next first h.0)) returns written)
        (λ xs k all. ((h.1, k all), tt))))
    stated_known types Sees env s (text.repeat q (scheme.For i d r) ss) st returns written =
        let first = led types Sees env s (started s) st (start env.generic s) in
        answered (Shown Sees env) q _
        (part_so (IsRegion p inst types shape_of Sees) (Shown Sees env) (hide [] i).answer
        (λ region. turned (with_local (opened env) region) (started s) r
        >>= (λ t. all_stated (in_loop (with_local (opened env) ((key i, loop_parameter t.next.objects t.value) ∷ []))) (one_object_more q t.value.subtype t.next) q ss
        >>= (λ xs. rule (Some (one (tree.for_loop (statement_label s q) t.next.objects (is_reverse d) t.value.over (stmts_of xs.value)) xs.next)))))
        (hidden_known p inst types shape_of Sees [] i tt)
        (λ region u. let at_r = stands_local p facts has are inst shape_of types Sees (opened env) (started s) region (opened_stands types Sees env (started s) first) u in
        part_so (AreTurns p inst types at_r.apart shape_of Sees (with_local (opened env) region) at_r.place (started s)) (Shown Sees env)
        (turned (with_local (opened env) region) (started s) r).answer
        (λ t. all_stated (in_loop (with_local (opened env) ((key i, loop_parameter t.next.objects t.value) ∷ []))) (one_object_more q t.value.subtype t.next) q ss
        >>= (λ xs. rule (Some (one (tree.for_loop (statement_label s q) t.next.objects (is_reverse d) t.value.over (stmts_of xs.value)) xs.next))))
        (turned_known p inst types at_r.apart shape_of Sees (with_local (opened env) region) at_r.place (started s) r)
        (λ t h. let go = decided_go env.generic (started s) t.next h.only in
        let more = one_object_more q t.value.subtype t.next in
        let within = in_loop (with_local (opened env) ((key i, loop_parameter t.next.objects t.value) ∷ [])) in
        part_so (λ xs. Ahead env.generic more xs × ((f : Final env.generic more) → Shown (behind Sees t.next.objects) within xs)) (Shown Sees env)
        (all_stated within more q ss).answer
        (λ xs. rule (Some (one (tree.for_loop (statement_label s q) t.next.objects (is_reverse d) t.value.over (stmts_of xs.value)) xs.next)))
        (both_ok (Ahead env.generic more) (λ xs. (f : Final env.generic more) → Shown (behind Sees t.next.objects) within xs) (all_stated within more q ss).answer
        (all_lead p facts are inst shape_of within more q ss)
        (each_ok (λ (f : Final env.generic more) xs. Shown (behind Sees t.next.objects) within xs) (all_stated within more q ss).answer
        (λ f. all_known types (behind Sees t.next.objects) within more q ss (parameter_stands types Sees env (started s) t.next q i t.value first go h.subtype f) returns written)))
        (λ xs k all.
        let now = led types Sees env (started s) t.next first go in
        let at_more = k.0.back ((leads_parameter p facts are inst shape_of env.generic q t.value.subtype t.next).counted now.counted) all in (
          (
            subst IsScalar (sym (ap (λ n. shape_of (tree.local_object n)) now.counted ∙ at_more.shaped.0)) h.scalar,
            (h.over, k.1 at_more all),
          ),
          tt,
        )))))
    stated_known types Sees env s (text.exit q None) st returns written =
        answered (Shown Sees env) q _
        (stmt_known types Sees env s (started s) (statement_label s q) (where_allowed env.is_looping (tree.exit_statement (statement_label s q))) st
        (allowed Sees env env.is_looping (tree.exit_statement (statement_label s q)) (λ b. b)))
    stated_known types Sees env s (text.exit q (Some e)) st returns written =
        let first = led types Sees env s (started s) st (start env.generic s) in
        answered (Shown Sees env) q _
        (part_so (Tested Sees env (started s)) (Shown Sees env) (decision env (started s) q e).answer
        (λ t. typed_stmt env (statement_label s q) t.next (where_allowed env.is_looping (tree.exit_when (statement_label s q) t.value.0 t.value.1)))
        (test types Sees env (started s) q e first)
        (λ t h. stmt_known types Sees env s t.next (statement_label s q) (where_allowed env.is_looping (tree.exit_when (statement_label s q) t.value.0 t.value.1)) st
        (allowed Sees env env.is_looping (tree.exit_when (statement_label s q) t.value.0 t.value.1) (λ b. (b, h.1)))))
    stated_known types Sees env s (text.returns q None) st returns written =
        answered (Shown Sees env) q _
        (stmt_known types Sees env s (started s) (statement_label s q) (returned (statement_label s q) env.returning) st
        (returned_known p inst shape_of Sees types function env.is_looping env.is_handling (statement_label s q) env.returning returns))
    stated_known types Sees env s (text.returns q (Some e)) st returns written =
        let first = led types Sees env s (started s) st (start env.generic s) in
        answered (Shown Sees env) q _
        (part_so (GivesValue p inst types first.apart shape_of Sees env first.place (started s)) (Shown Sees env) (judged env itself (started s) e).answer
        (λ x. typed_stmt env (statement_label s q) x.next (returned_value (statement_label s q) x.value env.returning))
        (expression p inst types first.apart shape_of Sees env first.place (started s) e)
        (λ x h. stmt_known types Sees env s x.next (statement_label s q) (returned_value (statement_label s q) x.value env.returning) st
        (value_returned p facts has are inst shape_of types Sees env s st function env.is_looping env.is_handling (statement_label s q) x.value env.returning returns h.0)))
    stated_known types Sees env s (text.raise q None) st returns written =
        answered (Shown Sees env) q _
        (stmt_known types Sees env s (started s) (statement_label s q) (where_allowed env.is_handling (tree.raise_again (statement_label s q))) st
        (allowed Sees env env.is_handling (tree.raise_again (statement_label s q)) (λ b. b)))
    stated_known types Sees env s (text.raise q (Some n)) st returns written =
        let first = led types Sees env s (started s) st (start env.generic s) in
        answered (Shown Sees env) q _
        (part_so (GivesName p inst types first.apart shape_of Sees env first.place (started s)) (Shown Sees env) (denoted env (started s) n).answer
        (λ d. typed_stmt env (statement_label s q) d.next (option_map (tree.raise_statement (statement_label s q)) (exception_of d.value)))
        (name p inst types first.apart shape_of Sees env first.place (started s) n)
        (λ d h. stmt_known types Sees env s d.next (statement_label s q) (option_map (tree.raise_statement (statement_label s q)) (exception_of d.value)) st
        (if_map (IsException p inst shape_of) (One Sees env) (tree.raise_statement (statement_label s q)) (exception_of d.value)
        (exception_known p inst types shape_of Sees d.value h.0) (λ e k. k))))
    stated_known types Sees env s (text.block q ds h) st returns written =
        let inner = opened_stands types Sees env s st in
        answered (Shown Sees env) q _
        (part_so (λ x. LeadsOn p facts are inst shape_of env.generic s x
        × (Final env.generic x.next → AreAllMade p facts has are inst shape_of types Sees (opened env) x)) (Shown Sees env)
        (all_declared (opened env) s q (declarations_in ds)).answer
        (λ x. all_handled (with_local (opened env) x.region) x.next q h >>= (λ f. rule (Some (one (tree.block_statement (block_of x.made f.value)) f.next))))
        (both_ok (LeadsOn p facts are inst shape_of env.generic s) (λ x. Final env.generic x.next → AreAllMade p facts has are inst shape_of types Sees (opened env) x)
        (all_declared (opened env) s q (declarations_in ds)).answer (declarations_lead p facts are inst shape_of (opened env) s q (declarations_in ds))
        (declarations_known p facts has are inst shape_of types Sees (opened env) s q (declarations_in ds) inner refl (declared_texts ds written.0)))
        (λ x k. part_so
        (λ f. Ahead env.generic x.next f
        × ((now : Final env.generic x.next) → Final env.generic f.next → FrameShown (behind_all Sees x.made) (with_local (opened env) x.region) f.value))
        (Shown Sees env) (all_handled (with_local (opened env) x.region) x.next q h).answer
        (λ f. rule (Some (one (tree.block_statement (block_of x.made f.value)) f.next)))
        (both_ok (Ahead env.generic x.next)
        (λ f. (now : Final env.generic x.next) → Final env.generic f.next → FrameShown (behind_all Sees x.made) (with_local (opened env) x.region) f.value)
        (all_handled (with_local (opened env) x.region) x.next q h).answer (handled_lead p facts are inst shape_of (with_local (opened env) x.region) x.next q h)
        (each_ok (λ (now : Final env.generic x.next) f. Final env.generic f.next → FrameShown (behind_all Sees x.made) (with_local (opened env) x.region) f.value)
        (all_handled (with_local (opened env) x.region) x.next q h).answer
        (λ now. handled_known (with_types types (k.1 now).new) (behind_all Sees x.made) (with_local (opened env) x.region) x.next q h (k.1 now).stands
        (returns_more types (with_types types (k.1 now).new) (types_more types (k.1 now).new) env.returning returns) written.1)))
        (λ f l all.
        let now = l.0.back (k.0.counted st.counted) all in
        (((k.1 now).made, l.1 now all), tt))))

    pub all_known : (types : AdaType → Type 0) (Sees : tree.Object → Type 0) (env : Env) (s : State) (q : Pos) (xs : text.Statements) → Standing types Sees env s
        → Returns types env → AreStatementTexts xs → IfOk (all_stated env s q xs).answer (Shown Sees env)
    all_known types Sees env s q text.no_statements st returns written = λ all. tt
    all_known types Sees env s q (text.then_also x xs) st returns written =
        answered (Shown Sees env) q _
        (part_so (λ y. Ahead env.generic s y × Shown Sees env y) (Shown Sees env) (stated env s x).answer
        (λ y. all_stated env y.next q xs >>= (λ ys. rule (Some (given (y.value ++ ys.value) ys.next))))
        (both_ok (Ahead env.generic s) (Shown Sees env) (stated env s x).answer (stated_leads p facts are inst shape_of env s x)
        (stated_known types Sees env s x st returns written.0))
        (λ y h. let at_y = led types Sees env s y.next st h.0 in
        part_so (λ ys. Ahead env.generic y.next ys × Shown Sees env ys) (Shown Sees env) (all_stated env y.next q xs).answer
        (λ ys. rule (Some (given (y.value ++ ys.value) ys.next)))
        (both_ok (Ahead env.generic y.next) (Shown Sees env) (all_stated env y.next q xs).answer (all_lead p facts are inst shape_of env y.next q xs)
        (all_known types Sees env y.next q xs at_y returns written.1))
        (λ ys k all. statements_joined p inst shape_of Sees function env.is_looping env.is_handling y.value ys.value (h.1 (k.0.back at_y.counted all)) (k.1 all))))

    pub branches_shown : (types : AdaType → Type 0) (Sees : tree.Object → Type 0) (env : Env) (s : State) (q : Pos) (bs : text.Branches) → Standing types Sees env s
        → Returns types env → AreBranchTexts bs → IfOk (branched env s q bs).answer (BranchesShown Sees env)
    branches_shown types Sees env s q text.no_branches st returns written = λ all. tt
    branches_shown types Sees env s q (text.branch e ss bs) st returns written =
        answered (BranchesShown Sees env) q _
        (part_so (Tested Sees env s) (BranchesShown Sees env) (decision env s q e).answer
        (λ t. all_stated env t.next q ss >>= (λ xs. branched env xs.next q bs
        >>= (λ ys. rule (Some (given (record { label = t.value.0; test = t.value.1; statements = xs.value } ∷ ys.value) ys.next)))))
        (test types Sees env s q e st)
        (λ t h. let at_t = led types Sees env s t.next st h.0 in
        part_so (λ xs. Ahead env.generic t.next xs × Shown Sees env xs) (BranchesShown Sees env) (all_stated env t.next q ss).answer
        (λ xs. branched env xs.next q bs >>= (λ ys. rule (Some (given (record { label = t.value.0; test = t.value.1; statements = xs.value } ∷ ys.value) ys.next))))
        (both_ok (Ahead env.generic t.next) (Shown Sees env) (all_stated env t.next q ss).answer (all_lead p facts are inst shape_of env t.next q ss)
        (all_known types Sees env t.next q ss at_t returns written.0))
        (λ xs k. let at_x = led types Sees env t.next xs.next at_t k.0 in
        part_so (λ ys. Ahead env.generic xs.next ys × BranchesShown Sees env ys) (BranchesShown Sees env) (branched env xs.next q bs).answer
        (λ ys. rule (Some (given (record { label = t.value.0; test = t.value.1; statements = xs.value } ∷ ys.value) ys.next)))
        (both_ok (Ahead env.generic xs.next) (BranchesShown Sees env) (branched env xs.next q bs).answer (branches_lead p facts are inst shape_of env xs.next q bs)
        (branches_shown types Sees env xs.next q bs at_x returns written.1))
        (λ ys l all. ((h.1, k.1 (l.0.back at_x.counted all)), l.1 all)))))

    pub arms_shown : (types : AdaType → Type 0) (Sees : tree.Object → Type 0) (env : Env) (s : State) (x : Selector) (q : Pos) (rest : text.Alternatives)
        → Standing types Sees env s → Returns types env → AreAlternativeTexts rest → IfOk (all_arms env s x q rest).answer (ArmsShown Sees env)
    arms_shown types Sees env s x q text.no_alternatives st returns written = λ all. tt
    arms_shown types Sees env s x q (text.alternative cs ss rest) st returns written =
        answered (ArmsShown Sees env) q _
        (part_so (λ ds. Ahead env.generic s ds × AreAllChosen p facts has are inst shape_of types Sees env s st s cs ds) (ArmsShown Sees env) (all_chosen env s x q cs).answer
        (λ ds. all_stated env ds.next q ss >>= (λ xs. all_arms env xs.next x q rest
        >>= (λ ys. rule (Some (given (record { choices = ds.value; statements = xs.value } ∷ ys.value) ys.next)))))
        (both_ok (Ahead env.generic s) (AreAllChosen p facts has are inst shape_of types Sees env s st s cs) (all_chosen env s x q cs).answer
        (all_chosen_lead p facts are inst shape_of env s x q cs) (all_chosen_known p facts has are inst shape_of types Sees env s st s x q cs))
        (λ ds h. let at_d = led types Sees env s ds.next st h.0 in
        part_so (λ xs. Ahead env.generic ds.next xs × Shown Sees env xs) (ArmsShown Sees env) (all_stated env ds.next q ss).answer
        (λ xs. all_arms env xs.next x q rest >>= (λ ys. rule (Some (given (record { choices = ds.value; statements = xs.value } ∷ ys.value) ys.next))))
        (both_ok (Ahead env.generic ds.next) (Shown Sees env) (all_stated env ds.next q ss).answer (all_lead p facts are inst shape_of env ds.next q ss)
        (all_known types Sees env ds.next q ss at_d returns written.1.0))
        (λ xs k. let at_x = led types Sees env ds.next xs.next at_d k.0 in
        part_so (λ ys. Ahead env.generic xs.next ys × ArmsShown Sees env ys) (ArmsShown Sees env) (all_arms env xs.next x q rest).answer
        (λ ys. rule (Some (given (record { choices = ds.value; statements = xs.value } ∷ ys.value) ys.next)))
        (both_ok (Ahead env.generic xs.next) (ArmsShown Sees env) (all_arms env xs.next x q rest).answer (arms_lead p facts are inst shape_of env xs.next x q rest)
        (arms_shown types Sees env xs.next x q rest at_x returns written.1.1))
        (λ ys l all.
        let last = l.0.back at_x.counted all in
        let choices = k.0.back at_d.counted last in
        (((h.1.some written.0, h.1.choices choices.serves), k.1 last), l.1 all)))))

    pub handlers_shown : (types : AdaType → Type 0) (Sees : tree.Object → Type 0) (env : Env) (s : State) (q : Pos) (hs : text.Handlers) → Standing types Sees env s
        → Returns types env → AreHandlerTexts hs → IfOk (all_handlers env s q hs).answer (HandlersShown Sees env)
    handlers_shown types Sees env s q text.no_handlers st returns written = λ all. tt
    handlers_shown types Sees env s q (text.handler cs ss hs) st returns written =
        answered (HandlersShown Sees env) q _
        (part_so (λ ds. Ahead env.generic s ds × AreAllCaught p facts has are inst shape_of types Sees env s st cs ds) (HandlersShown Sees env)
        (all_caught env s (is_last hs && nat_eq (length cs) 1) q cs).answer
        (λ ds. all_stated (in_handler env) ds.next q ss >>= (λ xs. all_handlers env xs.next q hs
        >>= (λ ys. rule (Some (given (tree.handler ds.value (stmts_of xs.value) ys.value) ys.next)))))
        (both_ok (Ahead env.generic s) (AreAllCaught p facts has are inst shape_of types Sees env s st cs) (all_caught env s (is_last hs && nat_eq (length cs) 1) q cs).answer
        (all_caught_lead p facts are inst shape_of env s (is_last hs && nat_eq (length cs) 1) q cs)
        (all_caught_known p facts has are inst shape_of types Sees env s st s (is_last hs && nat_eq (length cs) 1) q cs))
        (λ ds h. let at_d = led types Sees env s ds.next st h.0 in
        part_so (λ xs. Ahead env.generic ds.next xs × Shown Sees (in_handler env) xs) (HandlersShown Sees env) (all_stated (in_handler env) ds.next q ss).answer
        (λ xs. all_handlers env xs.next q hs >>= (λ ys. rule (Some (given (tree.handler ds.value (stmts_of xs.value) ys.value) ys.next))))
        (both_ok (Ahead env.generic ds.next) (Shown Sees (in_handler env)) (all_stated (in_handler env) ds.next q ss).answer
        (all_lead p facts are inst shape_of (in_handler env) ds.next q ss)
        (all_known types Sees (in_handler env) ds.next q ss (in_handler_stands types Sees env ds.next at_d) returns written.1.0))
        (λ xs k. let at_x = led types Sees env ds.next xs.next at_d k.0 in
        part_so (λ ys. Ahead env.generic xs.next ys × HandlersShown Sees env ys) (HandlersShown Sees env) (all_handlers env xs.next q hs).answer
        (λ ys. rule (Some (given (tree.handler ds.value (stmts_of xs.value) ys.value) ys.next)))
        (both_ok (Ahead env.generic xs.next) (HandlersShown Sees env) (all_handlers env xs.next q hs).answer (handlers_lead p facts are inst shape_of env xs.next q hs)
        (handlers_shown types Sees env xs.next q hs at_x returns written.1.1))
        (λ ys l all. ((h.1.some written.0, h.1.choices), (k.1 (l.0.back at_x.counted all), l.1 all))))))

    pub handled_known : (types : AdaType → Type 0) (Sees : tree.Object → Type 0) (env : Env) (s : State) (q : Pos) (h : text.Handled) → Standing types Sees env s
        → Returns types env → IsHandledText h → IfOk (all_handled env s q h).answer (λ f. Final env.generic f.next → FrameShown Sees env f.value)
    handled_known types Sees env s q (text.handled ss hs) st returns written =
        answered (λ f. Final env.generic f.next → FrameShown Sees env f.value) q
        (outcome_after (all_stated env s q ss).answer
        (λ xs. all_handlers env xs.next q hs >>= (λ ys. rule (Some (given (record { statements = xs.value; handlers = ys.value }) ys.next)))))
        (part_so (λ xs. Ahead env.generic s xs × Shown Sees env xs) (λ f. Final env.generic f.next → FrameShown Sees env f.value) (all_stated env s q ss).answer
        (λ xs. all_handlers env xs.next q hs >>= (λ ys. rule (Some (given (record { statements = xs.value; handlers = ys.value }) ys.next))))
        (both_ok (Ahead env.generic s) (Shown Sees env) (all_stated env s q ss).answer (all_lead p facts are inst shape_of env s q ss)
        (all_known types Sees env s q ss st returns written.0))
        (λ xs h. let at_x = led types Sees env s xs.next st h.0 in
        part_so (λ ys. Ahead env.generic xs.next ys × HandlersShown Sees env ys) (λ f. Final env.generic f.next → FrameShown Sees env f.value) (all_handlers env xs.next q hs).answer
        (λ ys. rule (Some (given (record { statements = xs.value; handlers = ys.value }) ys.next)))
        (both_ok (Ahead env.generic xs.next) (HandlersShown Sees env) (all_handlers env xs.next q hs).answer (handlers_lead p facts are inst shape_of env xs.next q hs)
        (handlers_shown types Sees env xs.next q hs at_x returns written.1))
        (λ ys k all. (h.1 (k.0.back at_x.counted all), k.1 all))))
