-- Objects of a subprogram have types: what declarations and loops declare is of a known subtype.
use Rattle.std.proofs.Common.{◌≡◌, ℕ, nat_eq, true, false, ◌&&◌, List, [], ◌∷◌, ◌++◌, length, Option, Some, None, option_map, IfSome, IfOk, refl, sym, ap, ◌∙◌, subst, inr}
use Rattle.cov_base.specs.declared.position.Pos.{Pos}
use Rattle.cov_base.specs.Lists.{Everywhere}
use Rattle.ada_syntax.specs.StatementTree as text
use Rattle.ada_syntax.specs.declared.declaration.Constancy.{Constancy}
use Rattle.ada_syntax.specs.declared.declaration.Declaration.{Declaration}
use Rattle.ada_syntax.specs.declared.declaration.DeclarationKind.{DeclarationKind}
use Rattle.ada_syntax.specs.declared.declaration.DeclarationKind.TheVariants as declares
use Rattle.ada_syntax.specs.declared.declaration.Initial.{Initial}
use Rattle.ada_syntax.specs.declared.name.Identifier.{Identifier}
use Rattle.ada_syntax.specs.declared.statement.LoopScheme.TheVariants as scheme
use Rattle.ada_meaning.specs.Program.{Program}
use Rattle.ada_meaning.specs.Resolved.{shape_in}
use Rattle.ada_meaning.specs.Shape.{Shape}
use Rattle.ada_meaning.specs.Tree as tree
use Rattle.ada_meaning.specs.Types.{Subtype}
use Rattle.ada_meaning.specs.WellFormed.{IsType, behind, behind_all}
use Rattle.ada_rules.specs.Plan.{◌>>=◌, rule}
use Rattle.ada_rules.specs.Types.{AdaType, AdaSubtype, subtype_in_tree}
use Rattle.ada_rules.specs.Entities.{key, raisable, Region, redefined}
use Rattle.ada_rules.specs.Environment.{typed_rule, Words, State, Given, given, Env, owner_of, with_local, opened, in_loop, in_handler, new_identity, one_type_more, hide, hide_all, statement_label, started}
use Rattle.ada_rules.specs.Expressions.{itself, denoted, judged, decision}
use Rattle.ada_rules.specs.Declarations.{indicated, defined, new_value, Declared, may_be_bare, one_name, known_constant, lying_in, word_of, counted, local_bare, local_set, objects_declared, exception_declared, exceptions_from, type_declared, subtype_declared, kind_declared, declared, all_declared}
use Rattle.ada_rules.specs.Statements.{stmts_of, one, target, call_of, branches_of, Selector, selector, all_chosen, case_of, turned, loop_parameter, one_object_more, is_reverse, returned, returned_value, exception_of, where_allowed, all_caught, is_last, declarations_in, block_of, typed_stmt, stated, all_stated, branched, all_arms, all_handlers, all_handled, ends_with_others}
use Rattle.ada_rules.specs.Statics.{Facts}
use Rattle.legal_laws.specs.Bounded.{IsBounded}
use Rattle.legal_laws.specs.Kept.{OnlyDecides, OnlyStatics}
use Rattle.legal_laws.specs.Known.{IsKnownSubtype, IsRegion}
use Rattle.legal_laws.specs.Served.{IsFinal}
use Rattle.legal_laws.specs.Standing.{with_types, Stands}
use Rattle.legal_laws.specs.Valued.{AreFactsInBase, HaveFacts}
use Rattle.legal_laws.specs.Written.{AreWritten, IsStatementText, AreStatementTexts, AreBranchTexts, AreAlternativeTexts, AreHandlerTexts, IsHandledText}
use Rattle.legal_laws.proofs.Passing.{IfPassed, if_map, if_test, answered, part_so, typed_so, typed_either, both_ok, each_ok, any_answer}
use Rattle.legal_laws.proofs.KeptStatics.{Behind, expression_keeps, indicated_keeps, new_value_keeps, defined_keeps, name_keeps, decision_keeps, target_keeps, selector_keeps, all_chosen_keep, all_caught_keep, decides_statics}
use Rattle.legal_laws.proofs.KnownDeclarations.{AreMade, declaration_known, AreAllMade, declarations_known, stands_led, stands_local}
use Rattle.legal_laws.proofs.KnownObjects.{constant_keeps}
use Rattle.legal_laws.proofs.KnownRegions.{hidden_known, all_hidden_known, local_known}
use Rattle.legal_laws.proofs.KnownStatements.{declared_texts, in_loop_stands, in_handler_stands, opened_stands, parameter_stands}
use Rattle.legal_laws.proofs.KnownStatics.{IsIndicated, indicated_known}
use Rattle.legal_laws.proofs.KnownBounds.{known_bounded}
use Rattle.legal_laws.proofs.KnownTypes.{subtype_is_type}
use Rattle.legal_laws.proofs.KnownValues.{AreTurns, turned_known}
use Rattle.legal_laws.proofs.Leading.{Leads, leads_decides, leads_started, leads_objects, Lead, new_value_leads, set_leads, declaration_leads, declarations_lead}
use Rattle.legal_laws.proofs.LeadingStatements.{leads_parameter, stated_leads, all_lead, branches_lead, arms_lead, handlers_lead, handled_lead, decision_leads, selector_leads, all_chosen_lead, all_caught_lead}
use Rattle.legal_laws.proofs.NumberedObjects.{inside_only, mapped_any}

exceptions_words : (env : Env) (s : State) (region : Region) (is : List Identifier) → (exceptions_from env s region is).next.words ≡ s.words
exceptions_words env s region [] = refl
exceptions_words env s region (i ∷ is) = exceptions_words env (exception_declared env i s) (redefined (key i) (raisable (tree.declared (owner_of env) s.exceptions)) region) is

module _ (p : Program) (facts : List Facts) (has : HaveFacts p.instances facts) (are : Everywhere AreFactsInBase facts) (inst : ℕ) (shape_of : tree.Object → Shape) where
  abbrev Final : Option ℕ → State → Type 0
  Final o s = IsFinal facts inst p shape_of o s

  abbrev Standing : (AdaType → Type 0) → (tree.Object → Type 0) → Env → State → Type 0
  Standing types Sees env s = Stands p inst shape_of types Sees env s

  abbrev Go : Option ℕ → State → State → Type 0
  Go o s t = Leads p facts are inst shape_of o s t

  abbrev Ahead : {A : Type 0} → Option ℕ → State → Given A → Type 0
  Ahead o s g = Lead p facts are inst shape_of o s g

  -- a type of the program, with bounds
  abbrev pub IsOwnType : Subtype → Type 0
  IsOwnType t = IsType (shape_in p inst t) × IsBounded p inst t

  abbrev pub AreTyped : List Words → Type 0
  AreTyped ws = Everywhere (λ w. IsOwnType w.subtype) ws

  abbrev pub Typed : State → State → Type 0
  Typed s t = AreTyped s.words → AreTyped t.words

  typed_same : (s t : State) → t.words ≡ s.words → Typed s t
  typed_same s t e h = subst AreTyped (sym e) h

  typed_statics : (s t : State) → OnlyStatics s t → Typed s t
  typed_statics s t only = typed_same s t (ap (λ x. x.words) only)

  pub counted_typed : (t : AdaSubtype) (is : List Identifier) (ws : List Words) → IsOwnType (subtype_in_tree t) → AreTyped ws → AreTyped (counted t is ws)
  counted_typed t [] ws h all = all
  counted_typed t (i ∷ is) ws h all = counted_typed t is (word_of t i ∷ ws) h (h, all)

  -- what a construct declares
  abbrev TypedOn : Option ℕ → State → Declared → Type 0
  TypedOn o s x = Final o x.next → Typed s x.next

  abbrev TypedBy : {A : Type 0} → Option ℕ → State → Given A → Type 0
  TypedBy o s g = Final o g.next → Typed s g.next

  module _ (types : AdaType → Type 0) (Sees : tree.Object → Type 0) (env : Env) (s : State) (st : Standing types Sees env s) (inside : env.is_library ≡ false) where
    abbrev Indicated : (region : Region) → IsRegion p inst types shape_of Sees region → Given AdaSubtype → Type 0
    Indicated region h x =
        IsIndicated p facts has are inst types st.apart shape_of Sees (with_local env region) (local_known p inst types shape_of Sees env region st.place h) st.world s x

    is_typed : (t : AdaSubtype) → IsKnownSubtype p inst types t → IsOwnType (subtype_in_tree t)
    is_typed t h = (subtype_is_type p inst types st.apart t h, known_bounded p inst types t h)

    now : (t : State) → OnlyStatics s t → t.objects ≡ length t.words
    now t only = ap (λ x. x.objects) only ∙ st.counted ∙ sym (ap (λ x. length x.words) only)

    objects_typed : (q : Pos) (c : Constancy) (region : Region) (h : IsRegion p inst types shape_of Sees region) (is : List Identifier) (x : Given AdaSubtype)
        (i : Option Initial) → Indicated region h x → IfPassed (objects_declared env q c region is x i).outcome (TypedOn env.generic s)
    objects_typed q c region h is x None k =
        inside_only (TypedOn env.generic s) env.is_library _ _ inside
        (typed_so (TypedOn env.generic s) env.step (local_bare c region is x) (option_map (λ u. local_bare c region is x) (may_be_bare c)) st.place.step
        (mapped_any (TypedOn env.generic s) (may_be_bare c) (local_bare c region is x)
        (λ all ws. let first = (leads_objects p facts are inst shape_of env.generic x.value is x.next).back (now x.next k.only) all in
        counted_typed x.value is x.next.words (is_typed x.value (k.subtype first.serves)) (typed_statics s x.next k.only ws))))
    objects_typed q c region h is x (Some i) k =
        inside_only (TypedOn env.generic s) env.is_library _ _ inside
        (part_so (λ v. Behind x.next v × Ahead env.generic x.next v) (TypedOn env.generic s) (new_value (with_local env region) x.next q x.value i).answer
        (λ v. typed_rule env.step (local_set env q c region is x.value v) (option_map (λ u. local_set env q c region is x.value v) (one_name is)))
        (both_ok (Behind x.next) (Ahead env.generic x.next) (new_value (with_local env region) x.next q x.value i).answer
        (new_value_keeps (with_local env region) x.next q x.value i) (new_value_leads p facts are inst shape_of (with_local env region) x.next q x.value i))
        (λ v g. typed_so (TypedOn env.generic s) env.step _ _ st.place.step
        (mapped_any (TypedOn env.generic s) (one_name is) (local_set env q c region is x.value v)
        (λ all ws. let first = (set_leads p facts are inst shape_of env q c region is x.value v x.next g.1).back (now x.next k.only) all in
        let y = known_constant env c x.value (lying_in env x.value) v.value.known v.next in
        counted_typed x.value is y.next.words (is_typed x.value (k.subtype first.serves))
        (typed_statics v.next y.next (constant_keeps env c x.value (lying_in env x.value) v.value.known v.next)
        (typed_statics x.next v.next g.0 (typed_statics s x.next k.only ws)))))))

    kind_typed : (q : Pos) (d : DeclarationKind) → IfPassed (kind_declared env s q d).outcome (TypedOn env.generic s)
    kind_typed q (declares.Type i d) =
        part_so (λ x. Unit {0}) (TypedOn env.generic s) (hide env.local i).answer
        (λ region. defined (with_local env region) (one_type_more s) q (new_identity env s) d >>= (λ x. rule (Some (type_declared env q i (new_identity env s) x))))
        (any_answer (hide env.local i).answer)
        (λ region u. part_so (Behind (one_type_more s)) (TypedOn env.generic s) (defined (with_local env region) (one_type_more s) q (new_identity env s) d).answer
        (λ x. rule (Some (type_declared env q i (new_identity env s) x))) (defined_keeps (with_local env region) (one_type_more s) q (new_identity env s) d)
        (λ x h all. typed_statics (one_type_more s) x.next h))
    kind_typed q (declares.Subtype i t) =
        part_so (λ x. Unit {0}) (TypedOn env.generic s) (hide env.local i).answer
        (λ region. indicated (with_local env region) (one_type_more s) t >>= (λ x. rule (Some (subtype_declared i region (new_identity env s) x))))
        (any_answer (hide env.local i).answer)
        (λ region u. part_so (Behind (one_type_more s)) (TypedOn env.generic s) (indicated (with_local env region) (one_type_more s) t).answer
        (λ x. rule (Some (subtype_declared i region (new_identity env s) x))) (indicated_keeps (with_local env region) (one_type_more s) t)
        (λ x h all. typed_statics (one_type_more s) x.next h))
    kind_typed q (declares.Object is c t i) =
        part_so (IsRegion p inst types shape_of Sees) (TypedOn env.generic s) (hide_all q env.local is).answer
        (λ region. indicated (with_local env region) s t >>= (λ x. objects_declared env q c region is x i))
        (all_hidden_known p inst types shape_of Sees q env.local is st.place.regions.0)
        (λ region h. part_so (Indicated region h) (TypedOn env.generic s) (indicated (with_local env region) s t).answer
        (λ x. objects_declared env q c region is x i)
        (indicated_known p facts has are inst types st.apart shape_of Sees (with_local env region) (local_known p inst types shape_of Sees env region st.place h) st.world s t)
        (λ x k. objects_typed q c region h is x i k))
    kind_typed q (declares.Exception is) =
        part_so (λ x. Unit {0}) (TypedOn env.generic s) (hide_all q env.local is).answer (λ region. rule (Some (exceptions_from env s region is)))
        (any_answer (hide_all q env.local is).answer)
        (λ region u all. typed_same s (exceptions_from env s region is).next (exceptions_words env s region is))
    kind_typed q (declares.Pragma a) = λ all ws. ws

    declaration_typed : (d : Declaration) → IfOk (declared env s d).answer (TypedOn env.generic s)
    declaration_typed d = answered (TypedOn env.generic s) d.pos (kind_declared env s d.pos d.kind).outcome (kind_typed d.pos d.kind)

  pub declarations_typed : (types : AdaType → Type 0) (Sees : tree.Object → Type 0) (env : Env) (s : State) (q : Pos) (ds : List Declaration)
      → Standing types Sees env s → env.is_library ≡ false → AreWritten ds → IfOk (all_declared env s q ds).answer (TypedOn env.generic s)
  declarations_typed types Sees env s q [] st inside written = λ all ws. ws
  declarations_typed types Sees env s q (d ∷ ds) st inside written =
      answered (TypedOn env.generic s) q _
      (part_so (λ x. (AreMade p facts has are inst shape_of types Sees env s x × Go env.generic s x.next) × TypedOn env.generic s x) (TypedOn env.generic s) (declared env s d).answer
      (λ x. all_declared (with_local env x.region) x.next q ds >>= (λ xs. rule (Some (record { region = xs.region; next = xs.next; made = x.made ++ xs.made }))))
      (both_ok (λ x. AreMade p facts has are inst shape_of types Sees env s x × Go env.generic s x.next) (TypedOn env.generic s) (declared env s d).answer
      (both_ok (AreMade p facts has are inst shape_of types Sees env s) (λ x. Go env.generic s x.next) (declared env s d).answer
      (declaration_known p facts has are inst shape_of types Sees env s st inside d written.0) (declaration_leads p facts are inst shape_of env s d))
      (declaration_typed types Sees env s st inside d))
      (λ x h. part_so (λ xs. Go env.generic x.next xs.next × ((f : Final env.generic x.next) → TypedOn env.generic x.next xs)) (TypedOn env.generic s)
      (all_declared (with_local env x.region) x.next q ds).answer
      (λ xs. rule (Some (record { region = xs.region; next = xs.next; made = x.made ++ xs.made })))
      (both_ok (λ xs. Go env.generic x.next xs.next) (λ xs. (f : Final env.generic x.next) → TypedOn env.generic x.next xs)
      (all_declared (with_local env x.region) x.next q ds).answer (declarations_lead p facts are inst shape_of (with_local env x.region) x.next q ds)
      (each_ok (λ (f : Final env.generic x.next) xs. TypedOn env.generic x.next xs) (all_declared (with_local env x.region) x.next q ds).answer
      (λ f. declarations_typed (with_types types h.0.0.new) (behind_all Sees x.made) (with_local env x.region) x.next q ds (h.0.0.stands f) inside written.1)))
      (λ xs k all ws. let first = k.0.back (h.0.1.counted st.counted) all in k.1 first all (h.1 first ws))))

  led : (types : AdaType → Type 0) (Sees : tree.Object → Type 0) (env : Env) (s t : State) → Standing types Sees env s → Go env.generic s t → Standing types Sees env t
  led types Sees env s t st go = stands_led p facts has are inst shape_of types Sees env env.generic s t st go

  start : (o : Option ℕ) (s : State) → Go o s (started s)
  start o s = leads_started p facts are inst shape_of o s

  -- where only static expressions changed the state
  stmt_typed : (env : Env) (s t : State) (l : tree.Label) (x : Option tree.Stmt) → t.words ≡ s.words → IfPassed (typed_stmt env l t x).outcome (TypedBy env.generic s)
  stmt_typed env s t l x e =
      typed_either (TypedBy env.generic s) env.step (one (tree.null_statement l) t) (option_map (λ y. one y t) x) (λ all. typed_same s t e)
      (if_map (λ y. Unit {0}) (TypedBy env.generic s) (λ y. one y t) x (any_of x) (λ y k all. typed_same s t e))
    where
      any_of : (x : Option tree.Stmt) → IfSome x (λ y. Unit {0})
      any_of None = tt
      any_of (Some y) = tt

  words_of : (s t : State) → OnlyStatics s t → t.words ≡ s.words
  words_of s t only = ap (λ x. x.words) only

  -- parts with the states behind them
  abbrev Both : {A : Type 0} → Option ℕ → State → Given A → Type 0
  Both o s g = Ahead o s g × TypedBy o s g

  abbrev Kept : {A : Type 0} → Option ℕ → State → Given A → Type 0
  Kept o s g = Ahead o s g × Behind s g

  kept : (o : Option ℕ) (s : State) {A : Type 0} (g : Given A) → OnlyDecides s g.next → Kept o s g
  kept o s g h = (leads_decides p facts are inst shape_of o s g.next h, decides_statics s g.next h)

  mutual
    pub stated_typed : (types : AdaType → Type 0) (Sees : tree.Object → Type 0) (env : Env) (s : State) (x : text.Statement) → Standing types Sees env s
        → IsStatementText x → IfOk (stated env s x).answer (TypedBy env.generic s)
    stated_typed types Sees env s (text.null q) st written = λ all ws. ws
    stated_typed types Sees env s (text.assignment q n i) st written =
        answered (TypedBy env.generic s) q _
        (part_so (Behind (started s)) (TypedBy env.generic s) (target env (started s) n).answer
        (λ v. new_value env v.next q v.value.subtype i >>= (λ x. rule (Some (one (tree.assignment (statement_label s q) v.value.object v.value.parts x.value.value) x.next))))
        (target_keeps env (started s) n)
        (λ v h. part_so (Behind v.next) (TypedBy env.generic s) (new_value env v.next q v.value.subtype i).answer
        (λ x. rule (Some (one (tree.assignment (statement_label s q) v.value.object v.value.parts x.value.value) x.next)))
        (new_value_keeps env v.next q v.value.subtype i)
        (λ x k all. typed_same s x.next (words_of v.next x.next k ∙ words_of (started s) v.next h))))
    stated_typed types Sees env s (text.call q n) st written =
        answered (TypedBy env.generic s) q _
        (part_so (Behind (started s)) (TypedBy env.generic s) (denoted env (started s) n).answer
        (λ d. typed_stmt env (statement_label s q) d.next (call_of (statement_label s q) d.value)) (name_keeps env (started s) n)
        (λ d h. stmt_typed env s d.next (statement_label s q) (call_of (statement_label s q) d.value) (words_of (started s) d.next h)))
    stated_typed types Sees env s (text.exemption q a) st written = λ all ws. ws
    stated_typed types Sees env s (text.conditional q e ss bs es) st written =
        let first = led types Sees env s (started s) st (start env.generic s) in
        answered (TypedBy env.generic s) q _
        (part_so (Kept env.generic (started s)) (TypedBy env.generic s) (decision env (started s) q e).answer
        (λ t. all_stated env t.next q ss >>= (λ xs. branched env xs.next q bs >>= (λ ys. all_stated env ys.next q es
        >>= (λ zs. rule (Some (one (tree.if_statement (statement_label s q) (tree.branch t.value.0 t.value.1 (stmts_of xs.value) (branches_of ys.value zs.value))) zs.next))))))
        (both_ok (Ahead env.generic (started s)) (Behind (started s)) (decision env (started s) q e).answer
        (decision_leads p facts are inst shape_of env (started s) q e) (decision_keeps env (started s) q e))
        (λ t h. let at_t = led types Sees env (started s) t.next first h.0 in
        part_so (Both env.generic t.next) (TypedBy env.generic s) (all_stated env t.next q ss).answer
        (λ xs. branched env xs.next q bs >>= (λ ys. all_stated env ys.next q es
        >>= (λ zs. rule (Some (one (tree.if_statement (statement_label s q) (tree.branch t.value.0 t.value.1 (stmts_of xs.value) (branches_of ys.value zs.value))) zs.next)))))
        (both_ok (Ahead env.generic t.next) (TypedBy env.generic t.next) (all_stated env t.next q ss).answer (all_lead p facts are inst shape_of env t.next q ss)
        (all_typed types Sees env t.next q ss at_t written.0))
        (λ xs k. let at_x = led types Sees env t.next xs.next at_t k.0 in
        part_so (Both env.generic xs.next) (TypedBy env.generic s) (branched env xs.next q bs).answer
        (λ ys. all_stated env ys.next q es
        >>= (λ zs. rule (Some (one (tree.if_statement (statement_label s q) (tree.branch t.value.0 t.value.1 (stmts_of xs.value) (branches_of ys.value zs.value))) zs.next))))
        (both_ok (Ahead env.generic xs.next) (TypedBy env.generic xs.next) (branched env xs.next q bs).answer (branches_lead p facts are inst shape_of env xs.next q bs)
        (branches_typed types Sees env xs.next q bs at_x written.1.0))
        (λ ys l. let at_y = led types Sees env xs.next ys.next at_x l.0 in
        part_so (Both env.generic ys.next) (TypedBy env.generic s) (all_stated env ys.next q es).answer
        (λ zs. rule (Some (one (tree.if_statement (statement_label s q) (tree.branch t.value.0 t.value.1 (stmts_of xs.value) (branches_of ys.value zs.value))) zs.next)))
        (both_ok (Ahead env.generic ys.next) (TypedBy env.generic ys.next) (all_stated env ys.next q es).answer (all_lead p facts are inst shape_of env ys.next q es)
        (all_typed types Sees env ys.next q es at_y written.1.1))
        (λ zs m all ws.
        let at_ys = m.0.back at_y.counted all in
        let at_xs = l.0.back at_x.counted at_ys in
        m.1 all (l.1 at_ys (k.1 at_xs (typed_statics (started s) t.next h.1 ws))))))))
    stated_typed types Sees env s (text.case_of q e alternatives) st written =
        let first = led types Sees env s (started s) st (start env.generic s) in
        answered (TypedBy env.generic s) q _
        (part_so (Kept env.generic (started s)) (TypedBy env.generic s) (selector env (started s) e).answer
        (λ x. all_arms env x.next x.value q alternatives
        >>= (λ arms. typed_rule env.step (one (tree.null_statement (statement_label s q)) arms.next) (case_of env s q x.value arms)))
        (both_ok (Ahead env.generic (started s)) (Behind (started s)) (selector env (started s) e).answer
        (selector_leads p facts are inst shape_of env (started s) e) (selector_keeps env (started s) e))
        (λ x h. let at_x = led types Sees env (started s) x.next first h.0 in
        part_so (Both env.generic x.next) (TypedBy env.generic s) (all_arms env x.next x.value q alternatives).answer
        (λ arms. typed_rule env.step (one (tree.null_statement (statement_label s q)) arms.next) (case_of env s q x.value arms))
        (both_ok (Ahead env.generic x.next) (TypedBy env.generic x.next) (all_arms env x.next x.value q alternatives).answer
        (arms_lead p facts are inst shape_of env x.next x.value q alternatives) (arms_typed types Sees env x.next x.value q alternatives at_x written))
        (λ arms k. typed_so (TypedBy env.generic s) env.step (one (tree.null_statement (statement_label s q)) arms.next) (case_of env s q x.value arms) st.place.step
        (if_test (TypedBy env.generic s) (ends_with_others arms.value) _
        (λ b all ws. k.1 (record {
          serves = record { met = λ d i g. all.serves.met d (inr i) g; constants = all.serves.constants; limits = all.serves.limits };
          shaped = all.shaped;
          listed = all.listed;
        }) (typed_statics (started s) x.next h.1 ws))))))
    stated_typed types Sees env s (text.repeat q scheme.Forever ss) st written =
        let first = led types Sees env s (started s) st (start env.generic s) in
        answered (TypedBy env.generic s) q _
        (part_so (TypedBy env.generic (started s)) (TypedBy env.generic s) (all_stated (in_loop env) (started s) q ss).answer
        (λ xs. rule (Some (one (tree.bare_loop (statement_label s q) (stmts_of xs.value)) xs.next)))
        (all_typed types Sees (in_loop env) (started s) q ss (in_loop_stands p facts has are inst shape_of true types Sees env (started s) first) written)
        (λ xs h. h))
    stated_typed types Sees env s (text.repeat q (scheme.While e) ss) st written =
        let first = led types Sees env s (started s) st (start env.generic s) in
        answered (TypedBy env.generic s) q _
        (part_so (Kept env.generic (started s)) (TypedBy env.generic s) (decision env (started s) q e).answer
        (λ t. all_stated (in_loop env) t.next q ss >>= (λ xs. rule (Some (one (tree.while_loop (statement_label s q) t.value.0 t.value.1 (stmts_of xs.value)) xs.next))))
        (both_ok (Ahead env.generic (started s)) (Behind (started s)) (decision env (started s) q e).answer
        (decision_leads p facts are inst shape_of env (started s) q e) (decision_keeps env (started s) q e))
        (λ t h. part_so (TypedBy env.generic t.next) (TypedBy env.generic s) (all_stated (in_loop env) t.next q ss).answer
        (λ xs. rule (Some (one (tree.while_loop (statement_label s q) t.value.0 t.value.1 (stmts_of xs.value)) xs.next)))
        (all_typed types Sees (in_loop env) t.next q ss
        (in_loop_stands p facts has are inst shape_of true types Sees env t.next (led types Sees env (started s) t.next first h.0)) written)
        (λ xs k all ws. k all (typed_statics (started s) t.next h.1 ws))))
    stated_typed types Sees env s (text.repeat q (scheme.For i d r) ss) st written =
        let first = led types Sees env s (started s) st (start env.generic s) in
        answered (TypedBy env.generic s) q _
        (part_so (IsRegion p inst types shape_of Sees) (TypedBy env.generic s) (hide [] i).answer
        (λ region. turned (with_local (opened env) region) (started s) r
        >>= (λ t. all_stated (in_loop (with_local (opened env) ((key i, loop_parameter t.next.objects t.value) ∷ []))) (one_object_more q t.value.subtype t.next) q ss
        >>= (λ xs. rule (Some (one (tree.for_loop (statement_label s q) t.next.objects (is_reverse d) t.value.over (stmts_of xs.value)) xs.next)))))
        (hidden_known p inst types shape_of Sees [] i tt)
        (λ region u. let at_r = stands_local p facts has are inst shape_of types Sees (opened env) (started s) region
        (opened_stands p facts has are inst shape_of true types Sees env (started s) first) u in
        part_so (AreTurns p inst types at_r.apart shape_of Sees (with_local (opened env) region) at_r.place (started s)) (TypedBy env.generic s)
        (turned (with_local (opened env) region) (started s) r).answer
        (λ t. all_stated (in_loop (with_local (opened env) ((key i, loop_parameter t.next.objects t.value) ∷ []))) (one_object_more q t.value.subtype t.next) q ss
        >>= (λ xs. rule (Some (one (tree.for_loop (statement_label s q) t.next.objects (is_reverse d) t.value.over (stmts_of xs.value)) xs.next))))
        (turned_known p inst types at_r.apart shape_of Sees (with_local (opened env) region) at_r.place (started s) r)
        (λ t h. let go = leads_decides p facts are inst shape_of env.generic (started s) t.next h.only in
        let more = one_object_more q t.value.subtype t.next in
        let within = in_loop (with_local (opened env) ((key i, loop_parameter t.next.objects t.value) ∷ [])) in
        part_so (λ xs. Ahead env.generic more xs × ((f : Final env.generic more) → TypedBy env.generic more xs)) (TypedBy env.generic s)
        (all_stated within more q ss).answer
        (λ xs. rule (Some (one (tree.for_loop (statement_label s q) t.next.objects (is_reverse d) t.value.over (stmts_of xs.value)) xs.next)))
        (both_ok (Ahead env.generic more) (λ xs. (f : Final env.generic more) → TypedBy env.generic more xs) (all_stated within more q ss).answer
        (all_lead p facts are inst shape_of within more q ss)
        (each_ok (λ (f : Final env.generic more) xs. TypedBy env.generic more xs) (all_stated within more q ss).answer
        (λ f. all_typed types (behind Sees t.next.objects) within more q ss
        (parameter_stands p facts has are inst shape_of true types Sees env (started s) t.next q i t.value first go h.subtype f) written)))
        (λ xs k all ws.
        let here = led types Sees env (started s) t.next first go in
        let at_more = k.0.back ((leads_parameter p facts are inst shape_of env.generic q t.value.subtype t.next).counted here.counted) all in
        k.1 at_more all (
          (subtype_is_type p inst types st.apart t.value.subtype h.subtype, known_bounded p inst types t.value.subtype h.subtype),
          typed_statics (started s) t.next (decides_statics (started s) t.next h.only) ws,
        )))))
    stated_typed types Sees env s (text.exit q None) st written =
        answered (TypedBy env.generic s) q _
        (stmt_typed env s (started s) (statement_label s q) (where_allowed env.is_looping (tree.exit_statement (statement_label s q))) refl)
    stated_typed types Sees env s (text.exit q (Some e)) st written =
        answered (TypedBy env.generic s) q _
        (part_so (Behind (started s)) (TypedBy env.generic s) (decision env (started s) q e).answer
        (λ t. typed_stmt env (statement_label s q) t.next (where_allowed env.is_looping (tree.exit_when (statement_label s q) t.value.0 t.value.1)))
        (decision_keeps env (started s) q e)
        (λ t h. stmt_typed env s t.next (statement_label s q) (where_allowed env.is_looping (tree.exit_when (statement_label s q) t.value.0 t.value.1))
        (words_of (started s) t.next h)))
    stated_typed types Sees env s (text.returns q None) st written =
        answered (TypedBy env.generic s) q _
        (stmt_typed env s (started s) (statement_label s q) (returned (statement_label s q) env.returning) refl)
    stated_typed types Sees env s (text.returns q (Some e)) st written =
        answered (TypedBy env.generic s) q _
        (part_so (Behind (started s)) (TypedBy env.generic s) (judged env itself (started s) e).answer
        (λ x. typed_stmt env (statement_label s q) x.next (returned_value (statement_label s q) x.value env.returning)) (expression_keeps env (started s) e)
        (λ x h. stmt_typed env s x.next (statement_label s q) (returned_value (statement_label s q) x.value env.returning) (words_of (started s) x.next h)))
    stated_typed types Sees env s (text.raise q None) st written =
        answered (TypedBy env.generic s) q _
        (stmt_typed env s (started s) (statement_label s q) (where_allowed env.is_handling (tree.raise_again (statement_label s q))) refl)
    stated_typed types Sees env s (text.raise q (Some n)) st written =
        answered (TypedBy env.generic s) q _
        (part_so (Behind (started s)) (TypedBy env.generic s) (denoted env (started s) n).answer
        (λ d. typed_stmt env (statement_label s q) d.next (option_map (tree.raise_statement (statement_label s q)) (exception_of d.value)))
        (name_keeps env (started s) n)
        (λ d h. stmt_typed env s d.next (statement_label s q) (option_map (tree.raise_statement (statement_label s q)) (exception_of d.value)) (words_of (started s) d.next h)))
    stated_typed types Sees env s (text.block q ds h) st written =
        let inner = opened_stands p facts has are inst shape_of true types Sees env s st in
        answered (TypedBy env.generic s) q _
        (part_so (λ x. (Go env.generic s x.next × TypedOn env.generic s x) × (Final env.generic x.next → AreAllMade p facts has are inst shape_of types Sees (opened env) x))
        (TypedBy env.generic s) (all_declared (opened env) s q (declarations_in ds)).answer
        (λ x. all_handled (with_local (opened env) x.region) x.next q h >>= (λ f. rule (Some (one (tree.block_statement (block_of x.made f.value)) f.next))))
        (both_ok (λ x. Go env.generic s x.next × TypedOn env.generic s x) (λ x. Final env.generic x.next → AreAllMade p facts has are inst shape_of types Sees (opened env) x)
        (all_declared (opened env) s q (declarations_in ds)).answer
        (both_ok (λ x. Go env.generic s x.next) (TypedOn env.generic s) (all_declared (opened env) s q (declarations_in ds)).answer
        (declarations_lead p facts are inst shape_of (opened env) s q (declarations_in ds))
        (declarations_typed types Sees (opened env) s q (declarations_in ds) inner refl (declared_texts ds written.0)))
        (declarations_known p facts has are inst shape_of types Sees (opened env) s q (declarations_in ds) inner refl (declared_texts ds written.0)))
        (λ x k. part_so (λ f. Ahead env.generic x.next f × ((g : Final env.generic x.next) → TypedBy env.generic x.next f)) (TypedBy env.generic s)
        (all_handled (with_local (opened env) x.region) x.next q h).answer
        (λ f. rule (Some (one (tree.block_statement (block_of x.made f.value)) f.next)))
        (both_ok (Ahead env.generic x.next) (λ f. (g : Final env.generic x.next) → TypedBy env.generic x.next f)
        (all_handled (with_local (opened env) x.region) x.next q h).answer (handled_lead p facts are inst shape_of (with_local (opened env) x.region) x.next q h)
        (each_ok (λ (g : Final env.generic x.next) f. TypedBy env.generic x.next f) (all_handled (with_local (opened env) x.region) x.next q h).answer
        (λ g. handled_typed (with_types types (k.1 g).new) (behind_all Sees x.made) (with_local (opened env) x.region) x.next q h (k.1 g).stands written.1)))
        (λ f l all ws. let at_x = l.0.back (k.0.0.counted st.counted) all in l.1 at_x all (k.0.1 at_x ws))))

    pub all_typed : (types : AdaType → Type 0) (Sees : tree.Object → Type 0) (env : Env) (s : State) (q : Pos) (xs : text.Statements) → Standing types Sees env s
        → AreStatementTexts xs → IfOk (all_stated env s q xs).answer (TypedBy env.generic s)
    all_typed types Sees env s q text.no_statements st written = λ all ws. ws
    all_typed types Sees env s q (text.then_also x xs) st written =
        answered (TypedBy env.generic s) q _
        (part_so (Both env.generic s) (TypedBy env.generic s) (stated env s x).answer
        (λ y. all_stated env y.next q xs >>= (λ ys. rule (Some (given (y.value ++ ys.value) ys.next))))
        (both_ok (Ahead env.generic s) (TypedBy env.generic s) (stated env s x).answer (stated_leads p facts are inst shape_of env s x)
        (stated_typed types Sees env s x st written.0))
        (λ y h. let at_y = led types Sees env s y.next st h.0 in
        part_so (Both env.generic y.next) (TypedBy env.generic s) (all_stated env y.next q xs).answer (λ ys. rule (Some (given (y.value ++ ys.value) ys.next)))
        (both_ok (Ahead env.generic y.next) (TypedBy env.generic y.next) (all_stated env y.next q xs).answer (all_lead p facts are inst shape_of env y.next q xs)
        (all_typed types Sees env y.next q xs at_y written.1))
        (λ ys k all ws. k.1 all (h.1 (k.0.back at_y.counted all) ws))))

    pub branches_typed : (types : AdaType → Type 0) (Sees : tree.Object → Type 0) (env : Env) (s : State) (q : Pos) (bs : text.Branches) → Standing types Sees env s
        → AreBranchTexts bs → IfOk (branched env s q bs).answer (TypedBy env.generic s)
    branches_typed types Sees env s q text.no_branches st written = λ all ws. ws
    branches_typed types Sees env s q (text.branch e ss bs) st written =
        answered (TypedBy env.generic s) q _
        (part_so (Kept env.generic s) (TypedBy env.generic s) (decision env s q e).answer
        (λ t. all_stated env t.next q ss >>= (λ xs. branched env xs.next q bs
        >>= (λ ys. rule (Some (given (record { label = t.value.0; test = t.value.1; statements = xs.value } ∷ ys.value) ys.next)))))
        (both_ok (Ahead env.generic s) (Behind s) (decision env s q e).answer (decision_leads p facts are inst shape_of env s q e) (decision_keeps env s q e))
        (λ t h. let at_t = led types Sees env s t.next st h.0 in
        part_so (Both env.generic t.next) (TypedBy env.generic s) (all_stated env t.next q ss).answer
        (λ xs. branched env xs.next q bs >>= (λ ys. rule (Some (given (record { label = t.value.0; test = t.value.1; statements = xs.value } ∷ ys.value) ys.next))))
        (both_ok (Ahead env.generic t.next) (TypedBy env.generic t.next) (all_stated env t.next q ss).answer (all_lead p facts are inst shape_of env t.next q ss)
        (all_typed types Sees env t.next q ss at_t written.0))
        (λ xs k. let at_x = led types Sees env t.next xs.next at_t k.0 in
        part_so (Both env.generic xs.next) (TypedBy env.generic s) (branched env xs.next q bs).answer
        (λ ys. rule (Some (given (record { label = t.value.0; test = t.value.1; statements = xs.value } ∷ ys.value) ys.next)))
        (both_ok (Ahead env.generic xs.next) (TypedBy env.generic xs.next) (branched env xs.next q bs).answer (branches_lead p facts are inst shape_of env xs.next q bs)
        (branches_typed types Sees env xs.next q bs at_x written.1))
        (λ ys l all ws. l.1 all (k.1 (l.0.back at_x.counted all) (typed_statics s t.next h.1 ws))))))

    pub arms_typed : (types : AdaType → Type 0) (Sees : tree.Object → Type 0) (env : Env) (s : State) (x : Selector) (q : Pos) (rest : text.Alternatives)
        → Standing types Sees env s → AreAlternativeTexts rest → IfOk (all_arms env s x q rest).answer (TypedBy env.generic s)
    arms_typed types Sees env s x q text.no_alternatives st written = λ all ws. ws
    arms_typed types Sees env s x q (text.alternative cs ss rest) st written =
        answered (TypedBy env.generic s) q _
        (part_so (Kept env.generic s) (TypedBy env.generic s) (all_chosen env s x q cs).answer
        (λ ds. all_stated env ds.next q ss >>= (λ xs. all_arms env xs.next x q rest
        >>= (λ ys. rule (Some (given (record { choices = ds.value; statements = xs.value } ∷ ys.value) ys.next)))))
        (both_ok (Ahead env.generic s) (Behind s) (all_chosen env s x q cs).answer (all_chosen_lead p facts are inst shape_of env s x q cs) (all_chosen_keep env s x q cs))
        (λ ds h. let at_d = led types Sees env s ds.next st h.0 in
        part_so (Both env.generic ds.next) (TypedBy env.generic s) (all_stated env ds.next q ss).answer
        (λ xs. all_arms env xs.next x q rest >>= (λ ys. rule (Some (given (record { choices = ds.value; statements = xs.value } ∷ ys.value) ys.next))))
        (both_ok (Ahead env.generic ds.next) (TypedBy env.generic ds.next) (all_stated env ds.next q ss).answer (all_lead p facts are inst shape_of env ds.next q ss)
        (all_typed types Sees env ds.next q ss at_d written.1.0))
        (λ xs k. let at_x = led types Sees env ds.next xs.next at_d k.0 in
        part_so (Both env.generic xs.next) (TypedBy env.generic s) (all_arms env xs.next x q rest).answer
        (λ ys. rule (Some (given (record { choices = ds.value; statements = xs.value } ∷ ys.value) ys.next)))
        (both_ok (Ahead env.generic xs.next) (TypedBy env.generic xs.next) (all_arms env xs.next x q rest).answer (arms_lead p facts are inst shape_of env xs.next x q rest)
        (arms_typed types Sees env xs.next x q rest at_x written.1.1))
        (λ ys l all ws. l.1 all (k.1 (l.0.back at_x.counted all) (typed_statics s ds.next h.1 ws))))))

    pub handlers_typed : (types : AdaType → Type 0) (Sees : tree.Object → Type 0) (env : Env) (s : State) (q : Pos) (hs : text.Handlers) → Standing types Sees env s
        → AreHandlerTexts hs → IfOk (all_handlers env s q hs).answer (TypedBy env.generic s)
    handlers_typed types Sees env s q text.no_handlers st written = λ all ws. ws
    handlers_typed types Sees env s q (text.handler cs ss hs) st written =
        answered (TypedBy env.generic s) q _
        (part_so (Kept env.generic s) (TypedBy env.generic s) (all_caught env s (is_last hs && nat_eq (length cs) 1) q cs).answer
        (λ ds. all_stated (in_handler env) ds.next q ss >>= (λ xs. all_handlers env xs.next q hs
        >>= (λ ys. rule (Some (given (tree.handler ds.value (stmts_of xs.value) ys.value) ys.next)))))
        (both_ok (Ahead env.generic s) (Behind s) (all_caught env s (is_last hs && nat_eq (length cs) 1) q cs).answer
        (all_caught_lead p facts are inst shape_of env s (is_last hs && nat_eq (length cs) 1) q cs) (all_caught_keep env s (is_last hs && nat_eq (length cs) 1) q cs))
        (λ ds h. let at_d = led types Sees env s ds.next st h.0 in
        part_so (Both env.generic ds.next) (TypedBy env.generic s) (all_stated (in_handler env) ds.next q ss).answer
        (λ xs. all_handlers env xs.next q hs >>= (λ ys. rule (Some (given (tree.handler ds.value (stmts_of xs.value) ys.value) ys.next))))
        (both_ok (Ahead env.generic ds.next) (TypedBy env.generic ds.next) (all_stated (in_handler env) ds.next q ss).answer
        (all_lead p facts are inst shape_of (in_handler env) ds.next q ss)
        (all_typed types Sees (in_handler env) ds.next q ss (in_handler_stands p facts has are inst shape_of true types Sees env ds.next at_d) written.1.0))
        (λ xs k. let at_x = led types Sees env ds.next xs.next at_d k.0 in
        part_so (Both env.generic xs.next) (TypedBy env.generic s) (all_handlers env xs.next q hs).answer
        (λ ys. rule (Some (given (tree.handler ds.value (stmts_of xs.value) ys.value) ys.next)))
        (both_ok (Ahead env.generic xs.next) (TypedBy env.generic xs.next) (all_handlers env xs.next q hs).answer (handlers_lead p facts are inst shape_of env xs.next q hs)
        (handlers_typed types Sees env xs.next q hs at_x written.1.1))
        (λ ys l all ws. l.1 all (k.1 (l.0.back at_x.counted all) (typed_statics s ds.next h.1 ws))))))

    pub handled_typed : (types : AdaType → Type 0) (Sees : tree.Object → Type 0) (env : Env) (s : State) (q : Pos) (h : text.Handled) → Standing types Sees env s
        → IsHandledText h → IfOk (all_handled env s q h).answer (TypedBy env.generic s)
    handled_typed types Sees env s q (text.handled ss hs) st written =
        answered (TypedBy env.generic s) q _
        (part_so (Both env.generic s) (TypedBy env.generic s) (all_stated env s q ss).answer
        (λ xs. all_handlers env xs.next q hs >>= (λ ys. rule (Some (given (record { statements = xs.value; handlers = ys.value }) ys.next))))
        (both_ok (Ahead env.generic s) (TypedBy env.generic s) (all_stated env s q ss).answer (all_lead p facts are inst shape_of env s q ss)
        (all_typed types Sees env s q ss st written.0))
        (λ xs h. let at_x = led types Sees env s xs.next st h.0 in
        part_so (Both env.generic xs.next) (TypedBy env.generic s) (all_handlers env xs.next q hs).answer
        (λ ys. rule (Some (given (record { statements = xs.value; handlers = ys.value }) ys.next)))
        (both_ok (Ahead env.generic xs.next) (TypedBy env.generic xs.next) (all_handlers env xs.next q hs).answer (handlers_lead p facts are inst shape_of env xs.next q hs)
        (handlers_typed types Sees env xs.next q hs at_x written.1))
        (λ ys k all ws. k.1 all (h.1 (k.0.back at_x.counted all) ws))))
