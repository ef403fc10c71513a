-- Where no limit is passed behind a name or an expression, none was passed before it; and objects of the library level stay what they were.
use Rattle.std.proofs.Common.{ℕ, Bool, true, false, if◌then◌else◌, List, ◌∷◌, Option, Some, None, option_map, is_some, IfOk, refl}
use Rattle.std.specs.Prelude.{unwrap_or}
use Rattle.std.specs.Option.{option_and_then}
use Rattle.cov_base.specs.declared.position.Pos.{Pos}
use Rattle.ada_syntax.specs.Tree as source
use Rattle.ada_syntax.specs.Tree.{expr_pos, name_pos}
use Rattle.ada_meaning.specs.Tree as tree
use Rattle.ada_rules.specs.Plan.{◌>>=◌, rule}
use Rattle.ada_rules.specs.Entities.{key, Entity, entity_of, visible}
use Rattle.ada_rules.specs.Environment.{Step, naming, typing, typed_rule, State, Given, given, Env, regions_of, decision_label, decided, exceeded}
use Rattle.ada_rules.specs.Denoted.{Judged, any_judged, Denoted, a_mark, a_value, a_variable, a_routine, a_call, an_exception, a_unit, the_test_io, a_thing, component_of, is_attribute, attribute_of, test_of, numeral_of, standing_at, enclosed, unary_of, binary_of, related, neutral_of, joined, tested, value_of, applied_to}
use Rattle.ada_rules.specs.Expressions.{Role, itself, operand, is_circuit, is_circuit_under, role_under, opens, entered, closed, measured, part_of_unit, named, selection, attribution, typed_as, denoted, judged, all_judged, decision, mark_part, mark_or_any, scalar_mark, scalar_only, marked, any_mark}
use Rattle.legal_laws.proofs.Passing.{IfPassed, answered, part_so}
use Rattle.legal_texts.proofs.Kept.{IsKept, kept_same, kept_none, kept_both, kept_exceeded}

abbrev Keeps : State → State → Type 0
Keeps s t = IsKept false s t

keeps_same : (s : State) → Keeps s s
keeps_same s = kept_same false s

keeps_both : (s t u : State) → Keeps s t → Keeps t u → Keeps s u
keeps_both s t u h k = kept_both false s t u h k

keeps_entered : (s : State) (b : Bool) → Keeps s (entered b s)
keeps_entered s true = kept_none false s (decided s) refl refl
keeps_entered s false = kept_same false s

keeps_exceeded : (s : State) (b : Bool) (p : Pos) → Keeps s (exceeded b p s)
keeps_exceeded s b p = kept_exceeded false s b p

-- what a construct gives, behind this state
abbrev pub Behind : {A : Type 0} → State → Given A → Type 0
Behind s g = Keeps s g.next

-- a rule on types leaves the state as it is
typed_keeps : {A B : Type 0} (step : Step) (s t : State) (anything : B) (f : A → B) (o : Option A) → Keeps s t
    → IfPassed (typed_rule step (given anything t) (option_map (λ x. given (f x) t) o)).outcome (Behind s)
typed_keeps naming s t anything f o h = h
typed_keeps typing s t anything f None h = tt
typed_keeps typing s t anything f (Some x) h = h

ruled_keeps : {A B : Type 0} (s t : State) (f : A → B) (o : Option A) → Keeps s t → IfPassed (rule (option_map (λ x. given (f x) t) o)).outcome (Behind s)
ruled_keeps s t f None h = tt
ruled_keeps s t f (Some x) h = h

closed_keeps : (s before : State) (b : Bool) (p : Pos) (g : Given Judged) → Behind s g → Behind s (closed b before p g)
closed_keeps s before true p g h =
    keeps_both s g.next (measured p (test_of g.value.at g.value.form) g.next) h (keeps_exceeded g.next _ p)
closed_keeps s before false p g h = h

closed_typed : (step : Step) (s before t : State) (b : Bool) (p : Pos) (o : Option Judged) → Keeps s t
    → IfPassed (typed_rule step (given any_judged t) (option_map (λ y. closed b before p (given y t)) o)).outcome (Behind s)
closed_typed naming s before t b p o h = h
closed_typed typing s before t b p None h = tt
closed_typed typing s before t b p (Some x) h = closed_keeps s before b p (given x t) h

module _ (env : Env) where
  named_keeps : (s t : State) (o : Option Entity) → Keeps s t → IfPassed (named t o).outcome (Behind s)
  named_keeps s t None h = tt
  named_keeps s t (Some x) h = h

  selected_keeps : (s t : State) (d : Denoted) (name : List ℕ) → Keeps s t → IfPassed (selection env t d name).outcome (Behind s)
  selected_keeps s t (a_mark i u) name h = typed_keeps env.step s t a_thing (λ x. x) (component_of name (a_mark i u)) h
  selected_keeps s t (a_value x) name h = typed_keeps env.step s t a_thing (λ x. x) (component_of name (a_value x)) h
  selected_keeps s t (a_variable v) name h = typed_keeps env.step s t a_thing (λ x. x) (component_of name (a_variable v)) h
  selected_keeps s t (a_routine r) name h = typed_keeps env.step s t a_thing (λ x. x) (component_of name (a_routine r)) h
  selected_keeps s t (a_call r actuals) name h = typed_keeps env.step s t a_thing (λ x. x) (component_of name (a_call r actuals)) h
  selected_keeps s t (an_exception e) name h = typed_keeps env.step s t a_thing (λ x. x) (component_of name (an_exception e)) h
  selected_keeps s t (a_unit n) name h = named_keeps s t (part_of_unit env n name) h
  selected_keeps s t the_test_io name h = named_keeps s t (entity_of name env.world.standard.test_io_declarations) h
  selected_keeps s t a_thing name h = typed_keeps env.step s t a_thing (λ x. x) (component_of name a_thing) h

  attributed_keeps : (s t : State) (d : Denoted) (name : List ℕ) (b : Bool) → Keeps s t
      → IfPassed (if b then typed_rule env.step (given a_thing t) (option_map (λ x. given x t) (attribute_of name d)) else rule None).outcome (Behind s)
  attributed_keeps s t d name true h = typed_keeps env.step s t a_thing (λ x. x) (attribute_of name d) h
  attributed_keeps s t d name false h = tt

  mutual
    pub denoted_keeps : (s : State) (n : source.Name) → IfOk (denoted env s n).answer (Behind s)
    denoted_keeps s (source.simple i) =
        answered (Behind s) i.pos (named s (visible (key i) (regions_of env))).outcome (named_keeps s s (visible (key i) (regions_of env)) (keeps_same s))
    denoted_keeps s (source.selected n i) =
        answered (Behind s) (name_pos n) _
        (part_so (Behind s) (Behind s) (denoted env s n).answer (λ d. selection env d.next d.value (key i)) (denoted_keeps s n)
        (λ d h. selected_keeps s d.next d.value (key i) h))
    denoted_keeps s (source.attribute n i) =
        answered (Behind s) (name_pos n) _
        (part_so (Behind s) (Behind s) (denoted env s n).answer (λ d. attribution env d.next d.value (key i)) (denoted_keeps s n)
        (λ d h. attributed_keeps s d.next d.value (key i) (is_attribute (key i)) h))
    denoted_keeps s (source.applied n es) =
        answered (Behind s) (name_pos n) _
        (part_so (Behind s) (Behind s) (denoted env s n).answer
        (λ d. all_judged env d.next (name_pos n) es >>= (λ xs. typed_rule env.step (given a_thing xs.next) (option_map (λ x. given x xs.next) (applied_to d.value xs.value))))
        (denoted_keeps s n)
        (λ d h. part_so (Behind d.next) (Behind s) (all_judged env d.next (name_pos n) es).answer
        (λ xs. typed_rule env.step (given a_thing xs.next) (option_map (λ x. given x xs.next) (applied_to d.value xs.value)))
        (all_keeps d.next (name_pos n) es)
        (λ xs k. typed_keeps env.step s xs.next a_thing (λ x. x) (applied_to d.value xs.value) (keeps_both s d.next xs.next h k))))

    pub judged_keeps : (r : Role) (s : State) (e : source.Expr) → IfOk (judged env r s e).answer (Behind s)
    judged_keeps r s (source.numeral q n) =
        answered (Behind s) q (typed_as env s (numeral_of q n)).outcome (typed_keeps env.step s s any_judged (λ x. x) (numeral_of q n) (keeps_same s))
    judged_keeps r s (source.named q n) =
        answered (Behind s) q _
        (part_so (Behind s) (Behind s) (denoted env s n).answer (λ d. typed_as env d.next (option_map (standing_at q) (value_of d.value)))
        (denoted_keeps s n)
        (λ d h. typed_keeps env.step s d.next any_judged (λ x. x) (option_map (standing_at q) (value_of d.value)) h))
    judged_keeps r s (source.parenthesized q e) =
        let inner = entered (opens r (is_circuit e)) s in
        answered (Behind s) q _
        (part_so (Behind inner) (Behind s) (judged env operand inner e).answer
        (λ x. rule (Some (closed (opens r (is_circuit e)) s q (given (enclosed x.value) x.next)))) (judged_keeps operand inner e)
        (λ x h. closed_keeps s s (opens r (is_circuit e)) q (given (enclosed x.value) x.next)
        (keeps_both s inner x.next (keeps_entered s (opens r (is_circuit e))) h)))
    judged_keeps r s (source.unary q op e) =
        let b = opens r (is_circuit_under op e) in
        answered (Behind s) q _
        (part_so (Behind (entered b s)) (Behind s) (judged env (role_under op) (entered b s) e).answer
        (λ x. typed_rule env.step (given any_judged x.next) (option_map (λ y. closed b s q (given y x.next)) (unary_of q op x.value)))
        (judged_keeps (role_under op) (entered b s) e)
        (λ x h. closed_typed env.step s s x.next b q (unary_of q op x.value) (keeps_both s (entered b s) x.next (keeps_entered s b) h)))
    judged_keeps r s (source.binary q a op b) =
        answered (Behind s) q _
        (part_so (Behind s) (Behind s) (judged env itself s a).answer
        (λ x. judged env itself x.next b >>= (λ y. typed_as env y.next (binary_of q op x.value y.value))) (judged_keeps itself s a)
        (λ x h. part_so (Behind x.next) (Behind s) (judged env itself x.next b).answer (λ y. typed_as env y.next (binary_of q op x.value y.value))
        (judged_keeps itself x.next b)
        (λ y k. typed_keeps env.step s y.next any_judged (λ x. x) (binary_of q op x.value y.value) (keeps_both s x.next y.next h k))))
    judged_keeps r s (source.relation q a op b) =
        answered (Behind s) q _
        (part_so (Behind s) (Behind s) (judged env itself s a).answer
        (λ x. judged env itself x.next b >>= (λ y. typed_as env y.next (related q op x.value y.value))) (judged_keeps itself s a)
        (λ x h. part_so (Behind x.next) (Behind s) (judged env itself x.next b).answer (λ y. typed_as env y.next (related q op x.value y.value))
        (judged_keeps itself x.next b)
        (λ y k. typed_keeps env.step s y.next any_judged (λ x. x) (related q op x.value y.value) (keeps_both s x.next y.next h k))))
    judged_keeps r s (source.logical q a op b) =
        let o = opens r (is_some (neutral_of op)) in
        answered (Behind s) q _
        (part_so (Behind (entered o s)) (Behind s) (judged env operand (entered o s) a).answer
        (λ x. judged env operand x.next b >>= (λ y. typed_rule env.step (given any_judged y.next)
        (option_map (λ z. closed o s q (given z y.next)) (joined q op x.value y.value))))
        (judged_keeps operand (entered o s) a)
        (λ x h. part_so (Behind x.next) (Behind s) (judged env operand x.next b).answer
        (λ y. typed_rule env.step (given any_judged y.next) (option_map (λ z. closed o s q (given z y.next)) (joined q op x.value y.value)))
        (judged_keeps operand x.next b)
        (λ y k. closed_typed env.step s s y.next o q (joined q op x.value y.value)
        (keeps_both s (entered o s) y.next (keeps_entered s o) (keeps_both (entered o s) x.next y.next h k)))))

    pub all_keeps : (s : State) (q : Pos) (es : source.Exprs) → IfOk (all_judged env s q es).answer (Behind s)
    all_keeps s q source.no_exprs = keeps_same s
    all_keeps s q (source.also e es) =
        answered (Behind s) q _
        (part_so (Behind s) (Behind s) (judged env itself s e).answer
        (λ x. all_judged env x.next q es >>= (λ xs. rule (Some (given (x.value ∷ xs.value) xs.next)))) (judged_keeps itself s e)
        (λ x h. part_so (Behind x.next) (Behind s) (all_judged env x.next q es).answer (λ xs. rule (Some (given (x.value ∷ xs.value) xs.next)))
        (all_keeps x.next q es) (λ xs k. keeps_both s x.next xs.next h k)))

  -- the decision of a statement
  measured_typed : (step : Step) (s t u : State) (e : source.Expr) (first : tree.Label × tree.Test) (o : Option tree.Test) → Keeps s t
      → IfPassed (typed_rule step (given first t) (option_map (λ x. given (decision_label u (expr_pos e), x) (measured (expr_pos e) x t)) o)).outcome (Behind s)
  measured_typed naming s t u e first o h = h
  measured_typed typing s t u e first None h = tt
  measured_typed typing s t u e first (Some x) h = keeps_both s t (measured (expr_pos e) x t) h (keeps_exceeded t _ (expr_pos e))

  pub decision_keeps : (s : State) (q : Pos) (e : source.Expr) → IfOk (decision env s q e).answer (Behind s)
  decision_keeps s q e =
      answered (Behind s) q _
      (part_so (Behind (decided s)) (Behind s) (judged env operand (decided s) e).answer
      (λ x. typed_rule env.step (given (decision_label s (expr_pos e), test_of x.value.at x.value.form) x.next)
      (option_map (λ t. given (decision_label s (expr_pos e), t) (measured (expr_pos e) t x.next)) (tested x.value)))
      (judged_keeps operand (decided s) e)
      (λ x h. measured_typed env.step s x.next s e (decision_label s (expr_pos e), test_of x.value.at x.value.form) (tested x.value)
      (keeps_both s (decided s) x.next (keeps_entered s true) h)))

  -- types and subtypes by their names
  pub mark_part_keeps : (s : State) (n : source.Name) → IfOk (mark_part env s n).answer (Behind s)
  mark_part_keeps s n =
      answered (Behind s) (name_pos n) _
      (part_so (Behind s) (Behind s) (denoted env s n).answer (λ d. rule (option_map (λ m. given m d.next) (mark_or_any env.step d.value))) (denoted_keeps s n)
      (λ d h. ruled_keeps s d.next (λ m. m) (mark_or_any env.step d.value) h))

  pub scalar_mark_keeps : (s : State) (n : source.Name) → IfOk (scalar_mark env s n).answer (Behind s)
  scalar_mark_keeps s n =
      answered (Behind s) (name_pos n) _
      (part_so (Behind s) (Behind s) (denoted env s n).answer
      (λ d. typed_rule env.step (given (unwrap_or (marked d.value) any_mark) d.next)
      (option_map (λ m. given m d.next) (option_and_then scalar_only (marked d.value))))
      (denoted_keeps s n)
      (λ d h. typed_keeps env.step s d.next (unwrap_or (marked d.value) any_mark) (λ m. m) (option_and_then scalar_only (marked d.value)) h))
