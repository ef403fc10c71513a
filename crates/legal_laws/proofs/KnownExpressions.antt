-- Names and expressions in the step of types, where all entities are known.
use Rattle.std.proofs.Common.{◌≡◌, ℕ, pos, nat_lt, Bool, true, false, if◌then◌else◌, List, ◌∷◌, Option, Some, None, option_map, is_some, IfSome, IfOk, arith}
use Rattle.std.specs.Prelude.{◌&&◌, unwrap_or}
use Rattle.std.specs.Option.{option_and_then}
use Rattle.std.proofs.lemmas.Bool.Decides.{nat_tests}
use Rattle.cov_base.specs.declared.position.Pos.{Pos}
use Rattle.cov_base.specs.Lists.{Everywhere}
use Rattle.ada_syntax.specs.Tree as source
use Rattle.ada_syntax.specs.Tree.{expr_pos, name_pos}
use Rattle.ada_syntax.specs.declared.expr.UnaryOperator.{UnaryOperator}
use Rattle.ada_syntax.specs.declared.expr.UnaryOperator.TheVariants as unary
use Rattle.ada_syntax.specs.declared.expr.BinaryOperator.{BinaryOperator}
use Rattle.ada_syntax.specs.declared.expr.LogicalOperator.{LogicalOperator}
use Rattle.ada_syntax.specs.declared.expr.RelationalOperator.{RelationalOperator}
use Rattle.ada_meaning.specs.Arithmetic.{base_range, is_within}
use Rattle.ada_meaning.specs.Program.{Program}
use Rattle.ada_meaning.specs.Shape.{Shape}
use Rattle.ada_meaning.specs.Tree as tree
use Rattle.ada_meaning.specs.Types.{Sign}
use Rattle.ada_meaning.specs.WellFormed.{IsExpr, IsTest}
use Rattle.ada_rules.specs.Plan.{◌>>=◌, rule, outcome_after}
use Rattle.ada_rules.specs.Types.{AdaType, type_in, boolean_type, is_scalar, is_integral, is_discrete, is_boolean, common}
use Rattle.ada_rules.specs.Entities.{key, Entity, entity_of, visible, shown}
use Rattle.ada_rules.specs.Environment.{Step, naming, typing, typed_rule, interface_of, State, Given, given, Env, regions_of, decision_label, decided}
use Rattle.ada_rules.specs.Denoted.{Form, plain, test_form, Judged, any_judged, Denoted, a_mark, a_value, a_variable, a_routine, a_call, an_exception, a_unit, the_test_io, a_thing, denoted_of, component_of, is_attribute, attribute_of, test_of_expr, test_of, negated, complemented, numeral_of, standing_at, enclosed, sign_of, signed, complement_of, unary_of, operator_of, operation_of, binary_of, relation_of, relation_with, related, neutral_of, circuit_of, joined, tested, value_of, applied_to}
use Rattle.ada_rules.specs.Expressions.{Role, itself, operand, is_circuit, is_circuit_under, role_under, opens, entered, closed, measured, is_own, part_of_interface, part_of_unit, named, selection, attribution, typed_as, denoted, judged, all_judged, decision, Marked, marked, mark_part, mark_or_any, scalar_mark, scalar_only, any_mark}
use Rattle.legal_laws.specs.Known.{AreApart, IsKnownSubtype, IsForm, IsJudged, IsDenoted, IsEntity, IsEnv}
use Rattle.legal_laws.proofs.Passing.{both_true, if_then, if_map, if_test, IfPassed, answered, ruled_so, part_so, typed_so, steps_apart}
use Rattle.legal_laws.proofs.KnownTypes.{boolean_scalar, IsCommon, common_known}
use Rattle.legal_laws.proofs.KnownNames.{entity_known, shown_known, visible_known, entity_denoted, expr_known, component_known, attribute_known, denoted_value, applied_known}

numeral_in_base : (n : ℕ) → nat_lt n 2147483648 ≡ true → is_within base_range (pos n) ≡ true
numeral_in_base n h = grind (arith, nat_tests)

module _ (p : Program) (inst : ℕ) (declared : AdaType → Type 0) (apart : AreApart p declared) (shape_of : tree.Object → Shape) (Sees : tree.Object → Type 0) where
  abbrev Values : Judged → Type 0
  Values x = IsJudged p inst declared shape_of Sees x

  abbrev Names : Denoted → Type 0
  Names d = IsDenoted p inst declared shape_of Sees d

  abbrev Tests : tree.Test → Type 0
  Tests t = IsTest p inst shape_of Sees t

  -- an expression as a test
  negated_known : (t : tree.Test) → Tests t → Tests (negated t)
  negated_known (tree.condition at e) h = h
  negated_known (tree.negation t) h = h
  negated_known (tree.operator neutral t u) h = h

  expr_tested : (at : Pos) (e : tree.Expr) → IsExpr p inst shape_of Sees e → Tests (test_of_expr at e)
  expr_tested at (tree.literal x) h = h
  expr_tested at (tree.constant e) h = h
  expr_tested at (tree.attribute o parts e) h = h
  expr_tested at (tree.read o parts) h = h
  expr_tested at (tree.signed s e) h = h
  expr_tested at (tree.operation o e f) h = h
  expr_tested at (tree.relation r e f) h = h
  expr_tested at (tree.complement e) h = negated_known (test_of_expr at e) (expr_tested at e h)
  expr_tested at (tree.conversion r e) h = h
  expr_tested at (tree.call c actuals) h = h
  expr_tested at (tree.decision l t) h = h

  pub form_tested : (at : Pos) (f : Form) → IsForm p inst declared shape_of Sees f → Tests (test_of at f)
  form_tested at (plain e) h = expr_tested at e h
  form_tested at (test_form t) h = h

  form_complemented : (f : Form) → IsForm p inst declared shape_of Sees f → IsForm p inst declared shape_of Sees (complemented f)
  form_complemented (plain e) h = h
  form_complemented (test_form t) h = negated_known t h

  -- operators
  signed_known : (q : Pos) (x : Judged) (o : Option Sign) → Values x → is_integral x.kind ≡ true → IfSome (option_map (signed q x) o) Values
  signed_known q x None h is = tt
  signed_known q x (Some s) h is =
      record { form = λ d. expr_known p inst declared apart shape_of Sees x h d; kind = h.kind; variable = tt }

  sign_known : (q : Pos) (x : Judged) (op : UnaryOperator) → Values x
      → IfSome (if is_integral x.kind then option_map (signed q x) (sign_of op) else None) Values
  sign_known q x op h = if_test Values (is_integral x.kind) (option_map (signed q x) (sign_of op)) (λ is. signed_known q x (sign_of op) h is)

  pub unary_known : (q : Pos) (op : UnaryOperator) (x : Judged) → Values x → IfSome (unary_of q op x) Values
  unary_known q unary.Plus x h = sign_known q x unary.Plus h
  unary_known q unary.Minus x h = sign_known q x unary.Minus h
  unary_known q unary.Abs x h = sign_known q x unary.Abs h
  unary_known q unary.Not x h =
      if_test Values (is_boolean x.kind) (Some (complement_of x))
      (λ is. record { form = λ d. form_complemented x.form (h.form d); kind = h.kind; variable = tt })

  pub binary_known : (q : Pos) (op : BinaryOperator) (x y : Judged) → Values x → Values y → IfSome (binary_of q op x y) Values
  binary_known q op x y h g =
      if_then (IsCommon p inst declared apart x.kind y.kind) Values (λ k. if is_integral k then Some (operation_of q (operator_of op) x y k) else None)
      (common x.kind y.kind) (common_known p inst declared apart x.kind y.kind h.kind g.kind)
      (λ k both. if_test Values (is_integral k) (Some (operation_of q (operator_of op) x y k)) (λ is. record {
        form = λ d. (expr_known p inst declared apart shape_of Sees x h (both.left d), expr_known p inst declared apart shape_of Sees y g (both.right d));
        kind = both.known;
        variable = tt;
      }))

  pub related_known : declared boolean_type → (q : Pos) (op : RelationalOperator) (x y : Judged) → Values x → Values y
      → IfSome (related q op x y) Values
  related_known booleans q op x y h g =
      if_then (IsCommon p inst declared apart x.kind y.kind) Values (λ k. if is_discrete k then Some (relation_with q (relation_of op) x y) else None)
      (common x.kind y.kind) (common_known p inst declared apart x.kind y.kind h.kind g.kind)
      (λ k both. if_test Values (is_discrete k) (Some (relation_with q (relation_of op) x y)) (λ is. record {
        form = λ d. (expr_known p inst declared apart shape_of Sees x h (both.left is), expr_known p inst declared apart shape_of Sees y g (both.right is));
        kind = booleans;
        variable = tt;
      }))

  boolean_tested : declared boolean_type → (x : Judged) → Values x → is_boolean x.kind ≡ true → Tests (test_of x.at x.form)
  boolean_tested booleans x h is = form_tested x.at x.form (h.form (boolean_scalar p inst declared apart booleans x.kind h.kind is))

  circuit_known : declared boolean_type → (q : Pos) (x y : Judged) (o : Option Bool) → Tests (test_of x.at x.form) → Tests (test_of y.at y.form)
      → IfSome (option_map (circuit_of q x y) o) Values
  circuit_known booleans q x y None h g = tt
  circuit_known booleans q x y (Some b) h g = record { form = λ d. (h, g); kind = booleans; variable = tt }

  pub joined_known : declared boolean_type → (q : Pos) (op : LogicalOperator) (x y : Judged) → Values x → Values y
      → IfSome (joined q op x y) Values
  joined_known booleans q op x y h g =
      if_test Values (is_boolean x.kind && is_boolean y.kind) (option_map (circuit_of q x y) (neutral_of op))
      (λ are. circuit_known booleans q x y (neutral_of op) (boolean_tested booleans x h (both_true (is_boolean x.kind) (is_boolean y.kind) are).0)
      (boolean_tested booleans y g (both_true (is_boolean x.kind) (is_boolean y.kind) are).1))

  pub tested_known : declared boolean_type → (x : Judged) → Values x → IfSome (tested x) Tests
  tested_known booleans x h = if_test Tests (is_boolean x.kind) (Some (test_of x.at x.form)) (λ is. boolean_tested booleans x h is)

  numeral_known : (q : Pos) (n : ℕ) → IfSome (numeral_of q n) Values
  numeral_known q n =
      if_test Values (nat_lt n 2147483648) _ (λ h. record { form = λ d. numeral_in_base n h; kind = tt; variable = tt })

  standing_known : (q : Pos) (x : Judged) → Values x → Values (standing_at q x)
  standing_known q x h = record { form = h.form; kind = h.kind; variable = h.variable }

  enclosed_known : (x : Judged) → Values x → Values (enclosed x)
  enclosed_known x h = record { form = h.form; kind = h.kind; variable = h.variable }

  -- where a decision is closed
  closed_known : (b : Bool) (before : State) (q : Pos) (g : Given Judged) → Values g.value → Values (closed b before q g).value
  closed_known true before q g h =
      record { form = λ d. form_tested g.value.at g.value.form (h.form d); kind = h.kind; variable = h.variable }
  closed_known false before q g h = h

  module _ (env : Env) (is : IsEnv p inst declared shape_of Sees env) where
    -- in short
    abbrev GivesValue : Given Judged → Type 0
    GivesValue g = Values g.value

    abbrev GivesName : Given Denoted → Type 0
    GivesName g = Names g.value

    abbrev GivesValues : Given (List Judged) → Type 0
    GivesValues g = Everywhere Values g.value

    -- a part of a unit
    own_or_not : (n : ℕ) (name : List ℕ) (b : Bool)
        → IfSome (if b then shown (entity_of name env.own) else part_of_interface env.world name (interface_of env.world n))
        (IsEntity p inst declared shape_of Sees)
    own_or_not n name true =
        shown_known p inst declared apart shape_of Sees (entity_of name env.own) (entity_known p inst declared apart shape_of Sees name env.own is.own)
    own_or_not n name false = is.units n name

    named_known : (s : State) (o : Option Entity) → IfSome o (IsEntity p inst declared shape_of Sees) → IfPassed (named s o).outcome GivesName
    named_known s o h =
        ruled_so GivesName (option_map (λ x. given (denoted_of x) s) o)
        (if_map (IsEntity p inst declared shape_of Sees) GivesName (λ x. given (denoted_of x) s) o h (λ x k. entity_denoted p inst declared apart shape_of Sees x k))

    name_typed : (s : State) (o : Option Denoted) → IfSome o Names
        → IfPassed (typed_rule env.step (given a_thing s) (option_map (λ x. given x s) o)).outcome GivesName
    name_typed s o h =
        typed_so GivesName env.step (given a_thing s) (option_map (λ x. given x s) o) is.step (if_map Names GivesName (λ x. given x s) o h (λ x k. k))

    value_typed : (s : State) (o : Option Judged) → IfSome o Values → IfPassed (typed_as env s o).outcome GivesValue
    value_typed s o h =
        typed_so GivesValue env.step (given any_judged s) (option_map (λ x. given x s) o) is.step (if_map Values GivesValue (λ x. given x s) o h (λ x k. k))

    selected_known : (s : State) (d : Denoted) (name : List ℕ) → Names d → IfPassed (selection env s d name).outcome GivesName
    selected_known s (a_mark i t) name h = name_typed s (component_of name (a_mark i t)) tt
    selected_known s (a_value x) name h = name_typed s (component_of name (a_value x)) tt
    selected_known s (a_variable v) name h = name_typed s (component_of name (a_variable v)) (component_known p inst declared apart shape_of Sees name (a_variable v) h)
    selected_known s (a_routine r) name h = name_typed s (component_of name (a_routine r)) tt
    selected_known s (a_call r actuals) name h = name_typed s (component_of name (a_call r actuals)) tt
    selected_known s (an_exception e) name h = name_typed s (component_of name (an_exception e)) tt
    selected_known s (a_unit n) name h = named_known s (part_of_unit env n name) (own_or_not n name (is_own env.own_package n))
    selected_known s the_test_io name h =
        named_known s (entity_of name env.world.standard.test_io_declarations)
        (entity_known p inst declared apart shape_of Sees name env.world.standard.test_io_declarations is.test_io)
    selected_known s a_thing name h = name_typed s (component_of name a_thing) tt

    attributed_if : (s : State) (d : Denoted) (name : List ℕ) (b : Bool) → Names d
        → IfPassed (if b then typed_rule env.step (given a_thing s) (option_map (λ x. given x s) (attribute_of name d)) else rule None).outcome GivesName
    attributed_if s d name true h = name_typed s (attribute_of name d) (attribute_known p inst declared apart shape_of Sees name d h)
    attributed_if s d name false h = tt

    mutual
      pub denoted_known : (s : State) (n : source.Name) → IfOk (denoted env s n).answer GivesName
      denoted_known s (source.simple i) =
          answered GivesName i.pos (named s (visible (key i) (regions_of env))).outcome
          (named_known s (visible (key i) (regions_of env)) (visible_known p inst declared apart shape_of Sees (key i) (regions_of env) is.regions))
      denoted_known s (source.selected n i) =
          answered GivesName (name_pos n) (outcome_after (denoted env s n).answer (λ d. selection env d.next d.value (key i)))
          (part_so GivesName GivesName (denoted env s n).answer (λ d. selection env d.next d.value (key i)) (denoted_known s n)
          (λ d h. selected_known d.next d.value (key i) h))
      denoted_known s (source.attribute n i) =
          answered GivesName (name_pos n) (outcome_after (denoted env s n).answer (λ d. attribution env d.next d.value (key i)))
          (part_so GivesName GivesName (denoted env s n).answer (λ d. attribution env d.next d.value (key i)) (denoted_known s n)
          (λ d h. attributed_if d.next d.value (key i) (is_attribute (key i)) h))
      denoted_known s (source.applied n es) =
          answered GivesName (name_pos n) _
          (part_so GivesName GivesName (denoted env s n).answer
          (λ d. all_judged env d.next (name_pos n) es >>= (λ xs. typed_rule env.step (given a_thing xs.next) (option_map (λ x. given x xs.next) (applied_to d.value xs.value))))
          (denoted_known s n)
          (λ d h. part_so GivesValues GivesName (all_judged env d.next (name_pos n) es).answer
          (λ xs. typed_rule env.step (given a_thing xs.next) (option_map (λ x. given x xs.next) (applied_to d.value xs.value)))
          (all_known d.next (name_pos n) es)
          (λ xs k. name_typed xs.next (applied_to d.value xs.value) (applied_known p inst declared apart shape_of Sees d.value xs.value h k))))

      pub judged_known : (r : Role) (s : State) (e : source.Expr) → IfOk (judged env r s e).answer GivesValue
      judged_known r s (source.numeral q n) =
          answered GivesValue q (typed_as env s (numeral_of q n)).outcome (value_typed s (numeral_of q n) (numeral_known q n))
      judged_known r s (source.named q n) =
          answered GivesValue q _
          (part_so GivesName GivesValue (denoted env s n).answer (λ d. typed_as env d.next (option_map (standing_at q) (value_of d.value)))
          (denoted_known s n)
          (λ d h. value_typed d.next (option_map (standing_at q) (value_of d.value))
          (if_map Values Values (standing_at q) (value_of d.value) (denoted_value p inst declared apart shape_of Sees d.value h) (λ x k. standing_known q x k))))
      judged_known r s (source.parenthesized q e) =
          answered GivesValue q _
          (part_so GivesValue GivesValue (judged env operand (entered (opens r (is_circuit e)) s) e).answer
          (λ x. rule (Some (closed (opens r (is_circuit e)) s q (given (enclosed x.value) x.next))))
          (judged_known operand (entered (opens r (is_circuit e)) s) e)
          (λ x h. closed_known (opens r (is_circuit e)) s q (given (enclosed x.value) x.next) (enclosed_known x.value h)))
      judged_known r s (source.unary q op e) =
          answered GivesValue q _
          (part_so GivesValue GivesValue (judged env (role_under op) (entered (opens r (is_circuit_under op e)) s) e).answer
          (λ x. typed_rule env.step (given any_judged x.next)
          (option_map (λ y. closed (opens r (is_circuit_under op e)) s q (given y x.next)) (unary_of q op x.value)))
          (judged_known (role_under op) (entered (opens r (is_circuit_under op e)) s) e)
          (λ x h. typed_so GivesValue env.step (given any_judged x.next) _ is.step
          (if_map Values GivesValue (λ y. closed (opens r (is_circuit_under op e)) s q (given y x.next)) (unary_of q op x.value) (unary_known q op x.value h)
          (λ y k. closed_known (opens r (is_circuit_under op e)) s q (given y x.next) k))))
      judged_known r s (source.binary q a op b) =
          answered GivesValue q _
          (part_so GivesValue GivesValue (judged env itself s a).answer
          (λ x. judged env itself x.next b >>= (λ y. typed_as env y.next (binary_of q op x.value y.value))) (judged_known itself s a)
          (λ x h. part_so GivesValue GivesValue (judged env itself x.next b).answer (λ y. typed_as env y.next (binary_of q op x.value y.value))
          (judged_known itself x.next b)
          (λ y k. value_typed y.next (binary_of q op x.value y.value) (binary_known q op x.value y.value h k))))
      judged_known r s (source.relation q a op b) =
          answered GivesValue q _
          (part_so GivesValue GivesValue (judged env itself s a).answer
          (λ x. judged env itself x.next b >>= (λ y. typed_as env y.next (related q op x.value y.value))) (judged_known itself s a)
          (λ x h. part_so GivesValue GivesValue (judged env itself x.next b).answer (λ y. typed_as env y.next (related q op x.value y.value))
          (judged_known itself x.next b)
          (λ y k. value_typed y.next (related q op x.value y.value) (related_known is.booleans q op x.value y.value h k))))
      judged_known r s (source.logical q a op b) =
          let opened = opens r (is_some (neutral_of op)) in
          answered GivesValue q _
          (part_so GivesValue GivesValue (judged env operand (entered opened s) a).answer
          (λ x. judged env operand x.next b >>= (λ y. typed_rule env.step (given any_judged y.next)
          (option_map (λ z. closed opened s q (given z y.next)) (joined q op x.value y.value))))
          (judged_known operand (entered opened s) a)
          (λ x h. part_so GivesValue GivesValue (judged env operand x.next b).answer
          (λ y. typed_rule env.step (given any_judged y.next) (option_map (λ z. closed opened s q (given z y.next)) (joined q op x.value y.value)))
          (judged_known operand x.next b)
          (λ y k. typed_so GivesValue env.step (given any_judged y.next) _ is.step
          (if_map Values GivesValue (λ z. closed opened s q (given z y.next)) (joined q op x.value y.value) (joined_known is.booleans q op x.value y.value h k)
          (λ z l. closed_known opened s q (given z y.next) l)))))

      pub all_known : (s : State) (q : Pos) (es : source.Exprs) → IfOk (all_judged env s q es).answer GivesValues
      all_known s q source.no_exprs = tt
      all_known s q (source.also e es) =
          answered GivesValues q _
          (part_so GivesValue GivesValues (judged env itself s e).answer
          (λ x. all_judged env x.next q es >>= (λ xs. rule (Some (given (x.value ∷ xs.value) xs.next)))) (judged_known itself s e)
          (λ x h. part_so GivesValues GivesValues (all_judged env x.next q es).answer (λ xs. rule (Some (given (x.value ∷ xs.value) xs.next)))
          (all_known x.next q es) (λ xs k. (h, k))))

    -- the decision of a statement
    abbrev pub GivesTest : Given (tree.Label × tree.Test) → Type 0
    GivesTest g = Tests g.value.1

    pub decision_known : (s : State) (q : Pos) (e : source.Expr) → IfOk (decision env s q e).answer GivesTest
    decision_known s q e =
        answered GivesTest q
        (outcome_after (judged env operand (decided s) e).answer
        (λ x. typed_rule env.step (given (decision_label s (expr_pos e), test_of x.value.at x.value.form) x.next)
        (option_map (λ t. given (decision_label s (expr_pos e), t) (measured (expr_pos e) t x.next)) (tested x.value))))
        (part_so GivesValue GivesTest (judged env operand (decided s) e).answer
        (λ x. typed_rule env.step (given (decision_label s (expr_pos e), test_of x.value.at x.value.form) x.next)
        (option_map (λ t. given (decision_label s (expr_pos e), t) (measured (expr_pos e) t x.next)) (tested x.value)))
        (judged_known operand (decided s) e)
        (λ x h. typed_so GivesTest env.step _ _ is.step
        (if_map Tests GivesTest (λ t. given (decision_label s (expr_pos e), t) (measured (expr_pos e) t x.next)) (tested x.value)
        (tested_known is.booleans x.value h) (λ t k. k))))

    -- types and subtypes by their names
    abbrev IsMarked : Marked → Type 0
    IsMarked m = IsKnownSubtype p inst declared m.subtype

    abbrev pub GivesMark : Given Marked → Type 0
    GivesMark g = IsMarked g.value

    mark_known : (d : Denoted) → Names d → IfSome (marked d) IsMarked
    mark_known (a_mark i t) h = h
    mark_known (a_value x) h = tt
    mark_known (a_variable v) h = tt
    mark_known (a_routine r) h = tt
    mark_known (a_call r actuals) h = tt
    mark_known (an_exception e) h = tt
    mark_known (a_unit n) h = tt
    mark_known the_test_io h = tt
    mark_known a_thing h = tt

    marked_in : (step : Step) (d : Denoted) → step ≡ typing → Names d → IfSome (mark_or_any step d) IsMarked
    marked_in naming d at h = absurd (steps_apart at)
    marked_in typing d at h = mark_known d h

    pub mark_part_known : (s : State) (n : source.Name) → IfOk (mark_part env s n).answer GivesMark
    mark_part_known s n =
        answered GivesMark (name_pos n) _
        (part_so GivesName GivesMark (denoted env s n).answer
        (λ d. rule (option_map (λ m. given m d.next) (mark_or_any env.step d.value))) (denoted_known s n)
        (λ d h. ruled_so GivesMark (option_map (λ m. given m d.next) (mark_or_any env.step d.value))
        (if_map IsMarked GivesMark (λ m. given m d.next) (mark_or_any env.step d.value) (marked_in env.step d.value is.step h) (λ m k. k))))

    abbrev IsScalarMark : Marked → Type 0
    IsScalarMark m = IsMarked m × (is_scalar (type_in m.subtype) ≡ true)

    abbrev pub GivesScalar : Given Marked → Type 0
    GivesScalar g = IsScalarMark g.value

    scalar_marked : (d : Denoted) → Names d → IfSome (option_and_then scalar_only (marked d)) IsScalarMark
    scalar_marked d h =
        if_then IsMarked IsScalarMark scalar_only (marked d) (mark_known d h)
        (λ m k. if_test IsScalarMark (is_scalar (type_in m.subtype)) (Some m) (λ b. (k, b)))

    pub scalar_mark_known : (s : State) (n : source.Name) → IfOk (scalar_mark env s n).answer GivesScalar
    scalar_mark_known s n =
        answered GivesScalar (name_pos n) _
        (part_so GivesName GivesScalar (denoted env s n).answer
        (λ d. typed_rule env.step (given (unwrap_or (marked d.value) any_mark) d.next)
        (option_map (λ m. given m d.next) (option_and_then scalar_only (marked d.value))))
        (denoted_known s n)
        (λ d h. typed_so GivesScalar env.step _ _ is.step
        (if_map IsScalarMark GivesScalar (λ m. given m d.next) (option_and_then scalar_only (marked d.value)) (scalar_marked d.value h) (λ m k. k))))
