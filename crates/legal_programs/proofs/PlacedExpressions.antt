-- The decisions of names and expressions stand where they stand in the text.
use Rattle.std.proofs.Common.{◌≡◌, ℕ, nat_eq, nat_lt, Bool, true, false, if◌then◌else◌, List, [], ◌∷◌, ◌++◌, map, length, Option, Some, None, option_map, IfSome, IfOk, is_some, refl, sym, ap, ◌∙◌, subst, append-nil}
use Rattle.std.specs.Prelude.{◌&&◌}
use Rattle.cov_base.specs.Lists.{Everywhere}
use Rattle.cov_base.specs.declared.position.Pos.{Pos}
use Rattle.ada_syntax.specs.Tree as source
use Rattle.ada_syntax.specs.Tree.{expr_pos, name_pos}
use Rattle.ada_syntax.specs.declared.expr.UnaryOperator.{UnaryOperator}
use Rattle.ada_syntax.specs.declared.expr.UnaryOperator.TheVariants as unary
use Rattle.ada_syntax.specs.declared.expr.BinaryOperator.{BinaryOperator}
use Rattle.ada_syntax.specs.declared.expr.RelationalOperator.{RelationalOperator}
use Rattle.ada_meaning.specs.Collected.{Standing, Decision, in_expr, in_parts, in_actuals, in_test, in_decision}
use Rattle.ada_meaning.specs.Tree as tree
use Rattle.ada_meaning.specs.Types.{Static, Sign}
use Rattle.ada_rules.specs.Plan.{◌>>=◌, rule}
use Rattle.ada_rules.specs.Types.{AdaType, integer_type, enumeration, formal_type, array_type, record_type, AdaSubtype, of_type, type_in, range_in, Kind, is_integral, is_discrete, is_boolean, fits, common}
use Rattle.ada_rules.specs.Entities.{key, Variable, Parameter, Routine, Entity, hidden, mark, literal, object, formal_object, routine, raisable, component, test_io, unit, entity_of, found, visible}
use Rattle.ada_rules.specs.Environment.{typing, typed_rule, State, Given, given, Env, regions_of, decision_label, decided}
use Rattle.ada_rules.specs.Denoted.{Judged, any_judged, valued, Denoted, a_mark, a_value, a_variable, a_routine, a_call, a_unit, the_test_io, a_thing, denoted_of, followed_by, part_of, field_among, field_of, component_of, attribute_of_type, attribute_of_object, static_attribute, object_attribute, is_attribute, attribute_of, converts, conversion_of, element_of, actuals_for, called, complement_of, signed, sign_of, operator_of, operation_of, relation_of, relation_with, circuit_of, test_of, expr_of, numeral_of, standing_at, enclosed, unary_of, binary_of, related, neutral_of, joined, tested, value_of, applied_to}
use Rattle.ada_rules.specs.Expressions.{Role, itself, operand, is_circuit, opens, entered, closed, measured, part_of_unit, named, selection, attribution, typed_as, denoted, judged, all_judged, decision}
use Rattle.legal_laws.proofs.Passing.{IfPassed, if_map, if_then, if_test, answered, part_so, typed_so, both_ok}
use Rattle.legal_programs.specs.Deciding.{IsWhole, IsWholeEnv, in_form, in_denoted, IsPlain, IsClearDenoted, DenotesFrom, JudgesFrom}
use Rattle.legal_programs.specs.DecisionPlaces.{opened_at, name_decisions, expr_decisions, exprs_decisions, test_decisions}
use Rattle.legal_programs.proofs.DecidedExpressions.{in_test_of, in_expr_of, in_followed, entity_whole, found_whole, shown_whole, part_whole, any_of, IsOwn, all_forms, JudgesAll, actuals_hold, one_form, in_complemented, two_forms, denoted_decides, judged_decides, all_decide}
use Rattle.legal_programs.proofs.Lists.{map_joined}

-- decisions that stand at these places
abbrev pub At : List Decision → List Pos → Type 0
At ds ps = map (λ h. h.label.place) ds ≡ ps

pub at_as : (xs ys : List Decision) (ps : List Pos) → xs ≡ ys → At ys ps → At xs ps
at_as xs ys ps e h = ap (map (λ d. d.label.place)) e ∙ h

pub at_joined : (xs ys : List Decision) (ps qs : List Pos) → At xs ps → At ys qs → At (xs ++ ys) (ps ++ qs)
at_joined xs ys ps qs h k = map_joined (λ d. d.label.place) xs ys ∙ (λ i. h i ++ k i)

abbrev pub NameAt : List Pos → Denoted → Type 0
NameAt ps d = (k : ℕ) → At (in_denoted k d) ps

abbrev pub ValueAt : List Pos → Judged → Type 0
ValueAt ps x = (k : ℕ) → At (in_form k x.form) ps

abbrev ValuesAt : List Pos → List Judged → Type 0
ValuesAt ps xs = (k : ℕ) → At (all_forms k xs) ps

-- entities
entity_none : (k : ℕ) (x : Entity) → IsWhole x → in_denoted k (denoted_of x) ≡ []
entity_none k hidden h = refl
entity_none k (mark i t) h = refl
entity_none k (literal t x) h = refl
entity_none k (object v) h = ap (in_parts k) h
entity_none k (formal_object t e) h = refl
entity_none k (routine r) h = refl
entity_none k (raisable e) h = refl
entity_none k component h = refl
entity_none k test_io h = refl
entity_none k (unit n) h = refl

named_at : (ps : List Pos) (s : State) (o : Option Entity) → IfSome o IsWhole → [] ≡ ps → IfPassed (named s o).outcome (λ g. NameAt ps g.value)
named_at ps s None h e = tt
named_at ps s (Some x) h e = λ k. at_as (in_denoted k (denoted_of x)) [] ps (entity_none k x h) e

-- parts
field_at : (ps : List Pos) (name : List ℕ) (v : Variable) (y : AdaType) → NameAt ps (a_variable v) → IfSome (field_of name v y) (NameAt ps)
field_at ps name v (record_type i fs) h =
    if_map (λ f. Unit {0}) (NameAt ps) (λ f. a_variable (part_of v f.1 false (tree.component f.0 tree.whole))) (field_among name 0 fs) (any_of (field_among name 0 fs))
    (λ f u k. at_as (in_parts k (followed_by v.parts (tree.component f.0 tree.whole))) (in_parts k v.parts) ps
    (in_followed k v.parts (tree.component f.0 tree.whole) ∙ append-nil (in_parts k v.parts)) (h k))
field_at ps name v (integer_type i) h = tt
field_at ps name v (enumeration i n) h = tt
field_at ps name v (formal_type i k b) h = tt
field_at ps name v (array_type i x c) h = tt

component_at : (ps : List Pos) (name : List ℕ) (d : Denoted) → NameAt ps d → IfSome (component_of name d) (NameAt ps)
component_at ps name (a_variable v) h = field_at ps name v (type_in v.subtype) h
component_at ps name d h = tt

typed_at : (env : Env) (ps : List Pos) (t : State) (o : Option Denoted) → env.step ≡ typing → IfSome o (NameAt ps)
    → IfPassed (typed_rule env.step (given a_thing t) (option_map (λ x. given x t) o)).outcome (λ g. NameAt ps g.value)
typed_at env ps t o step h =
    typed_so (λ g. NameAt ps g.value) env.step (given a_thing t) (option_map (λ x. given x t) o) step
    (if_map (NameAt ps) (λ g. NameAt ps g.value) (λ x. given x t) o h (λ d k. k))

selected_at : (env : Env) (ps : List Pos) (t : State) (d : Denoted) (name : List ℕ) → env.step ≡ typing → IsWholeEnv env → NameAt ps d
    → IfPassed (selection env t d name).outcome (λ g. NameAt ps g.value)
selected_at env ps t (a_unit n) name step is h = named_at ps t (part_of_unit env n name) (part_whole env n name is) (h 0)
selected_at env ps t the_test_io name step is h =
    named_at ps t (entity_of name env.world.standard.test_io_declarations) (entity_whole name env.world.standard.test_io_declarations is.test_io) (h 0)
selected_at env ps t d name step is h = typed_at env ps t (component_of name d) step (component_at ps name d h)

-- attributes
indexed_at : (ps : List Pos) (v : Variable) (a : Static × Kind) (b : Bool) → v.is_indexed ≡ b → IsClearDenoted (a_variable v) → NameAt ps (a_variable v)
    → NameAt ps (if b then a_value (valued (tree.attribute v.object v.parts a.0) a.1 None None) else static_attribute a)
indexed_at ps v a true e c h = h
indexed_at ps v a false e c h = λ k. ap (map (λ d. d.label.place)) (sym (c.whole e k)) ∙ h k

attribute_at : (ps : List Pos) (name : List ℕ) (d : Denoted) → IsClearDenoted d → NameAt ps d → IfSome (attribute_of name d) (NameAt ps)
attribute_at ps name (a_mark i (of_type u r)) c h =
    if_map (λ a. Unit {0}) (NameAt ps) static_attribute (attribute_of_type name u r) (any_of (attribute_of_type name u r)) (λ a v. h)
attribute_at ps name (a_variable v) c h =
    if_map (λ a. Unit {0}) (NameAt ps) (object_attribute v) (attribute_of_object name (type_in v.subtype)) (any_of (attribute_of_object name (type_in v.subtype)))
    (λ a u. indexed_at ps v a v.is_indexed refl c h)
attribute_at ps name d c h = tt

attributed_at : (env : Env) (ps : List Pos) (t : State) (d : Denoted) (name : List ℕ) → env.step ≡ typing → (b : Bool) → IsClearDenoted d → NameAt ps d
    → IfPassed (if b then typed_rule env.step (given a_thing t) (option_map (λ x. given x t) (attribute_of name d)) else rule None).outcome (λ g. NameAt ps g.value)
attributed_at env ps t d name step true c h = typed_at env ps t (attribute_of name d) step (attribute_at ps name d c h)
attributed_at env ps t d name step false c h = tt

-- what is applied to actuals
none_before : (ps qs : List Pos) → [] ≡ ps → qs ≡ (ps ++ qs)
none_before ps qs e = ap (λ zs. zs ++ qs) e

conversion_at : (ps qs : List Pos) (t : AdaSubtype) (x : Judged) → [] ≡ ps → ValuesAt qs (x ∷ []) → IsOwn x → IfSome (conversion_of t x) (NameAt (ps ++ qs))
conversion_at ps qs t x e h own =
    if_test (NameAt (ps ++ qs)) (converts (type_in t) x.kind) _
    (λ may k. at_as (in_expr k (expr_of x)) (all_forms k (x ∷ [])) (ps ++ qs) (in_expr_of k x own.1 ∙ sym (one_form k x)) (h k ∙ none_before ps qs e))

element_at : (ps qs : List Pos) (v : Variable) (y : AdaType) (x : Judged) → NameAt ps (a_variable v) → ValuesAt qs (x ∷ []) → IsOwn x → IfSome (element_of v y x) (NameAt (ps ++ qs))
element_at ps qs v (array_type i a c) x h g own =
    if_test (NameAt (ps ++ qs)) (fits (type_in a) x.kind) _
    (λ fit k. at_as (in_parts k (followed_by v.parts (tree.element (range_in a) (expr_of x) tree.whole))) (in_parts k v.parts ++ all_forms k (x ∷ [])) (ps ++ qs)
    (in_followed k v.parts (tree.element (range_in a) (expr_of x) tree.whole) ∙ ap (λ ds. in_parts k v.parts ++ (ds ++ [])) (in_expr_of k x own.1))
    (at_joined (in_parts k v.parts) (all_forms k (x ∷ [])) ps qs (h k) (g k)))
element_at ps qs v (integer_type i) x h g own = tt
element_at ps qs v (enumeration i n) x h g own = tt
element_at ps qs v (formal_type i k b) x h g own = tt
element_at ps qs v (record_type i fs) x h g own = tt

applied_at : (ps qs : List Pos) (d : Denoted) (xs : List Judged) → NameAt ps d → ValuesAt qs xs → Everywhere IsOwn xs → IfSome (applied_to d xs) (NameAt (ps ++ qs))
applied_at ps qs (a_routine r) xs h g own =
    if_map (λ actuals. (k : ℕ) → in_actuals k actuals ≡ all_forms k xs) (NameAt (ps ++ qs)) (a_call r) (actuals_for r.parameters xs) (actuals_hold r.parameters xs own)
    (λ actuals e k. at_as (in_actuals k actuals) (all_forms k xs) (ps ++ qs) (e k) (g k ∙ none_before ps qs (h 0)))
applied_at ps qs (a_mark i t) (x ∷ []) h g own = conversion_at ps qs t x (h 0) g own.0
applied_at ps qs (a_variable v) (x ∷ []) h g own = element_at ps qs v (type_in v.subtype) x h g own.0
applied_at ps qs d [] h g own = tt
applied_at ps qs d (x ∷ []) h g own = tt
applied_at ps qs d (x ∷ (y ∷ zs)) h g own = tt

-- the value of a name
called_at : (ps : List Pos) (r : Routine) (actuals : tree.Actuals) (o : Option Parameter) → ((k : ℕ) → At (in_actuals k actuals) ps) → IfSome (called r actuals o) (ValueAt ps)
called_at ps r actuals None h = tt
called_at ps r actuals (Some q) h = h

value_at : (ps : List Pos) (d : Denoted) → NameAt ps d → IfSome (value_of d) (ValueAt ps)
value_at ps (a_value x) h = h
value_at ps (a_variable v) h = h
value_at ps (a_routine r) h =
    if_test (ValueAt ps) (nat_eq (length r.parameters) 0) (called r tree.no_actual r.result) (λ e. called_at ps r tree.no_actual r.result h)
value_at ps (a_call r actuals) h = called_at ps r actuals r.result h
value_at ps d h = tt

-- a decision of its own
closed_at : (b : Bool) (ps : List Pos) (s : State) (p : Pos) (g : Given Judged) → ValueAt ps g.value → ValueAt (opened_at b p ps) (closed b s p g).value
closed_at true ps s p g h = λ k i. p ∷ at_as (in_test k (test_of g.value.at g.value.form)) (in_form k g.value.form) ps (in_test_of k g.value.at g.value.form) (h k) i
closed_at false ps s p g h = h

-- operators
complement_at : (ps : List Pos) (x : Judged) → ValueAt ps x → ValueAt ps (complement_of x)
complement_at ps x h = λ k. at_as _ (in_form k x.form) ps (in_complemented k x.form) (h k)

signed_at : (ps : List Pos) (q : Pos) (x : Judged) (b : Bool) (o : Option Sign) → IsPlain x.form → ValueAt ps x → IfSome (if b then option_map (signed q x) o else None) (ValueAt ps)
signed_at ps q x b o is h =
    if_test (ValueAt ps) b (option_map (signed q x) o)
    (λ e. if_map (λ s. Unit {0}) (ValueAt ps) (signed q x) o (any_of o) (λ s u k. at_as (in_expr k (expr_of x)) (in_form k x.form) ps (in_expr_of k x is) (h k)))

both_at : (ps qs : List Pos) (x y : Judged) → IsPlain x.form → IsPlain y.form → ValueAt ps x → ValueAt qs y → (k : ℕ) → At (in_expr k (expr_of x) ++ in_expr k (expr_of y)) (ps ++ qs)
both_at ps qs x y is are h g k =
    at_as (in_expr k (expr_of x) ++ in_expr k (expr_of y)) (in_form k x.form ++ in_form k y.form) (ps ++ qs) (two_forms k x y is are)
    (at_joined (in_form k x.form) (in_form k y.form) ps qs (h k) (g k))

operation_at : (ps qs : List Pos) (q : Pos) (op : BinaryOperator) (x y : Judged) → IsPlain x.form → IsPlain y.form → ValueAt ps x → ValueAt qs y
    → IfSome (binary_of q op x y) (ValueAt (ps ++ qs))
operation_at ps qs q op x y is are h g =
    if_then (λ k. Unit {0}) (ValueAt (ps ++ qs)) (λ k. if is_integral k then Some (operation_of q (operator_of op) x y k) else None) (common x.kind y.kind) (any_of (common x.kind y.kind))
    (λ k u. if_test (ValueAt (ps ++ qs)) (is_integral k) _ (λ e n. both_at ps qs x y is are h g n))

relation_at : (ps qs : List Pos) (q : Pos) (op : RelationalOperator) (x y : Judged) → IsPlain x.form → IsPlain y.form → ValueAt ps x → ValueAt qs y
    → IfSome (related q op x y) (ValueAt (ps ++ qs))
relation_at ps qs q op x y is are h g =
    if_then (λ k. Unit {0}) (ValueAt (ps ++ qs)) (λ k. if is_discrete k then Some (relation_with q (relation_of op) x y) else None) (common x.kind y.kind) (any_of (common x.kind y.kind))
    (λ k u. if_test (ValueAt (ps ++ qs)) (is_discrete k) _ (λ e n. both_at ps qs x y is are h g n))

circuit_at : (ps qs : List Pos) (q : Pos) (b : Bool) (o : Option Bool) (x y : Judged) → ValueAt ps x → ValueAt qs y → IfSome (if b then option_map (circuit_of q x y) o else None) (ValueAt (ps ++ qs))
circuit_at ps qs q b None x y h g = if_test (ValueAt (ps ++ qs)) b None (λ e. tt)
circuit_at ps qs q b (Some neutral) x y h g =
    if_test (ValueAt (ps ++ qs)) b _
    (λ e k. at_as (in_test k (test_of x.at x.form) ++ in_test k (test_of y.at y.form)) (in_form k x.form ++ in_form k y.form) (ps ++ qs)
    (λ i. in_test_of k x.at x.form i ++ in_test_of k y.at y.form i) (at_joined (in_form k x.form) (in_form k y.form) ps qs (h k) (g k)))

typed_value : (env : Env) (ps : List Pos) (t : State) (o : Option Judged) → env.step ≡ typing → IfSome o (ValueAt ps) → IfPassed (typed_as env t o).outcome (λ g. ValueAt ps g.value)
typed_value env ps t o step h =
    typed_so (λ g. ValueAt ps g.value) env.step (given any_judged t) (option_map (λ x. given x t) o) step
    (if_map (ValueAt ps) (λ g. ValueAt ps g.value) (λ x. given x t) o h (λ x k. k))

closed_typed : (env : Env) (b : Bool) (ps : List Pos) (s t : State) (p : Pos) (o : Option Judged) → env.step ≡ typing → IfSome o (ValueAt ps)
    → IfPassed (typed_rule env.step (given any_judged t) (option_map (λ y. closed b s p (given y t)) o)).outcome (λ g. ValueAt (opened_at b p ps) g.value)
closed_typed env b ps s t p o step h =
    typed_so (λ g. ValueAt (opened_at b p ps) g.value) env.step (given any_judged t) (option_map (λ y. closed b s p (given y t)) o) step
    (if_map (ValueAt ps) (λ g. ValueAt (opened_at b p ps) g.value) (λ y. closed b s p (given y t)) o h (λ x k. closed_at b ps s p (given x t) k))

standing_value : (ps : List Pos) (p : Pos) (o : Option Judged) → IfSome o (ValueAt ps) → IfSome (option_map (standing_at p) o) (ValueAt ps)
standing_value ps p o h = if_map (ValueAt ps) (ValueAt ps) (standing_at p) o h (λ x k. k)

abbrev pub TestAt : List Pos → Given (tree.Label × tree.Test) → Type 0
TestAt ps g = (k : ℕ) (standing : Standing) → At (in_decision k standing g.value.0 g.value.1) ps

module _ (env : Env) (step : env.step ≡ typing) (is : IsWholeEnv env) where
  abbrev NameSo : State → List Pos → Given Denoted → Type 0
  NameSo s ps g = DenotesFrom s g × NameAt ps g.value

  abbrev ValueSo : Role → Bool → State → List Pos → Given Judged → Type 0
  ValueSo r c s ps g = JudgesFrom r c s g × ValueAt ps g.value

  signed_placed : (r : Role) (s : State) (q : Pos) (op : UnaryOperator) (e : source.Expr) (ps : List Pos) → (start : State)
      → IfOk (judged env itself start e).answer (ValueSo itself (is_circuit e) start ps)
      → ((x : Judged) → unary_of q op x ≡ (if is_integral x.kind then option_map (signed q x) (sign_of op) else None))
      → IfPassed ((judged env itself start e) >>= (λ x. typed_rule env.step (given any_judged x.next) (option_map (λ y. closed false s q (given y x.next)) (unary_of q op x.value)))).outcome
      (λ g. ValueAt ps g.value)
  signed_placed r s q op e ps start all same =
      part_so (ValueSo itself (is_circuit e) start ps) (λ g. ValueAt ps g.value) (judged env itself start e).answer
      (λ x. typed_rule env.step (given any_judged x.next) (option_map (λ y. closed false s q (given y x.next)) (unary_of q op x.value))) all
      (λ x h. closed_typed env false ps s x.next q (unary_of q op x.value) step
      (subst (λ o. IfSome o (ValueAt ps)) (sym (same x.value)) (signed_at ps q x.value (is_integral x.value.kind) (sign_of op) h.0.is_plain h.1)))

  mutual
    pub denoted_placed : (s : State) (n : source.Name) → IfOk (denoted env s n).answer (λ g. NameAt (name_decisions n) g.value)
    denoted_placed s (source.simple i) =
        answered (λ (g : Given Denoted). NameAt [] g.value) i.pos (named s (visible (key i) (regions_of env))).outcome
        (named_at [] s (visible (key i) (regions_of env)) (shown_whole (found (key i) (regions_of env)) (found_whole (key i) (regions_of env) is.regions)) refl)
    denoted_placed s (source.selected n i) =
        answered (λ (g : Given Denoted). NameAt (name_decisions n) g.value) (name_pos n) _
        (part_so (λ d. NameAt (name_decisions n) d.value) (λ g. NameAt (name_decisions n) g.value) (denoted env s n).answer (λ d. selection env d.next d.value (key i)) (denoted_placed s n)
        (λ d h. selected_at env (name_decisions n) d.next d.value (key i) step is h))
    denoted_placed s (source.attribute n i) =
        answered (λ (g : Given Denoted). NameAt (name_decisions n) g.value) (name_pos n) _
        (part_so (NameSo s (name_decisions n)) (λ g. NameAt (name_decisions n) g.value) (denoted env s n).answer (λ d. attribution env d.next d.value (key i))
        (both_ok (DenotesFrom s) (λ d. NameAt (name_decisions n) d.value) (denoted env s n).answer (denoted_decides env step is s n) (denoted_placed s n))
        (λ d h. attributed_at env (name_decisions n) d.next d.value (key i) step (is_attribute (key i)) h.0.clear h.1))
    denoted_placed s (source.applied n es) =
        answered (λ (g : Given Denoted). NameAt (name_decisions n ++ exprs_decisions es) g.value) (name_pos n) _
        (part_so (λ d. NameAt (name_decisions n) d.value) (λ g. NameAt (name_decisions n ++ exprs_decisions es) g.value) (denoted env s n).answer
        (λ d. all_judged env d.next (name_pos n) es >>= (λ xs. typed_rule env.step (given a_thing xs.next) (option_map (λ x. given x xs.next) (applied_to d.value xs.value))))
        (denoted_placed s n)
        (λ d h. part_so (λ xs. JudgesAll d.next xs × ValuesAt (exprs_decisions es) xs.value) (λ g. NameAt (name_decisions n ++ exprs_decisions es) g.value) (all_judged env d.next (name_pos n) es).answer
        (λ xs. typed_rule env.step (given a_thing xs.next) (option_map (λ x. given x xs.next) (applied_to d.value xs.value)))
        (both_ok (JudgesAll d.next) (λ xs. ValuesAt (exprs_decisions es) xs.value) (all_judged env d.next (name_pos n) es).answer
        (all_decide env step is d.next (name_pos n) es) (all_judged_placed d.next (name_pos n) es))
        (λ xs k. typed_at env (name_decisions n ++ exprs_decisions es) xs.next (applied_to d.value xs.value) step
        (applied_at (name_decisions n) (exprs_decisions es) d.value xs.value h k.1 k.0.own))))

    pub judged_placed : (r : Role) (s : State) (e : source.Expr) → IfOk (judged env r s e).answer (λ g. ValueAt (expr_decisions r e) g.value)
    judged_placed r s (source.numeral q n) =
        answered (λ (g : Given Judged). ValueAt [] g.value) q (typed_as env s (numeral_of q n)).outcome
        (typed_value env [] s (numeral_of q n) step (if_test (ValueAt []) (nat_lt n 2147483648) _ (λ e k. refl)))
    judged_placed r s (source.named q n) =
        answered (λ (g : Given Judged). ValueAt (name_decisions n) g.value) q _
        (part_so (λ d. NameAt (name_decisions n) d.value) (λ g. ValueAt (name_decisions n) g.value) (denoted env s n).answer (λ d. typed_as env d.next (option_map (standing_at q) (value_of d.value)))
        (denoted_placed s n)
        (λ d h. typed_value env (name_decisions n) d.next (option_map (standing_at q) (value_of d.value)) step
        (standing_value (name_decisions n) q (value_of d.value) (value_at (name_decisions n) d.value h))))
    judged_placed r s (source.parenthesized q e) =
        let inner = entered (opens r (is_circuit e)) s in
        answered (λ (g : Given Judged). ValueAt (opened_at (opens r (is_circuit e)) q (expr_decisions operand e)) g.value) q _
        (part_so (λ x. ValueAt (expr_decisions operand e) x.value) (λ g. ValueAt (opened_at (opens r (is_circuit e)) q (expr_decisions operand e)) g.value) (judged env operand inner e).answer
        (λ x. rule (Some (closed (opens r (is_circuit e)) s q (given (enclosed x.value) x.next)))) (judged_placed operand inner e)
        (λ x h. closed_at (opens r (is_circuit e)) (expr_decisions operand e) s q (given (enclosed x.value) x.next) h))
    judged_placed r s (source.unary q unary.Not e) =
        let inner = entered (opens r (is_circuit e)) s in
        answered (λ (g : Given Judged). ValueAt (opened_at (opens r (is_circuit e)) q (expr_decisions operand e)) g.value) q _
        (part_so (λ x. ValueAt (expr_decisions operand e) x.value) (λ g. ValueAt (opened_at (opens r (is_circuit e)) q (expr_decisions operand e)) g.value) (judged env operand inner e).answer
        (λ x. typed_rule env.step (given any_judged x.next) (option_map (λ y. closed (opens r (is_circuit e)) s q (given y x.next)) (unary_of q unary.Not x.value)))
        (judged_placed operand inner e)
        (λ x h. closed_typed env (opens r (is_circuit e)) (expr_decisions operand e) s x.next q (unary_of q unary.Not x.value) step
        (if_test (ValueAt (expr_decisions operand e)) (is_boolean x.value.kind) _ (λ b. complement_at (expr_decisions operand e) x.value h))))
    judged_placed itself s (source.unary q unary.Plus e) =
        answered (λ (g : Given Judged). ValueAt (expr_decisions itself e) g.value) q _
        (signed_placed itself s q unary.Plus e (expr_decisions itself e) s
        (both_ok (JudgesFrom itself (is_circuit e) s) (λ x. ValueAt (expr_decisions itself e) x.value) (judged env itself s e).answer
        (judged_decides env step is itself s e) (judged_placed itself s e)) (λ x. refl))
    judged_placed operand s (source.unary q unary.Plus e) =
        answered (λ (g : Given Judged). ValueAt (expr_decisions itself e) g.value) q _
        (signed_placed operand s q unary.Plus e (expr_decisions itself e) s
        (both_ok (JudgesFrom itself (is_circuit e) s) (λ x. ValueAt (expr_decisions itself e) x.value) (judged env itself s e).answer
        (judged_decides env step is itself s e) (judged_placed itself s e)) (λ x. refl))
    judged_placed itself s (source.unary q unary.Minus e) =
        answered (λ (g : Given Judged). ValueAt (expr_decisions itself e) g.value) q _
        (signed_placed itself s q unary.Minus e (expr_decisions itself e) s
        (both_ok (JudgesFrom itself (is_circuit e) s) (λ x. ValueAt (expr_decisions itself e) x.value) (judged env itself s e).answer
        (judged_decides env step is itself s e) (judged_placed itself s e)) (λ x. refl))
    judged_placed operand s (source.unary q unary.Minus e) =
        answered (λ (g : Given Judged). ValueAt (expr_decisions itself e) g.value) q _
        (signed_placed operand s q unary.Minus e (expr_decisions itself e) s
        (both_ok (JudgesFrom itself (is_circuit e) s) (λ x. ValueAt (expr_decisions itself e) x.value) (judged env itself s e).answer
        (judged_decides env step is itself s e) (judged_placed itself s e)) (λ x. refl))
    judged_placed itself s (source.unary q unary.Abs e) =
        answered (λ (g : Given Judged). ValueAt (expr_decisions itself e) g.value) q _
        (signed_placed itself s q unary.Abs e (expr_decisions itself e) s
        (both_ok (JudgesFrom itself (is_circuit e) s) (λ x. ValueAt (expr_decisions itself e) x.value) (judged env itself s e).answer
        (judged_decides env step is itself s e) (judged_placed itself s e)) (λ x. refl))
    judged_placed operand s (source.unary q unary.Abs e) =
        answered (λ (g : Given Judged). ValueAt (expr_decisions itself e) g.value) q _
        (signed_placed operand s q unary.Abs e (expr_decisions itself e) s
        (both_ok (JudgesFrom itself (is_circuit e) s) (λ x. ValueAt (expr_decisions itself e) x.value) (judged env itself s e).answer
        (judged_decides env step is itself s e) (judged_placed itself s e)) (λ x. refl))
    judged_placed r s (source.binary q a op b) =
        answered (λ (g : Given Judged). ValueAt (expr_decisions itself a ++ expr_decisions itself b) g.value) q _
        (part_so (ValueSo itself (is_circuit a) s (expr_decisions itself a)) (λ g. ValueAt (expr_decisions itself a ++ expr_decisions itself b) g.value) (judged env itself s a).answer
        (λ x. judged env itself x.next b >>= (λ y. typed_as env y.next (binary_of q op x.value y.value)))
        (both_ok (JudgesFrom itself (is_circuit a) s) (λ x. ValueAt (expr_decisions itself a) x.value) (judged env itself s a).answer (judged_decides env step is itself s a) (judged_placed itself s a))
        (λ x h. part_so (ValueSo itself (is_circuit b) x.next (expr_decisions itself b)) (λ g. ValueAt (expr_decisions itself a ++ expr_decisions itself b) g.value) (judged env itself x.next b).answer
        (λ y. typed_as env y.next (binary_of q op x.value y.value))
        (both_ok (JudgesFrom itself (is_circuit b) x.next) (λ y. ValueAt (expr_decisions itself b) y.value) (judged env itself x.next b).answer (judged_decides env step is itself x.next b) (judged_placed itself x.next b))
        (λ y k. typed_value env (expr_decisions itself a ++ expr_decisions itself b) y.next (binary_of q op x.value y.value) step
        (operation_at (expr_decisions itself a) (expr_decisions itself b) q op x.value y.value h.0.is_plain k.0.is_plain h.1 k.1))))
    judged_placed r s (source.relation q a op b) =
        answered (λ (g : Given Judged). ValueAt (expr_decisions itself a ++ expr_decisions itself b) g.value) q _
        (part_so (ValueSo itself (is_circuit a) s (expr_decisions itself a)) (λ g. ValueAt (expr_decisions itself a ++ expr_decisions itself b) g.value) (judged env itself s a).answer
        (λ x. judged env itself x.next b >>= (λ y. typed_as env y.next (related q op x.value y.value)))
        (both_ok (JudgesFrom itself (is_circuit a) s) (λ x. ValueAt (expr_decisions itself a) x.value) (judged env itself s a).answer (judged_decides env step is itself s a) (judged_placed itself s a))
        (λ x h. part_so (ValueSo itself (is_circuit b) x.next (expr_decisions itself b)) (λ g. ValueAt (expr_decisions itself a ++ expr_decisions itself b) g.value) (judged env itself x.next b).answer
        (λ y. typed_as env y.next (related q op x.value y.value))
        (both_ok (JudgesFrom itself (is_circuit b) x.next) (λ y. ValueAt (expr_decisions itself b) y.value) (judged env itself x.next b).answer (judged_decides env step is itself x.next b) (judged_placed itself x.next b))
        (λ y k. typed_value env (expr_decisions itself a ++ expr_decisions itself b) y.next (related q op x.value y.value) step
        (relation_at (expr_decisions itself a) (expr_decisions itself b) q op x.value y.value h.0.is_plain k.0.is_plain h.1 k.1))))
    judged_placed r s (source.logical q a op b) =
        let c = is_some (neutral_of op) in
        let ps = expr_decisions operand a ++ expr_decisions operand b in
        answered (λ (g : Given Judged). ValueAt (opened_at (opens r c) q ps) g.value) q _
        (part_so (λ x. ValueAt (expr_decisions operand a) x.value) (λ g. ValueAt (opened_at (opens r c) q ps) g.value) (judged env operand (entered (opens r c) s) a).answer
        (λ x. judged env operand x.next b >>= (λ y. typed_rule env.step (given any_judged y.next)
        (option_map (λ z. closed (opens r c) s q (given z y.next)) (joined q op x.value y.value))))
        (judged_placed operand (entered (opens r c) s) a)
        (λ x h. part_so (λ y. ValueAt (expr_decisions operand b) y.value) (λ g. ValueAt (opened_at (opens r c) q ps) g.value) (judged env operand x.next b).answer
        (λ y. typed_rule env.step (given any_judged y.next) (option_map (λ z. closed (opens r c) s q (given z y.next)) (joined q op x.value y.value)))
        (judged_placed operand x.next b)
        (λ y k. closed_typed env (opens r c) ps s y.next q (joined q op x.value y.value) step
        (circuit_at (expr_decisions operand a) (expr_decisions operand b) q (is_boolean x.value.kind && is_boolean y.value.kind) (neutral_of op) x.value y.value h k))))

    pub all_judged_placed : (s : State) (q : Pos) (es : source.Exprs) → IfOk (all_judged env s q es).answer (λ xs. ValuesAt (exprs_decisions es) xs.value)
    all_judged_placed s q source.no_exprs = λ k. refl
    all_judged_placed s q (source.also e es) =
        answered (λ (xs : Given (List Judged)). ValuesAt (expr_decisions itself e ++ exprs_decisions es) xs.value) q _
        (part_so (λ x. ValueAt (expr_decisions itself e) x.value) (λ xs. ValuesAt (expr_decisions itself e ++ exprs_decisions es) xs.value) (judged env itself s e).answer
        (λ x. all_judged env x.next q es >>= (λ xs. rule (Some (given (x.value ∷ xs.value) xs.next)))) (judged_placed itself s e)
        (λ x h. part_so (λ xs. ValuesAt (exprs_decisions es) xs.value) (λ xs. ValuesAt (expr_decisions itself e ++ exprs_decisions es) xs.value) (all_judged env x.next q es).answer
        (λ xs. rule (Some (given (x.value ∷ xs.value) xs.next))) (all_judged_placed x.next q es)
        (λ xs k n. at_joined (in_form n x.value.form) (all_forms n xs.value) (expr_decisions itself e) (exprs_decisions es) (h n) (k n))))

  -- the decision of a statement
  pub decision_placed : (s : State) (q : Pos) (e : source.Expr) → IfOk (decision env s q e).answer (TestAt (test_decisions e))
  decision_placed s q e =
      answered (TestAt (test_decisions e)) q _
      (part_so (λ x. ValueAt (expr_decisions operand e) x.value) (TestAt (test_decisions e)) (judged env operand (decided s) e).answer
      (λ x. typed_rule env.step (given (decision_label s (expr_pos e), test_of x.value.at x.value.form) x.next)
      (option_map (λ t. given (decision_label s (expr_pos e), t) (measured (expr_pos e) t x.next)) (tested x.value)))
      (judged_placed operand (decided s) e)
      (λ x h. typed_so (TestAt (test_decisions e)) env.step (given (decision_label s (expr_pos e), test_of x.value.at x.value.form) x.next) _ step
      (if_map (λ t. t ≡ test_of x.value.at x.value.form) (TestAt (test_decisions e)) (λ t. given (decision_label s (expr_pos e), t) (measured (expr_pos e) t x.next)) (tested x.value)
      (if_test (λ t. t ≡ test_of x.value.at x.value.form) (is_boolean x.value.kind) (Some (test_of x.value.at x.value.form)) (λ b. refl))
      (λ t same k standing i. expr_pos e ∷ at_as (in_test k t) (in_form k x.value.form) (expr_decisions operand e) (ap (in_test k) same ∙ in_test_of k x.value.at x.value.form) (h k) i))))
