-- Names and expressions number their decisions in the order in which they stand in what they come to.
use Rattle.std.proofs.Common.{◌≡◌, ℕ, nat_eq, nat_lt, Bool, true, false, if◌then◌else◌, List, [], ◌∷◌, ◌++◌, length, Option, Some, None, option_map, IfSome, IfOk, is_some, refl, sym, ap, ◌∙◌, append-nil, append_assoc}
use Rattle.std.specs.Prelude.{◌&&◌, ◌||◌, not}
use Rattle.std.specs.Option.{option_and_then}
use Rattle.std.proofs.lemmas.Bool.{false≢true}
use Rattle.cov_base.specs.Lists.{Everywhere}
use Rattle.cov_base.specs.declared.position.Pos.{Pos}
use Rattle.ada_syntax.specs.Tree as source
use Rattle.ada_syntax.specs.Tree.{expr_pos, name_pos}
use Rattle.ada_meaning.specs.Collected.{Standing, Decision, elsewhere, in_expr, in_parts, in_actuals, in_test, in_decision}
use Rattle.ada_meaning.specs.Program.{Mode, in_mode, out_mode, in_out_mode}
use Rattle.ada_meaning.specs.Tree as tree
use Rattle.ada_meaning.specs.Types.{Static, Sign, static_sign}
use Rattle.ada_rules.specs.Plan.{Outcome, refused_in, broken, passed, ◌>>=◌, rule}
use Rattle.ada_rules.specs.Types.{AdaType, integer_type, enumeration, formal_type, array_type, record_type, AdaSubtype, of_type, type_in, range_in, is_scalar, same_type, Kind, is_integral, is_discrete, is_boolean, fits, common}
use Rattle.ada_syntax.specs.declared.expr.UnaryOperator.{UnaryOperator}
use Rattle.ada_syntax.specs.declared.expr.UnaryOperator.TheVariants as unary
use Rattle.ada_syntax.specs.declared.expr.BinaryOperator.{BinaryOperator}
use Rattle.ada_syntax.specs.declared.expr.RelationalOperator.{RelationalOperator}
use Rattle.ada_rules.specs.Entities.{key, Variable, Parameter, Routine, Entity, hidden, mark, literal, object, formal_object, routine, raisable, component, test_io, unit, Region, entity_of, found, shown, visible, same_name}
use Rattle.ada_rules.specs.Environment.{typing, typed_rule, State, Given, given, Env, regions_of, interface_of, decision_label, decided}
use Rattle.ada_rules.specs.Denoted.{Form, plain, test_form, Judged, any_judged, valued, Denoted, a_mark, a_value, a_variable, a_routine, a_call, a_unit, the_test_io, a_thing, denoted_of, followed_by, part_of, field_among, field_of, component_of, attribute_of_type, attribute_of_object, static_attribute, object_attribute, converts, conversion_of, element_of, written, by_name, by_value, passed_as, actuals_for, called, complemented, complement_of, signed, sign_of, known_of_both, operator_of, operation_of, relation_of, relation_with, circuit_of, is_attribute, attribute_of, negated, test_of_expr, test_of, expr_of, numeral_of, standing_at, enclosed, unary_of, binary_of, related, neutral_of, joined, tested, value_of, applied_to}
use Rattle.ada_rules.specs.Expressions.{Role, itself, operand, is_circuit, opens, entered, closed, measured, is_own, part_of_unit, part_of_interface, named, selection, attribution, typed_as, denoted, judged, all_judged, decision}
use Rattle.legal_laws.proofs.Passing.{IfPassed, if_map, if_then, if_test, if_not, if_either, if_or, answered, part_so, typed_so}
use Rattle.legal_programs.specs.Deciding.{Decides, IsWhole, IsWholeRegion, IsWholeEnv, in_form, in_denoted, IsPlain, IsPlainIn, IsClearVariable, IsClear, DenotesFrom, JudgesFrom}
use Rattle.legal_programs.proofs.Deciding.{decides_same, decides_joined, decides_as, decides_behind, decides_measured}

-- tests
in_negated : (k : ℕ) (t : tree.Test) → in_test k (negated t) ≡ in_test k t
in_negated k (tree.condition at e) = refl
in_negated k (tree.negation t) = refl
in_negated k (tree.operator neutral t u) = refl

in_test_of_expr : (k : ℕ) (at : Pos) (e : tree.Expr) → in_test k (test_of_expr at e) ≡ in_expr k e
in_test_of_expr k at (tree.complement e) = in_negated k (test_of_expr at e) ∙ in_test_of_expr k at e
in_test_of_expr k at (tree.literal x) = refl
in_test_of_expr k at (tree.constant e) = refl
in_test_of_expr k at (tree.attribute o parts e) = refl
in_test_of_expr k at (tree.read o parts) = refl
in_test_of_expr k at (tree.signed s e) = refl
in_test_of_expr k at (tree.operation o e f) = refl
in_test_of_expr k at (tree.relation r e f) = refl
in_test_of_expr k at (tree.conversion r e) = refl
in_test_of_expr k at (tree.call c actuals) = refl
in_test_of_expr k at (tree.decision d t) = refl

pub in_test_of : (k : ℕ) (at : Pos) (f : Form) → in_test k (test_of at f) ≡ in_form k f
in_test_of k at (plain e) = in_test_of_expr k at e
in_test_of k at (test_form t) = refl

-- an expression that is plain
pub in_expr_of : (k : ℕ) (x : Judged) → IsPlain x.form → in_expr k (expr_of x) ≡ in_form k x.form
in_expr_of k x h = of_form x.form h
  where
    of_form : (f : Form) → IsPlain f → in_expr k (expr_of (record x { form = f })) ≡ in_form k f
    of_form (plain e) g = refl
    of_form (test_form t) g = absurd g

-- parts behind others
pub in_followed : (k : ℕ) (p q : tree.Parts) → in_parts k (followed_by p q) ≡ (in_parts k p ++ in_parts k q)
in_followed k tree.whole q = refl
in_followed k (tree.component n p) q = in_followed k p q
in_followed k (tree.element r e p) q =
    ap (λ ds. in_expr k e ++ ds) (in_followed k p q) ∙ sym (append_assoc (in_expr k e) (in_parts k p) (in_parts k q))

-- entities
clear_whole : (v : Variable) → v.parts ≡ tree.whole → IsClearVariable v
clear_whole v e = record { known = if_known v.known; whole = λ f k. ap (in_parts k) e }
  where
    if_known : (o : Option Static) → IfSome o (λ x. (k : ℕ) → in_parts k v.parts ≡ [])
    if_known None = tt
    if_known (Some x) = λ k. ap (in_parts k) e

abbrev Denotes : State → Given Denoted → Type 0
Denotes s g = DenotesFrom s g

entity_denotes : (s : State) (x : Entity) → IsWhole x → DenotesFrom s (given (denoted_of x) s)
entity_denotes s hidden h = record { decides = λ k. decides_same s; clear = tt }
entity_denotes s (mark i t) h = record { decides = λ k. decides_same s; clear = tt }
entity_denotes s (literal t x) h =
    record { decides = λ k. decides_same s; clear = (record { known = λ k. refl; variable = tt }, tt) }
entity_denotes s (object v) h = record { decides = λ k. decides_as s s [] _ (sym (ap (in_parts k) h)) (decides_same s); clear = clear_whole v h }
entity_denotes s (formal_object t e) h =
    record { decides = λ k. decides_same s; clear = (record { known = λ k. refl; variable = tt }, tt) }
entity_denotes s (routine r) h = record { decides = λ k. decides_same s; clear = tt }
entity_denotes s (raisable e) h = record { decides = λ k. decides_same s; clear = tt }
entity_denotes s component h = record { decides = λ k. decides_same s; clear = tt }
entity_denotes s test_io h = record { decides = λ k. decides_same s; clear = tt }
entity_denotes s (unit n) h = record { decides = λ k. decides_same s; clear = tt }

named_denotes : (s : State) (o : Option Entity) → IfSome o IsWhole → IfPassed (named s o).outcome (DenotesFrom s)
named_denotes s None h = tt
named_denotes s (Some x) h = entity_denotes s x h

-- what is found among whole entities
pub entity_whole : (name : List ℕ) (region : Region) → IsWholeRegion region → IfSome (entity_of name region) IsWhole
entity_whole name [] all = tt
entity_whole name (e ∷ region) all =
    if_either IsWhole (same_name name e.0) (Some e.1) (entity_of name region) all.0 (entity_whole name region all.1)

pub found_whole : (name : List ℕ) (regions : List Region) → Everywhere IsWholeRegion regions → IfSome (found name regions) IsWhole
found_whole name [] all = tt
found_whole name (r ∷ rs) all = if_or IsWhole (entity_of name r) (found name rs) (entity_whole name r all.0) (found_whole name rs all.1)

pub shown_whole : (o : Option Entity) → IfSome o IsWhole → IfSome (shown o) IsWhole
shown_whole None h = tt
shown_whole (Some hidden) h = tt
shown_whole (Some x) h = h

pub part_whole : (env : Env) (n : ℕ) (name : List ℕ) → IsWholeEnv env → IfSome (part_of_unit env n name) IsWhole
part_whole env n name is =
    if_either IsWhole (is_own env.own_package n) (shown (entity_of name env.own)) (part_of_interface env.world name (interface_of env.world n))
    (shown_whole (entity_of name env.own) (entity_whole name env.own is.own)) (is.units n name)

pub any_of : {X : Type 0} (o : Option X) → IfSome o (λ x. Unit {0})
any_of None = tt
any_of (Some x) = tt

-- a component
field_denotes : (s t : State) (name : List ℕ) (v : Variable) (y : AdaType) → DenotesFrom s (given (a_variable v) t)
    → IfSome (field_of name v y) (λ d. DenotesFrom s (given d t))
field_denotes s t name v (record_type i fs) h =
    if_map (λ f. Unit {0}) (λ d. DenotesFrom s (given d t)) (λ f. a_variable (part_of v f.1 false (tree.component f.0 tree.whole))) (field_among name 0 fs)
    (any_of (field_among name 0 fs))
    (λ f u. record {
      decides = λ k. decides_as s t (in_parts k v.parts) _ (sym (in_followed k v.parts (tree.component f.0 tree.whole) ∙ append-nil (in_parts k v.parts))) (h.decides k);
      clear = record { known = tt; whole = λ e k. in_followed k v.parts (tree.component f.0 tree.whole) ∙ (append-nil (in_parts k v.parts) ∙ h.clear.whole (or_false v.is_indexed e) k) };
    })
  where
    or_false : (b : Bool) → (b || false) ≡ false → b ≡ false
    or_false true e = e
    or_false false e = refl
field_denotes s t name v (integer_type i) h = tt
field_denotes s t name v (enumeration i n) h = tt
field_denotes s t name v (formal_type i k b) h = tt
field_denotes s t name v (array_type i x c) h = tt

component_denotes : (s t : State) (name : List ℕ) (d : Denoted) → DenotesFrom s (given d t) → IfSome (component_of name d) (λ e. DenotesFrom s (given e t))
component_denotes s t name (a_variable v) h = field_denotes s t name v (type_in v.subtype) h
component_denotes s t name d h = tt

-- a rule on types that gives a name
typed_denotes : (env : Env) (s t : State) (o : Option Denoted) → env.step ≡ typing → IfSome o (λ d. DenotesFrom s (given d t))
    → IfPassed (typed_rule env.step (given a_thing t) (option_map (λ x. given x t) o)).outcome (DenotesFrom s)
typed_denotes env s t o step h =
    typed_so (DenotesFrom s) env.step (given a_thing t) (option_map (λ x. given x t) o) step
    (if_map (λ d. DenotesFrom s (given d t)) (DenotesFrom s) (λ x. given x t) o h (λ d k. k))

-- what follows a name that comes to nothing with a decision
behind_denotes : (s t : State) (ds : List Decision) → Decides s [] t → (g : Given Denoted) → DenotesFrom t g → DenotesFrom s g
behind_denotes s t ds h g k = record { decides = λ n. decides_behind s t g.next (in_denoted n g.value) h (k.decides n); clear = k.clear }

passed_behind : (s t : State) (o : Outcome (Given Denoted)) → IfPassed o (DenotesFrom t) → Decides s [] t → IfPassed o (DenotesFrom s)
passed_behind s t (refused_in p) k l = tt
passed_behind s t broken k l = tt
passed_behind s t (passed g) k l = behind_denotes s t [] l g k

selected_denotes : (env : Env) (s t : State) (d : Denoted) (name : List ℕ) → env.step ≡ typing → IsWholeEnv env → DenotesFrom s (given d t)
    → IfPassed (selection env t d name).outcome (DenotesFrom s)
selected_denotes env s t (a_unit n) name step is h =
    passed_behind s t (named t (part_of_unit env n name)).outcome
    (named_denotes t (part_of_unit env n name) (part_whole env n name is)) (h.decides 0)
selected_denotes env s t the_test_io name step is h =
    passed_behind s t (named t (entity_of name env.world.standard.test_io_declarations)).outcome
    (named_denotes t (entity_of name env.world.standard.test_io_declarations) (entity_whole name env.world.standard.test_io_declarations is.test_io)) (h.decides 0)
selected_denotes env s t d name step is h = typed_denotes env s t (component_of name d) step (component_denotes s t name d h)

-- attributes
static_denotes : (s t : State) (a : Static × Kind) → Decides s [] t → DenotesFrom s (given (static_attribute a) t)
static_denotes s t a h = record { decides = λ k. h; clear = (record { known = λ k. refl; variable = tt }, tt) }

object_denotes : (s t : State) (v : Variable) (a : Static × Kind) (b : Bool) → v.is_indexed ≡ b → DenotesFrom s (given (a_variable v) t)
    → DenotesFrom s (given (if b then a_value (valued (tree.attribute v.object v.parts a.0) a.1 None None) else static_attribute a) t)
object_denotes s t v a true e h = record { decides = h.decides; clear = (record { known = tt; variable = tt }, tt) }
object_denotes s t v a false e h = static_denotes s t a (decides_as s t (in_parts 0 v.parts) [] (h.clear.whole e 0) (h.decides 0))

attribute_denotes : (s t : State) (name : List ℕ) (d : Denoted) → DenotesFrom s (given d t) → IfSome (attribute_of name d) (λ e. DenotesFrom s (given e t))
attribute_denotes s t name (a_mark i (of_type u r)) h =
    if_map (λ a. Unit {0}) (λ e. DenotesFrom s (given e t)) static_attribute (attribute_of_type name u r) (any_of (attribute_of_type name u r)) (λ a v. static_denotes s t a (h.decides 0))
attribute_denotes s t name (a_variable v) h =
    if_map (λ a. Unit {0}) (λ e. DenotesFrom s (given e t)) (object_attribute v) (attribute_of_object name (type_in v.subtype)) (any_of (attribute_of_object name (type_in v.subtype)))
    (λ a u. object_denotes s t v a v.is_indexed refl h)
attribute_denotes s t name d h = tt

attributed_denotes : (env : Env) (s t : State) (d : Denoted) (name : List ℕ) → env.step ≡ typing → (b : Bool) → DenotesFrom s (given d t)
    → IfPassed (if b then typed_rule env.step (given a_thing t) (option_map (λ x. given x t) (attribute_of name d)) else rule None).outcome (DenotesFrom s)
attributed_denotes env s t d name step true h = typed_denotes env s t (attribute_of name d) step (attribute_denotes s t name d h)
attributed_denotes env s t d name step false h = tt

-- actuals
abbrev pub IsOwn : Judged → Type 0
IsOwn x = IsClear x × IsPlain x.form

abbrev pub all_forms : ℕ → List Judged → List Decision
all_forms k [] = []
all_forms k (x ∷ xs) = in_form k x.form ++ all_forms k xs

pub record JudgesAll (s : State) (g : Given (List Judged)) : Type 0 where
  pub decides : (k : ℕ) → Decides s (all_forms k g.value) g.next
  pub own : Everywhere IsOwn g.value

abbrev Holds : Judged → List Judged → tree.Actuals → tree.Actuals → Type 0
Holds x xs rest actuals = (k : ℕ) → in_actuals k actuals ≡ (in_form k x.form ++ in_actuals k rest)

by_part : (x : Judged) (xs : List Judged) (v : Variable) (rest : tree.Actuals) → ((k : ℕ) → in_form k x.form ≡ in_parts k v.parts) → (k : ℕ)
    → (in_parts k v.parts ++ in_actuals k rest) ≡ (in_form k x.form ++ in_actuals k rest)
by_part x xs v rest h k = ap (λ ds. ds ++ in_actuals k rest) (sym (h k))

composite_holds : (x : Judged) (xs : List Judged) (rest : tree.Actuals) (o : Option Variable) → IfSome o (λ v. (k : ℕ) → in_form k x.form ≡ in_parts k v.parts)
    → IfSome (option_map (λ v. tree.by_composite v.object v.parts rest) o) (Holds x xs rest)
composite_holds x xs rest None h = tt
composite_holds x xs rest (Some v) h = λ k. by_part x xs v rest h k

written_holds : (x : Judged) (xs : List Judged) (rest : tree.Actuals) (u : AdaType) (v : Variable) (b : Bool) → ((k : ℕ) → in_form k x.form ≡ in_parts k v.parts)
    → Holds x xs rest (if b then tree.by_variable v.object v.parts (range_in v.subtype) rest else tree.by_composite v.object v.parts rest)
written_holds x xs rest u v true h = λ k. by_part x xs v rest h k
written_holds x xs rest u v false h = λ k. by_part x xs v rest h k

name_holds : (q : Parameter) (x : Judged) (xs : List Judged) (rest : tree.Actuals) (o : Option Variable) → IfSome o (λ v. (k : ℕ) → in_form k x.form ≡ in_parts k v.parts)
    → IfSome (option_and_then (by_name q rest) o) (Holds x xs rest)
name_holds q x xs rest None h = tt
name_holds q x xs rest (Some v) h =
    if_test (Holds x xs rest) (v.is_writable && same_type (type_in v.subtype) (type_in q.subtype)) (Some (written (type_in q.subtype) v rest))
    (λ e. written_holds x xs rest (type_in q.subtype) v (is_scalar (type_in q.subtype)) h)

value_holds : (q : Parameter) (x : Judged) (xs : List Judged) (rest : tree.Actuals) → IsOwn x → IfSome (by_value q x rest) (Holds x xs rest)
value_holds q x xs rest h =
    if_not (Holds x xs rest) (not (fits (type_in q.subtype) x.kind)) _
    (λ e. if_either (Holds x xs rest) (is_scalar (type_in q.subtype)) (Some (tree.by_expression (expr_of x) rest)) _
    (λ k. ap (λ ds. ds ++ in_actuals k rest) (in_expr_of k x h.1)) (composite_holds x xs rest x.variable h.0.variable))

passed_holds : (m : Mode) (q : Parameter) (x : Judged) (xs : List Judged) (rest : tree.Actuals) → IsOwn x → IfSome (passed_as m q x rest) (Holds x xs rest)
passed_holds in_mode q x xs rest h = value_holds q x xs rest h
passed_holds out_mode q x xs rest h =
    if_test (Holds x xs rest) x.is_name (option_and_then (by_name q rest) x.variable) (λ e. name_holds q x xs rest x.variable h.0.variable)
passed_holds in_out_mode q x xs rest h =
    if_test (Holds x xs rest) x.is_name (option_and_then (by_name q rest) x.variable) (λ e. name_holds q x xs rest x.variable h.0.variable)

pub actuals_hold : (qs : List Parameter) (xs : List Judged) → Everywhere IsOwn xs → IfSome (actuals_for qs xs) (λ actuals. (k : ℕ) → in_actuals k actuals ≡ all_forms k xs)
actuals_hold [] [] h = λ k. refl
actuals_hold [] (x ∷ xs) h = tt
actuals_hold (q ∷ qs) [] h = tt
actuals_hold (q ∷ qs) (x ∷ xs) h =
    if_then (λ rest. (k : ℕ) → in_actuals k rest ≡ all_forms k xs) (λ actuals. (k : ℕ) → in_actuals k actuals ≡ all_forms k (x ∷ xs)) (passed_as q.mode q x) (actuals_for qs xs)
    (actuals_hold qs xs h.1)
    (λ rest r. some_holds rest r (passed_as q.mode q x rest) (passed_holds q.mode q x xs rest h.0))
  where
    some_holds : (rest : tree.Actuals) → ((k : ℕ) → in_actuals k rest ≡ all_forms k xs) → (o : Option tree.Actuals) → IfSome o (Holds x xs rest)
        → IfSome o (λ actuals. (k : ℕ) → in_actuals k actuals ≡ all_forms k (x ∷ xs))
    some_holds rest r None l = tt
    some_holds rest r (Some actuals) l = λ k. l k ∙ ap (λ ds. in_form k x.form ++ ds) (r k)

-- what is applied to actuals
pub one_form : (k : ℕ) (x : Judged) → all_forms k (x ∷ []) ≡ in_form k x.form
one_form k x = append-nil (in_form k x.form)

conversion_denotes : (s t u : State) (y : AdaSubtype) (x : Judged) → Decides s [] t → ((k : ℕ) → Decides t (in_form k x.form) u) → IsOwn x
    → IfSome (conversion_of y x) (λ d. DenotesFrom s (given d u))
conversion_denotes s t u y x h g own =
    if_test (λ d. DenotesFrom s (given d u)) (converts (type_in y) x.kind) _
    (λ e. record {
      decides = λ k. decides_behind s t u _ h (decides_as t u (in_form k x.form) _ (sym (in_expr_of k x own.1)) (g k));
      clear = (record { known = tt; variable = tt }, tt);
    })

element_denotes : (s t u : State) (v : Variable) (y : AdaType) (x : Judged) → DenotesFrom s (given (a_variable v) t) → ((k : ℕ) → Decides t (in_form k x.form) u) → IsOwn x
    → IfSome (element_of v y x) (λ d. DenotesFrom s (given d u))
element_denotes s t u v (array_type i a c) x h g own =
    if_test (λ d. DenotesFrom s (given d u)) (fits (type_in a) x.kind) _
    (λ e. record {
      decides = λ k. decides_as s u (in_parts k v.parts ++ in_form k x.form) _
          (sym (in_followed k v.parts (tree.element (range_in a) (expr_of x) tree.whole)
          ∙ ap (λ ds. in_parts k v.parts ++ ds) (append-nil (in_expr k (expr_of x)) ∙ in_expr_of k x own.1)))
          (decides_joined s t u (in_parts k v.parts) (in_form k x.form) (h.decides k) (g k));
      clear = record { known = tt; whole = λ f. absurd (never v.is_indexed f) };
    })
  where
    never : (b : Bool) → (b || true) ≡ false → ⊥
    never true f = false≢true (sym f)
    never false f = false≢true (sym f)
element_denotes s t u v (integer_type i) x h g own = tt
element_denotes s t u v (enumeration i n) x h g own = tt
element_denotes s t u v (formal_type i k b) x h g own = tt
element_denotes s t u v (record_type i fs) x h g own = tt

applied_denotes : (s t u : State) (d : Denoted) (xs : List Judged) → DenotesFrom s (given d t) → JudgesAll t (given xs u)
    → IfSome (applied_to d xs) (λ e. DenotesFrom s (given e u))
applied_denotes s t u (a_routine r) xs h all =
    if_map (λ actuals. (k : ℕ) → in_actuals k actuals ≡ all_forms k xs) (λ e. DenotesFrom s (given e u)) (a_call r) (actuals_for r.parameters xs)
    (actuals_hold r.parameters xs all.own)
    (λ actuals e. record {
      decides = λ k. decides_behind s t u (in_actuals k actuals) (h.decides k) (decides_as t u (all_forms k xs) (in_actuals k actuals) (sym (e k)) (all.decides k));
      clear = tt;
    })
applied_denotes s t u (a_mark i y) (x ∷ []) h all =
    conversion_denotes s t u y x (h.decides 0) (λ k. decides_as t u (all_forms k (x ∷ [])) (in_form k x.form) (one_form k x) (all.decides k)) all.own.0
applied_denotes s t u (a_variable v) (x ∷ []) h all =
    element_denotes s t u v (type_in v.subtype) x h (λ k. decides_as t u (all_forms k (x ∷ [])) (in_form k x.form) (one_form k x) (all.decides k)) all.own.0
applied_denotes s t u d [] h all = tt
applied_denotes s t u d (x ∷ []) h all = tt
applied_denotes s t u d (x ∷ (y ∷ zs)) h all = tt

-- the value of a name
called_judges : (s t : State) (r : Routine) (actuals : tree.Actuals) (o : Option Parameter) → ((k : ℕ) → Decides s (in_actuals k actuals) t)
    → IfSome (called r actuals o) (λ x. JudgesFrom itself false s (given x t))
called_judges s t r actuals None h = tt
called_judges s t r actuals (Some q) h =
    record { decides = h; clear = record { known = tt; variable = tt }; is_plain = tt; none = λ e. absurd (false≢true e) }

value_judges : (s t : State) (d : Denoted) → DenotesFrom s (given d t) → IfSome (value_of d) (λ x. JudgesFrom itself false s (given x t))
value_judges s t (a_value x) h = record { decides = h.decides; clear = h.clear.0; is_plain = h.clear.1; none = λ e. absurd (false≢true e) }
value_judges s t (a_variable v) h = record {
  decides = h.decides;
  clear = record { known = h.clear.known; variable = λ k. refl };
  is_plain = tt;
  none = λ e. absurd (false≢true e);
}
value_judges s t (a_routine r) h =
    if_test (λ x. JudgesFrom itself false s (given x t)) (nat_eq (length r.parameters) 0) (called r tree.no_actual r.result)
    (λ e. called_judges s t r tree.no_actual r.result h.decides)
value_judges s t (a_call r actuals) h = called_judges s t r actuals r.result h.decides
value_judges s t d h = tt

-- a decision of its own
none_known : {X : Type 0} (P : X → Type 0) (o : Option X) → o ≡ None → IfSome o P
none_known P None e = tt
none_known P (Some x) e = absurd (cc e)

closed_judges : (r : Role) (c : Bool) (s : State) (p : Pos) (g : Given Judged) → JudgesFrom operand c (entered (opens r c) s) g
    → JudgesFrom r c s (closed (opens r c) s p g)
closed_judges itself true s p g h = record {
  decides = λ k. decides_measured s g.next p p elsewhere k (test_of g.value.at g.value.form) (in_test k (test_of g.value.at g.value.form))
      (decides_as (decided s) g.next (in_form k g.value.form) _ (sym (in_test_of k g.value.at g.value.form)) (h.decides k));
  clear = record { known = none_known _ g.value.known (h.none refl).0; variable = none_known _ g.value.variable (h.none refl).1 };
  is_plain = tt;
  none = h.none;
}
closed_judges itself false s p g h = record { decides = h.decides; clear = h.clear; is_plain = h.is_plain; none = h.none }
closed_judges operand true s p g h = record { decides = h.decides; clear = h.clear; is_plain = h.is_plain; none = h.none }
closed_judges operand false s p g h = record { decides = h.decides; clear = h.clear; is_plain = h.is_plain; none = h.none }

-- with an expression that is plain in any role
plain_in : (r : Role) (f : Form) → IsPlain f → IsPlainIn r false f
plain_in itself f h = h
plain_in operand f h = h

any_role : (r : Role) (s : State) (g : Given Judged) → JudgesFrom itself false s g → JudgesFrom r false s g
any_role r s g h = record { decides = h.decides; clear = h.clear; is_plain = plain_in r g.value.form h.is_plain; none = h.none }

-- operators
pub in_complemented : (k : ℕ) (f : Form) → in_form k (complemented f) ≡ in_form k f
in_complemented k (plain e) = refl
in_complemented k (test_form t) = in_negated k t

plain_complemented : (c : Bool) (f : Form) → IsPlainIn operand c f → IsPlainIn operand c (complemented f)
plain_complemented true f h = tt
plain_complemented false (plain e) h = tt
plain_complemented false (test_form t) h = absurd h

complement_judges : (c : Bool) (s : State) (g : Given Judged) → JudgesFrom operand c s g → JudgesFrom operand c s (given (complement_of g.value) g.next)
complement_judges c s g h = record {
  decides = λ k. decides_as s g.next (in_form k g.value.form) _ (sym (in_complemented k g.value.form)) (h.decides k);
  clear = record { known = tt; variable = tt };
  is_plain = plain_complemented c g.value.form h.is_plain;
  none = λ e. (refl, refl);
}

signed_judges : (s : State) (p : Pos) (sign : Sign) (g : Given Judged) → JudgesFrom itself false s g → JudgesFrom itself false s (given (signed p g.value sign) g.next)
signed_judges s p sign g h = record {
  decides = λ k. decides_as s g.next (in_form k g.value.form) _ (sym (in_expr_of k g.value h.is_plain)) (h.decides k);
  clear = record {
    known = if_known g.value.known h.clear.known;
    variable = tt;
  };
  is_plain = tt;
  none = λ e. absurd (false≢true e);
}
  where
    if_known : (o : Option Static) → IfSome o (λ e. (k : ℕ) → in_form k g.value.form ≡ []) → IfSome (option_map (static_sign sign) o) (λ e. (k : ℕ) → in_expr k (expr_of g.value) ≡ [])
    if_known None l = tt
    if_known (Some e) l = λ k. in_expr_of k g.value h.is_plain ∙ l k

integral_judges : (s : State) (p : Pos) (b : Bool) (o : Option Sign) (g : Given Judged) → JudgesFrom itself false s g
    → IfSome (if b then option_map (signed p g.value) o else None) (λ x. JudgesFrom itself false s (given x g.next))
integral_judges s p b o g h =
    if_test (λ x. JudgesFrom itself false s (given x g.next)) b (option_map (signed p g.value) o)
    (λ e. if_map (λ x. Unit {0}) (λ x. JudgesFrom itself false s (given x g.next)) (signed p g.value) o (any_of o) (λ sign u. signed_judges s p sign g h))

-- two operands
pub two_forms : (k : ℕ) (x y : Judged) → IsPlain x.form → IsPlain y.form → (in_expr k (expr_of x) ++ in_expr k (expr_of y)) ≡ (in_form k x.form ++ in_form k y.form)
two_forms k x y h l = λ i. in_expr_of k x h i ++ in_expr_of k y l i

nothing_both : (xs ys : List Decision) → xs ≡ [] → ys ≡ [] → (xs ++ ys) ≡ []
nothing_both xs ys e f = λ i. e i ++ f i

operation_judges : (s : State) (p : Pos) (op : BinaryOperator) (g f : Given Judged) → JudgesFrom itself false s g → JudgesFrom itself false g.next f
    → IfSome (binary_of p op g.value f.value) (λ x. JudgesFrom itself false s (given x f.next))
operation_judges s p op g f h l =
    if_then (λ k. Unit {0}) (λ x. JudgesFrom itself false s (given x f.next)) (λ k. if is_integral k then Some (operation_of p (operator_of op) g.value f.value k) else None)
    (common g.value.kind f.value.kind) (any_of (common g.value.kind f.value.kind))
    (λ k u. if_test (λ x. JudgesFrom itself false s (given x f.next)) (is_integral k) _
    (λ e. record {
      decides = λ n. decides_as s f.next (in_form n g.value.form ++ in_form n f.value.form) _ (sym (two_forms n g.value f.value h.is_plain l.is_plain))
          (decides_joined s g.next f.next _ _ (h.decides n) (l.decides n));
      clear = record { known = both_known g.value.known f.value.known h.clear.known l.clear.known; variable = tt };
      is_plain = tt;
      none = λ e. absurd (false≢true e);
    }))
  where
    both_known : (a b : Option Static) → IfSome a (λ e. (k : ℕ) → in_form k g.value.form ≡ []) → IfSome b (λ e. (k : ℕ) → in_form k f.value.form ≡ [])
        → IfSome (known_of_both (operator_of op) a b) (λ e. (k : ℕ) → (in_expr k (expr_of g.value) ++ in_expr k (expr_of f.value)) ≡ [])
    both_known None b a1 b1 = tt
    both_known (Some a) None a1 b1 = tt
    both_known (Some a) (Some b) a1 b1 = λ k. two_forms k g.value f.value h.is_plain l.is_plain ∙ nothing_both _ _ (a1 k) (b1 k)

relation_judges : (s : State) (p : Pos) (op : RelationalOperator) (g f : Given Judged) → JudgesFrom itself false s g → JudgesFrom itself false g.next f
    → IfSome (related p op g.value f.value) (λ x. JudgesFrom itself false s (given x f.next))
relation_judges s p op g f h l =
    if_then (λ k. Unit {0}) (λ x. JudgesFrom itself false s (given x f.next)) (λ k. if is_discrete k then Some (relation_with p (relation_of op) g.value f.value) else None)
    (common g.value.kind f.value.kind) (any_of (common g.value.kind f.value.kind))
    (λ k u. if_test (λ x. JudgesFrom itself false s (given x f.next)) (is_discrete k) _
    (λ e. record {
      decides = λ n. decides_as s f.next (in_form n g.value.form ++ in_form n f.value.form) _ (sym (two_forms n g.value f.value h.is_plain l.is_plain))
          (decides_joined s g.next f.next _ _ (h.decides n) (l.decides n));
      clear = record { known = tt; variable = tt };
      is_plain = tt;
      none = λ e. absurd (false≢true e);
    }))

circuit_judges : (s : State) (p : Pos) (b c d : Bool) (o : Option Bool) (g f : Given Judged) → JudgesFrom operand c s g → JudgesFrom operand d g.next f
    → IfSome (if b then option_map (circuit_of p g.value f.value) o else None) (λ x. JudgesFrom operand (is_some o) s (given x f.next))
circuit_judges s p b c d None g f h l = if_test (λ x. JudgesFrom operand false s (given x f.next)) b None (λ e. tt)
circuit_judges s p b c d (Some neutral) g f h l =
    if_test (λ x. JudgesFrom operand true s (given x f.next)) b _
    (λ e. record {
      decides = λ n. decides_as s f.next (in_form n g.value.form ++ in_form n f.value.form) _
          (sym (λ i. in_test_of n g.value.at g.value.form i ++ in_test_of n f.value.at f.value.form i))
          (decides_joined s g.next f.next _ _ (h.decides n) (l.decides n));
      clear = record { known = tt; variable = tt };
      is_plain = tt;
      none = λ e. (refl, refl);
    })

-- a rule on types that gives an expression
typed_judges : (env : Env) (r : Role) (s t : State) (o : Option Judged) → env.step ≡ typing → IfSome o (λ x. JudgesFrom itself false s (given x t))
    → IfPassed (typed_as env t o).outcome (JudgesFrom r false s)
typed_judges env r s t o step h =
    typed_so (JudgesFrom r false s) env.step (given any_judged t) (option_map (λ x. given x t) o) step
    (if_map (λ x. JudgesFrom itself false s (given x t)) (JudgesFrom r false s) (λ x. given x t) o h (λ x k. any_role r s (given x t) k))

closed_typed : (env : Env) (r : Role) (c : Bool) (s t : State) (p : Pos) (o : Option Judged) → env.step ≡ typing
    → IfSome o (λ x. JudgesFrom operand c (entered (opens r c) s) (given x t))
    → IfPassed (typed_rule env.step (given any_judged t) (option_map (λ y. closed (opens r c) s p (given y t)) o)).outcome (JudgesFrom r c s)
closed_typed env r c s t p o step h =
    typed_so (JudgesFrom r c s) env.step (given any_judged t) (option_map (λ y. closed (opens r c) s p (given y t)) o) step
    (if_map (λ x. JudgesFrom operand c (entered (opens r c) s) (given x t)) (JudgesFrom r c s) (λ y. closed (opens r c) s p (given y t)) o h
    (λ x k. closed_judges r c s p (given x t) k))

enclosed_judges : (r : Role) (c : Bool) (s : State) (x : Given Judged) → JudgesFrom r c s x → JudgesFrom r c s (given (enclosed x.value) x.next)
enclosed_judges r c s x h = record { decides = h.decides; clear = record { known = h.clear.known; variable = h.clear.variable }; is_plain = h.is_plain; none = h.none }

numeral_judges : (s : State) (p : Pos) (n : ℕ) → IfSome (numeral_of p n) (λ x. JudgesFrom itself false s (given x s))
numeral_judges s p n =
    if_test (λ x. JudgesFrom itself false s (given x s)) (nat_lt n 2147483648) _
    (λ e. record { decides = λ k. decides_same s; clear = record { known = λ k. refl; variable = tt }; is_plain = tt; none = λ f. absurd (false≢true f) })

standing_judges : (s t : State) (p : Pos) (o : Option Judged) → IfSome o (λ x. JudgesFrom itself false s (given x t))
    → IfSome (option_map (standing_at p) o) (λ x. JudgesFrom itself false s (given x t))
standing_judges s t p o h =
    if_map (λ x. JudgesFrom itself false s (given x t)) (λ x. JudgesFrom itself false s (given x t)) (standing_at p) o h
    (λ x k. record { decides = k.decides; clear = record { known = k.clear.known; variable = k.clear.variable }; is_plain = k.is_plain; none = k.none })

-- the operand of a sign
sign_judges : (env : Env) (r : Role) (s : State) (q : Pos) (op : UnaryOperator) (x : Given Judged) → env.step ≡ typing
    → IfSome (unary_of q op x.value) (λ y. JudgesFrom itself false s (given y x.next))
    → IfPassed (typed_rule env.step (given any_judged x.next) (option_map (λ y. closed false s q (given y x.next)) (unary_of q op x.value))).outcome (JudgesFrom r false s)
sign_judges env r s q op x step h =
    typed_so (JudgesFrom r false s) env.step (given any_judged x.next) (option_map (λ y. closed false s q (given y x.next)) (unary_of q op x.value)) step
    (if_map (λ y. JudgesFrom itself false s (given y x.next)) (JudgesFrom r false s) (λ y. closed false s q (given y x.next)) (unary_of q op x.value) h
    (λ y k. any_role r s (given y x.next) k))

pub by_itself : (c : Bool) (s : State) (g : Given Judged) → JudgesFrom itself c s g → JudgesFrom itself false s g
by_itself c s g h = record { decides = h.decides; clear = h.clear; is_plain = h.is_plain; none = λ e. absurd (false≢true e) }

abbrev pub Decided : State → Given (tree.Label × tree.Test) → Type 0
Decided s g = (k : ℕ) (standing : Standing) → Decides s (in_decision k standing g.value.0 g.value.1) g.next

module _ (env : Env) (step : env.step ≡ typing) (is : IsWholeEnv env) where
  mutual
    pub denoted_decides : (s : State) (n : source.Name) → IfOk (denoted env s n).answer (DenotesFrom s)
    denoted_decides s (source.simple i) =
        answered (DenotesFrom s) i.pos (named s (visible (key i) (regions_of env))).outcome
        (named_denotes s (visible (key i) (regions_of env)) (shown_whole (found (key i) (regions_of env)) (found_whole (key i) (regions_of env) is.regions)))
    denoted_decides s (source.selected n i) =
        answered (DenotesFrom s) (name_pos n) _
        (part_so (DenotesFrom s) (DenotesFrom s) (denoted env s n).answer (λ d. selection env d.next d.value (key i)) (denoted_decides s n)
        (λ d h. selected_denotes env s d.next d.value (key i) step is h))
    denoted_decides s (source.attribute n i) =
        answered (DenotesFrom s) (name_pos n) _
        (part_so (DenotesFrom s) (DenotesFrom s) (denoted env s n).answer (λ d. attribution env d.next d.value (key i)) (denoted_decides s n)
        (λ d h. attributed_denotes env s d.next d.value (key i) step (is_attribute (key i)) h))
    denoted_decides s (source.applied n es) =
        answered (DenotesFrom s) (name_pos n) _
        (part_so (DenotesFrom s) (DenotesFrom s) (denoted env s n).answer
        (λ d. all_judged env d.next (name_pos n) es >>= (λ xs. typed_rule env.step (given a_thing xs.next) (option_map (λ x. given x xs.next) (applied_to d.value xs.value))))
        (denoted_decides s n)
        (λ d h. part_so (JudgesAll d.next) (DenotesFrom s) (all_judged env d.next (name_pos n) es).answer
        (λ xs. typed_rule env.step (given a_thing xs.next) (option_map (λ x. given x xs.next) (applied_to d.value xs.value)))
        (all_decide d.next (name_pos n) es)
        (λ xs k. typed_denotes env s xs.next (applied_to d.value xs.value) step (applied_denotes s d.next xs.next d.value xs.value h k))))

    pub judged_decides : (r : Role) (s : State) (e : source.Expr) → IfOk (judged env r s e).answer (JudgesFrom r (is_circuit e) s)
    judged_decides r s (source.numeral q n) =
        answered (JudgesFrom r false s) q (typed_as env s (numeral_of q n)).outcome (typed_judges env r s s (numeral_of q n) step (numeral_judges s q n))
    judged_decides r s (source.named q n) =
        answered (JudgesFrom r false s) q _
        (part_so (DenotesFrom s) (JudgesFrom r false s) (denoted env s n).answer (λ d. typed_as env d.next (option_map (standing_at q) (value_of d.value)))
        (denoted_decides s n)
        (λ d h. typed_judges env r s d.next (option_map (standing_at q) (value_of d.value)) step
        (standing_judges s d.next q (value_of d.value) (value_judges s d.next d.value h))))
    judged_decides r s (source.parenthesized q e) =
        let inner = entered (opens r (is_circuit e)) s in
        answered (JudgesFrom r (is_circuit e) s) q _
        (part_so (JudgesFrom operand (is_circuit e) inner) (JudgesFrom r (is_circuit e) s) (judged env operand inner e).answer
        (λ x. rule (Some (closed (opens r (is_circuit e)) s q (given (enclosed x.value) x.next)))) (judged_decides operand inner e)
        (λ x h. closed_judges r (is_circuit e) s q (given (enclosed x.value) x.next) (enclosed_judges operand (is_circuit e) inner x h)))
    judged_decides r s (source.unary q unary.Not e) =
        let inner = entered (opens r (is_circuit e)) s in
        answered (JudgesFrom r (is_circuit e) s) q _
        (part_so (JudgesFrom operand (is_circuit e) inner) (JudgesFrom r (is_circuit e) s) (judged env operand inner e).answer
        (λ x. typed_rule env.step (given any_judged x.next) (option_map (λ y. closed (opens r (is_circuit e)) s q (given y x.next)) (unary_of q unary.Not x.value)))
        (judged_decides operand inner e)
        (λ x h. closed_typed env r (is_circuit e) s x.next q (unary_of q unary.Not x.value) step
        (if_test (λ y. JudgesFrom operand (is_circuit e) inner (given y x.next)) (is_boolean x.value.kind) _ (λ b. complement_judges (is_circuit e) inner x h))))
    judged_decides itself s (source.unary q op e) =
        answered (JudgesFrom itself false s) q _
        (part_so (JudgesFrom itself (is_circuit e) s) (JudgesFrom itself false s) (judged env itself s e).answer
        (λ x. typed_rule env.step (given any_judged x.next) (option_map (λ y. closed false s q (given y x.next)) (unary_of q op x.value)))
        (judged_decides itself s e)
        (λ x h. sign_judges env itself s q op x step (integral_judges s q (is_integral x.value.kind) (sign_of op) x (by_itself (is_circuit e) s x h))))
    judged_decides operand s (source.unary q op e) =
        answered (JudgesFrom operand false s) q _
        (part_so (JudgesFrom itself (is_circuit e) s) (JudgesFrom operand false s) (judged env itself s e).answer
        (λ x. typed_rule env.step (given any_judged x.next) (option_map (λ y. closed false s q (given y x.next)) (unary_of q op x.value)))
        (judged_decides itself s e)
        (λ x h. sign_judges env operand s q op x step (integral_judges s q (is_integral x.value.kind) (sign_of op) x (by_itself (is_circuit e) s x h))))
    judged_decides r s (source.binary q a op b) =
        answered (JudgesFrom r false s) q _
        (part_so (JudgesFrom itself (is_circuit a) s) (JudgesFrom r false s) (judged env itself s a).answer
        (λ x. judged env itself x.next b >>= (λ y. typed_as env y.next (binary_of q op x.value y.value))) (judged_decides itself s a)
        (λ x h. part_so (JudgesFrom itself (is_circuit b) x.next) (JudgesFrom r false s) (judged env itself x.next b).answer
        (λ y. typed_as env y.next (binary_of q op x.value y.value)) (judged_decides itself x.next b)
        (λ y k. typed_judges env r s y.next (binary_of q op x.value y.value) step
        (operation_judges s q op x y (by_itself (is_circuit a) s x h) (by_itself (is_circuit b) x.next y k)))))
    judged_decides r s (source.relation q a op b) =
        answered (JudgesFrom r false s) q _
        (part_so (JudgesFrom itself (is_circuit a) s) (JudgesFrom r false s) (judged env itself s a).answer
        (λ x. judged env itself x.next b >>= (λ y. typed_as env y.next (related q op x.value y.value))) (judged_decides itself s a)
        (λ x h. part_so (JudgesFrom itself (is_circuit b) x.next) (JudgesFrom r false s) (judged env itself x.next b).answer
        (λ y. typed_as env y.next (related q op x.value y.value)) (judged_decides itself x.next b)
        (λ y k. typed_judges env r s y.next (related q op x.value y.value) step
        (relation_judges s q op x y (by_itself (is_circuit a) s x h) (by_itself (is_circuit b) x.next y k)))))
    judged_decides r s (source.logical q a op b) =
        let c = is_some (neutral_of op) in
        answered (JudgesFrom r c s) q _
        (part_so (JudgesFrom operand (is_circuit a) (entered (opens r c) s)) (JudgesFrom r c s) (judged env operand (entered (opens r c) s) a).answer
        (λ x. judged env operand x.next b >>= (λ y. typed_rule env.step (given any_judged y.next)
        (option_map (λ z. closed (opens r c) s q (given z y.next)) (joined q op x.value y.value))))
        (judged_decides operand (entered (opens r c) s) a)
        (λ x h. part_so (JudgesFrom operand (is_circuit b) x.next) (JudgesFrom r c s) (judged env operand x.next b).answer
        (λ y. typed_rule env.step (given any_judged y.next) (option_map (λ z. closed (opens r c) s q (given z y.next)) (joined q op x.value y.value)))
        (judged_decides operand x.next b)
        (λ y k. closed_typed env r c s y.next q (joined q op x.value y.value) step
        (circuit_judges (entered (opens r c) s) q (is_boolean x.value.kind && is_boolean y.value.kind) (is_circuit a) (is_circuit b) (neutral_of op) x y h k))))

    pub all_decide : (s : State) (q : Pos) (es : source.Exprs) → IfOk (all_judged env s q es).answer (JudgesAll s)
    all_decide s q source.no_exprs = record { decides = λ k. decides_same s; own = tt }
    all_decide s q (source.also e es) =
        answered (JudgesAll s) q _
        (part_so (JudgesFrom itself (is_circuit e) s) (JudgesAll s) (judged env itself s e).answer
        (λ x. all_judged env x.next q es >>= (λ xs. rule (Some (given (x.value ∷ xs.value) xs.next)))) (judged_decides itself s e)
        (λ x h. part_so (JudgesAll x.next) (JudgesAll s) (all_judged env x.next q es).answer (λ xs. rule (Some (given (x.value ∷ xs.value) xs.next)))
        (all_decide x.next q es)
        (λ xs k. record { decides = λ n. decides_joined s x.next xs.next _ _ (h.decides n) (k.decides n); own = ((h.clear, h.is_plain), k.own) })))

  -- the decision of a statement
  pub decision_decides : (s : State) (q : Pos) (e : source.Expr) → IfOk (decision env s q e).answer
      (λ g. (k : ℕ) (standing : Standing) → Decides s (in_decision k standing g.value.0 g.value.1) g.next)
  decision_decides s q e =
      answered (Decided s) q _
      (part_so (JudgesFrom operand (is_circuit e) (decided s)) (Decided s) (judged env operand (decided s) e).answer
      (λ x. typed_rule env.step (given (decision_label s (expr_pos e), test_of x.value.at x.value.form) x.next)
      (option_map (λ t. given (decision_label s (expr_pos e), t) (measured (expr_pos e) t x.next)) (tested x.value)))
      (judged_decides operand (decided s) e)
      (λ x h. typed_so (Decided s) env.step (given (decision_label s (expr_pos e), test_of x.value.at x.value.form) x.next) _ step
      (if_map (λ t. t ≡ test_of x.value.at x.value.form) (Decided s) (λ t. given (decision_label s (expr_pos e), t) (measured (expr_pos e) t x.next)) (tested x.value)
      (if_test (λ t. t ≡ test_of x.value.at x.value.form) (is_boolean x.value.kind) (Some (test_of x.value.at x.value.form)) (λ b. refl))
      (λ t same k standing. decides_measured s x.next (expr_pos e) (expr_pos e) standing k t (in_test k t)
      (decides_as (decided s) x.next (in_form k x.value.form) (in_test k t) (sym (ap (in_test k) same ∙ in_test_of k x.value.at x.value.form)) (h.decides k))))))
