-- Names and expressions come to no more nodes than they have tokens that count.
use Rattle.std.proofs.Common.{◌≡◌, ◌≤◌, ◌+◌, ℕ, suc, nat_eq, nat_lt, Bool, true, false, if◌then◌else◌, List, [], ◌∷◌, length, Option, Some, None, option_map, IfSome, Result, Ok, Err, IfOk, is_some, refl, sym, subst, arith}
use Rattle.std.specs.Prelude.{◌&&◌, not}
use Rattle.std.specs.Option.{option_and_then}
use Rattle.std.proofs.lemmas.Bool.{false≢true}
use Rattle.cov_base.specs.declared.position.Pos.{Pos}
use Rattle.ada_syntax.specs.Nodes.{expr_nodes, exprs_nodes, name_nodes, logical_operator_nodes}
use Rattle.ada_syntax.specs.Tree as source
use Rattle.ada_syntax.specs.Tree.{expr_pos, name_pos}
use Rattle.ada_syntax.specs.declared.expr.BinaryOperator.{BinaryOperator}
use Rattle.ada_syntax.specs.declared.expr.LogicalOperator.{LogicalOperator}
use Rattle.ada_syntax.specs.declared.expr.LogicalOperator.TheVariants as logical
use Rattle.ada_syntax.specs.declared.expr.RelationalOperator.{RelationalOperator}
use Rattle.ada_syntax.specs.declared.expr.UnaryOperator.{UnaryOperator}
use Rattle.ada_syntax.specs.declared.expr.UnaryOperator.TheVariants as unary
use Rattle.ada_meaning.specs.Program.{Mode, in_mode, out_mode, in_out_mode}
use Rattle.ada_meaning.specs.Tree as tree
use Rattle.ada_meaning.specs.Types.{Static, Sign}
use Rattle.ada_rules.specs.Plan.{◌>>=◌, rule}
use Rattle.ada_rules.specs.Types.{AdaType, integer_type, enumeration, formal_type, array_type, record_type, AdaSubtype, of_type, type_in, range_in, is_scalar, same_type, Kind, is_integral, is_discrete, is_boolean, fits, common}
use Rattle.ada_rules.specs.Entities.{key, Variable, Parameter, Routine, Entity, hidden, mark, literal, object, formal_object, routine, raisable, component, test_io, unit, entity_of, found, visible}
use Rattle.ada_rules.specs.Environment.{typing, typed_rule, State, Given, given, Env, regions_of, decision_label, decided}
use Rattle.ada_rules.specs.Denoted.{Form, plain, test_form, Judged, any_judged, valued, Denoted, a_mark, a_value, a_variable, a_routine, a_call, a_unit, the_test_io, a_thing, denoted_of, followed_by, part_of, field_among, field_of, component_of, attribute_of_type, attribute_of_object, static_attribute, object_attribute, is_attribute, attribute_of, converts, conversion_of, element_of, written, by_name, by_value, passed_as, actuals_for, called, complemented, complement_of, signed, sign_of, operator_of, operation_of, relation_of, relation_with, circuit_of, negated, test_of_expr, test_of, expr_of_form, expr_of, numeral_of, standing_at, enclosed, unary_of, binary_of, related, neutral_of, joined, tested, value_of, applied_to}
use Rattle.ada_rules.specs.Expressions.{Role, itself, operand, is_circuit, opens, entered, closed, measured, part_of_unit, named, selection, attribution, typed_as, denoted, judged, all_judged, decision}
use Rattle.legal_laws.proofs.Passing.{IfPassed, if_map, if_then, if_test, if_not, if_either, answered, part_so, typed_so, both_ok, any_answer, some_so}
use Rattle.legal_programs.specs.Deciding.{IsWhole, IsWholeEnv}
use Rattle.legal_programs.proofs.DecidedExpressions.{any_of, entity_whole, found_whole, shown_whole, part_whole}
use Rattle.statement_code.specs.Sizes as size

-- the nodes of what an expression comes to; a test has one more, of the decision that it will be
abbrev pub form_nodes : Form → ℕ
form_nodes (plain e) = size.expr_nodes e
form_nodes (test_form t) = suc (size.test_nodes t)

-- an expression, and the object that it reads, have at most so many
pub record FewIn (count : ℕ) (x : Judged) : Type 0 where
  pub nodes : form_nodes x.form ≤ count
  pub variable : IfSome x.variable (λ v. suc (size.parts_nodes v.parts) ≤ count)

abbrev pub NameIn : ℕ → Denoted → Type 0
NameIn c (a_value x) = FewIn c x
NameIn c (a_variable v) = suc (size.parts_nodes v.parts) ≤ c
NameIn c (a_call r actuals) = suc (size.actuals_nodes actuals) ≤ c
NameIn c d = 1 ≤ c

-- numbers
at_least_one : (n c : ℕ) → suc n ≤ c → 1 ≤ c
at_least_one n c h = omega (arith, h)

one_more : (n c : ℕ) → n ≤ c → suc n ≤ c + 1
one_more n c h = omega (arith, h)

more_in : (n c d : ℕ) → n ≤ c → n ≤ c + d
more_in n c d h = omega (arith, h)

one_behind : (n c : ℕ) → n ≤ c → suc n ≤ 1 + c
one_behind n c h = omega (arith, h)

-- what has no node of its own beside a mark
name_one : (c d : ℕ) → 1 ≤ c → 1 ≤ c + d
name_one c d h = omega (arith, h)

-- tests
negated_nodes : (t : tree.Test) → size.test_nodes (negated t) ≤ suc (size.test_nodes t)
negated_nodes (tree.condition at e) = itself_in (size.expr_nodes e)
  where
    itself_in : (n : ℕ) → suc n ≤ suc n
    itself_in n = omega (arith)
negated_nodes (tree.negation t) = within_two (size.test_nodes t)
  where
    within_two : (n : ℕ) → n ≤ suc (suc n)
    within_two n = omega (arith)
negated_nodes (tree.operator neutral t u) = itself_in (suc (size.test_nodes t + size.test_nodes u))
  where
    itself_in : (n : ℕ) → suc n ≤ suc n
    itself_in n = omega (arith)

same_nodes : (n : ℕ) → n ≤ n
same_nodes n = omega (arith)

in_turn : (a b c : ℕ) → a ≤ suc b → b ≤ c → a ≤ suc c
in_turn a b c h k = omega (arith, h, k)

test_of_expr_nodes : (at : Pos) (e : tree.Expr) → size.test_nodes (test_of_expr at e) ≤ size.expr_nodes e
test_of_expr_nodes at (tree.complement e) =
    in_turn (size.test_nodes (negated (test_of_expr at e))) (size.test_nodes (test_of_expr at e)) (size.expr_nodes e) (negated_nodes (test_of_expr at e)) (test_of_expr_nodes at e)
test_of_expr_nodes at (tree.literal x) = same_nodes 1
test_of_expr_nodes at (tree.constant e) = same_nodes 1
test_of_expr_nodes at (tree.attribute o parts e) = same_nodes (size.expr_nodes (tree.attribute o parts e))
test_of_expr_nodes at (tree.read o parts) = same_nodes (size.expr_nodes (tree.read o parts))
test_of_expr_nodes at (tree.signed s e) = same_nodes (size.expr_nodes (tree.signed s e))
test_of_expr_nodes at (tree.operation o e f) = same_nodes (size.expr_nodes (tree.operation o e f))
test_of_expr_nodes at (tree.relation r e f) = same_nodes (size.expr_nodes (tree.relation r e f))
test_of_expr_nodes at (tree.conversion r e) = same_nodes (size.expr_nodes (tree.conversion r e))
test_of_expr_nodes at (tree.call c actuals) = same_nodes (size.expr_nodes (tree.call c actuals))
test_of_expr_nodes at (tree.decision d t) = same_nodes (size.expr_nodes (tree.decision d t))

within_one : (n : ℕ) → n ≤ suc n
within_one n = omega (arith)

at_most : (a b c : ℕ) → a ≤ b → b ≤ c → a ≤ c
at_most a b c h k = omega (arith, h, k)

pub test_nodes_of : (at : Pos) (f : Form) → size.test_nodes (test_of at f) ≤ form_nodes f
test_nodes_of at (plain e) = test_of_expr_nodes at e
test_nodes_of at (test_form t) = within_one (size.test_nodes t)

pub test_in : (c : ℕ) (x : Judged) → FewIn c x → size.test_nodes (test_of x.at x.form) ≤ c
test_in c x h = at_most (size.test_nodes (test_of x.at x.form)) (form_nodes x.form) c (test_nodes_of x.at x.form) h.nodes

one_at_most : (n : ℕ) → 1 ≤ suc n
one_at_most n = omega (arith)

expr_nodes_of : (f : Form) → size.expr_nodes (expr_of_form f) ≤ form_nodes f
expr_nodes_of (plain e) = same_nodes (size.expr_nodes e)
expr_nodes_of (test_form t) = one_at_most (size.test_nodes t)

pub expr_in : (c : ℕ) (x : Judged) → FewIn c x → size.expr_nodes (expr_of x) ≤ c
expr_in c x h = at_most (size.expr_nodes (expr_of x)) (form_nodes x.form) c (expr_nodes_of x.form) h.nodes

-- entities
whole_one : (p : tree.Parts) (c : ℕ) → p ≡ tree.whole → 1 ≤ c → suc (size.parts_nodes p) ≤ c
whole_one p c e h = subst (λ q. suc (size.parts_nodes q) ≤ c) (sym e) h

entity_in : (c : ℕ) (x : Entity) → IsWhole x → 1 ≤ c → NameIn c (denoted_of x)
entity_in c hidden h k = k
entity_in c (mark i t) h k = k
entity_in c (literal t x) h k = record { nodes = k; variable = tt }
entity_in c (object v) h k = whole_one v.parts c h k
entity_in c (formal_object t e) h k = record { nodes = k; variable = tt }
entity_in c (routine r) h k = k
entity_in c (raisable e) h k = k
entity_in c component h k = k
entity_in c test_io h k = k
entity_in c (unit n) h k = k

named_in : (c : ℕ) (s : State) (o : Option Entity) → IfSome o IsWhole → 1 ≤ c → IfPassed (named s o).outcome (λ g. NameIn c g.value)
named_in c s None h k = tt
named_in c s (Some x) h k = entity_in c x h k

-- parts
followed_nodes : (p q : tree.Parts) → size.parts_nodes (followed_by p q) ≡ size.parts_nodes p + size.parts_nodes q
followed_nodes tree.whole q = none (size.parts_nodes q)
  where
    none : (n : ℕ) → n ≡ 0 + n
    none n = omega (arith)
followed_nodes (tree.component n p) q = next (size.parts_nodes (followed_by p q)) (size.parts_nodes p) (size.parts_nodes q) (followed_nodes p q)
  where
    next : (a b c : ℕ) → a ≡ b + c → suc a ≡ suc b + c
    next a b c e = omega (arith, e)
followed_nodes (tree.element r e p) q = next (size.expr_nodes e) (size.parts_nodes (followed_by p q)) (size.parts_nodes p) (size.parts_nodes q) (followed_nodes p q)
  where
    next : (n a b c : ℕ) → a ≡ b + c → n + a ≡ (n + b) + c
    next n a b c e = omega (arith, e)

part_in : (p q : tree.Parts) (c d : ℕ) → suc (size.parts_nodes p) ≤ c → size.parts_nodes q ≤ d → suc (size.parts_nodes (followed_by p q)) ≤ c + d
part_in p q c d h k = joined_in (size.parts_nodes (followed_by p q)) (size.parts_nodes p) (size.parts_nodes q) c d (followed_nodes p q) h k
  where
    joined_in : (n a b c d : ℕ) → n ≡ a + b → suc a ≤ c → b ≤ d → suc n ≤ c + d
    joined_in n a b c d e h k = omega (arith, e, h, k)

field_in : (c : ℕ) (name : List ℕ) (v : Variable) (y : AdaType) → suc (size.parts_nodes v.parts) ≤ c → IfSome (field_of name v y) (NameIn (c + 1))
field_in c name v (record_type i fs) h =
    if_map (λ f. Unit {0}) (NameIn (c + 1)) (λ f. a_variable (part_of v f.1 false (tree.component f.0 tree.whole))) (field_among name 0 fs) (any_of (field_among name 0 fs))
    (λ f u. part_in v.parts (tree.component f.0 tree.whole) c 1 h (same_nodes 1))
field_in c name v (integer_type i) h = tt
field_in c name v (enumeration i n) h = tt
field_in c name v (formal_type i k b) h = tt
field_in c name v (array_type i x a) h = tt

component_in : (c : ℕ) (name : List ℕ) (d : Denoted) → NameIn c d → IfSome (component_of name d) (NameIn (c + 1))
component_in c name (a_variable v) h = field_in c name v (type_in v.subtype) h
component_in c name d h = tt

typed_name : (env : Env) (c : ℕ) (t : State) (o : Option Denoted) → env.step ≡ typing → IfSome o (NameIn c)
    → IfPassed (typed_rule env.step (given a_thing t) (option_map (λ x. given x t) o)).outcome (λ g. NameIn c g.value)
typed_name env c t o step h =
    typed_so (λ g. NameIn c g.value) env.step (given a_thing t) (option_map (λ x. given x t) o) step
    (if_map (NameIn c) (λ g. NameIn c g.value) (λ x. given x t) o h (λ d k. k))

one_name_more : (c : ℕ) → 1 ≤ c + 1
one_name_more c = omega (arith)

selected_in : (env : Env) (c : ℕ) (t : State) (d : Denoted) (name : List ℕ) → env.step ≡ typing → IsWholeEnv env → NameIn c d
    → IfPassed (selection env t d name).outcome (λ g. NameIn (c + 1) g.value)
selected_in env c t (a_unit n) name step is h = named_in (c + 1) t (part_of_unit env n name) (part_whole env n name is) (one_name_more c)
selected_in env c t the_test_io name step is h =
    named_in (c + 1) t (entity_of name env.world.standard.test_io_declarations) (entity_whole name env.world.standard.test_io_declarations is.test_io) (one_name_more c)
selected_in env c t d name step is h = typed_name env (c + 1) t (component_of name d) step (component_in c name d h)

-- attributes
static_in : (c : ℕ) (a : Static × Kind) → NameIn (c + 1) (static_attribute a)
static_in c a = record { nodes = one_name_more c; variable = tt }

object_in : (c : ℕ) (v : Variable) (a : Static × Kind) (b : Bool) → suc (size.parts_nodes v.parts) ≤ c
    → NameIn (c + 1) (if b then a_value (valued (tree.attribute v.object v.parts a.0) a.1 None None) else static_attribute a)
object_in c v a true h = record { nodes = more_in (suc (size.parts_nodes v.parts)) c 1 h; variable = tt }
object_in c v a false h = static_in c a

attribute_in : (c : ℕ) (name : List ℕ) (d : Denoted) → NameIn c d → IfSome (attribute_of name d) (NameIn (c + 1))
attribute_in c name (a_mark i (of_type u r)) h =
    if_map (λ a. Unit {0}) (NameIn (c + 1)) static_attribute (attribute_of_type name u r) (any_of (attribute_of_type name u r)) (λ a v. static_in c a)
attribute_in c name (a_variable v) h =
    if_map (λ a. Unit {0}) (NameIn (c + 1)) (object_attribute v) (attribute_of_object name (type_in v.subtype)) (any_of (attribute_of_object name (type_in v.subtype)))
    (λ a u. object_in c v a v.is_indexed h)
attribute_in c name d h = tt

attributed_in : (env : Env) (c : ℕ) (t : State) (d : Denoted) (name : List ℕ) → env.step ≡ typing → (b : Bool) → NameIn c d
    → IfPassed (if b then typed_rule env.step (given a_thing t) (option_map (λ x. given x t) (attribute_of name d)) else rule None).outcome (λ g. NameIn (c + 1) g.value)
attributed_in env c t d name step true h = typed_name env (c + 1) t (attribute_of name d) step (attribute_in c name d h)
attributed_in env c t d name step false h = tt

-- actuals
abbrev AllIn : source.Exprs → List Judged → Type 0
AllIn source.no_exprs [] = Unit {0}
AllIn (source.also e es) (x ∷ xs) = FewIn (expr_nodes e) x × AllIn es xs
AllIn es xs = ⊥

abbrev ActualsIn : ℕ → tree.Actuals → Type 0
ActualsIn c actuals = size.actuals_nodes actuals ≤ c

together : (a b c d : ℕ) → a ≤ c → b ≤ d → a + b ≤ c + d
together a b c d h k = omega (arith, h, k)

one_together : (a b c d : ℕ) → suc a ≤ c → b ≤ d → suc (a + b) ≤ c + d
one_together a b c d h k = omega (arith, h, k)

one_before : (n c d : ℕ) → 1 ≤ c → n ≤ d → suc n ≤ c + d
one_before n c d h k = omega (arith, h, k)

composite_in : (c d : ℕ) (rest : tree.Actuals) (o : Option Variable) → ActualsIn d rest → IfSome o (λ v. suc (size.parts_nodes v.parts) ≤ c)
    → IfSome (option_map (λ v. tree.by_composite v.object v.parts rest) o) (ActualsIn (c + d))
composite_in c d rest None h k = tt
composite_in c d rest (Some v) h k = one_together (size.parts_nodes v.parts) (size.actuals_nodes rest) c d k h

written_in : (c d : ℕ) (rest : tree.Actuals) (v : Variable) (b : Bool) → ActualsIn d rest → suc (size.parts_nodes v.parts) ≤ c
    → ActualsIn (c + d) (if b then tree.by_variable v.object v.parts (range_in v.subtype) rest else tree.by_composite v.object v.parts rest)
written_in c d rest v true h k = one_together (size.parts_nodes v.parts) (size.actuals_nodes rest) c d k h
written_in c d rest v false h k = one_together (size.parts_nodes v.parts) (size.actuals_nodes rest) c d k h

by_name_in : (c d : ℕ) (q : Parameter) (rest : tree.Actuals) (o : Option Variable) → ActualsIn d rest → IfSome o (λ v. suc (size.parts_nodes v.parts) ≤ c)
    → IfSome (option_and_then (by_name q rest) o) (ActualsIn (c + d))
by_name_in c d q rest None h k = tt
by_name_in c d q rest (Some v) h k =
    if_test (ActualsIn (c + d)) (v.is_writable && same_type (type_in v.subtype) (type_in q.subtype)) (Some (written (type_in q.subtype) v rest))
    (λ e. written_in c d rest v (is_scalar (type_in q.subtype)) h k)

by_value_in : (c d : ℕ) (q : Parameter) (x : Judged) (rest : tree.Actuals) → FewIn c x → ActualsIn d rest → IfSome (by_value q x rest) (ActualsIn (c + d))
by_value_in c d q x rest h k =
    if_not (ActualsIn (c + d)) (not (fits (type_in q.subtype) x.kind)) _
    (λ e. if_either (ActualsIn (c + d)) (is_scalar (type_in q.subtype)) (Some (tree.by_expression (expr_of x) rest)) _
    (together (size.expr_nodes (expr_of x)) (size.actuals_nodes rest) c d (expr_in c x h) k) (composite_in c d rest x.variable k h.variable))

passed_in : (c d : ℕ) (m : Mode) (q : Parameter) (x : Judged) (rest : tree.Actuals) → FewIn c x → ActualsIn d rest → IfSome (passed_as m q x rest) (ActualsIn (c + d))
passed_in c d in_mode q x rest h k = by_value_in c d q x rest h k
passed_in c d out_mode q x rest h k =
    if_test (ActualsIn (c + d)) x.is_name (option_and_then (by_name q rest) x.variable) (λ e. by_name_in c d q rest x.variable k h.variable)
passed_in c d in_out_mode q x rest h k =
    if_test (ActualsIn (c + d)) x.is_name (option_and_then (by_name q rest) x.variable) (λ e. by_name_in c d q rest x.variable k h.variable)

actuals_in : (qs : List Parameter) (es : source.Exprs) (xs : List Judged) → AllIn es xs → IfSome (actuals_for qs xs) (ActualsIn (exprs_nodes es))
actuals_in [] source.no_exprs [] h = same_nodes 0
actuals_in (q ∷ qs) source.no_exprs [] h = tt
actuals_in qs source.no_exprs (x ∷ xs) h = absurd h
actuals_in qs (source.also e es) [] h = absurd h
actuals_in [] (source.also e es) (x ∷ xs) h = tt
actuals_in (q ∷ qs) (source.also e es) (x ∷ xs) h =
    if_then (ActualsIn (exprs_nodes es)) (ActualsIn (expr_nodes e + exprs_nodes es)) (passed_as q.mode q x) (actuals_for qs xs) (actuals_in qs es xs h.1)
    (λ rest k. passed_in (expr_nodes e) (exprs_nodes es) q.mode q x rest h.0 k)

-- what is applied to actuals
conversion_in : (c d : ℕ) (t : AdaSubtype) (x : Judged) → 1 ≤ c → FewIn d x → IfSome (conversion_of t x) (NameIn (c + d))
conversion_in c d t x h k =
    if_test (NameIn (c + d)) (converts (type_in t) x.kind) _ (λ may. record { nodes = one_before (size.expr_nodes (expr_of x)) c d h (expr_in d x k); variable = tt })

element_in : (c d : ℕ) (v : Variable) (y : AdaType) (x : Judged) → suc (size.parts_nodes v.parts) ≤ c → FewIn d x → IfSome (element_of v y x) (NameIn (c + d))
element_in c d v (array_type i a b) x h k =
    if_test (NameIn (c + d)) (fits (type_in a) x.kind) _
    (λ fit. part_in v.parts (tree.element (range_in a) (expr_of x) tree.whole) c d h (alone (size.expr_nodes (expr_of x)) d (expr_in d x k)))
  where
    alone : (n m : ℕ) → n ≤ m → n + 0 ≤ m
    alone n m h = omega (arith, h)
element_in c d v (integer_type i) x h k = tt
element_in c d v (enumeration i n) x h k = tt
element_in c d v (formal_type i j b) x h k = tt
element_in c d v (record_type i fs) x h k = tt

weaker : (c d : ℕ) (x : Judged) → c ≤ d → FewIn c x → FewIn d x
weaker c d x le h = record { nodes = at_most (form_nodes x.form) c d h.nodes le; variable = of_option x.variable h.variable }
  where
    of_option : (o : Option Variable) → IfSome o (λ v. suc (size.parts_nodes v.parts) ≤ c) → IfSome o (λ v. suc (size.parts_nodes v.parts) ≤ d)
    of_option None k = tt
    of_option (Some v) k = at_most (suc (size.parts_nodes v.parts)) c d k le

first_in : (a b : ℕ) → a ≤ a + b
first_in a b = omega (arith)

applied_in : (c : ℕ) (d : Denoted) (es : source.Exprs) (xs : List Judged) → NameIn c d → AllIn es xs → IfSome (applied_to d xs) (NameIn (c + exprs_nodes es))
applied_in c (a_routine r) es xs h k =
    if_map (ActualsIn (exprs_nodes es)) (NameIn (c + exprs_nodes es)) (a_call r) (actuals_for r.parameters xs) (actuals_in r.parameters es xs k)
    (λ actuals e. one_before (size.actuals_nodes actuals) c (exprs_nodes es) h e)
applied_in c (a_mark i t) (source.also e es) (x ∷ []) h k =
    conversion_in c (exprs_nodes (source.also e es)) t x h (weaker (expr_nodes e) (exprs_nodes (source.also e es)) x (first_in (expr_nodes e) (exprs_nodes es)) k.0)
applied_in c (a_mark i t) source.no_exprs (x ∷ []) h k = absurd k
applied_in c (a_variable v) (source.also e es) (x ∷ []) h k =
    element_in c (exprs_nodes (source.also e es)) v (type_in v.subtype) x h (weaker (expr_nodes e) (exprs_nodes (source.also e es)) x (first_in (expr_nodes e) (exprs_nodes es)) k.0)
applied_in c (a_variable v) source.no_exprs (x ∷ []) h k = absurd k
applied_in c d es [] h k = tt
applied_in c d es (x ∷ []) h k = tt
applied_in c d es (x ∷ (y ∷ zs)) h k = tt

-- the value of a name
called_in : (c : ℕ) (r : Routine) (actuals : tree.Actuals) (o : Option Parameter) → suc (size.actuals_nodes actuals) ≤ c → IfSome (called r actuals o) (FewIn c)
called_in c r actuals None h = tt
called_in c r actuals (Some q) h = record { nodes = h; variable = tt }

value_in : (c : ℕ) (d : Denoted) → NameIn c d → IfSome (value_of d) (FewIn c)
value_in c (a_value x) h = h
value_in c (a_variable v) h = record { nodes = h; variable = h }
value_in c (a_routine r) h =
    if_test (FewIn c) (nat_eq (length r.parameters) 0) (called r tree.no_actual r.result) (λ e. called_in c r tree.no_actual r.result h)
value_in c (a_call r actuals) h = called_in c r actuals r.result h
value_in c d h = tt

-- a decision of its own is what comes to a test
abbrev IsTestForm : Form → Type 0
IsTestForm (plain e) = ⊥
IsTestForm (test_form t) = Unit {0}

labelled_nodes : (c : ℕ) (l : tree.Label) (at : Pos) (f : Form) → IsTestForm f → form_nodes f ≤ c → suc (size.test_nodes (test_of at f)) ≤ c
labelled_nodes c l at (plain e) is h = absurd is
labelled_nodes c l at (test_form t) is h = h

closed_in : (b : Bool) (c : ℕ) (s : State) (p : Pos) (g : Given Judged) → (b ≡ true → IsTestForm g.value.form) → FewIn c g.value → FewIn c (closed b s p g).value
closed_in true c s p g is h = record { nodes = labelled_nodes c (decision_label s p) g.value.at g.value.form (is refl) h.nodes; variable = h.variable }
closed_in false c s p g is h = h

opens_circuit : (r : Role) (c : Bool) → opens r c ≡ true → c ≡ true
opens_circuit itself c e = e
opens_circuit operand c e = absurd (false≢true e)

-- operators
complement_in : (c : ℕ) (x : Judged) → FewIn c x → FewIn (1 + c) (complement_of x)
complement_in c x h = record { nodes = of_form x.form h.nodes; variable = tt }
  where
    of_form : (f : Form) → form_nodes f ≤ c → form_nodes (complemented f) ≤ 1 + c
    of_form (plain e) k = one_behind (size.expr_nodes e) c k
    of_form (test_form t) k = two_behind (size.test_nodes (negated t)) (size.test_nodes t) c (negated_nodes t) k
      where
        two_behind : (a b c : ℕ) → a ≤ suc b → suc b ≤ c → suc a ≤ 1 + c
        two_behind a b c h k = omega (arith, h, k)

sign_in : (c : ℕ) (q : Pos) (x : Judged) (b : Bool) (o : Option Sign) → FewIn c x → IfSome (if b then option_map (signed q x) o else None) (FewIn (1 + c))
sign_in c q x b o h =
    if_test (FewIn (1 + c)) b (option_map (signed q x) o)
    (λ e. if_map (λ s. Unit {0}) (FewIn (1 + c)) (signed q x) o (any_of o)
    (λ s u. record { nodes = one_behind (size.expr_nodes (expr_of x)) c (expr_in c x h); variable = tt }))

between : (a b m n : ℕ) → a ≤ m → b ≤ n → suc (a + b) ≤ m + 1 + n
between a b m n h k = omega (arith, h, k)

operation_in : (c d : ℕ) (q : Pos) (op : BinaryOperator) (x y : Judged) → FewIn c x → FewIn d y → IfSome (binary_of q op x y) (FewIn (c + 1 + d))
operation_in c d q op x y h k =
    if_then (λ k. Unit {0}) (FewIn (c + 1 + d)) (λ k. if is_integral k then Some (operation_of q (operator_of op) x y k) else None) (common x.kind y.kind) (any_of (common x.kind y.kind))
    (λ j u. if_test (FewIn (c + 1 + d)) (is_integral j) _
    (λ e. record { nodes = between (size.expr_nodes (expr_of x)) (size.expr_nodes (expr_of y)) c d (expr_in c x h) (expr_in d y k); variable = tt }))

relation_in : (c d : ℕ) (q : Pos) (op : RelationalOperator) (x y : Judged) → FewIn c x → FewIn d y → IfSome (related q op x y) (FewIn (c + 1 + d))
relation_in c d q op x y h k =
    if_then (λ k. Unit {0}) (FewIn (c + 1 + d)) (λ k. if is_discrete k then Some (relation_with q (relation_of op) x y) else None) (common x.kind y.kind) (any_of (common x.kind y.kind))
    (λ j u. if_test (FewIn (c + 1 + d)) (is_discrete j) _
    (λ e. record { nodes = between (size.expr_nodes (expr_of x)) (size.expr_nodes (expr_of y)) c d (expr_in c x h) (expr_in d y k); variable = tt }))

-- a short-circuit control form is two tokens
form_in : (c d : ℕ) (q : Pos) (b neutral : Bool) (x y : Judged) → FewIn c x → FewIn d y
    → IfSome (if b then Some (circuit_of q x y neutral) else None) (λ z. FewIn (c + 2 + d) z × IsTestForm z.form)
form_in c d q b neutral x y h k =
    if_test (λ z. FewIn (c + 2 + d) z × IsTestForm z.form) b (Some (circuit_of q x y neutral))
    (λ e. (
      record {
        nodes = two_between (size.test_nodes (test_of x.at x.form)) (size.test_nodes (test_of y.at y.form)) c d (test_in c x h) (test_in d y k);
        variable = tt;
      },
      tt,
    ))
  where
    two_between : (a b m n : ℕ) → a ≤ m → b ≤ n → suc (suc (a + b)) ≤ m + 2 + n
    two_between a b m n h k = omega (arith, h, k)

circuit_in : (c d : ℕ) (q : Pos) (op : LogicalOperator) (x y : Judged) → FewIn c x → FewIn d y
    → IfSome (joined q op x y) (λ z. FewIn (c + logical_operator_nodes op + d) z × IsTestForm z.form)
circuit_in c d q logical.AndThen x y h k = form_in c d q (is_boolean x.kind && is_boolean y.kind) true x y h k
circuit_in c d q logical.OrElse x y h k = form_in c d q (is_boolean x.kind && is_boolean y.kind) false x y h k
circuit_in c d q logical.And x y h k = if_test (λ z. FewIn (c + 1 + d) z × IsTestForm z.form) (is_boolean x.kind && is_boolean y.kind) None (λ e. tt)
circuit_in c d q logical.Or x y h k = if_test (λ z. FewIn (c + 1 + d) z × IsTestForm z.form) (is_boolean x.kind && is_boolean y.kind) None (λ e. tt)
circuit_in c d q logical.Xor x y h k = if_test (λ z. FewIn (c + 1 + d) z × IsTestForm z.form) (is_boolean x.kind && is_boolean y.kind) None (λ e. tt)

-- rules on types
typed_value : (env : Env) (c : ℕ) (t : State) (o : Option Judged) → env.step ≡ typing → IfSome o (FewIn c) → IfPassed (typed_as env t o).outcome (λ g. FewIn c g.value)
typed_value env c t o step h =
    typed_so (λ g. FewIn c g.value) env.step (given any_judged t) (option_map (λ x. given x t) o) step
    (if_map (FewIn c) (λ g. FewIn c g.value) (λ x. given x t) o h (λ x k. k))

closed_typed : (env : Env) (b : Bool) (c : ℕ) (s t : State) (p : Pos) (o : Option Judged) → env.step ≡ typing → IfSome o (λ y. FewIn c y × (b ≡ true → IsTestForm y.form))
    → IfPassed (typed_rule env.step (given any_judged t) (option_map (λ y. closed b s p (given y t)) o)).outcome (λ g. FewIn c g.value)
closed_typed env b c s t p o step h =
    typed_so (λ g. FewIn c g.value) env.step (given any_judged t) (option_map (λ y. closed b s p (given y t)) o) step
    (if_map (λ y. FewIn c y × (b ≡ true → IsTestForm y.form)) (λ g. FewIn c g.value) (λ y. closed b s p (given y t)) o h (λ x k. closed_in b c s p (given x t) k.1 k.0))

standing_in : (c : ℕ) (p : Pos) (o : Option Judged) → IfSome o (FewIn c) → IfSome (option_map (standing_at p) o) (FewIn c)
standing_in c p o h = if_map (FewIn c) (FewIn c) (standing_at p) o h (λ x k. record { nodes = k.nodes; variable = k.variable })

-- what has a short-circuit control form comes to a test
module _ (env : Env) (step : env.step ≡ typing) where
  complemented_test : (f : Form) → IsTestForm f → IsTestForm (complemented f)
  complemented_test (plain e) h = absurd h
  complemented_test (test_form t) h = tt

  logical_test : (q : Pos) (op : LogicalOperator) (x y : Judged) → IfSome (joined q op x y) (λ z. IsTestForm z.form)
  logical_test q op x y = by_operator (is_boolean x.kind && is_boolean y.kind) (neutral_of op)
    where
      by_operator : (b : Bool) (o : Option Bool) → IfSome (if b then option_map (circuit_of q x y) o else None) (λ z. IsTestForm z.form)
      by_operator true None = tt
      by_operator true (Some neutral) = tt
      by_operator false o = tt

  circuit_is_test : (s : State) (e : source.Expr) → is_circuit e ≡ true → IfOk (judged env operand s e).answer (λ g. IsTestForm g.value.form)
  circuit_is_test s (source.parenthesized q e) c =
      answered (λ (g : Given Judged). IsTestForm g.value.form) q _
      (part_so (λ x. IsTestForm x.value.form) (λ g. IsTestForm g.value.form) (judged env operand s e).answer
      (λ x. rule (Some (closed false s q (given (enclosed x.value) x.next)))) (circuit_is_test s e c) (λ x h. h))
  circuit_is_test s (source.unary q unary.Not e) c =
      answered (λ (g : Given Judged). IsTestForm g.value.form) q _
      (part_so (λ x. IsTestForm x.value.form) (λ g. IsTestForm g.value.form) (judged env operand s e).answer
      (λ x. typed_rule env.step (given any_judged x.next) (option_map (λ y. closed false s q (given y x.next)) (unary_of q unary.Not x.value)))
      (circuit_is_test s e c)
      (λ x h. typed_so (λ g. IsTestForm g.value.form) env.step (given any_judged x.next) _ step
      (if_map (λ y. IsTestForm y.form) (λ g. IsTestForm g.value.form) (λ y. closed false s q (given y x.next)) (unary_of q unary.Not x.value)
      (if_test (λ y. IsTestForm y.form) (is_boolean x.value.kind) (Some (complement_of x.value)) (λ b. complemented_test x.value.form h))
      (λ y k. k))))
  circuit_is_test s (source.logical q a op b) c =
      answered (λ (g : Given Judged). IsTestForm g.value.form) q _
      (part_so (λ x. Unit {0}) (λ g. IsTestForm g.value.form) (judged env operand s a).answer
      (λ x. judged env operand x.next b >>= (λ y. typed_rule env.step (given any_judged y.next)
      (option_map (λ z. closed false s q (given z y.next)) (joined q op x.value y.value)))) (any_answer (judged env operand s a).answer)
      (λ x u. part_so (λ y. Unit {0}) (λ g. IsTestForm g.value.form) (judged env operand x.next b).answer
      (λ y. typed_rule env.step (given any_judged y.next) (option_map (λ z. closed false s q (given z y.next)) (joined q op x.value y.value)))
      (any_answer (judged env operand x.next b).answer)
      (λ y v. typed_so (λ g. IsTestForm g.value.form) env.step (given any_judged y.next) (option_map (λ z. closed false s q (given z y.next)) (joined q op x.value y.value)) step
      (if_map (λ z. IsTestForm z.form) (λ g. IsTestForm g.value.form) (λ z. closed false s q (given z y.next)) (joined q op x.value y.value)
      (logical_test q op x.value y.value) (λ z k. k)))))
  circuit_is_test s (source.unary q unary.Plus e) c = absurd (false≢true c)
  circuit_is_test s (source.unary q unary.Minus e) c = absurd (false≢true c)
  circuit_is_test s (source.unary q unary.Abs e) c = absurd (false≢true c)
  circuit_is_test s (source.numeral q n) c = absurd (false≢true c)
  circuit_is_test s (source.named q n) c = absurd (false≢true c)
  circuit_is_test s (source.binary q a op b) c = absurd (false≢true c)
  circuit_is_test s (source.relation q a op b) c = absurd (false≢true c)

  -- as an operand that may open a decision
  opening_test : (c : Bool) (s : State) (e : source.Expr) → is_circuit e ≡ c → IfOk (judged env operand s e).answer (λ x. c ≡ true → IsTestForm x.value.form)
  opening_test true s e same = then_given (judged env operand s e).answer (circuit_is_test s e same)
    where
      then_given : (r : Result (Given Judged) Pos) → IfOk r (λ x. IsTestForm x.value.form) → IfOk r (λ x. true ≡ true → IsTestForm x.value.form)
      then_given (Ok x) h = λ e. h
      then_given (Err p) h = tt
  opening_test false s e same = never (judged env operand s e).answer
    where
      never : (r : Result (Given Judged) Pos) → IfOk r (λ x. false ≡ true → IsTestForm x.value.form)
      never (Ok x) = λ e. absurd (false≢true e)
      never (Err p) = tt

module _ (env : Env) (step : env.step ≡ typing) (is : IsWholeEnv env) where
  -- what may open a decision
  abbrev Opening : source.Expr → Given Judged → Type 0
  Opening e x = FewIn (expr_nodes e) x.value × (is_circuit e ≡ true → IsTestForm x.value.form)

  sign_few : (s start : State) (q : Pos) (op : UnaryOperator) (e : source.Expr) → IfOk (judged env itself start e).answer (λ x. FewIn (expr_nodes e) x.value)
      → ((x : Judged) → unary_of q op x ≡ (if is_integral x.kind then option_map (signed q x) (sign_of op) else None))
      → IfPassed ((judged env itself start e) >>= (λ x. typed_rule env.step (given any_judged x.next) (option_map (λ y. closed false s q (given y x.next)) (unary_of q op x.value)))).outcome
      (λ g. FewIn (1 + expr_nodes e) g.value)
  sign_few s start q op e all same =
      part_so (λ x. FewIn (expr_nodes e) x.value) (λ g. FewIn (1 + expr_nodes e) g.value) (judged env itself start e).answer
      (λ x. typed_rule env.step (given any_judged x.next) (option_map (λ y. closed false s q (given y x.next)) (unary_of q op x.value))) all
      (λ x h. typed_value env (1 + expr_nodes e) x.next (unary_of q op x.value) step
      (subst (λ o. IfSome o (FewIn (1 + expr_nodes e))) (sym (same x.value)) (sign_in (expr_nodes e) q x.value (is_integral x.value.kind) (sign_of op) h)))

  mutual
    pub denoted_few : (s : State) (n : source.Name) → IfOk (denoted env s n).answer (λ g. NameIn (name_nodes n) g.value)
    denoted_few s (source.simple i) =
        answered (λ (g : Given Denoted). NameIn 1 g.value) i.pos (named s (visible (key i) (regions_of env))).outcome
        (named_in 1 s (visible (key i) (regions_of env)) (shown_whole (found (key i) (regions_of env)) (found_whole (key i) (regions_of env) is.regions)) (same_nodes 1))
    denoted_few s (source.selected n i) =
        answered (λ (g : Given Denoted). NameIn (name_nodes n + 1) g.value) (name_pos n) _
        (part_so (λ d. NameIn (name_nodes n) d.value) (λ g. NameIn (name_nodes n + 1) g.value) (denoted env s n).answer (λ d. selection env d.next d.value (key i)) (denoted_few s n)
        (λ d h. selected_in env (name_nodes n) d.next d.value (key i) step is h))
    denoted_few s (source.attribute n i) =
        answered (λ (g : Given Denoted). NameIn (name_nodes n + 1) g.value) (name_pos n) _
        (part_so (λ d. NameIn (name_nodes n) d.value) (λ g. NameIn (name_nodes n + 1) g.value) (denoted env s n).answer (λ d. attribution env d.next d.value (key i)) (denoted_few s n)
        (λ d h. attributed_in env (name_nodes n) d.next d.value (key i) step (is_attribute (key i)) h))
    denoted_few s (source.applied n es) =
        answered (λ (g : Given Denoted). NameIn (name_nodes n + exprs_nodes es) g.value) (name_pos n) _
        (part_so (λ d. NameIn (name_nodes n) d.value) (λ g. NameIn (name_nodes n + exprs_nodes es) g.value) (denoted env s n).answer
        (λ d. all_judged env d.next (name_pos n) es >>= (λ xs. typed_rule env.step (given a_thing xs.next) (option_map (λ x. given x xs.next) (applied_to d.value xs.value))))
        (denoted_few s n)
        (λ d h. part_so (λ xs. AllIn es xs.value) (λ g. NameIn (name_nodes n + exprs_nodes es) g.value) (all_judged env d.next (name_pos n) es).answer
        (λ xs. typed_rule env.step (given a_thing xs.next) (option_map (λ x. given x xs.next) (applied_to d.value xs.value)))
        (all_judged_few d.next (name_pos n) es)
        (λ xs k. typed_name env (name_nodes n + exprs_nodes es) xs.next (applied_to d.value xs.value) step
        (applied_in (name_nodes n) d.value es xs.value h k))))

    pub judged_few : (r : Role) (s : State) (e : source.Expr) → IfOk (judged env r s e).answer (λ g. FewIn (expr_nodes e) g.value)
    judged_few r s (source.numeral q n) =
        answered (λ (g : Given Judged). FewIn 1 g.value) q (typed_as env s (numeral_of q n)).outcome
        (typed_value env 1 s (numeral_of q n) step (if_test (FewIn 1) (nat_lt n 2147483648) _ (λ e. record { nodes = same_nodes 1; variable = tt })))
    judged_few r s (source.named q n) =
        answered (λ (g : Given Judged). FewIn (name_nodes n) g.value) q _
        (part_so (λ d. NameIn (name_nodes n) d.value) (λ g. FewIn (name_nodes n) g.value) (denoted env s n).answer (λ d. typed_as env d.next (option_map (standing_at q) (value_of d.value)))
        (denoted_few s n)
        (λ d h. typed_value env (name_nodes n) d.next (option_map (standing_at q) (value_of d.value)) step
        (standing_in (name_nodes n) q (value_of d.value) (value_in (name_nodes n) d.value h))))
    judged_few r s (source.parenthesized q e) =
        let inner = entered (opens r (is_circuit e)) s in
        answered (λ (g : Given Judged). FewIn (expr_nodes e) g.value) q _
        (part_so (Opening e) (λ g. FewIn (expr_nodes e) g.value) (judged env operand inner e).answer
        (λ x. rule (Some (closed (opens r (is_circuit e)) s q (given (enclosed x.value) x.next))))
        (both_ok (λ x. FewIn (expr_nodes e) x.value) (λ x. is_circuit e ≡ true → IsTestForm x.value.form) (judged env operand inner e).answer
        (judged_few operand inner e) (opening_test env step (is_circuit e) inner e refl))
        (λ x h. closed_in (opens r (is_circuit e)) (expr_nodes e) s q (given (enclosed x.value) x.next) (λ open_now. h.1 (opens_circuit r (is_circuit e) open_now))
        (record { nodes = h.0.nodes; variable = h.0.variable })))
    judged_few r s (source.unary q unary.Not e) =
        let inner = entered (opens r (is_circuit e)) s in
        answered (λ (g : Given Judged). FewIn (1 + expr_nodes e) g.value) q _
        (part_so (Opening e) (λ g. FewIn (1 + expr_nodes e) g.value) (judged env operand inner e).answer
        (λ x. typed_rule env.step (given any_judged x.next) (option_map (λ y. closed (opens r (is_circuit e)) s q (given y x.next)) (unary_of q unary.Not x.value)))
        (both_ok (λ x. FewIn (expr_nodes e) x.value) (λ x. is_circuit e ≡ true → IsTestForm x.value.form) (judged env operand inner e).answer
        (judged_few operand inner e) (opening_test env step (is_circuit e) inner e refl))
        (λ x h. closed_typed env (opens r (is_circuit e)) (1 + expr_nodes e) s x.next q (unary_of q unary.Not x.value) step
        (if_test (λ y. FewIn (1 + expr_nodes e) y × (opens r (is_circuit e) ≡ true → IsTestForm y.form)) (is_boolean x.value.kind) (Some (complement_of x.value))
        (λ b. (complement_in (expr_nodes e) x.value h.0, λ open_now. complemented_test env step x.value.form (h.1 (opens_circuit r (is_circuit e) open_now)))))))
    judged_few itself s (source.unary q unary.Plus e) =
        answered (λ (g : Given Judged). FewIn (1 + expr_nodes e) g.value) q _ (sign_few s s q unary.Plus e (judged_few itself s e) (λ x. refl))
    judged_few operand s (source.unary q unary.Plus e) =
        answered (λ (g : Given Judged). FewIn (1 + expr_nodes e) g.value) q _ (sign_few s s q unary.Plus e (judged_few itself s e) (λ x. refl))
    judged_few itself s (source.unary q unary.Minus e) =
        answered (λ (g : Given Judged). FewIn (1 + expr_nodes e) g.value) q _ (sign_few s s q unary.Minus e (judged_few itself s e) (λ x. refl))
    judged_few operand s (source.unary q unary.Minus e) =
        answered (λ (g : Given Judged). FewIn (1 + expr_nodes e) g.value) q _ (sign_few s s q unary.Minus e (judged_few itself s e) (λ x. refl))
    judged_few itself s (source.unary q unary.Abs e) =
        answered (λ (g : Given Judged). FewIn (1 + expr_nodes e) g.value) q _ (sign_few s s q unary.Abs e (judged_few itself s e) (λ x. refl))
    judged_few operand s (source.unary q unary.Abs e) =
        answered (λ (g : Given Judged). FewIn (1 + expr_nodes e) g.value) q _ (sign_few s s q unary.Abs e (judged_few itself s e) (λ x. refl))
    judged_few r s (source.binary q a op b) =
        let all = expr_nodes a + 1 + expr_nodes b in
        answered (λ (g : Given Judged). FewIn all g.value) q _
        (part_so (λ x. FewIn (expr_nodes a) x.value) (λ g. FewIn all g.value) (judged env itself s a).answer
        (λ x. judged env itself x.next b >>= (λ y. typed_as env y.next (binary_of q op x.value y.value))) (judged_few itself s a)
        (λ x h. part_so (λ y. FewIn (expr_nodes b) y.value) (λ g. FewIn all g.value) (judged env itself x.next b).answer
        (λ y. typed_as env y.next (binary_of q op x.value y.value)) (judged_few itself x.next b)
        (λ y k. typed_value env all y.next (binary_of q op x.value y.value) step (operation_in (expr_nodes a) (expr_nodes b) q op x.value y.value h k))))
    judged_few r s (source.relation q a op b) =
        let all = expr_nodes a + 1 + expr_nodes b in
        answered (λ (g : Given Judged). FewIn all g.value) q _
        (part_so (λ x. FewIn (expr_nodes a) x.value) (λ g. FewIn all g.value) (judged env itself s a).answer
        (λ x. judged env itself x.next b >>= (λ y. typed_as env y.next (related q op x.value y.value))) (judged_few itself s a)
        (λ x h. part_so (λ y. FewIn (expr_nodes b) y.value) (λ g. FewIn all g.value) (judged env itself x.next b).answer
        (λ y. typed_as env y.next (related q op x.value y.value)) (judged_few itself x.next b)
        (λ y k. typed_value env all y.next (related q op x.value y.value) step (relation_in (expr_nodes a) (expr_nodes b) q op x.value y.value h k))))
    judged_few r s (source.logical q a op b) =
        let c = is_some (neutral_of op) in
        let all = expr_nodes a + logical_operator_nodes op + expr_nodes b in
        answered (λ (g : Given Judged). FewIn all g.value) q _
        (part_so (λ x. FewIn (expr_nodes a) x.value) (λ g. FewIn all g.value) (judged env operand (entered (opens r c) s) a).answer
        (λ x. judged env operand x.next b >>= (λ y. typed_rule env.step (given any_judged y.next)
        (option_map (λ z. closed (opens r c) s q (given z y.next)) (joined q op x.value y.value))))
        (judged_few operand (entered (opens r c) s) a)
        (λ x h. part_so (λ y. FewIn (expr_nodes b) y.value) (λ g. FewIn all g.value) (judged env operand x.next b).answer
        (λ y. typed_rule env.step (given any_judged y.next) (option_map (λ z. closed (opens r c) s q (given z y.next)) (joined q op x.value y.value)))
        (judged_few operand x.next b)
        (λ y k. closed_typed env (opens r c) all s y.next q (joined q op x.value y.value) step
        (some_so (λ z. FewIn all z × IsTestForm z.form) (λ z. FewIn all z × (opens r c ≡ true → IsTestForm z.form)) (joined q op x.value y.value)
        (λ z l. (l.0, λ open_now. l.1)) (circuit_in (expr_nodes a) (expr_nodes b) q op x.value y.value h k)))))

    all_judged_few : (s : State) (q : Pos) (es : source.Exprs) → IfOk (all_judged env s q es).answer (λ xs. AllIn es xs.value)
    all_judged_few s q source.no_exprs = tt
    all_judged_few s q (source.also e es) =
        answered (λ (xs : Given (List Judged)). AllIn (source.also e es) xs.value) q _
        (part_so (λ x. FewIn (expr_nodes e) x.value) (λ xs. AllIn (source.also e es) xs.value) (judged env itself s e).answer
        (λ x. all_judged env x.next q es >>= (λ xs. rule (Some (given (x.value ∷ xs.value) xs.next)))) (judged_few itself s e)
        (λ x h. part_so (λ xs. AllIn es xs.value) (λ xs. AllIn (source.also e es) xs.value) (all_judged env x.next q es).answer
        (λ xs. rule (Some (given (x.value ∷ xs.value) xs.next))) (all_judged_few x.next q es)
        (λ xs k. (h, k))))

  -- the decision of a statement
  abbrev pub DecisionIn : ℕ → Given (tree.Label × tree.Test) → Type 0
  DecisionIn c g = size.test_nodes g.value.1 ≤ c

  pub decision_few : (s : State) (q : Pos) (e : source.Expr) → IfOk (decision env s q e).answer (DecisionIn (expr_nodes e))
  decision_few s q e =
      answered (DecisionIn (expr_nodes e)) q _
      (part_so (λ x. FewIn (expr_nodes e) x.value) (DecisionIn (expr_nodes e)) (judged env operand (decided s) e).answer
      (λ x. typed_rule env.step (given (decision_label s (expr_pos e), test_of x.value.at x.value.form) x.next)
      (option_map (λ t. given (decision_label s (expr_pos e), t) (measured (expr_pos e) t x.next)) (tested x.value)))
      (judged_few operand (decided s) e)
      (λ x h. typed_so (DecisionIn (expr_nodes e)) env.step (given (decision_label s (expr_pos e), test_of x.value.at x.value.form) x.next) _ step
      (if_map (λ t. size.test_nodes t ≤ expr_nodes e) (DecisionIn (expr_nodes e)) (λ t. given (decision_label s (expr_pos e), t) (measured (expr_pos e) t x.next)) (tested x.value)
      (if_test (λ t. size.test_nodes t ≤ expr_nodes e) (is_boolean x.value.kind) (Some (test_of x.value.at x.value.form)) (λ b. test_in (expr_nodes e) x.value h))
      (λ t k. k))))
