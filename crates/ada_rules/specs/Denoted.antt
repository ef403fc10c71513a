-- What names denote and what expressions are, by local rules on their parts (Ada RM 2012, 4.1, 4.5, 4.6, 6.4.1).
use Rattle.std.specs.Prelude.{ℕ, nat_eq, nat_lt, ◌+◌, pos, Bool, true, false, not, ◌&&◌, ◌||◌, List, [], ◌∷◌, codes, length, Option, Some, None, option_map, if◌then◌else◌}
use Rattle.std.specs.Option.{option_and_then}
use Rattle.cov_base.specs.declared.position.Pos.{Pos}
use Rattle.ada_syntax.specs.declared.expr.UnaryOperator.{UnaryOperator}
use Rattle.ada_syntax.specs.declared.expr.UnaryOperator.TheVariants as unary
use Rattle.ada_syntax.specs.declared.expr.BinaryOperator.{BinaryOperator}
use Rattle.ada_syntax.specs.declared.expr.BinaryOperator.TheVariants as binary
use Rattle.ada_syntax.specs.declared.expr.LogicalOperator.{LogicalOperator}
use Rattle.ada_syntax.specs.declared.expr.LogicalOperator.TheVariants as logical
use Rattle.ada_syntax.specs.declared.expr.RelationalOperator.{RelationalOperator}
use Rattle.ada_syntax.specs.declared.expr.RelationalOperator.TheVariants as relational
use Rattle.ada_meaning.specs.Program.{Mode, in_mode}
use Rattle.ada_meaning.specs.Tree as tree
use Rattle.ada_meaning.specs.Types.{Sign, unary_plus, unary_minus, absolute_value, Operator, addition, subtraction, multiplication, division, modulus, remainder, Relation, equal, unequal, less, at_most, greater, at_least, Static, static_number, static_first, static_last, static_length, static_sign, static_operation, Range}
use Rattle.ada_rules.specs.Types.{Identity, AdaType, array_type, record_type, AdaSubtype, of_type, Fields, no_field, and_field, type_in, range_in, is_scalar, is_integer, same_type, boolean_type, Kind, universal, kind_of, is_integral, is_discrete, is_boolean, fits, common}
use Rattle.ada_rules.specs.Statics.{Spans, within}
use Rattle.ada_rules.specs.Entities.{same_name, Variable, Parameter, Routine, Entity, hidden, mark, literal, object, formal_object, routine, raisable, component, test_io, unit}

-- where nothing stands: a place for what the step of names leaves open
abbrev pub nowhere : Pos
nowhere = record { file = 0; line = 1; col = 1 }

-- an expression of the typed program, or, of a decision that is not closed yet, its test
pub data Form : Type 0 where
  plain : tree.Expr → Form
  test_form : tree.Test → Form

-- An expression: its form; the first token of the operand that is left without `not` and parentheses; what it fits; its
-- static value; the values that a case on it names, where it is an object, a call or a conversion; the object or part
-- of one that it reads, and whether it is just its name.
pub record Judged : Type 0 where
  pub form : Form
  pub at : Pos
  pub kind : Kind
  pub known : Option Static
  pub values : Option Spans
  pub variable : Option Variable
  pub is_name : Bool

pub data Denoted : Type 0 where
  -- a type or subtype
  a_mark : Identity → AdaSubtype → Denoted
  -- a value that is no object
  a_value : Judged → Denoted
  -- an object, or a part of one
  a_variable : Variable → Denoted
  a_routine : Routine → Denoted
  a_call : Routine → tree.Actuals → Denoted
  an_exception : tree.ExceptionName → Denoted
  -- a package, a generic or an instance
  a_unit : ℕ → Denoted
  the_test_io : Denoted
  -- what no rule on types takes
  a_thing : Denoted

-- what the step of names goes on with
abbrev pub any_judged : Judged
any_judged = record {
  form = plain (tree.literal (pos 0));
  at = nowhere;
  kind = universal;
  known = None;
  values = None;
  variable = None;
  is_name = false;
}

-- a value of a type
abbrev pub valued : tree.Expr → Kind → Option Static → Option Spans → Judged
valued e k known values =
    record { form = plain e; at = nowhere; kind = k; known = known; values = values; variable = None; is_name = false }

abbrev pub denoted_of : Entity → Denoted
denoted_of hidden = a_thing
denoted_of (mark i t) = a_mark i t
denoted_of (literal t x) = a_value (valued (tree.literal x) (kind_of t) (Some (static_number x)) None)
denoted_of (object v) = a_variable v
denoted_of (formal_object t e) =
    a_value (valued (tree.constant e) (kind_of (type_in t)) (Some e) (Some (within (range_in t))))
denoted_of (routine r) = a_routine r
denoted_of (raisable e) = an_exception e
denoted_of component = a_thing
denoted_of test_io = the_test_io
denoted_of (unit n) = a_unit n

-- a selector behind those of a name
abbrev pub followed_by : tree.Parts → tree.Parts → tree.Parts
followed_by tree.whole q = q
followed_by (tree.component n p) q = tree.component n (followed_by p q)
followed_by (tree.element r e p) q = tree.element r e (followed_by p q)

-- a part of an object
abbrev pub part_of : Variable → AdaSubtype → (indexed : Bool) → tree.Parts → Variable
part_of v t indexed p = record {
  object = v.object;
  parts = followed_by v.parts p;
  subtype = t;
  is_writable = v.is_writable;
  is_indexed = v.is_indexed || indexed;
  known = None;
  values = within (range_in t);
}

-- the component of a record with this name, and its place (RM 4.1.3)
abbrev pub field_among : List ℕ → ℕ → Fields → Option (ℕ × AdaSubtype)
field_among name n no_field = None
field_among name n (and_field other t fs) = if same_name name other then Some (n, t) else field_among name (n + 1) fs

abbrev pub field_of : List ℕ → Variable → AdaType → Option Denoted
field_of name v (record_type i fs) =
    option_map (λ f. a_variable (part_of v f.1 false (tree.component f.0 tree.whole))) (field_among name 0 fs)
field_of name v t = None

abbrev pub component_of : List ℕ → Denoted → Option Denoted
component_of name (a_variable v) = field_of name v (type_in v.subtype)
component_of name d = None

-- the attributes (RM 3.5, 3.6.2)
abbrev pub is_attribute : List ℕ → Bool
is_attribute name = same_name name (codes "first") || same_name name (codes "last") || same_name name (codes "length")

-- an attribute of a range of values of a type: its static value, and what it fits
abbrev pub limit_of : List ℕ → AdaType → Range → Option (Static × Kind)
limit_of name t r =
    if same_name name (codes "first") then Some (static_first r, kind_of t)
    else if same_name name (codes "last") then Some (static_last r, kind_of t)
    else None

abbrev pub extent_of : List ℕ → AdaSubtype → Option (Static × Kind)
extent_of name x =
    if same_name name (codes "length")
    then Some (static_length (range_in x), universal)
    else limit_of name (type_in x) (range_in x)

-- of a scalar subtype, or of an array type
abbrev pub attribute_of_type : List ℕ → AdaType → Range → Option (Static × Kind)
attribute_of_type name (array_type i x c) r = extent_of name x
attribute_of_type name (record_type i fs) r = None
attribute_of_type name t r = limit_of name t r

-- of an array object; with an index in its name it is no static value
abbrev pub attribute_of_object : List ℕ → AdaType → Option (Static × Kind)
attribute_of_object name (array_type i x c) = extent_of name x
attribute_of_object name t = None

abbrev pub static_attribute : Static × Kind → Denoted
static_attribute a = a_value (valued (tree.constant a.0) a.1 (Some a.0) None)

abbrev pub object_attribute : Variable → Static × Kind → Denoted
object_attribute v a =
    if v.is_indexed then a_value (valued (tree.attribute v.object v.parts a.0) a.1 None None) else static_attribute a

abbrev pub attribute_of : List ℕ → Denoted → Option Denoted
attribute_of name (a_mark i (of_type t r)) = option_map static_attribute (attribute_of_type name t r)
attribute_of name (a_variable v) = option_map (object_attribute v) (attribute_of_object name (type_in v.subtype))
attribute_of name d = None

-- an expression as a test: the one that it is a decision of, or a condition that begins at this place; `not` is taken
-- off, and two in succession cancel
abbrev pub negated : tree.Test → tree.Test
negated (tree.negation t) = t
negated t = tree.negation t

abbrev pub test_of_expr : Pos → tree.Expr → tree.Test
test_of_expr at (tree.complement e) = negated (test_of_expr at e)
test_of_expr at e = tree.condition at e

abbrev pub test_of : Pos → Form → tree.Test
test_of at (plain e) = test_of_expr at e
test_of at (test_form t) = t

-- an expression that is no operand of a decision is plain
abbrev pub expr_of_form : Form → tree.Expr
expr_of_form (plain e) = e
expr_of_form (test_form t) = tree.literal (pos 0)

abbrev pub expr_of : Judged → tree.Expr
expr_of x = expr_of_form x.form

-- a conversion between integer types, or within one discrete type (RM 4.6)
abbrev pub converts : AdaType → Kind → Bool
converts t k = is_scalar t && (is_integer t && is_integral k || fits t k)

abbrev pub conversion_of : AdaSubtype → Judged → Option Denoted
conversion_of t x =
    if converts (type_in t) x.kind
    then Some (a_value (valued (tree.conversion (range_in t) (expr_of x)) (kind_of (type_in t)) None (Some (within (range_in t)))))
    else None

-- an element of an array (RM 4.1.1)
abbrev pub element_of : Variable → AdaType → Judged → Option Denoted
element_of v (array_type i x c) e =
    if fits (type_in x) e.kind
    then Some (a_variable (part_of v c true (tree.element (range_in x) (expr_of e) tree.whole)))
    else None
element_of v t e = None

-- a variable of a parameter's type, for a mode that writes it (RM 6.4.1)
abbrev pub written : AdaType → Variable → tree.Actuals → tree.Actuals
written t v rest =
    if is_scalar t
    then tree.by_variable v.object v.parts (range_in v.subtype) rest
    else tree.by_composite v.object v.parts rest

abbrev pub by_name : Parameter → tree.Actuals → Variable → Option tree.Actuals
by_name q rest v =
    if v.is_writable && same_type (type_in v.subtype) (type_in q.subtype)
    then Some (written (type_in q.subtype) v rest)
    else None

-- an expression of a parameter's type, for a mode that reads it
abbrev pub by_value : Parameter → Judged → tree.Actuals → Option tree.Actuals
by_value q x rest =
    if not (fits (type_in q.subtype) x.kind) then None
    else if is_scalar (type_in q.subtype) then Some (tree.by_expression (expr_of x) rest)
    else option_map (λ v. tree.by_composite v.object v.parts rest) x.variable

abbrev pub passed_as : Mode → Parameter → Judged → tree.Actuals → Option tree.Actuals
passed_as in_mode q x rest = by_value q x rest
passed_as m q x rest = if x.is_name then option_and_then (by_name q rest) x.variable else None

-- as many actuals as there are parameters, each of its type and as its mode wants it (RM 6.4)
abbrev pub actuals_for : List Parameter → List Judged → Option tree.Actuals
actuals_for [] [] = Some tree.no_actual
actuals_for (q ∷ qs) (x ∷ xs) = option_and_then (passed_as q.mode q x) (actuals_for qs xs)
actuals_for qs xs = None

-- an index, a conversion or a call
abbrev pub applied_to_one : Denoted → Judged → Option Denoted
applied_to_one (a_mark i t) x = conversion_of t x
applied_to_one (a_variable v) x = element_of v (type_in v.subtype) x
applied_to_one d x = None

abbrev pub applied_to : Denoted → List Judged → Option Denoted
applied_to (a_routine r) xs = option_map (a_call r) (actuals_for r.parameters xs)
applied_to d (x ∷ []) = applied_to_one d x
applied_to d xs = None

-- the value of an object or of a part of one
abbrev pub read_of : Variable → Judged
read_of v = record {
  form = plain (tree.read v.object v.parts);
  at = nowhere;
  kind = kind_of (type_in v.subtype);
  known = v.known;
  values = Some v.values;
  variable = Some v;
  is_name = true;
}

-- the value of a call of a function (RM 6.4)
abbrev pub called : Routine → tree.Actuals → Option Parameter → Option Judged
called r actuals None = None
called r actuals (Some q) =
    Some (valued (tree.call r.callee actuals) (kind_of (type_in q.subtype)) None (Some r.values))

-- a subprogram that is named without actuals has no parameters
abbrev pub called_bare : {A : Type 0} → Routine → Option A → Option A
called_bare r o = if nat_eq (length r.parameters) 0 then o else None

abbrev pub value_of : Denoted → Option Judged
value_of (a_value x) = Some x
value_of (a_variable v) = Some (read_of v)
value_of (a_routine r) = called_bare r (called r tree.no_actual r.result)
value_of (a_call r actuals) = called r actuals r.result
value_of d = None

-- what begins at this place
abbrev pub standing_at : Pos → Judged → Judged
standing_at p x = record x { at = p }

abbrev pub numeral_of : Pos → ℕ → Option Judged
numeral_of p n =
    if nat_lt n 2147483648
    then Some (standing_at p (valued (tree.literal (pos n)) universal (Some (static_number (pos n))) None))
    else None

-- in parentheses it is no name, and no object, call or conversion
abbrev pub enclosed : Judged → Judged
enclosed x = record x { values = None; is_name = false }

abbrev pub sign_of : UnaryOperator → Option Sign
sign_of unary.Plus = Some unary_plus
sign_of unary.Minus = Some unary_minus
sign_of unary.Abs = Some absolute_value
sign_of unary.Not = None

abbrev pub known_of_both : Operator → Option Static → Option Static → Option Static
known_of_both op a b = option_and_then (λ x. option_map (static_operation op x) b) a

abbrev pub complemented : Form → Form
complemented (plain e) = plain (tree.complement e)
complemented (test_form t) = test_form (negated t)

-- an operator and its one operand (RM 4.5.4, 4.5.6)
abbrev pub signed : Pos → Judged → Sign → Judged
signed p x s = record {
  form = plain (tree.signed s (expr_of x));
  at = p;
  kind = x.kind;
  known = option_map (static_sign s) x.known;
  values = None;
  variable = None;
  is_name = false;
}

abbrev pub complement_of : Judged → Judged
complement_of x = record {
  form = complemented x.form;
  at = x.at;
  kind = x.kind;
  known = None;
  values = None;
  variable = None;
  is_name = false;
}

abbrev pub unary_of : Pos → UnaryOperator → Judged → Option Judged
unary_of p unary.Not x = if is_boolean x.kind then Some (complement_of x) else None
unary_of p op x = if is_integral x.kind then option_map (signed p x) (sign_of op) else None

abbrev pub operator_of : BinaryOperator → Operator
operator_of binary.Add = addition
operator_of binary.Subtract = subtraction
operator_of binary.Multiply = multiplication
operator_of binary.Divide = division
operator_of binary.Mod = modulus
operator_of binary.Rem = remainder

-- an operator and its two operands, of one integer type (RM 4.5.3, 4.5.5)
abbrev pub operation_of : Pos → Operator → Judged → Judged → Kind → Judged
operation_of p op x y k = record {
  form = plain (tree.operation op (expr_of x) (expr_of y));
  at = p;
  kind = k;
  known = known_of_both op x.known y.known;
  values = None;
  variable = None;
  is_name = false;
}

abbrev pub binary_of : Pos → BinaryOperator → Judged → Judged → Option Judged
binary_of p op x y =
    option_and_then (λ k. if is_integral k then Some (operation_of p (operator_of op) x y k) else None) (common x.kind y.kind)

abbrev pub relation_of : RelationalOperator → Relation
relation_of relational.Equal = equal
relation_of relational.NotEqual = unequal
relation_of relational.Less = less
relation_of relational.LessOrEqual = at_most
relation_of relational.Greater = greater
relation_of relational.GreaterOrEqual = at_least

-- a relation of two operands, of one discrete type (RM 4.5.2)
abbrev pub relation_with : Pos → Relation → Judged → Judged → Judged
relation_with p r x y = standing_at p (valued (tree.relation r (expr_of x) (expr_of y)) (kind_of boolean_type) None None)

abbrev pub related : Pos → RelationalOperator → Judged → Judged → Option Judged
related p op x y =
    option_and_then (λ k. if is_discrete k then Some (relation_with p (relation_of op) x y) else None)
    (common x.kind y.kind)

-- the short-circuit control forms, by the value of the left operand at which the right one counts (RM 4.5.1)
abbrev pub neutral_of : LogicalOperator → Option Bool
neutral_of logical.AndThen = Some true
neutral_of logical.OrElse = Some false
neutral_of op = None

-- a short-circuit control form and its two operands, which are Boolean; `and`, `or` and `xor` are no part of this
-- language
abbrev pub circuit_of : Pos → Judged → Judged → Bool → Judged
circuit_of p x y neutral = record {
  form = test_form (tree.operator neutral (test_of x.at x.form) (test_of y.at y.form));
  at = p;
  kind = kind_of boolean_type;
  known = None;
  values = None;
  variable = None;
  is_name = false;
}

abbrev pub joined : Pos → LogicalOperator → Judged → Judged → Option Judged
joined p op x y = if is_boolean x.kind && is_boolean y.kind then option_map (circuit_of p x y) (neutral_of op) else None

-- a test of a statement (RM 5.3)
abbrev pub tested : Judged → Option tree.Test
tested x = if is_boolean x.kind then Some (test_of x.at x.form) else None
