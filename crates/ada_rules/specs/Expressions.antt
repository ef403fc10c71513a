-- The cases of names and expressions (Ada RM 2012, 4.1, 4.4, 4.5, 4.9).
use Rattle.std.specs.Prelude.{ℕ, nat_eq, nat_le, pos, length, unwrap_or, Bool, false, not, List, [], ◌∷◌, Option, Some, None, option_map, is_some, if◌then◌else◌}
use Rattle.std.specs.Option.{option_and_then}
use Rattle.cov_base.specs.declared.position.Pos.{Pos}
use Rattle.ada_syntax.specs.Tree as source
use Rattle.ada_syntax.specs.Tree.{expr_pos, name_pos}
use Rattle.ada_syntax.specs.declared.expr.UnaryOperator.{UnaryOperator}
use Rattle.ada_syntax.specs.declared.expr.UnaryOperator.TheVariants as unary
use Rattle.ada_meaning.specs.Tree as tree
use Rattle.ada_meaning.specs.Statics.{constants_of}
use Rattle.ada_meaning.specs.Types.{Static, static_number, static_constant, static_first, static_last, static_length, static_sign, static_operation, static_of, Range}
use Rattle.ada_rules.specs.Plan.{Plan, Judgement, ◌>>=◌, rule, construct}
use Rattle.ada_rules.specs.Types.{Identity, AdaSubtype, base, type_in, integer_subtype, Kind, universal, is_scalar}
use Rattle.ada_rules.specs.Statics.{Test, value_in}
use Rattle.ada_rules.specs.Entities.{key, Entity, component, Actual, Region, entity_of, visible, shown, seen}
use Rattle.ada_rules.specs.Environment.{Step, naming, typing, typed_rule, Interface, package_interface, generic_interface, instance_interface, World, interface_of, State, Given, given, map_given, Env, regions_of, decision_label, decided, demanded, exceeded}
use Rattle.ada_rules.specs.Denoted.{Judged, any_judged, Denoted, a_mark, a_unit, the_test_io, a_thing, denoted_of, component_of, is_attribute, attribute_of, applied_to, value_of, standing_at, numeral_of, enclosed, unary_of, binary_of, related, neutral_of, joined, Form, plain, test_of, tested}

-- an expression by itself, or an operand of the decision round it
pub data Role : Type 0 where
  itself : Role
  operand : Role

-- whether an expression has a short-circuit control form, in parentheses and under `not` too
abbrev pub is_circuit : source.Expr → Bool
is_circuit (source.parenthesized p e) = is_circuit e
is_circuit (source.unary p unary.Not e) = is_circuit e
is_circuit (source.logical p a op b) = is_some (neutral_of op)
is_circuit e = false

-- the operand of `not` may be part of the decision round it
abbrev pub is_circuit_under : UnaryOperator → source.Expr → Bool
is_circuit_under unary.Not e = is_circuit e
is_circuit_under op e = false

abbrev pub role_under : UnaryOperator → Role
role_under unary.Not = operand
role_under op = itself

-- a decision of its own is a maximal expression with such a form
abbrev pub opens : Role → Bool → Bool
opens itself circuit = circuit
opens operand circuit = false

-- its number is taken at its first token, so that an outer decision comes before those in it
abbrev pub entered : Bool → State → State
entered is_open s = if is_open then decided s else s

abbrev pub most_conditions : ℕ
most_conditions = 32

-- a decision with more conditions passes the limit
abbrev pub measured : Pos → tree.Test → State → State
measured p t s = exceeded (not (nat_le (tree.conditions_of t) most_conditions)) p s

abbrev pub decision_form : tree.Label → Pos → Form → Form
decision_form l at f = plain (tree.decision l (test_of at f))

abbrev pub labelled : tree.Label → Judged → Judged
labelled l x = record x { form = decision_form l x.at x.form }

abbrev pub closed : Bool → State → Pos → Given Judged → Given Judged
closed is_open before p g =
    if is_open
    then given (labelled (decision_label before p) g.value) (measured p (test_of g.value.at g.value.form) g.next)
    else g

-- a part of an instance is one of its generic's declarations, with actuals for formals, but no formal itself; of what
-- is no generic nothing is known (RM 12.3)
abbrev pub unless_formal : Region → List ℕ → Option Entity → Option Entity
unless_formal formals name x = if is_some (entity_of name formals) then None else x

abbrev pub part_of_generic : ℕ → List Actual → List ℕ → Interface → Option Entity
part_of_generic n actuals name (generic_interface formals region) =
    option_map (seen n actuals) (unless_formal formals name (shown (entity_of name region)))
part_of_generic n actuals name i = Some component

-- a part of what a unit declares (RM 4.1.3). A generic is no package from outside.
abbrev pub part_of_interface : World → List ℕ → Interface → Option Entity
part_of_interface w name (package_interface region) = shown (entity_of name region)
part_of_interface w name (instance_interface None n actuals) = Some component
part_of_interface w name (instance_interface (Some g) n actuals) = part_of_generic n actuals name (interface_of w g)
part_of_interface w name i = None

-- in a package's own text its name leads to what it has declared so far
abbrev pub is_own : Option ℕ → ℕ → Bool
is_own None n = false
is_own (Some m) n = nat_eq m n

abbrev pub part_of_unit : Env → ℕ → List ℕ → Option Entity
part_of_unit env n name =
    if is_own env.own_package n
    then shown (entity_of name env.own)
    else part_of_interface env.world name (interface_of env.world n)

abbrev pub named : State → Option Entity → Plan (Given Denoted)
named s o = rule (option_map (λ x. given (denoted_of x) s) o)

-- a part of a package, or a component of a record
abbrev pub selection : Env → State → Denoted → List ℕ → Plan (Given Denoted)
selection env s (a_unit n) name = named s (part_of_unit env n name)
selection env s the_test_io name = named s (entity_of name env.world.standard.test_io_declarations)
selection env s d name = typed_rule env.step (given a_thing s) (option_map (λ x. given x s) (component_of name d))

-- an attribute's name is a rule on names
abbrev pub attribution : Env → State → Denoted → List ℕ → Plan (Given Denoted)
attribution env s d name =
    if is_attribute name
    then typed_rule env.step (given a_thing s) (option_map (λ x. given x s) (attribute_of name d))
    else rule None

-- a rule on types that an expression has to pass
abbrev pub typed_as : Env → State → Option Judged → Plan (Given Judged)
typed_as env s o = typed_rule env.step (given any_judged s) (option_map (λ x. given x s) o)

abbrev mutual
  -- a name (RM 4.1)
  pub denoted : Env → State → source.Name → Judgement (Given Denoted)
  denoted env s (source.simple i) = construct i.pos (named s (visible (key i) (regions_of env)))
  denoted env s (source.selected n i) = construct (name_pos n) (do
    d ← denoted env s n
    selection env d.next d.value (key i))
  denoted env s (source.attribute n i) = construct (name_pos n) (do
    d ← denoted env s n
    attribution env d.next d.value (key i))
  denoted env s (source.applied n es) = construct (name_pos n) (do
    d ← denoted env s n
    xs ← all_judged env d.next (name_pos n) es
    typed_rule env.step (given a_thing xs.next) (option_map (λ x. given x xs.next) (applied_to d.value xs.value)))

  -- an expression (RM 4.4)
  pub judged : Env → Role → State → source.Expr → Judgement (Given Judged)
  judged env r s (source.numeral p n) = construct p (typed_as env s (numeral_of p n))
  judged env r s (source.named p n) = construct p (do
    d ← denoted env s n
    typed_as env d.next (option_map (standing_at p) (value_of d.value)))
  judged env r s (source.parenthesized p e) = construct p (do
    x ← judged env operand (entered (opens r (is_circuit e)) s) e
    rule (Some (closed (opens r (is_circuit e)) s p (given (enclosed x.value) x.next))))
  judged env r s (source.unary p op e) = construct p (do
    x ← judged env (role_under op) (entered (opens r (is_circuit_under op e)) s) e
    typed_rule env.step (given any_judged x.next)
        (option_map (λ y. closed (opens r (is_circuit_under op e)) s p (given y x.next)) (unary_of p op x.value)))
  judged env r s (source.binary p a op b) = construct p (do
    x ← judged env itself s a
    y ← judged env itself x.next b
    typed_as env y.next (binary_of p op x.value y.value))
  judged env r s (source.relation p a op b) = construct p (do
    x ← judged env itself s a
    y ← judged env itself x.next b
    typed_as env y.next (related p op x.value y.value))
  judged env r s (source.logical p a op b) = construct p (do
    x ← judged env operand (entered (opens r (is_some (neutral_of op))) s) a
    y ← judged env operand x.next b
    typed_rule env.step (given any_judged y.next)
        (option_map (λ z. closed (opens r (is_some (neutral_of op))) s p (given z y.next)) (joined p op x.value y.value)))

  -- expressions, from the left; where there is none, this is where they would stand
  pub all_judged : Env → State → Pos → source.Exprs → Judgement (Given (List Judged))
  all_judged env s p source.no_exprs = construct p (rule (Some (given [] s)))
  all_judged env s p (source.also e es) = construct p (do
    x ← judged env itself s e
    xs ← all_judged env x.next p es
    rule (Some (given (x.value ∷ xs.value) xs.next)))

-- The expression of a statement's decision (RM 5.3), with its label: it is one however few conditions it has. That it is
-- of a Boolean type is asked of the statement, whose first token stands at this place.
abbrev pub decision : Env → State → Pos → source.Expr → Judgement (Given (tree.Label × tree.Test))
decision env s p e = construct p (do
  x ← judged env operand (decided s) e
  typed_rule env.step (given (decision_label s (expr_pos e), test_of x.value.at x.value.form) x.next)
      (option_map (λ t. given (decision_label s (expr_pos e), t) (measured (expr_pos e) t x.next)) (tested x.value)))

-- a static value, and what it fits
pub record Valued : Type 0 where
  pub value : Static
  pub kind : Kind

abbrev pub any_valued : Valued
any_valued = record { value = static_number (pos 0); kind = universal }

-- with one constant more of a generic, which is known by its number
abbrev pub entered_constant : ℕ → Range → Static → State → Given Static
entered_constant g r e s = given (static_constant (length (constants_of g s.constants_declared)))
    (record s { constants_declared = record { generic = g; value = e; range = r } ∷ s.constants_declared })

-- In the text of a generic what an operator or an attribute gives, or another instance has, is a constant of the
-- generic: no value is written out twice.
abbrev pub value_named : ℕ → Static → State → Given Static
value_named g (static_first r) s = entered_constant g base (static_first r) s
value_named g (static_last r) s = entered_constant g base (static_last r) s
value_named g (static_length r) s = entered_constant g base (static_length r) s
value_named g (static_sign op e) s =
    let x = value_named g e s in
    entered_constant g base (static_sign op x.value) x.next
value_named g (static_operation op e f) s =
    let x = value_named g e s in
    let y = value_named g f x.next in
    entered_constant g base (static_operation op x.value y.value) y.next
value_named g (static_of i e) s = entered_constant g base (static_of i e) s
value_named g e s = given e s

-- in no generic a static expression is its value; where it has none, its demand is not met
abbrev pub static_known : Env → Static → State → Given Static
static_known env e s = known_by env.generic where
  known_by : Option ℕ → Given Static
  known_by None = given (static_number (unwrap_or (value_in env.world.instances 0 e) (pos 0))) s
  known_by (Some g) = value_named g e s

abbrev pub accepted : Env → State → Pos → (Kind → Bool) → (Static → Test) → Judged → Static → Option (Given Valued)
accepted env s p accepts test x e =
    if accepts x.kind
    then Some (map_given (λ v. record { value = v; kind = x.kind }) (static_known env e (demanded env p (test e) s)))
    else None

-- An expression that has to be static, of a type that is accepted there (RM 4.9). It makes a demand.
abbrev pub static_part : Env → State → (Kind → Bool) → (Static → Test) → source.Expr → Judgement (Given Valued)
static_part env s accepts test e = construct (expr_pos e) (do
  x ← judged env itself s e
  typed_rule env.step (given any_valued x.next)
      (option_and_then (accepted env x.next (expr_pos e) accepts test x.value) x.value.known))

-- the name of a type or subtype, and which it is (RM 3.2.2)
pub record Marked : Type 0 where
  pub identity : Option Identity
  pub subtype : AdaSubtype

abbrev pub any_mark : Marked
any_mark = record { identity = None; subtype = integer_subtype }

abbrev pub marked : Denoted → Option Marked
marked (a_mark i t) = Some (record { identity = Some i; subtype = t })
marked d = None

-- the step of names keeps which one it is, where it is one
abbrev pub mark_or_any : Step → Denoted → Option Marked
mark_or_any naming d = Some (unwrap_or (marked d) any_mark)
mark_or_any typing d = marked d

abbrev pub mark_part : Env → State → source.Name → Judgement (Given Marked)
mark_part env s n = construct (name_pos n) (do
  d ← denoted env s n
  rule (option_map (λ m. given m d.next) (mark_or_any env.step d.value)))

-- one of a scalar subtype
abbrev pub scalar_only : Marked → Option Marked
scalar_only m = if is_scalar (type_in m.subtype) then Some m else None

abbrev pub scalar_mark : Env → State → source.Name → Judgement (Given Marked)
scalar_mark env s n = construct (name_pos n) (do
  d ← denoted env s n
  typed_rule env.step (given (unwrap_or (marked d.value) any_mark) d.next)
      (option_map (λ m. given m d.next) (option_and_then scalar_only (marked d.value))))
