-- What names and expressions come to looks statically no further than what may be named.
use Rattle.std.proofs.Common.{◌≡◌, ℕ, nat_eq, nat_lt, Bool, true, false, if◌then◌else◌, List, [], ◌∷◌, codes, length, Option, Some, None, option_map, IfSome, IfOk, is_some}
use Rattle.std.specs.Prelude.{◌&&◌, unwrap_or, ◌+◌}
use Rattle.std.specs.Option.{option_and_then}
use Rattle.cov_base.specs.Lists.{Everywhere}
use Rattle.cov_base.specs.declared.position.Pos.{Pos}
use Rattle.ada_syntax.specs.Tree as source
use Rattle.ada_syntax.specs.Tree.{name_pos}
use Rattle.ada_syntax.specs.declared.expr.UnaryOperator.{UnaryOperator}
use Rattle.ada_syntax.specs.declared.expr.UnaryOperator.TheVariants as unary
use Rattle.ada_syntax.specs.declared.expr.BinaryOperator.{BinaryOperator}
use Rattle.ada_syntax.specs.declared.expr.LogicalOperator.{LogicalOperator}
use Rattle.ada_syntax.specs.declared.expr.RelationalOperator.{RelationalOperator}
use Rattle.ada_meaning.specs.Tree as tree
use Rattle.ada_meaning.specs.Types.{Sign, Operator, Static, static_first, static_last, static_length, static_sign, Range}
use Rattle.ada_rules.specs.Plan.{◌>>=◌, rule, outcome_after}
use Rattle.ada_rules.specs.Types.{AdaType, integer_type, enumeration, formal_type, array_type, record_type, AdaSubtype, of_type, Fields, no_field, and_field, type_in, range_in, Kind, universal, kind_of, is_scalar, is_integer, same_type, is_integral, is_discrete, is_boolean, fits, common}
use Rattle.ada_rules.specs.Entities.{key, same_name, Variable, Parameter, Routine, Entity, hidden, mark, literal, object, formal_object, routine, raisable, component, test_io, unit, Region, entity_of, found, visible, shown}
use Rattle.ada_rules.specs.Environment.{Step, naming, typing, typed_rule, interface_of, State, Given, given, Env, regions_of}
use Rattle.ada_rules.specs.Denoted.{Judged, any_judged, valued, Denoted, a_mark, a_value, a_variable, a_routine, a_call, an_exception, a_unit, the_test_io, a_thing, denoted_of, part_of, field_among, field_of, component_of, is_attribute, limit_of, extent_of, attribute_of_type, attribute_of_object, static_attribute, object_attribute, attribute_of, numeral_of, standing_at, enclosed, sign_of, signed, complement_of, unary_of, known_of_both, operator_of, operation_of, binary_of, relation_of, relation_with, related, neutral_of, circuit_of, joined, converts, conversion_of, element_of, actuals_for, read_of, called, value_of, applied_to}
use Rattle.ada_rules.specs.Expressions.{Role, itself, operand, is_circuit, is_circuit_under, role_under, opens, entered, closed, is_own, part_of_interface, part_of_unit, named, selection, attribution, typed_as, denoted, judged, all_judged, Marked, marked, mark_part, mark_or_any, scalar_mark, scalar_only, any_mark}
use Rattle.legal_laws.proofs.Passing.{if_then, if_map, if_test, if_either, if_or, IfPassed, answered, ruled_so, part_so, typed_so, steps_apart}
use Rattle.legal_instances.specs.Within.{Made, IsWithin, IsRangeWithin, IsTypeWithin, IsSubtypeWithin, AreFieldsWithin, IsKindWithin, IsVariableWithin, IsEntityWithin, IsRegionWithin, IsValueWithin, IsNameWithin, IsEnvWithin}

module _ (had : Made) (inside : Bool) (own : ℕ) where
  abbrev Statics : Static → Type 0
  Statics e = IsWithin had inside own e

  abbrev Kinds : Kind → Type 0
  Kinds k = IsKindWithin had inside own k

  abbrev Types : AdaType → Type 0
  Types t = IsTypeWithin had inside own t

  abbrev Subtypes : AdaSubtype → Type 0
  Subtypes t = IsSubtypeWithin had inside own t

  abbrev Variables : Variable → Type 0
  Variables v = IsVariableWithin had inside own v

  abbrev Values : Judged → Type 0
  Values x = IsValueWithin had inside own x

  abbrev Names : Denoted → Type 0
  Names d = IsNameWithin had inside own d

  abbrev Entities : Entity → Type 0
  Entities x = IsEntityWithin had inside own x

  abbrev Regions : Region → Type 0
  Regions region = IsRegionWithin had inside own region

  pub range_of_subtype : (t : AdaSubtype) → Subtypes t → IsRangeWithin had inside own (range_in t)
  range_of_subtype (of_type t r) h = h.0

  pub type_of_subtype : (t : AdaSubtype) → Subtypes t → Types (type_in t)
  type_of_subtype (of_type t r) h = h.1

  -- what is found among entities
  pub entity_within : (name : List ℕ) (region : Region) → Regions region → IfSome (entity_of name region) Entities
  entity_within name [] all = tt
  entity_within name (e ∷ region) all =
      if_either Entities (same_name name e.0) (Some e.1) (entity_of name region) all.0 (entity_within name region all.1)

  found_within : (name : List ℕ) (regions : List Region) → Everywhere Regions regions → IfSome (found name regions) Entities
  found_within name [] all = tt
  found_within name (r ∷ rs) all =
      if_or Entities (entity_of name r) (found name rs) (entity_within name r all.0) (found_within name rs all.1)

  pub shown_within : (o : Option Entity) → IfSome o Entities → IfSome (shown o) Entities
  shown_within None h = tt
  shown_within (Some hidden) h = tt
  shown_within (Some (mark i t)) h = h
  shown_within (Some (literal t x)) h = h
  shown_within (Some (object v)) h = h
  shown_within (Some (formal_object t e)) h = h
  shown_within (Some (routine r)) h = h
  shown_within (Some (raisable e)) h = h
  shown_within (Some component) h = h
  shown_within (Some test_io) h = h
  shown_within (Some (unit n)) h = h

  pub visible_within : (name : List ℕ) (regions : List Region) → Everywhere Regions regions → IfSome (visible name regions) Entities
  visible_within name regions all = shown_within (found name regions) (found_within name regions all)

  entity_denoted : (x : Entity) → Entities x → Names (denoted_of x)
  entity_denoted hidden h = tt
  entity_denoted (mark i t) h = h
  entity_denoted (literal t x) h = record { kind = h; known = tt; variable = tt }
  entity_denoted (object v) h = h
  entity_denoted (formal_object t e) h = record { kind = type_of_subtype t h.0; known = h.1; variable = tt }
  entity_denoted (routine r) h = h
  entity_denoted (raisable e) h = tt
  entity_denoted component h = tt
  entity_denoted test_io h = tt
  entity_denoted (unit n) h = tt

  -- parts of objects
  abbrev IsField : ℕ × AdaSubtype → Type 0
  IsField f = Subtypes f.1

  field_within : (name : List ℕ) (n : ℕ) (fs : Fields) → AreFieldsWithin had inside own fs → IfSome (field_among name n fs) IsField
  field_within name n no_field h = tt
  field_within name n (and_field other t fs) h =
      if_either IsField (same_name name other) (Some (n, t)) (field_among name (n + 1) fs) h.0 (field_within name (n + 1) fs h.1)

  part_within : (v : Variable) (t : AdaSubtype) (b : Bool) (q : tree.Parts) → Subtypes t → Variables (part_of v t b q)
  part_within v t b q h = record { subtype = h; known = tt }

  field_named : (name : List ℕ) (v : Variable) (t : AdaType) → Types t → IfSome (field_of name v t) Names
  field_named name v (integer_type i) h = tt
  field_named name v (enumeration i n) h = tt
  field_named name v (formal_type i k b) h = tt
  field_named name v (array_type i x c) h = tt
  field_named name v (record_type i fs) h =
      if_map IsField Names (λ f. a_variable (part_of v f.1 false (tree.component f.0 tree.whole))) (field_among name 0 fs)
      (field_within name 0 fs h) (λ f k. part_within v f.1 false (tree.component f.0 tree.whole) k)

  component_within : (name : List ℕ) (d : Denoted) → Names d → IfSome (component_of name d) Names
  component_within name (a_variable v) h = field_named name v (type_in v.subtype) (type_of_subtype v.subtype h.subtype)
  component_within name (a_mark i t) h = tt
  component_within name (a_value x) h = tt
  component_within name (a_routine r) h = tt
  component_within name (a_call r actuals) h = tt
  component_within name (an_exception e) h = tt
  component_within name (a_unit n) h = tt
  component_within name the_test_io h = tt
  component_within name a_thing h = tt

  -- attributes
  abbrev IsAttribute : Static × Kind → Type 0
  IsAttribute a = Statics a.0 × Kinds a.1

  limit_within : (name : List ℕ) (t : AdaType) (r : Range) → IsRangeWithin had inside own r → Types t → IfSome (limit_of name t r) IsAttribute
  limit_within name t r h k =
      if_either IsAttribute (same_name name (codes "first")) (Some (static_first r, kind_of t))
      (if same_name name (codes "last") then Some (static_last r, kind_of t) else None) (h, k)
      (if_test IsAttribute (same_name name (codes "last")) (Some (static_last r, kind_of t)) (λ b. (h, k)))

  extent_within : (name : List ℕ) (x : AdaSubtype) → Subtypes x → IfSome (extent_of name x) IsAttribute
  extent_within name x h =
      if_either IsAttribute (same_name name (codes "length")) (Some (static_length (range_in x), universal)) (limit_of name (type_in x) (range_in x))
      (range_of_subtype x h, tt) (limit_within name (type_in x) (range_in x) (range_of_subtype x h) (type_of_subtype x h))

  type_attribute : (name : List ℕ) (t : AdaType) (r : Range) → IsRangeWithin had inside own r → Types t → IfSome (attribute_of_type name t r) IsAttribute
  type_attribute name (integer_type i) r h k = limit_within name (integer_type i) r h k
  type_attribute name (enumeration i n) r h k = limit_within name (enumeration i n) r h k
  type_attribute name (formal_type i n b) r h k = limit_within name (formal_type i n b) r h k
  type_attribute name (array_type i x c) r h k = extent_within name x k.0
  type_attribute name (record_type i fs) r h k = tt

  object_attributes : (name : List ℕ) (t : AdaType) → Types t → IfSome (attribute_of_object name t) IsAttribute
  object_attributes name (integer_type i) k = tt
  object_attributes name (enumeration i n) k = tt
  object_attributes name (formal_type i n b) k = tt
  object_attributes name (array_type i x c) k = extent_within name x k.0
  object_attributes name (record_type i fs) k = tt

  static_within : (a : Static × Kind) → IsAttribute a → Names (static_attribute a)
  static_within a h = record { kind = h.1; known = h.0; variable = tt }

  with_index : (v : Variable) (a : Static × Kind) (b : Bool) → IsAttribute a
      → Names (if b then a_value (valued (tree.attribute v.object v.parts a.0) a.1 None None) else static_attribute a)
  with_index v a true h = record { kind = h.1; known = tt; variable = tt }
  with_index v a false h = static_within a h

  attribute_within : (name : List ℕ) (d : Denoted) → Names d → IfSome (attribute_of name d) Names
  attribute_within name (a_mark i (of_type t r)) h = if_map IsAttribute Names static_attribute (attribute_of_type name t r) (type_attribute name t r h.0 h.1) static_within
  attribute_within name (a_variable v) h =
      if_map IsAttribute Names (object_attribute v) (attribute_of_object name (type_in v.subtype))
      (object_attributes name (type_in v.subtype) (type_of_subtype v.subtype h.subtype)) (λ a is. with_index v a v.is_indexed is)
  attribute_within name (a_value x) h = tt
  attribute_within name (a_routine r) h = tt
  attribute_within name (a_call r actuals) h = tt
  attribute_within name (an_exception e) h = tt
  attribute_within name (a_unit n) h = tt
  attribute_within name the_test_io h = tt
  attribute_within name a_thing h = tt

  -- conversions, elements and calls
  conversion_within : (t : AdaSubtype) (x : Judged) → Subtypes t → IfSome (conversion_of t x) Names
  conversion_within t x h =
      if_test Names (converts (type_in t) x.kind) _ (λ may. record { kind = type_of_subtype t h; known = tt; variable = tt })

  element_within : (v : Variable) (t : AdaType) (e : Judged) → Types t → IfSome (element_of v t e) Names
  element_within v (array_type i x c) e h = if_test Names (fits (type_in x) e.kind) _ (λ fit. record { subtype = h.1; known = tt })
  element_within v (integer_type i) e h = tt
  element_within v (enumeration i n) e h = tt
  element_within v (formal_type i k b) e h = tt
  element_within v (record_type i fs) e h = tt

  any_actuals : (o : Option tree.Actuals) → IfSome o (λ a. Unit {0})
  any_actuals None = tt
  any_actuals (Some a) = tt

  applied_within : (d : Denoted) (xs : List Judged) → Names d → IfSome (applied_to d xs) Names
  applied_within (a_routine r) xs h =
      if_map (λ a. Unit {0}) Names (a_call r) (actuals_for r.parameters xs) (any_actuals (actuals_for r.parameters xs)) (λ a u. h)
  applied_within (a_mark i t) (x ∷ []) h = conversion_within t x h
  applied_within (a_variable v) (x ∷ []) h = element_within v (type_in v.subtype) x (type_of_subtype v.subtype h.subtype)
  applied_within d [] h = tt
  applied_within d (x ∷ []) h = tt
  applied_within d (x ∷ (y ∷ zs)) h = tt

  called_within : (r : Routine) (actuals : tree.Actuals) (o : Option Parameter) → IfSome o (λ q. Subtypes q.subtype) → IfSome (called r actuals o) Values
  called_within r actuals None h = tt
  called_within r actuals (Some q) h = record { kind = type_of_subtype q.subtype h; known = tt; variable = tt }

  read_within : (v : Variable) → Variables v → Values (read_of v)
  read_within v h = record { kind = type_of_subtype v.subtype h.subtype; known = h.known; variable = h }

  denoted_value : (d : Denoted) → Names d → IfSome (value_of d) Values
  denoted_value (a_value x) h = h
  denoted_value (a_variable v) h = read_within v h
  denoted_value (a_routine r) h =
      if_test Values (nat_eq (length r.parameters) 0) (called r tree.no_actual r.result) (λ e. called_within r tree.no_actual r.result h.result)
  denoted_value (a_call r actuals) h = called_within r actuals r.result h.result
  denoted_value (a_mark i t) h = tt
  denoted_value (an_exception e) h = tt
  denoted_value (a_unit n) h = tt
  denoted_value the_test_io h = tt
  denoted_value a_thing h = tt

  -- operators
  signed_known : (s : Sign) (o : Option Static) → IfSome o Statics → IfSome (option_map (static_sign s) o) Statics
  signed_known s None h = tt
  signed_known s (Some e) h = h

  signed_within : (q : Pos) (x : Judged) (o : Option Sign) → Values x → IfSome (option_map (signed q x) o) Values
  signed_within q x None h = tt
  signed_within q x (Some s) h = record { kind = h.kind; known = signed_known s x.known h.known; variable = tt }

  unary_within : (q : Pos) (op : UnaryOperator) (x : Judged) → Values x → IfSome (unary_of q op x) Values
  unary_within q unary.Not x h = if_test Values (is_boolean x.kind) (Some (complement_of x)) (λ is. record { kind = h.kind; known = tt; variable = tt })
  unary_within q unary.Plus x h = if_test Values (is_integral x.kind) (option_map (signed q x) (sign_of unary.Plus)) (λ is. signed_within q x (sign_of unary.Plus) h)
  unary_within q unary.Minus x h = if_test Values (is_integral x.kind) (option_map (signed q x) (sign_of unary.Minus)) (λ is. signed_within q x (sign_of unary.Minus) h)
  unary_within q unary.Abs x h = if_test Values (is_integral x.kind) (option_map (signed q x) (sign_of unary.Abs)) (λ is. signed_within q x (sign_of unary.Abs) h)

  pub common_within : (k m : Kind) → Kinds k → Kinds m → IfSome (common k m) Kinds
  common_within universal universal h g = tt
  common_within universal (kind_of t) h g = if_test Kinds (is_integer t) (Some (kind_of t)) (λ e. g)
  common_within (kind_of t) universal h g = if_test Kinds (is_integer t) (Some (kind_of t)) (λ e. h)
  common_within (kind_of t) (kind_of u) h g = if_test Kinds (same_type t u) (Some (kind_of t)) (λ e. h)

  both_known : (op : Operator) (a b : Option Static) → IfSome a Statics → IfSome b Statics → IfSome (known_of_both op a b) Statics
  both_known op None b h g = tt
  both_known op (Some e) None h g = tt
  both_known op (Some e) (Some f) h g = (h, g)

  binary_within : (q : Pos) (op : BinaryOperator) (x y : Judged) → Values x → Values y → IfSome (binary_of q op x y) Values
  binary_within q op x y h g =
      if_then Kinds Values (λ k. if is_integral k then Some (operation_of q (operator_of op) x y k) else None) (common x.kind y.kind)
      (common_within x.kind y.kind h.kind g.kind)
      (λ k both. if_test Values (is_integral k) (Some (operation_of q (operator_of op) x y k))
      (λ is. record { kind = both; known = both_known (operator_of op) x.known y.known h.known g.known; variable = tt }))

  related_within : (q : Pos) (op : RelationalOperator) (x y : Judged) → Values x → Values y → IfSome (related q op x y) Values
  related_within q op x y h g =
      if_then Kinds Values (λ k. if is_discrete k then Some (relation_with q (relation_of op) x y) else None) (common x.kind y.kind)
      (common_within x.kind y.kind h.kind g.kind)
      (λ k both. if_test Values (is_discrete k) (Some (relation_with q (relation_of op) x y)) (λ is. record { kind = tt; known = tt; variable = tt }))

  circuit_within : (q : Pos) (x y : Judged) (o : Option Bool) → IfSome (option_map (circuit_of q x y) o) Values
  circuit_within q x y None = tt
  circuit_within q x y (Some b) = record { kind = tt; known = tt; variable = tt }

  joined_within : (q : Pos) (op : LogicalOperator) (x y : Judged) → IfSome (joined q op x y) Values
  joined_within q op x y =
      if_test Values (is_boolean x.kind && is_boolean y.kind) (option_map (circuit_of q x y) (neutral_of op)) (λ are. circuit_within q x y (neutral_of op))

  numeral_within : (q : Pos) (n : ℕ) → IfSome (numeral_of q n) Values
  numeral_within q n = if_test Values (nat_lt n 2147483648) _ (λ h. record { kind = tt; known = tt; variable = tt })

  standing_within : (q : Pos) (x : Judged) → Values x → Values (standing_at q x)
  standing_within q x h = record { kind = h.kind; known = h.known; variable = h.variable }

  enclosed_within : (x : Judged) → Values x → Values (enclosed x)
  enclosed_within x h = record { kind = h.kind; known = h.known; variable = h.variable }

  closed_within : (b : Bool) (before : State) (q : Pos) (g : Given Judged) → Values g.value → Values (closed b before q g).value
  closed_within true before q g h = record { kind = h.kind; known = h.known; variable = h.variable }
  closed_within false before q g h = h

  module _ (env : Env) (is : IsEnvWithin had inside own env) where
    abbrev pub GivesValue : Given Judged → Type 0
    GivesValue g = Values g.value

    abbrev pub GivesName : Given Denoted → Type 0
    GivesName g = Names g.value

    abbrev pub GivesValues : Given (List Judged) → Type 0
    GivesValues g = Everywhere Values g.value

    own_or_not : (n : ℕ) (name : List ℕ) (b : Bool)
        → IfSome (if b then shown (entity_of name env.own) else part_of_interface env.world name (interface_of env.world n)) Entities
    own_or_not n name true = shown_within (entity_of name env.own) (entity_within name env.own is.own_region)
    own_or_not n name false = is.units n name

    named_within : (s : State) (o : Option Entity) → IfSome o Entities → IfPassed (named s o).outcome GivesName
    named_within s o h =
        ruled_so GivesName (option_map (λ x. given (denoted_of x) s) o)
        (if_map Entities GivesName (λ x. given (denoted_of x) s) o h (λ x k. entity_denoted x k))

    name_typed : (s : State) (o : Option Denoted) → IfSome o Names
        → IfPassed (typed_rule env.step (given a_thing s) (option_map (λ x. given x s) o)).outcome GivesName
    name_typed s o h =
        typed_so GivesName env.step (given a_thing s) (option_map (λ x. given x s) o) is.step (if_map Names GivesName (λ x. given x s) o h (λ x k. k))

    value_typed : (s : State) (o : Option Judged) → IfSome o Values → IfPassed (typed_as env s o).outcome GivesValue
    value_typed s o h =
        typed_so GivesValue env.step (given any_judged s) (option_map (λ x. given x s) o) is.step (if_map Values GivesValue (λ x. given x s) o h (λ x k. k))

    selected_within : (s : State) (d : Denoted) (name : List ℕ) → Names d → IfPassed (selection env s d name).outcome GivesName
    selected_within s (a_mark i t) name h = name_typed s (component_of name (a_mark i t)) tt
    selected_within s (a_value x) name h = name_typed s (component_of name (a_value x)) tt
    selected_within s (a_variable v) name h = name_typed s (component_of name (a_variable v)) (component_within name (a_variable v) h)
    selected_within s (a_routine r) name h = name_typed s (component_of name (a_routine r)) tt
    selected_within s (a_call r actuals) name h = name_typed s (component_of name (a_call r actuals)) tt
    selected_within s (an_exception e) name h = name_typed s (component_of name (an_exception e)) tt
    selected_within s (a_unit n) name h = named_within s (part_of_unit env n name) (own_or_not n name (is_own env.own_package n))
    selected_within s the_test_io name h =
        named_within s (entity_of name env.world.standard.test_io_declarations) (entity_within name env.world.standard.test_io_declarations is.test_io)
    selected_within s a_thing name h = name_typed s (component_of name a_thing) tt

    attributed_if : (s : State) (d : Denoted) (name : List ℕ) (b : Bool) → Names d
        → IfPassed (if b then typed_rule env.step (given a_thing s) (option_map (λ x. given x s) (attribute_of name d)) else rule None).outcome GivesName
    attributed_if s d name true h = name_typed s (attribute_of name d) (attribute_within name d h)
    attributed_if s d name false h = tt

    mutual
      pub denoted_within : (s : State) (n : source.Name) → IfOk (denoted env s n).answer GivesName
      denoted_within s (source.simple i) =
          answered GivesName i.pos (named s (visible (key i) (regions_of env))).outcome
          (named_within s (visible (key i) (regions_of env)) (visible_within (key i) (regions_of env) is.regions))
      denoted_within s (source.selected n i) =
          answered GivesName (name_pos n) (outcome_after (denoted env s n).answer (λ d. selection env d.next d.value (key i)))
          (part_so GivesName GivesName (denoted env s n).answer (λ d. selection env d.next d.value (key i)) (denoted_within s n)
          (λ d h. selected_within d.next d.value (key i) h))
      denoted_within s (source.attribute n i) =
          answered GivesName (name_pos n) (outcome_after (denoted env s n).answer (λ d. attribution env d.next d.value (key i)))
          (part_so GivesName GivesName (denoted env s n).answer (λ d. attribution env d.next d.value (key i)) (denoted_within s n)
          (λ d h. attributed_if d.next d.value (key i) (is_attribute (key i)) h))
      denoted_within s (source.applied n es) =
          answered GivesName (name_pos n) _
          (part_so GivesName GivesName (denoted env s n).answer
          (λ d. all_judged env d.next (name_pos n) es >>= (λ xs. typed_rule env.step (given a_thing xs.next) (option_map (λ x. given x xs.next) (applied_to d.value xs.value))))
          (denoted_within s n)
          (λ d h. part_so GivesValues GivesName (all_judged env d.next (name_pos n) es).answer
          (λ xs. typed_rule env.step (given a_thing xs.next) (option_map (λ x. given x xs.next) (applied_to d.value xs.value)))
          (all_within d.next (name_pos n) es)
          (λ xs k. name_typed xs.next (applied_to d.value xs.value) (applied_within d.value xs.value h))))

      pub judged_within : (r : Role) (s : State) (e : source.Expr) → IfOk (judged env r s e).answer GivesValue
      judged_within r s (source.numeral q n) =
          answered GivesValue q (typed_as env s (numeral_of q n)).outcome (value_typed s (numeral_of q n) (numeral_within q n))
      judged_within r s (source.named q n) =
          answered GivesValue q _
          (part_so GivesName GivesValue (denoted env s n).answer (λ d. typed_as env d.next (option_map (standing_at q) (value_of d.value)))
          (denoted_within s n)
          (λ d h. value_typed d.next (option_map (standing_at q) (value_of d.value))
          (if_map Values Values (standing_at q) (value_of d.value) (denoted_value d.value h) (λ x k. standing_within q x k))))
      judged_within r s (source.parenthesized q e) =
          answered GivesValue q _
          (part_so GivesValue GivesValue (judged env operand (entered (opens r (is_circuit e)) s) e).answer
          (λ x. rule (Some (closed (opens r (is_circuit e)) s q (given (enclosed x.value) x.next))))
          (judged_within operand (entered (opens r (is_circuit e)) s) e)
          (λ x h. closed_within (opens r (is_circuit e)) s q (given (enclosed x.value) x.next) (enclosed_within x.value h)))
      judged_within r s (source.unary q op e) =
          answered GivesValue q _
          (part_so GivesValue GivesValue (judged env (role_under op) (entered (opens r (is_circuit_under op e)) s) e).answer
          (λ x. typed_rule env.step (given any_judged x.next)
          (option_map (λ y. closed (opens r (is_circuit_under op e)) s q (given y x.next)) (unary_of q op x.value)))
          (judged_within (role_under op) (entered (opens r (is_circuit_under op e)) s) e)
          (λ x h. typed_so GivesValue env.step (given any_judged x.next) _ is.step
          (if_map Values GivesValue (λ y. closed (opens r (is_circuit_under op e)) s q (given y x.next)) (unary_of q op x.value) (unary_within q op x.value h)
          (λ y k. closed_within (opens r (is_circuit_under op e)) s q (given y x.next) k))))
      judged_within r s (source.binary q a op b) =
          answered GivesValue q _
          (part_so GivesValue GivesValue (judged env itself s a).answer
          (λ x. judged env itself x.next b >>= (λ y. typed_as env y.next (binary_of q op x.value y.value))) (judged_within itself s a)
          (λ x h. part_so GivesValue GivesValue (judged env itself x.next b).answer (λ y. typed_as env y.next (binary_of q op x.value y.value))
          (judged_within itself x.next b)
          (λ y k. value_typed y.next (binary_of q op x.value y.value) (binary_within q op x.value y.value h k))))
      judged_within r s (source.relation q a op b) =
          answered GivesValue q _
          (part_so GivesValue GivesValue (judged env itself s a).answer
          (λ x. judged env itself x.next b >>= (λ y. typed_as env y.next (related q op x.value y.value))) (judged_within itself s a)
          (λ x h. part_so GivesValue GivesValue (judged env itself x.next b).answer (λ y. typed_as env y.next (related q op x.value y.value))
          (judged_within itself x.next b)
          (λ y k. value_typed y.next (related q op x.value y.value) (related_within q op x.value y.value h k))))
      judged_within r s (source.logical q a op b) =
          let opened = opens r (is_some (neutral_of op)) in
          answered GivesValue q _
          (part_so GivesValue GivesValue (judged env operand (entered opened s) a).answer
          (λ x. judged env operand x.next b >>= (λ y. typed_rule env.step (given any_judged y.next)
          (option_map (λ z. closed opened s q (given z y.next)) (joined q op x.value y.value))))
          (judged_within operand (entered opened s) a)
          (λ x h. part_so GivesValue GivesValue (judged env operand x.next b).answer
          (λ y. typed_rule env.step (given any_judged y.next) (option_map (λ z. closed opened s q (given z y.next)) (joined q op x.value y.value)))
          (judged_within operand x.next b)
          (λ y k. typed_so GivesValue env.step (given any_judged y.next) _ is.step
          (if_map Values GivesValue (λ z. closed opened s q (given z y.next)) (joined q op x.value y.value) (joined_within q op x.value y.value)
          (λ z l. closed_within opened s q (given z y.next) l)))))

      pub all_within : (s : State) (q : Pos) (es : source.Exprs) → IfOk (all_judged env s q es).answer GivesValues
      all_within s q source.no_exprs = tt
      all_within s q (source.also e es) =
          answered GivesValues q _
          (part_so GivesValue GivesValues (judged env itself s e).answer
          (λ x. all_judged env x.next q es >>= (λ xs. rule (Some (given (x.value ∷ xs.value) xs.next)))) (judged_within itself s e)
          (λ x h. part_so GivesValues GivesValues (all_judged env x.next q es).answer (λ xs. rule (Some (given (x.value ∷ xs.value) xs.next)))
          (all_within x.next q es) (λ xs k. (h, k))))

    -- types and subtypes by their names
    abbrev pub GivesMark : Given Marked → Type 0
    GivesMark g = Subtypes g.value.subtype

    abbrev IsMarked : Marked → Type 0
    IsMarked m = Subtypes m.subtype

    mark_within : (d : Denoted) → Names d → IfSome (marked d) IsMarked
    mark_within (a_mark i t) h = h
    mark_within (a_value x) h = tt
    mark_within (a_variable v) h = tt
    mark_within (a_routine r) h = tt
    mark_within (a_call r actuals) h = tt
    mark_within (an_exception e) h = tt
    mark_within (a_unit n) h = tt
    mark_within the_test_io h = tt
    mark_within a_thing h = tt

    marked_in : (step : Step) (d : Denoted) → step ≡ typing → Names d → IfSome (mark_or_any step d) IsMarked
    marked_in naming d at h = absurd (steps_apart at)
    marked_in typing d at h = mark_within d h

    pub mark_part_within : (s : State) (n : source.Name) → IfOk (mark_part env s n).answer GivesMark
    mark_part_within s n =
        answered GivesMark (name_pos n) _
        (part_so GivesName GivesMark (denoted env s n).answer
        (λ d. rule (option_map (λ m. given m d.next) (mark_or_any env.step d.value))) (denoted_within s n)
        (λ d h. ruled_so GivesMark (option_map (λ m. given m d.next) (mark_or_any env.step d.value))
        (if_map IsMarked GivesMark (λ m. given m d.next) (mark_or_any env.step d.value) (marked_in env.step d.value is.step h) (λ m k. k))))

    scalar_marked : (d : Denoted) → Names d → IfSome (option_and_then scalar_only (marked d)) IsMarked
    scalar_marked d h =
        if_then IsMarked IsMarked scalar_only (marked d) (mark_within d h)
        (λ m k. if_test IsMarked (is_scalar (type_in m.subtype)) (Some m) (λ b. k))

    pub scalar_mark_within : (s : State) (n : source.Name) → IfOk (scalar_mark env s n).answer GivesMark
    scalar_mark_within s n =
        answered GivesMark (name_pos n) _
        (part_so GivesName GivesMark (denoted env s n).answer
        (λ d. typed_rule env.step (given (unwrap_or (marked d.value) any_mark) d.next)
        (option_map (λ m. given m d.next) (option_and_then scalar_only (marked d.value))))
        (denoted_within s n)
        (λ d h. typed_so GivesMark env.step _ _ is.step
        (if_map IsMarked GivesMark (λ m. given m d.next) (option_and_then scalar_only (marked d.value)) (scalar_marked d.value h) (λ m k. k))))
