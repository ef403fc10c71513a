-- The cases of formals and of instances (Ada RM 2012, 12.1 to 12.6).
use Rattle.std.specs.Prelude.{ℕ, ◌+◌, ℤ, pos, Bool, true, false, ◌&&◌, List, [], ◌∷◌, ◌++◌, map, length, Option, Some, None, option_map, unwrap_or, if◌then◌else◌}
use Rattle.std.specs.Option.{option_and_then}
use Rattle.cov_base.specs.declared.position.Pos.{Pos}
use Rattle.ada_syntax.specs.Tree as source
use Rattle.ada_syntax.specs.Tree.{expr_pos, name_pos}
use Rattle.ada_syntax.specs.declared.name.Identifier.{Identifier}
use Rattle.ada_syntax.specs.declared.unit.Formal.{Formal}
use Rattle.ada_syntax.specs.declared.unit.FormalKind.{FormalKind}
use Rattle.ada_syntax.specs.declared.unit.FormalKind.TheVariants as formal
use Rattle.ada_syntax.specs.declared.unit.Instance.{Instance}
use Rattle.ada_meaning.specs.Arithmetic.{base_range}
use Rattle.ada_meaning.specs.Program as program
use Rattle.ada_meaning.specs.Tree as tree
use Rattle.ada_meaning.specs.Types.{here, of_instance, Static, static_formal, Range, formal_range}
use Rattle.ada_rules.specs.Plan.{Plan, Judgement, ◌>>=◌, rule, construct}
use Rattle.ada_rules.specs.Types.{Identity, AdaType, formal_type, AdaSubtype, of_type, type_in, range_in, same_type, is_integer, is_scalar, integer_subtype, fits}
use Rattle.ada_rules.specs.Statics.{Spans, Fact, number_fact, type_fact, result_fact, Facts, value_in, bounds_in, spans_in, result_values}
use Rattle.ada_rules.specs.Entities.{key, Parameter, Routine, Entity, mark, formal_object, routine, unit, Region, redefined, Actual, object_actual, type_actual, routine_actual, subtype_seen, routine_seen, type_values, visible}
use Rattle.ada_rules.specs.Environment.{Step, naming, typing, typed_rule, Interface, generic_interface, World, interface_of, State, Given, given, Env, regions_of, with_local, new_identity, one_type_more, hide}
use Rattle.ada_rules.specs.Denoted.{Denoted, a_mark, a_routine}
use Rattle.ada_rules.specs.Expressions.{itself, denoted, judged, static_part, scalar_mark}
use Rattle.ada_rules.specs.Declarations.{in_range}
use Rattle.ada_rules.specs.Subprograms.{Profile, same_mode, specified, declared_only}

-- formal types are types of their own (RM 12.5); formals are numbered from 0
abbrev pub formal_mark : Identity → ℕ → Bool → Entity
formal_mark i k integral = mark i (of_type (formal_type i k integral) (formal_range k))

abbrev pub formal_type_declared : Env → State → Identifier → ℕ → Bool → Plan (Given Region)
formal_type_declared env s i k integral = do
  region ← hide env.local i
  rule (Some (given (redefined (key i) (formal_mark (new_identity env s) k integral) region) (one_type_more s)))

-- a call of a formal subprogram is one of the actual (RM 12.6)
abbrev pub formal_routine : ℕ → Profile → Entity
formal_routine k q = routine (record {
  callee = tree.formal_subprogram k;
  parameters = q.parameters;
  result = q.result;
  values = result_values k;
  awaits_body = false;
})

abbrev pub formal_declared : Env → State → ℕ → FormalKind → Plan (Given Region)
formal_declared env s k (formal.DiscreteType i) = formal_type_declared env s i k false
formal_declared env s k (formal.IntegerType i) = formal_type_declared env s i k true
formal_declared env s k (formal.Object i m n) = do
  region ← hide env.local i
  t ← scalar_mark (with_local env region) s n
  rule (Some (given (redefined (key i) (formal_object t.value.subtype (static_formal k)) region) t.next))
formal_declared env s k (formal.Subprogram x) = do
  region ← hide env.local x.name
  q ← specified (with_local env region) s x
  rule (Some (given (redefined (key x.name) (formal_routine k q.value) region) (declared_only s q.next)))

abbrev pub formals_declared : Env → State → Pos → ℕ → List Formal → Judgement (Given Region)
formals_declared env s p k [] = construct p (rule (Some (given env.local s)))
formals_declared env s p k (f ∷ fs) = construct p (do
  region ← construct f.pos (formal_declared env s k f.kind)
  rest ← formals_declared (with_local env region.value) region.next p (k + 1) fs
  rule (Some rest))

-- the generic of an instance, by the number of its unit (RM 12.3)
abbrev pub generic_number : World → ℕ → Interface → Option ℕ
generic_number w n (generic_interface formals region) = Some n
generic_number w n i = None

abbrev pub generic_of : World → Entity → Option ℕ
generic_of w (unit n) = generic_number w n (interface_of w n)
generic_of w x = None

abbrev pub generic_or_any : Env → Option ℕ → Option (Option ℕ)
generic_or_any env None = only_naming env.step where
  only_naming : Step → Option (Option ℕ)
  only_naming naming = Some None
  only_naming typing = None
generic_or_any env (Some n) = Some (Some n)

abbrev pub generic_named : Env → Identifier → Judgement (Option ℕ)
generic_named env i =
    construct i.pos (rule (option_and_then (λ x. generic_or_any env (generic_of env.world x)) (visible (key i) (regions_of env))))

abbrev pub formals_of_interface : Interface → Region
formals_of_interface (generic_interface formals region) = formals
formals_of_interface i = []

abbrev pub formals_of : World → Option ℕ → Region
formals_of w None = []
formals_of w (Some n) = formals_of_interface (interface_of w n)

-- the subprogram for a formal one has the same modes and types (RM 12.6)
abbrev pub same_kind : Parameter → Parameter → Bool
same_kind a b = same_mode a.mode b.mode && same_type (type_in a.subtype) (type_in b.subtype)

abbrev pub same_kinds : List Parameter → List Parameter → Bool
same_kinds [] [] = true
same_kinds (a ∷ rest) (b ∷ bs) = same_kind a b && same_kinds rest bs
same_kinds xs ys = false

abbrev pub same_results : Option Parameter → Option Parameter → Bool
same_results None None = true
same_results (Some a) (Some b) = same_type (type_in a.subtype) (type_in b.subtype)
same_results a b = false

abbrev pub same_profile : Routine → Routine → Bool
same_profile a b = same_kinds a.parameters b.parameters && same_results a.result b.result

-- a discrete subtype for a formal type, an integer one for a formal integer type (RM 12.5.2)
abbrev pub matches_type : (integral : Bool) → AdaType → Bool
matches_type integral t = if integral then is_integer t else is_scalar t

abbrev pub formal_is_integer : AdaSubtype → Bool
formal_is_integer t = is_integer (type_in t)

abbrev pub actual_for_name : ℕ → List Actual → Entity → Denoted → Option Actual
actual_for_name n before (mark i t) (a_mark j u) =
    if matches_type (formal_is_integer t) (type_in u) then Some (type_actual u) else None
actual_for_name n before (routine f) (a_routine r) =
    if same_profile (routine_seen n before f) r then Some (routine_actual r) else None
actual_for_name n before x d = None

abbrev pub any_actual : Actual
any_actual = type_actual integer_subtype

-- An actual for a formal, seen with the actuals before it. For a formal object it is static (this language's profile),
-- and for others a name.
abbrev pub actual_plan : Env → State → ℕ → List Actual → Entity → source.Expr → Plan (Given Actual)
actual_plan env s n before (formal_object t e) x = do
  v ← static_part env s (fits (type_in (subtype_seen n before t))) (in_range (range_in (subtype_seen n before t))) x
  rule (Some (given (object_actual v.value.value) v.next))
actual_plan env s n before f (source.named p x) = do
  d ← denoted env s x
  typed_rule env.step (given any_actual d.next) (option_map (λ a. given a d.next) (actual_for_name n before f d.value))
actual_plan env s n before f x = do
  y ← judged env itself s x
  typed_rule env.step (given any_actual y.next) None

-- an actual that there is no formal for is looked at for its names
abbrev pub any_plan : Env → State → source.Expr → Plan (Given Actual)
any_plan env s (source.named p x) = do
  d ← denoted env s x
  rule (Some (given any_actual d.next))
any_plan env s x = do
  y ← judged env itself s x
  rule (Some (given any_actual y.next))

-- actuals behind others, with as many formals as there are; there are as many of them (RM 12.3)
abbrev pub actuals_judged : Env → State → Pos → ℕ → List Actual → Region → List source.Expr
    → Judgement (Given (List Actual))
actuals_judged env s p n before [] [] = construct p (rule (Some (given before s)))
actuals_judged env s p n before (f ∷ fs) [] = construct p (typed_rule env.step (given before s) None)
actuals_judged env s p n before [] (x ∷ xs) = construct p (do
  a ← (construct (expr_pos x) (any_plan env s x))
  rest ← actuals_judged env a.next p n before [] xs
  typed_rule env.step rest None)
actuals_judged env s p n before (f ∷ fs) (x ∷ xs) = construct p (do
  a ← (construct (expr_pos x) (actual_plan env s n before f.1 x))
  rest ← actuals_judged env a.next p n (before ++ a.value ∷ []) fs xs
  rule (Some rest))

-- what the typed program and the demands know of an actual
abbrev pub number_of : List Facts → Static → ℤ
number_of facts e = unwrap_or (value_in facts 0 e) (pos 0)

abbrev pub bounds_of : List Facts → Range → program.Bounds
bounds_of facts r = unwrap_or (bounds_in facts 0 r) base_range

abbrev pub values_of : List Facts → Spans → program.Bounds
values_of facts v = unwrap_or (spans_in facts 0 v) base_range

abbrev pub target_of : tree.Callee → program.Target
target_of tree.test_get = program.get_target
target_of tree.test_put = program.put_target
target_of (tree.subprogram here k) = program.body_target 0 k
target_of (tree.subprogram (of_instance i) k) = program.body_target i k
target_of (tree.formal_subprogram k) = program.put_target

abbrev pub fact_of : List Facts → Actual → Fact
fact_of facts (object_actual e) = number_fact (number_of facts e)
fact_of facts (type_actual t) = type_fact (bounds_of facts (range_in t)) (values_of facts (type_values (type_in t)))
fact_of facts (routine_actual r) = result_fact (values_of facts r.values)

abbrev pub typed_actual : List Facts → Actual → program.FormalActual
typed_actual facts (object_actual e) = program.actual_object e (number_of facts e)
typed_actual facts (type_actual t) =
    program.actual_type (range_in t) (bounds_of facts (range_in t)) (values_of facts (type_values (type_in t)))
typed_actual facts (routine_actual r) = program.actual_subprogram (target_of r.callee)

-- a generic's unit, or for what is no generic a number that is none
abbrev pub generic_unit : World → Option ℕ → ℕ
generic_unit w None = length w.interfaces
generic_unit w (Some g) = g

-- an instance as the typed program has it; the values of constants are there when all bodies were looked at
abbrev pub instance_made : World → Pos → Instance → Option ℕ → List Actual → program.Instance
instance_made w p i g actuals = record {
  name = key i.name;
  place = p;
  generic = generic_unit w g;
  actuals = map (typed_actual w.instances) actuals;
  constants = [];
}

abbrev pub facts_made : World → Option ℕ → List Actual → Facts
facts_made w g actuals =
    record { generic = generic_unit w g; formals = map (fact_of w.instances) actuals; constants = [] }
