-- What the code's entities and regions are of the rules' definitions.
use Rattle.std.specs.Prelude.{ℕ, Bool, true, false, List, [], map, Option, Some, None, option_map, slice_get, unwrap_or}
use Rattle.ada_rules.specs.ada_meaning.specs.Tree as tree
use Rattle.ada_rules.specs.ada_meaning.specs.Types.{Owner, here, of_instance, Static}
use Rattle.ada_tree.specs.declared.types.StaticValue.{StaticValue}
use Rattle.ada_tree.specs.View.{owner_of, static_by, static_value_of, scalar_range_of, object_of, exception_of}
use Rattle.ada_rules.specs.Types.{integer_subtype, range_in}
use Rattle.ada_rules.specs.Statics.{Spans, within, formal_values, result_values}
use Rattle.ada_rules.specs.Entities as rules
use Rattle.ada_rules.specs.Entities.{Variable, Routine, Region, routine_seen}
use Rattle.ada_rules.specs.Declarations.{without_value}
use Rattle.ada_entities.specs.declared.entity.ConstantValue.{ConstantValue}
use Rattle.ada_entities.specs.declared.entity.Values.{Values}
use Rattle.ada_entities.specs.declared.entity.Values.TheVariants as values
use Rattle.ada_entities.specs.declared.entity.Access.{Access}
use Rattle.ada_entities.specs.declared.entity.Access.TheVariants as access
use Rattle.ada_entities.specs.declared.entity.DeclaredObject.{DeclaredObject}
use Rattle.ada_entities.specs.declared.entity.Completion.{Completion}
use Rattle.ada_entities.specs.declared.entity.Completion.TheVariants as completion
use Rattle.ada_entities.specs.declared.entity.RoutineName.{RoutineName}
use Rattle.ada_entities.specs.declared.entity.Entity.{Entity}
use Rattle.ada_entities.specs.declared.entity.Entity.TheVariants as entity
use Rattle.ada_entities.specs.Views.{TypeTables, actuals_of, identity_of, type_of, subtype_of}

-- what numbers lead to: those of types and instances, of subprograms, and of values that a case statement names
pub record Tables : Type 0 where
  pub types : TypeTables
  pub routines : List Routine
  pub spans : List Spans

abbrev pub value_or : Option StaticValue → Static
value_or None = without_value
value_or (Some v) = static_value_of v

abbrev pub constant_of : ConstantValue → Static
constant_of c = static_by c.owner (value_or c.value)

abbrev pub values_of : Tables → Values → Spans
values_of k (values.Within r) = within (scalar_range_of r)
values_of k (values.OfFormalType place) = formal_values place
values_of k (values.OfFormalResult place) = result_values place
values_of k (values.Listed n) = unwrap_or (slice_get k.spans n) (within (range_in integer_subtype))

abbrev pub is_variable : Access → Bool
is_variable access.Constant = false
is_variable access.Variable = true

abbrev pub variable_of : Tables → DeclaredObject → Variable
variable_of k o = record {
  object = object_of o.object;
  parts = tree.whole;
  subtype = subtype_of k.types o.subtype;
  is_writable = is_variable o.access;
  is_indexed = false;
  known = option_map constant_of o.known;
  values = values_of k o.values;
}

abbrev pub awaits_body : Completion → Bool
awaits_body completion.AwaitsBody = true
awaits_body completion.Complete = false

-- a number without a subprogram stands for one that names nothing
abbrev pub no_routine : Routine
no_routine = record {
  callee = tree.test_put;
  parameters = [];
  result = None;
  values = within (range_in integer_subtype);
  awaits_body = false;
}

abbrev pub routine_by : Tables → Owner → Routine → Routine
routine_by k here r = r
routine_by k (of_instance n) r = routine_seen n (actuals_of k.types n) r

abbrev pub awaiting : Bool → Routine → Routine
awaiting b r = record r { awaits_body = b }

abbrev pub routine_of : Tables → RoutineName → Routine
routine_of k r =
    awaiting (awaits_body r.completion) (routine_by k (owner_of r.seen) (unwrap_or (slice_get k.routines r.number) no_routine))

abbrev pub entity_of : Tables → Entity → rules.Entity
entity_of k entity.Hidden = rules.hidden
entity_of k (entity.Mark i t) = rules.mark (identity_of i) (subtype_of k.types t)
entity_of k (entity.Literal t x) = rules.literal (type_of k.types t) x
entity_of k (entity.Object o) = rules.object (variable_of k o)
entity_of k (entity.FormalObject t o v) = rules.formal_object (subtype_of k.types t) (static_by o (static_value_of v))
entity_of k (entity.Routine r) = rules.routine (routine_of k r)
entity_of k (entity.Exception e) = rules.raisable (exception_of e)
entity_of k entity.Component = rules.component
entity_of k entity.TestIo = rules.test_io
entity_of k (entity.Unit n) = rules.unit n

-- an entity by its name, and a region
abbrev pub named : Tables → List ℕ × Entity → List ℕ × rules.Entity
named k e = (e.0, entity_of k e.1)

abbrev pub region_of : Tables → List (List ℕ × Entity) → Region
region_of k entries = map (named k) entries
