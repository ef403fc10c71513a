-- Values of subprograms and of units as the demands and the typed program know them.
use Rattle.std.proofs.Common.{◌≡◌, ℕ, List, length, map, Option, Some, None, option_map, slice_get, unwrap_or, refl, sym, ap, ◌∙◌}
use Rattle.std.proofs.lemmas.List.{length-map}
use Rattle.ada_meaning.specs.Seen.{range_seen}
use Rattle.ada_meaning.specs.Types.{Owner, here, of_instance}
use Rattle.ada_tree.specs.Programs.{bounds_of}
use Rattle.ada_tree.specs.View.{owner_of, callee_of, scalar_range_of}
use Rattle.ada_tree.specs.declared.types.Range.{Range}
use Rattle.ada_rules.specs.Types.{integer_subtype, range_in}
use Rattle.ada_rules.specs.Statics.{within}
use Rattle.ada_rules.specs.Entities.{Actual, result_values_seen}
use Rattle.ada_rules.specs.Environment as rules
use Rattle.ada_rules.specs.Environment.{World}
use Rattle.ada_entities.specs.declared.entity.RoutineName.{RoutineName}
use Rattle.ada_entities.specs.declared.routines.ResultMark.{ResultMark}
use Rattle.ada_entities.specs.declared.routines.Routine.{Routine}
use Rattle.ada_entities.specs.declared.units.Interface.{Interface}
use Rattle.ada_entities.specs.EntityViews.{Tables, no_routine, routine_by, awaits_body, awaiting, routine_of}
use Rattle.ada_entities.specs.RoutineViews.{result_of, routine_in}
use Rattle.ada_entities.specs.UnitViews.{interface_of}
use Rattle.ada_entities.specs.Views.{actuals_of}
use Rattle.ada_phrases.specs.Routines.{callee_by}

-- bounds, or others
pub bounds_or : (o : Option Range) (b : Range) → bounds_of (unwrap_or o b) ≡ unwrap_or (option_map bounds_of o) (bounds_of b)
bounds_or None b = refl
bounds_or (Some r) b = refl

-- a subprogram by its number, as it is seen
pub routine_found : (k : Tables) (n : RoutineName) (r : Routine) → slice_get k.routines n.number ≡ Some (routine_in k r)
    → routine_of k n ≡ awaiting (awaits_body n.completion) (routine_by k (owner_of n.seen) (routine_in k r))
routine_found k n r h = ap (λ o. awaiting (awaits_body n.completion) (routine_by k (owner_of n.seen) (unwrap_or o no_routine))) h

pub callee_seen : (k : Tables) (o : Owner) (r : Routine) → callee_by o (callee_of r.callee) ≡ (routine_by k o (routine_in k r)).callee
callee_seen k here r = refl
callee_seen k (of_instance n) r = refl

pub some_values : (k : Tables) (n : ℕ) (r : Routine) (mark : ResultMark) → r.result ≡ Some mark
    → within (range_seen n (scalar_range_of mark.subtype.range)) ≡ (routine_by k (of_instance n) (routine_in k r)).values
some_values k n r mark h = ap (λ o. result_values_seen n (actuals_of k.types n) (option_map (result_of k.types) o)) (sym h)

pub no_values : (k : Tables) (n : ℕ) (r : Routine) → r.result ≡ None
    → within (range_in integer_subtype) ≡ (routine_by k (of_instance n) (routine_in k r)).values
no_values k n r h = ap (λ o. result_values_seen n (actuals_of k.types n) (option_map (result_of k.types) o)) (sym h)

-- how many units there are
pub count_same : (k : Tables) (actuals : ℕ → List Actual) (units : List Interface) (seen : List rules.Interface) → seen ≡ map (interface_of k actuals) units
    → length units ≡ length seen
count_same k actuals units seen h = sym (ap length h ∙ length-map units (interface_of k actuals))
