-- What instances have for formals, as the checker keeps it.
use Rattle.std.specs.Prelude.{List, map}
use Rattle.std.specs.declared.vec.Vec.{Vec}
use Rattle.std.specs.declared.alloc.Global.{Global}
use Rattle.ada_tree.specs.View.{scalar_range_of, static_value_of}
use Rattle.ada_rules.specs.Types.{of_type}
use Rattle.ada_rules.specs.Entities.{Actual, object_actual, type_actual, routine_actual}
use Rattle.ada_entities.specs.EntityViews.{Tables, routine_of}
use Rattle.ada_entities.specs.Views.{scalar_type_of}
use Rattle.specifications.specs.declared.actual.InstanceActual.{InstanceActual}
use Rattle.specifications.specs.declared.actual.InstanceActual.TheVariants as given

abbrev pub actual_of : Tables → InstanceActual → Actual
actual_of k (given.Object v) = object_actual (static_value_of v)
actual_of k (given.Type t r) = type_actual (of_type (scalar_type_of t) (scalar_range_of r))
actual_of k (given.Routine r) = routine_actual (routine_of k r)

abbrev pub actuals_of : Tables → List InstanceActual → List Actual
actuals_of k xs = map (actual_of k) xs

abbrev pub actuals_in : Tables → Vec InstanceActual Global → List Actual
actuals_in k xs = actuals_of k xs.items
