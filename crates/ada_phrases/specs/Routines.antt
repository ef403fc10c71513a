-- Subprograms as they are seen.
use Rattle.std.specs.Prelude.{◌≡◌, Option, option_map}
use Rattle.std.specs.Borrow.{Bor}
use Rattle.ada_meaning.specs.Tree.{Callee}
use Rattle.ada_meaning.specs.Types.{Owner, here, of_instance}
use Rattle.ada_rules.specs.Types.{AdaSubtype, range_in}
use Rattle.ada_rules.specs.Statics.{Spans, within}
use Rattle.ada_rules.specs.Entities as rules
use Rattle.ada_entities.specs.declared.entity.Values.{Values}
use Rattle.ada_entities.specs.declared.routines.ResultMark.{ResultMark}
use Rattle.ada_entities.specs.declared.routines.Routine.{Routine}
use Rattle.ada_entities.specs.Views.{TypeTables, actuals_of, subtype_of, subtype_by}
use Rattle.ada_entities.specs.EntityViews.{Tables, values_of, routine_by}
use Rattle.ada_entities.specs.RoutineViews.{routine_from}
use Rattle.ada_phrases.specs.declared.routines.Returned.{Returned}

abbrev pub callee_by : Owner → Callee → Callee
callee_by here c = c
callee_by (of_instance n) c = rules.callee_seen n c

abbrev pub parameter_by : Tables → Owner → rules.Parameter → rules.Parameter
parameter_by k here q = q
parameter_by k (of_instance n) q = rules.parameter_seen n (actuals_of k.types n) q

-- a function's result: its subtype, and the values that a case statement on a call names
abbrev pub returned_of : Tables → Returned → AdaSubtype × Spans
returned_of k r = (subtype_of k.types r.subtype, values_of k r.values)

abbrev pub result_in : rules.Routine → Option (AdaSubtype × Spans)
result_in r = option_map (λ q. (q.subtype, r.values)) r.result

-- the values of a result that is seen through an instance are those of its subtype
abbrev pub values_by : Owner → Spans → AdaSubtype → Spans
values_by here v t = v
values_by (of_instance n) v t = within (range_in t)

abbrev pub IsSeenResult : TypeTables → ResultMark → Values → Owner → Returned → Type 0
IsSeenResult types m v o r =
    (k : Tables) → k.types ≡ types
    → returned_of k r
    ≡ (
      subtype_by types o (subtype_of types m.subtype),
      values_by o (values_of k v) (subtype_by types o (subtype_of types m.subtype)),
    )

abbrev pub IsReturned : TypeTables → Option (Bor Routine) → Owner → Option Returned → Type 0
IsReturned types found o r =
    (k : Tables) → k.types ≡ types → option_map (returned_of k) r ≡ result_in (routine_by k o (routine_from k found))
