-- Conformance of whole profiles.
use Rattle.std.proofs.Common.{◌≡◌, ◌&&◌, Some, slice_get, unwrap_or, ap}
use Rattle.ada_meaning.specs.Types.{Owner, here}
use Rattle.ada_rules.specs.Entities as rules
use Rattle.ada_rules.specs.Entities.{Region}
use Rattle.ada_rules.specs.Subprograms as subprograms
use Rattle.ada_rules.specs.Subprograms.{same_parameters, same_result, conforms}
use Rattle.ada_tree.specs.View.{owner_of}
use Rattle.ada_entities.specs.declared.entity.RoutineName.{RoutineName}
use Rattle.ada_entities.specs.declared.routines.Routine.{Routine}
use Rattle.ada_entities.specs.EntityViews.{Tables, no_routine, routine_by, awaits_body, awaiting, routine_of}
use Rattle.ada_entities.specs.RoutineViews.{routine_in}
use Rattle.specifications.specs.declared.conformance.Profile.{Profile}
use Rattle.specifications.specs.Profiles.{parameters_of, results_of, profile_of}
use Rattle.specifications.proofs.ConformanceLaws.{are_same, parameters_by, result_by}

pub both_conform : (k : Tables) (o : Owner) (r : Routine) (q : Profile) (region : Region)
    → (are_same k o r.parameters q.parameters && same_result (results_of k o r.result) (results_of k here q.result))
    ≡ conforms (profile_of k region q) (Some (rules.routine (routine_by k o (routine_in k r))))
both_conform k o r q region =
    λ z. same_parameters (parameters_by k o r z) (parameters_of k here q.parameters)
    && same_result (result_by k o r z) (results_of k here q.result)

-- a subprogram by its number
pub named_conformity : (k : Tables) (n : RoutineName) (r : Routine) (q : subprograms.Profile) → slice_get k.routines n.number ≡ Some (routine_in k r)
    → conforms q (Some (rules.routine (routine_of k n))) ≡ conforms q (Some (rules.routine (routine_by k (owner_of n.seen) (routine_in k r))))
named_conformity k n r q h =
    ap (λ o. conforms q (Some (rules.routine (awaiting (awaits_body n.completion) (routine_by k (owner_of n.seen) (unwrap_or o no_routine)))))) h
