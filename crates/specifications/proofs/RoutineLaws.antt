-- Subprograms as the table keeps them, of the rules' definitions.
use Rattle.std.proofs.Common.{◌≡◌, ℕ, List, Option, Some, is_some, slice_get, unwrap_or, if◌then◌else◌, sym, ap, ◌∙◌}
use Rattle.ada_syntax.specs.declared.name.Identifier.{Identifier}
use Rattle.ada_meaning.specs.Tree as tree
use Rattle.ada_meaning.specs.Types.{here, of_instance}
use Rattle.ada_tree.specs.declared.expr.Callee.TheVariants as callee
use Rattle.ada_tree.specs.declared.types.Owner.{Owner}
use Rattle.ada_tree.specs.declared.types.Owner.TheVariants as owner
use Rattle.ada_tree.specs.View as view
use Rattle.ada_rules.specs.Entities as rules_entity
use Rattle.ada_rules.specs.Entities.{key, Region, redefined}
use Rattle.ada_rules.specs.Environment.{Env}
use Rattle.ada_rules.specs.Subprograms as rules
use Rattle.ada_rules.specs.Subprograms.{place_among, body_number, routine_values}
use Rattle.ada_entities.specs.declared.entity.Entity.{Entity}
use Rattle.ada_entities.specs.declared.entity.Completion.{Completion}
use Rattle.ada_entities.specs.declared.entity.Values.{Values}
use Rattle.ada_entities.specs.declared.routines.Routine.{Routine}
use Rattle.ada_entities.specs.EntityViews.{Tables, values_of, no_routine, awaits_body, awaiting, routine_of, entity_of, region_of}
use Rattle.ada_entities.specs.RegionCode.{innermost}
use Rattle.ada_entities.specs.RoutineViews.{routine_in}
use Rattle.ada_library.specs.declared.library.Library.{Library}
use Rattle.ada_library.specs.LibraryView.{IsBodyNumber}
use Rattle.program_walk.specs.declared.symbols.Symbols.{Symbols}
use Rattle.program_walk.specs.Changes.{Grows, RedefinesInside}
use Rattle.specifications.specs.declared.conformance.Profile.{Profile}
use Rattle.specifications.specs.Profiles.{parameters_of, results_of, profile_of}
use Rattle.program_walk.specs.Walks.{HasLibrary}
use Rattle.program_walk.proofs.OwnerLaws.{owner_is}

pub entered_is : (k : Tables) (n : ℕ) (w : Completion) (r : Routine) → slice_get k.routines n ≡ Some (routine_in k r)
    → routine_of k (record { number = n; seen = owner.Here; completion = w }) ≡ awaiting (awaits_body w) (routine_in k r)
entered_is k n w r found = ap (λ o. awaiting (awaits_body w) (unwrap_or o no_routine)) found

pub routine_is : (k : Tables) (env : Env) (region : Region) (generic : Option ℕ) (o : Owner) (name : List ℕ) (body : ℕ) (w : Completion) (q : Profile) (v : Values)
    → env.generic ≡ generic → view.owner_of o ≡ (if is_some generic then here else of_instance 0)
    → unwrap_or (body_number env.world env.unit_name name) 0 ≡ body → values_of k v ≡ routine_values (results_of k here q.result)
    → awaiting (awaits_body w) (routine_in k (record { callee = callee.Subprogram o body; parameters = q.parameters; result = q.result; values = v }))
    ≡ rules.routine_of env name (awaits_body w) (profile_of k region q)
routine_is k env region generic o name body w q v g h b e =
    let owned = owner_is env generic o g h in
    λ z. record {
      callee = tree.subprogram (owned z) (sym b z);
      parameters = parameters_of k here q.parameters;
      result = results_of k here q.result;
      values = e z;
      awaits_body = awaits_body w;
    }

pub body_is : (x : Library) (unit : List ℕ) (env : Env) (i : Identifier) (n : Option ℕ) → HasLibrary x env.world → env.unit_name ≡ unit
    → (name : List ℕ) → name ≡ key i → IsBodyNumber x unit name n → n ≡ body_number env.world env.unit_name (key i)
body_is x unit env i n library own name named h =
    h library.units library.library library.is
    ∙ (λ z. place_among (sym own z) (named z) 0 (sym library.bodies z))

-- a name of the innermost region denotes something else, behind what only grew
pub redefined_behind : (k : Tables) (a b c : Symbols) (i : Identifier) (x : Entity) (y : rules_entity.Entity) → Grows a b
    → RedefinesInside b c (key i) x → entity_of k x ≡ y
    → region_of k (innermost c.regions) ≡ redefined (key i) y (region_of k (innermost a.regions))
redefined_behind k a b c i x y grows h e =
    h k ∙ (λ z. redefined (key i) (e z) (region_of k (innermost (grows.regions z))))
