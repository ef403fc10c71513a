-- Bodies that complete a declaration, or declare a subprogram.
use Rattle.std.specs.Prelude.{◌≡◌, Option, Some, Ok}
use Rattle.cov_base.specs.declared.failure.Failure.{Failure}
use Rattle.ada_syntax.specs.declared.name.Identifier.{Identifier}
use Rattle.ada_rules.specs.Entities.{entity_of, key}
use Rattle.ada_rules.specs.Subprograms.{completed}
use Rattle.ada_entities.specs.declared.entity.RoutineName.{RoutineName}
use Rattle.ada_entities.specs.declared.fault.Refusal.{Refusal}
use Rattle.ada_entities.specs.Answers.{Refuses}
use Rattle.ada_entities.specs.EntityViews.{Tables, region_of}
use Rattle.ada_entities.specs.RegionCode.{innermost}
use Rattle.program_walk.specs.declared.symbols.Symbols.{Symbols}
use Rattle.specifications.specs.Profiles.{completing}

-- the innermost region is what the rules say, and what is completed stands in it
pub record Completes (old new : Symbols) (i : Identifier) (declaration : Option RoutineName) : Type 0 where
  pub region : (k : Tables)
      → (completed (region_of k (innermost old.regions)) i).answer ≡ Ok (region_of k (innermost new.regions))
  pub declared : (k : Tables)
      → entity_of (key i) (region_of k (innermost new.regions)) ≡ Some (completing k declaration)

abbrev pub RefusesBody : Symbols → Identifier → Failure Refusal → Type 0
RefusesBody symbols i f = (k : Tables) → Refuses (completed (region_of k (innermost symbols.regions)) i).answer f
