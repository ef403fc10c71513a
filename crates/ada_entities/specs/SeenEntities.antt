-- Entities of a generic's text that are seen through an instance, whatever subprograms and values there are.
use Rattle.std.specs.Prelude.{◌≡◌, ℕ}
use Rattle.ada_rules.specs.Entities.{variable_seen, seen}
use Rattle.ada_entities.specs.declared.entity.DeclaredObject.{DeclaredObject}
use Rattle.ada_entities.specs.declared.entity.Entity.{Entity}
use Rattle.ada_entities.specs.Views.{TypeTables, actuals_of}
use Rattle.ada_entities.specs.EntityViews.{Tables, variable_of, entity_of}

abbrev pub IsSeenObject : ℕ → TypeTables → (own through : DeclaredObject) → Type 0
IsSeenObject n types own through =
    (k : Tables) → k.types ≡ types → variable_of k through ≡ variable_seen n (actuals_of types n) (variable_of k own)

abbrev pub IsSeen : ℕ → TypeTables → (own through : Entity) → Type 0
IsSeen n types own through =
    (k : Tables) → k.types ≡ types → entity_of k through ≡ seen n (actuals_of types n) (entity_of k own)
