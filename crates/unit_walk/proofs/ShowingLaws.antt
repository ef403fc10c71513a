-- An instance that others see, as what it gives for formal types is kept.
use Rattle.std.proofs.Common.{ℕ, List, set, Option, map, sym, ap, subst, ◌∙◌}
use Rattle.ada_entities.specs.declared.types.ScalarType.{ScalarType}
use Rattle.ada_entities.specs.declared.units.Interface.TheVariants as interface
use Rattle.ada_entities.specs.Views.{given_of}
use Rattle.ada_entities.specs.EntityViews.{Tables}
use Rattle.ada_entities.specs.UnitViews.{GiveSame}
use Rattle.program_walk.specs.declared.symbols.Symbols.{Symbols}
use Rattle.program_walk.specs.Changes.{Becomes, Grows, IsInstance, ShowsUnit}
use Rattle.program_walk.proofs.PlaceLaws.{units_instance}
use Rattle.specifications.specs.Actuals.{actuals_in}
use Rattle.unit_walk.specs.declared.instantiation.Instantiated.{Instantiated}
use Rattle.unit_walk.specs.Instantiating.{SeesInstance}

-- the table grows, and then the unit is seen: as one change
pub shown_behind : (old middle new : Symbols) (n : ℕ) (g : Option ℕ) (j : ℕ) → Grows old middle
    → ShowsUnit middle new n (interface.Instance g j) → Becomes old new old.regions (set old.units n (interface.Instance g j))
shown_behind old middle new n g j a b = record {
  known = λ h. b.known (a.known h);
  stays = λ h k l alike. a.stays h k l (b.stays (a.known h) k l alike);
  begins = λ k h. a.begins k (b.begins k h);
  regions = b.regions ∙ a.regions;
  units = b.units ∙ ap (λ us. set us n (interface.Instance g j)) a.units;
}

pub instance_seen : (old middle new : Symbols) (n : ℕ) (y : Instantiated) (types : List (Option ScalarType)) (j : ℕ) → Grows old middle
    → IsInstance old middle j types → ShowsUnit middle new n (interface.Instance y.generic j)
    → ((k : Tables) → GiveSame (actuals_in k y.actuals) (map given_of types)) → SeesInstance old new n y j
instance_seen old middle new n y types j grows made shows same k w held begins =
    units_instance old new old.regions k w n y.generic j (actuals_in k y.actuals) (shown_behind old middle new n y.generic j grows shows) begins
    made.fresh
    (subst (GiveSame (actuals_in k y.actuals)) (sym (made.given held.known k (shows.begins k begins))) (same k)) held
