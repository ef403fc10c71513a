-- Worlds between units, and what units that were entered stand in.
use Rattle.std.proofs.Common.{ℕ, List, [], ◌∷◌, Option, Some, refl, sym, ap, subst}
use Rattle.ada_rules.specs.Statics.{Facts}
use Rattle.ada_rules.specs.Units.{env_of}
use Rattle.ada_entities.specs.declared.entity.Entity.{Entity}
use Rattle.ada_entities.specs.declared.units.Interface.{Interface}
use Rattle.ada_entities.specs.EntityViews.{region_of}
use Rattle.ada_library.specs.declared.library.Library.{Library}
use Rattle.ada_phrases.specs.declared.scope.Step.{Step}
use Rattle.ada_phrases.specs.Scopes.{step_of}
use Rattle.program_walk.specs.Changes.{Becomes, ShowsUnit}
use Rattle.program_walk.specs.Sites.{Holds}
use Rattle.program_walk.proofs.PlaceLaws.{units_stay, units_shown, holds_unit, holds_package}
use Rattle.program_walk.specs.declared.context.Context.{Context}
use Rattle.program_walk.specs.declared.walk.Walk.{Walk}
use Rattle.program_walk.specs.Walks.{is_library, returning_of}
use Rattle.program_walk.specs.Standing.{Follows, FollowsShown}
use Rattle.unit_walk.specs.Entering.{IsUnitContext, IsPackageContext, IsEntered, StandsInUnit, StandsInPackage}

pub grown : (old new : Walk) (rs : List (List (List ℕ × Entity))) → Becomes old.symbols new.symbols rs old.symbols.units → Follows old new
grown old new rs g x instances k world b begins = record {
  units = units_stay old.symbols new.symbols rs k world g begins.symbols b.units;
  spans = begins.spans;
  instances = b.instances;
  library = b.library;
}

pub shown : (old new : Walk) (n : ℕ) (i : Interface) → ShowsUnit old.symbols new.symbols n i → FollowsShown old new n i
shown old new n i g x instances k world b begins = record {
  units = units_shown old.symbols new.symbols old.symbols.regions k world n i g begins.symbols b.units;
  spans = begins.spans;
  instances = b.instances;
  library = record {
    units = b.library.units;
    library = b.library.library;
    is = b.library.is;
    bodies = b.library.bodies;
  };
}

pub in_unit : (step : Step) (x : Library) (instances : List Facts) (n : ℕ) (name : List ℕ) (c : Context) (old new : Walk)
    (seen : List (List ℕ × Entity)) → IsUnitContext step x instances n name c → IsEntered old seen [] new → StandsInUnit old new c seen
in_unit step x instances n name c old new seen h e k world b begins = record {
  symbols = subst (λ o. Holds c.step o new.symbols k (env_of (step_of c.step) world c.unit c.unit_name.now (region_of k seen)))
      (sym h.own_package)
      (holds_unit c.step new.symbols k world c.unit c.unit_name.now seen
      (units_stay old.symbols new.symbols ([] ∷ seen ∷ []) k world e.symbols begins.symbols b.units) e.symbols.regions);
  spans = begins.spans;
  instances = b.instances;
  generic = sym h.generic;
  library = b.library;
  unit_number = refl;
  unit_name = refl;
  subprogram_name = sym h.subprogram_name;
  level = ap is_library (sym h.level);
  looping = sym h.looping;
  handling = sym h.handling;
  returning = ap (returning_of k) (sym h.returning);
}

in_own_text : (step : Step) (x : Library) (instances : List Facts) (n : ℕ) (name : List ℕ) (c : Context) (g : Option ℕ) (own : ℕ)
    (old new : Walk) (seen text : List (List ℕ × Entity)) → IsUnitContext step x instances n name c → IsEntered old seen text new
    → StandsInPackage old new (record c { generic = g; own_package = Some own }) g own seen text
in_own_text step x instances n name c g own old new seen text h e k world b begins = record {
  symbols = holds_package c.step new.symbols k world c.unit c.unit_name.now seen text g own
      (units_stay old.symbols new.symbols (text ∷ seen ∷ []) k world e.symbols begins.symbols b.units) e.symbols.regions;
  spans = begins.spans;
  instances = b.instances;
  generic = refl;
  library = b.library;
  unit_number = refl;
  unit_name = refl;
  subprogram_name = sym h.subprogram_name;
  level = ap is_library (sym h.level);
  looping = sym h.looping;
  handling = sym h.handling;
  returning = ap (returning_of k) (sym h.returning);
}

pub in_text : (step : Step) (x : Library) (instances : List Facts) (n : ℕ) (name : List ℕ) (c d : Context) (g : Option ℕ) (own : ℕ)
    (old new : Walk) (seen text : List (List ℕ × Entity)) → IsUnitContext step x instances n name c → IsPackageContext c g own d
    → IsEntered old seen text new → StandsInPackage old new d g own seen text
in_text step x instances n name c d g own old new seen text h p e =
    subst (λ y. StandsInPackage old new y g own seen text) (sym p)
    (in_own_text step x instances n name c g own old new seen text h e)
