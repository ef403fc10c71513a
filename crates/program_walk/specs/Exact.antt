-- The tables that have what a symbol table keeps so far, and no more.
use Rattle.std.specs.Prelude.{List, [], map}
use Rattle.ada_rules.specs.Statics.{Spans}
use Rattle.ada_rules.specs.Environment.{Env}
use Rattle.ada_entities.specs.declared.routines.Routine.{Routine}
use Rattle.ada_entities.specs.Views.{TypeTables}
use Rattle.ada_entities.specs.TypeTable.{tables}
use Rattle.ada_entities.specs.EntityViews.{Tables}
use Rattle.ada_entities.specs.RoutineViews.{routine_in}
use Rattle.ada_phrases.specs.declared.scope.Scope.{Scope}
use Rattle.ada_phrases.specs.Scopes.{StandsIn}
use Rattle.program_walk.specs.declared.symbols.Symbols.{Symbols}
use Rattle.program_walk.specs.declared.site.Site.{Site}
use Rattle.program_walk.specs.Sites.{StandsAt}

abbrev pub only_types : TypeTables → List Spans → Tables
only_types types spans = record { types = types; routines = []; spans = spans }

abbrev pub exactly : TypeTables → List Routine → List Spans → Tables
exactly types routines spans =
    record { types = types; routines = map (routine_in (only_types types spans)) routines; spans = spans }

abbrev pub exact : Symbols → List Spans → Tables
exact symbols spans = exactly (tables symbols.types) symbols.routines spans

abbrev pub IsScopeOf : Site → Scope → Type 0
IsScopeOf site scope =
    (k : Tables) (env : Env) → StandsAt site k env → StandsIn scope (exact site.symbols.now k.spans) env
