-- Names with expressions behind them, and names as expressions, as the checker finds them.
use Rattle.std.specs.Prelude.{◌≡◌, List, [], ◌∷◌, map, Option, Some, None, option_map}
use Rattle.std.specs.Option.{option_and_then}
use Rattle.cov_base.specs.declared.position.Pos.{Pos}
use Rattle.ada_tree.specs.declared.expr.Actual.{Actual}
use Rattle.ada_tree.specs.View.{actuals_of}
use Rattle.ada_rules.specs.Types.{type_in}
use Rattle.ada_rules.specs.Environment.{Env}
use Rattle.ada_rules.specs.Denoted as rules
use Rattle.ada_entities.specs.declared.entity.RoutineName.{RoutineName}
use Rattle.ada_entities.specs.Views.{TypeTables}
use Rattle.ada_entities.specs.EntityViews.{Tables, routine_of}
use Rattle.ada_judged.specs.declared.judged.Judged.{Judged}
use Rattle.ada_judged.specs.declared.judged.Variable.{Variable}
use Rattle.ada_judged.specs.JudgedView.{variable_of, judged_of}
use Rattle.ada_phrases.specs.declared.names.Denoted.{Denoted}
use Rattle.ada_phrases.specs.declared.scope.Scope.{Scope}
use Rattle.ada_phrases.specs.DenotedView.{denotes}
use Rattle.ada_phrases.specs.Scopes.{StandsIn}

-- the only one of a list
abbrev pub only : {A : Type 0} → List A → Option A
only (x ∷ []) = Some x
only xs = None

abbrev pub where_single : (rules.Judged → Option rules.Denoted) → Option rules.Judged → Option rules.Denoted
where_single f o = option_and_then f o

abbrev pub IsCalled : Scope → RoutineName → List Judged → Option Denoted → Type 0
IsCalled scope r xs o =
    (k : Tables) (env : Env) → StandsIn scope k env
    → option_map (denotes k) o ≡ rules.applied_to (rules.a_routine (routine_of k r)) (map (judged_of k) xs)

abbrev pub IsElementOf : TypeTables → Variable → Option Judged → Option Denoted → Type 0
IsElementOf types v x o =
    (k : Tables) → k.types ≡ types
    → option_map (denotes k) o
    ≡ where_single (rules.element_of (variable_of k v) (type_in (variable_of k v).subtype)) (option_map (judged_of k) x)

abbrev pub IsApplied : Scope → Denoted → List Judged → Option Denoted → Type 0
IsApplied scope d xs o =
    (k : Tables) (env : Env) → StandsIn scope k env → option_map (denotes k) o
    ≡ rules.applied_to (denotes k d) (map (judged_of k) xs)

-- a call, a name without actuals, and any name as an expression
abbrev pub IsCallValue : Scope → Pos → RoutineName → List Actual → Option Judged → Type 0
IsCallValue scope p r actuals o =
    (k : Tables) (env : Env) → StandsIn scope k env
    → option_map (judged_of k) o
    ≡ option_map (rules.standing_at p) (rules.called (routine_of k r) (actuals_of actuals) (routine_of k r).result)

abbrev pub IsBareCall : Scope → Pos → RoutineName → Option Judged → Type 0
IsBareCall scope p r o =
    (k : Tables) (env : Env) → StandsIn scope k env
    → option_map (judged_of k) o ≡ option_map (rules.standing_at p) (rules.value_of (rules.a_routine (routine_of k r)))

abbrev pub IsValueOf : Scope → Pos → Denoted → Option Judged → Type 0
IsValueOf scope p d o =
    (k : Tables) (env : Env) → StandsIn scope k env
    → option_map (judged_of k) o ≡ option_map (rules.standing_at p) (rules.value_of (denotes k d))
