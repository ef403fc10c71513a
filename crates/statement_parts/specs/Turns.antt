-- Ranges of loop parameters, as the checker keeps them.
use Rattle.std.specs.Prelude.{◌≡◌, List, Option, option_map, Result}
use Rattle.std.specs.Option.{option_and_then}
use Rattle.cov_base.specs.declared.failure.Failure.{Failure}
use Rattle.ada_syntax.specs.declared.declaration.DiscreteRange.{DiscreteRange}
use Rattle.ada_meaning.specs.Types.{Static}
use Rattle.ada_tree.specs.View as view
use Rattle.ada_rules.specs.Types.{common}
use Rattle.ada_rules.specs.Environment.{State, given, Env}
use Rattle.ada_rules.specs.Denoted as phrases
use Rattle.ada_rules.specs.Statements as rules
use Rattle.ada_entities.specs.declared.entity.Values.{Values}
use Rattle.ada_entities.specs.declared.fault.Refusal.{Refusal}
use Rattle.ada_entities.specs.declared.types.ScalarType.{ScalarType}
use Rattle.ada_entities.specs.Answers.{Answers}
use Rattle.ada_entities.specs.Views.{scalar_type_of, subtype_of}
use Rattle.ada_entities.specs.EntityViews.{Tables, values_of}
use Rattle.ada_judged.specs.declared.judged.Judged.{Judged}
use Rattle.ada_judged.specs.JudgedView.{judged_of}
use Rattle.ada_demands.specs.declared.spans.ListedSpans.{ListedSpans}
use Rattle.ada_demands.specs.SpanViews.{Begins}
use Rattle.ada_phrases.specs.declared.decisions.Decisions.{Decisions}
use Rattle.ada_phrases.specs.Answers.{counted}
use Rattle.object_values.specs.program_walk.specs.declared.site.Site.{Site}
use Rattle.object_values.specs.program_walk.specs.Sites.{StandsAt}
use Rattle.statement_parts.specs.declared.turns.Turns.{Turns}

abbrev pub turns_in : Tables → Turns → rules.Turns
turns_in k t =
    record { over = view.turns_of t.over; subtype = subtype_of k.types t.subtype; values = values_of k t.values }

-- tables that begin with a longer list of values begin with a shorter one
abbrev pub Lengthens : (old new : List ListedSpans) → Type 0
Lengthens old new = (k : Tables) → Begins new k → Begins old k

-- the values between two bounds, whatever tables begin with what is listed
abbrev pub AreValuesBetween : List ListedSpans → Option Static → Option Static → ScalarType → Values → Type 0
AreValuesBetween table a b t v =
    (k : Tables) → Begins table k → values_of k v ≡ rules.values_between a b (scalar_type_of t)

-- the range between two bounds of one type
abbrev pub range_between : (x y : phrases.Judged) → Option rules.Turns
range_between x y = option_and_then (rules.turns_between x y) (common x.kind y.kind)

abbrev pub AreTurnsBetween : List ListedSpans → (low high : Judged) → Option Turns → Type 0
AreTurnsBetween table low high o =
    (k : Tables) → Begins table k → option_map (turns_in k) o ≡ range_between (judged_of k low) (judged_of k high)

-- The range of a loop parameter, from these decisions to those, comes to what the rules say, whatever tables begin with
-- what is listed then.
abbrev pub IsTurned : Site → (old new : Decisions) → List ListedSpans → DiscreteRange
    → Result Turns (Failure Refusal) → Type 0
IsTurned site old new table r result =
    (k : Tables) (env : Env) (s : State) → StandsAt site k env → Begins table k
    → Answers (λ t. given (turns_in k t) (counted new s)) (rules.turned env (counted old s) r).answer result
