-- Ranges and subtypes, as the checker keeps them.
use Rattle.std.specs.Prelude.{◌≡◌, Option, Some, None, option_map, Result, if◌then◌else◌}
use Rattle.cov_base.specs.declared.position.Pos.{Pos}
use Rattle.cov_base.specs.declared.failure.Failure.{Failure}
use Rattle.ada_syntax.specs.declared.declaration.Bounds.{Bounds}
use Rattle.ada_meaning.specs.Types as meaning
use Rattle.ada_tree.specs.declared.types.ScalarRange.{ScalarRange}
use Rattle.ada_tree.specs.View.{scalar_range_of}
use Rattle.ada_rules.specs.Plan.{Plan, ◌>>=◌, ruled, answer_at}
use Rattle.ada_rules.specs.Types.{AdaSubtype, of_type, type_in, range_in, is_scalar, fits, common}
use Rattle.ada_rules.specs.Environment.{typed_rule, State, Given, given, Env}
use Rattle.ada_rules.specs.Declarations.{bounded, index_between}
use Rattle.ada_entities.specs.declared.fault.Refusal.{Refusal}
use Rattle.ada_entities.specs.declared.types.Subtype.{Subtype}
use Rattle.ada_entities.specs.Answers.{Answers}
use Rattle.ada_entities.specs.Views.{subtype_of}
use Rattle.ada_entities.specs.EntityViews.{Tables}
use Rattle.ada_phrases.specs.ada_judged.specs.Views.{kind_of}
use Rattle.ada_demands.specs.declared.statics.Statics.{Statics}
use Rattle.ada_demands.specs.StaticsViews.{noted}
use Rattle.program_walk.specs.declared.part.Valued.{Valued}
use Rattle.program_walk.specs.declared.place.Place.{Place}
use Rattle.program_walk.specs.Parts.{valued_of}
use Rattle.ada_phrases.specs.declared.scope.Step.{Step}
use Rattle.ada_phrases.specs.Scopes.{step_of}

abbrev pub range_of : Tables → ScalarRange → meaning.Range
range_of k r = scalar_range_of r

abbrev pub subtype_in : Tables → Subtype → AdaSubtype
subtype_in k t = subtype_of k.types t

-- a scalar subtype with this range
abbrev pub constrained_to : AdaSubtype → meaning.Range → Option AdaSubtype
constrained_to t r = if is_scalar (type_in t) then Some (of_type (type_in t) r) else None

abbrev pub IsConstrained : Step → Pos → Subtype → ScalarRange → Result Subtype (Failure Refusal) → Type 0
IsConstrained step p t r result =
    (k : Tables) (s : State)
    → Answers (λ x. given (subtype_in k x) s)
    (answer_at p (typed_rule (step_of step) (given (subtype_in k t) s)
    (option_map (λ x. given x s) (constrained_to (subtype_in k t) (scalar_range_of r)))).outcome) result

-- a mark with a constraint
abbrev pub narrowing : Env → State → AdaSubtype → Bounds → Plan (Given AdaSubtype)
narrowing env s t b =
    bounded env s (fits (type_in t)) (range_in t) b
    >>= (λ r. typed_rule env.step (given t r.next) (option_map (λ x. given x r.next) (constrained_to t r.value)))

-- the subtype of an index between two static bounds, in the step of types
abbrev pub IsIndex : Place → (old new : Statics) → Pos → (low high : Valued) → Result Subtype (Failure Refusal) → Type 0
IsIndex place old new p low high result =
    (k : Tables) (env : Env) (s : State) → env.generic ≡ place.generic
    → Answers (λ t. given (subtype_in k t) (noted k new s))
    (answer_at p (ruled (option_map (index_between env p (given (valued_of k low) (noted k old s)) (given (valued_of k high) (noted k old s)))
    (common (kind_of k.types low.kind) (kind_of k.types high.kind))))) result
