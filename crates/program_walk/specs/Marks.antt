-- Names of types and subtypes, as the checker keeps them.
use Rattle.std.specs.Prelude.{option_map, unwrap_or, Result}
use Rattle.std.specs.Option.{option_and_then}
use Rattle.cov_base.specs.declared.position.Pos.{Pos}
use Rattle.cov_base.specs.declared.failure.Failure.{Failure}
use Rattle.ada_rules.specs.Plan.{ruled, answer_at}
use Rattle.ada_rules.specs.Environment.{typed_rule, State, given}
use Rattle.ada_rules.specs.Expressions as rules
use Rattle.ada_rules.specs.Expressions.{any_mark, mark_or_any, scalar_only}
use Rattle.ada_entities.specs.declared.fault.Refusal.{Refusal}
use Rattle.ada_entities.specs.Answers.{Answers}
use Rattle.ada_entities.specs.Views.{identity_of, subtype_of}
use Rattle.ada_entities.specs.EntityViews.{Tables}
use Rattle.ada_phrases.specs.declared.names.Denoted.{Denoted}
use Rattle.ada_phrases.specs.declared.scope.Step.{Step}
use Rattle.ada_phrases.specs.DenotedView.{denotes}
use Rattle.ada_phrases.specs.Scopes.{step_of}
use Rattle.program_walk.specs.declared.marks.Marked.{Marked}

abbrev pub marked_of : Tables → Marked → rules.Marked
marked_of k m = record { identity = option_map identity_of m.identity; subtype = subtype_of k.types m.subtype }

-- what a name that begins at this place comes to, where a type or subtype is asked for
abbrev pub IsMark : Step → Pos → Denoted → Result Marked (Failure Refusal) → Type 0
IsMark step p d result =
    (k : Tables) (s : State)
    → Answers (λ m. given (marked_of k m) s)
    (answer_at p (ruled (option_map (λ m. given m s) (mark_or_any (step_of step) (denotes k d))))) result

-- the same where it has to be scalar
abbrev pub IsScalarMark : Step → Pos → Denoted → Result Marked (Failure Refusal) → Type 0
IsScalarMark step p d result =
    (k : Tables) (s : State)
    → Answers (λ m. given (marked_of k m) s)
    (answer_at p (typed_rule (step_of step) (given (unwrap_or (rules.marked (denotes k d)) any_mark) s)
    (option_map (λ m. given m s) (option_and_then scalar_only (rules.marked (denotes k d))))).outcome) result
