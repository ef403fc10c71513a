-- what was looked at, and what is left, is the whole
use Rattle.std.proofs.Common.{◌≡◌, drop}
use Rattle.cov_base.specs.declared.position.Pos.{Pos}
use Rattle.ada_rules.specs.Environment.{State, Env}
use Rattle.ada_rules.specs.Statements as rules
use Rattle.ada_entities.specs.EntityViews.{Tables}
use Rattle.ada_phrases.specs.Answers.{before}
use Rattle.object_values.specs.program_walk.specs.Places.{StandsAt, with_notes}
use Rattle.statement_parts.specs.Selectors.{selector_in}
use Rattle.statement_parts.specs.Choices.{all_choices_in}
use Rattle.statement_parts.proofs.choices.all_chosen.Given as goal

abbrev pub invariant-loop-choice : goal.invariant-loop-choice
invariant-loop-choice l =
    (p : Pos) (k : Tables) (env : Env) (s : State) → StandsAt l.place k env
    → (rules.all_chosen env (with_notes k l.fn.notes s) (selector_in k l.selector) p l.choices).answer
    ≡ before (all_choices_in k l.found.items)
    (rules.all_chosen env (with_notes k l.notes s) (selector_in k l.selector) p (drop l.choice-index l.choices)).answer
