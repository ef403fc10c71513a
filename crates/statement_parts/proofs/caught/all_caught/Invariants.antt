-- what was looked at, and what is left, is the whole
use Rattle.std.proofs.Common.{◌≡◌, drop}
use Rattle.cov_base.specs.declared.position.Pos.{Pos}
use Rattle.ada_rules.specs.Environment.{State, Env}
use Rattle.ada_rules.specs.Statements as rules
use Rattle.ada_entities.specs.EntityViews.{Tables}
use Rattle.ada_phrases.specs.Answers.{counted, before}
use Rattle.object_values.specs.program_walk.specs.Sites.{StandsAt}
use Rattle.statement_parts.specs.Handlers.{may_be_others, all_caught_in}
use Rattle.statement_parts.proofs.caught.all_caught.Given as goal

abbrev pub invariant-loop-choice : goal.invariant-loop-choice
invariant-loop-choice l =
    (p : Pos) (k : Tables) (env : Env) (s : State) → StandsAt l.site k env
    → (rules.all_caught env (counted l.fn.decisions s) (may_be_others l.place) p l.choices).answer
    ≡ before (all_caught_in k l.found.items)
    (rules.all_caught env (counted l.decisions s) (may_be_others l.place) p (drop l.choice-index l.choices)).answer
