-- How runs are grouped into files does not matter, nor their order, how often they were made, or their budgets.
use Rattle.std.specs.Prelude.{◌≡◌, ◌↔◌, ℕ, ℤ, List, Some}
use Rattle.command_words.specs.Task.{Coverage, Consolidate}
use Rattle.cov_base.specs.declared.level.Annotation.{Annotation}
use Rattle.cov_base.specs.declared.level.Level.{Level}
use Rattle.cov_base.specs.Lists.{Somewhere}
use Rattle.cov_io.specs.Outside.{Held, WhereTold, Appends, Replaces}
use Rattle.commands.specs.declared.status.Status.TheVariants.{Done}
use Rattle.commands.specs.Outcome.{Call}
use Rattle.user_calls.specs.Calls.{ACall, AreTogether, IsOfRuns}
use Rattle.user_calls.specs.GoesOn.{SourcesStay}
use Rattle.user_calls.specs.Use.{IsUse, IsNext}

-- each input of one list is in the other
abbrev pub HaveTheSame : (inputs others : List (List ℤ)) → Type 0
HaveTheSame inputs others =
    (input : List ℤ) → Somewhere (λ x. x ≡ input) inputs ↔ Somewhere (λ x. x ≡ input) others

-- both calls put this text
pub record PutTheSame (one other : Call) : Type 0 where
  pub text : List ℕ
  pub by_one : WhereTold (Appends text) one.written one.written_after
  pub by_other : WhereTold (Appends text) other.written other.written_after

-- both calls wrote these bytes, each under its name
pub record WriteTheSame (name another : List ℕ) (one other : Call) : Type 0 where
  pub bytes : List ℕ
  pub by_one : WhereTold (Replaces name bytes) one.held one.held_after
  pub by_other : WhereTold (Replaces another bytes) other.held other.held_after

-- Coverage that is done behind some calls of a use, and coverage at the same level and in the same form that is done
-- behind others, over files which are of runs on the same inputs, put the same text, however these runs are grouped.
-- Where sources are annotated, they are what they were when they were compiled.
unfoldable pub CoverageKnowsNoGrouping : Type 0
CoverageKnowsNoGrouping =
    (main object : List ℕ) (names : List (List ℕ)) (held : Held) (first : ACall) (calls others : List ACall)
    → IsUse main object names held first calls → IsUse main object names held first others
    → (one other : ACall) → IsNext first calls one → IsNext first others other
    → (level : Level) (annotation : Annotation) (files more : List (List ℕ))
    → one.task ≡ Some (Coverage level annotation object files) → one.status ≡ Done
    → other.task ≡ Some (Coverage level annotation object more) → other.status ≡ Done
    → SourcesStay annotation names held one.call → SourcesStay annotation names held other.call
    → (inputs same : List (List ℤ)) → AreTogether (IsOfRuns object calls) files inputs
    → AreTogether (IsOfRuns object others) more same → HaveTheSame inputs same
    → PutTheSame one.call other.call

-- the same of consolidation, which writes the same bytes too
unfoldable pub ConsolidationKnowsNoGrouping : Type 0
ConsolidationKnowsNoGrouping =
    (main object : List ℕ) (names : List (List ℕ)) (held : Held) (first : ACall) (calls others : List ACall)
    → IsUse main object names held first calls → IsUse main object names held first others
    → (one other : ACall) → IsNext first calls one → IsNext first others other
    → (name another : List ℕ) (files more : List (List ℕ))
    → one.task ≡ Some (Consolidate object name files) → one.status ≡ Done
    → other.task ≡ Some (Consolidate object another more) → other.status ≡ Done
    → (inputs same : List (List ℤ)) → AreTogether (IsOfRuns object calls) files inputs
    → AreTogether (IsOfRuns object others) more same → HaveTheSame inputs same
    → WriteTheSame name another one.call other.call × PutTheSame one.call other.call
