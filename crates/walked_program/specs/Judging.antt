-- What all units of a program come to in one of the steps.
use Rattle.std.specs.Prelude.{◌≡◌, ℕ, List, length, if◌then◌else◌, Some, None, Result, Ok, Err}
use Rattle.cov_base.specs.declared.failure.Failure.{Failure}
use Rattle.ada_syntax.specs.declared.unit.Unit.{Unit as LibraryUnit}
use Rattle.ada_rules.specs.Plan.{rule, answer_at}
use Rattle.ada_rules.specs.Denoted.{nowhere}
use Rattle.ada_rules.specs.Entities.{whole_standard}
use Rattle.ada_rules.specs.Environment.{World}
use Rattle.ada_rules.specs.Library.{Library as RulesLibrary}
use Rattle.ada_rules.specs.Statics.{Facts}
use Rattle.ada_rules.specs.Units.{Walked, has_main, facts_before, resolved, judged_in}
use Rattle.ada_entities.specs.Answers.{Refuses, Answers}
use Rattle.ada_entities.specs.declared.fault.Refusal.{Refusal}
use Rattle.ada_entities.specs.EntityViews.{Tables}
use Rattle.ada_library.specs.declared.library.Library.{Library}
use Rattle.ada_library.specs.LibraryView.{IsLibrary}
use Rattle.ada_phrases.specs.declared.scope.Step.{Step}
use Rattle.ada_phrases.specs.Scopes.{step_of}
use Rattle.typed_program.specs.program_walk.specs.declared.walk.Walk.{Walk}
use Rattle.typed_program.specs.program_walk.specs.States.{state_of}
use Rattle.typed_program.specs.program_walk.specs.Walks.{Begins, IsBeginning}
use Rattle.typed_program.specs.program_walk.specs.Standing.{StandsBefore}
use Rattle.walked_program.specs.declared.whole_walk.WholeWalk.{WholeWalk}

-- The main unit is there, or the program is refused where its first file begins.
abbrev pub IsMainThere : List ℕ → List LibraryUnit → Result (Unit {0}) (Failure Refusal) → Type 0
IsMainThere main units result =
    (x : Walked)
    → Answers (λ u. x) (answer_at nowhere (rule (if has_main main units then Some x else None)).outcome) result

-- The rules come to a world that has what the walk keeps, and to its state, in these tables.
pub record IsJudged (step : Step) (x : Library) (l : RulesLibrary) (main : List ℕ) (j : WholeWalk) (k : Tables)
    : Type 0 where
  pub walked : Walked
  pub comes : (judged_in (step_of step) l main).answer ≡ Ok walked
  pub next : walked.next ≡ state_of k j.walk
  pub stands : StandsBefore x j.instances j.walk k walked.world

-- the library of these units, in the whole language
pub record IsWholeLibrary (x : Library) (units : List LibraryUnit) (l : RulesLibrary) : Type 0 where
  pub is : IsLibrary x units l
  pub standard : l.standard ≡ whole_standard

-- Its units are judged so, whatever tables begin with what the walk has declared; or they are refused as the rules do.
abbrev pub JudgedAs : Step → Library → RulesLibrary → (main : List ℕ) → Result WholeWalk (Failure Refusal) → Type 0
JudgedAs step x l main (Ok j) = (k : Tables) → Begins j.walk k → IsJudged step x l main j k
JudgedAs step x l main (Err f) = Refuses (judged_in (step_of step) l main).answer f

abbrev pub ComesToJudged : Step → Library → List LibraryUnit → (main : List ℕ) → Result WholeWalk (Failure Refusal)
    → Type 0
ComesToJudged step x units main result = (l : RulesLibrary) → IsWholeLibrary x units l → JudgedAs step x l main result

-- The walk from the beginning to the end: behind it instances have all constants in the rules' world.
pub record IsEnd (step : Step) (x : Library) (l : RulesLibrary) (main : List ℕ) (facts : List Facts) (w : Walk)
    (k : Tables) : Type 0 where
  pub world : World
  pub comes : (judged_in (step_of step) l main).answer
      ≡ Ok (record { world = resolved world (state_of k w); next = state_of k w })
  pub stands : StandsBefore x facts w k world

abbrev pub EndsAs : {A : Type 0} → Step → Library → RulesLibrary → (main : List ℕ) → List Facts → Walk
    → Result A (Failure Refusal) → Type 0
EndsAs step x l main facts w (Ok u) = (k : Tables) → Begins w k → IsEnd step x l main facts w k
EndsAs step x l main facts w (Err f) = Refuses (judged_in (step_of step) l main).answer f

abbrev pub ComesToEnd : {A : Type 0} → Step → Library → List LibraryUnit → (main : List ℕ) → (before after : List Facts)
    → (old new : Walk) → Result A (Failure Refusal) → Type 0
ComesToEnd step x units main before after old new result =
    (l : RulesLibrary) → IsWholeLibrary x units l → IsBeginning (length units) old
    → before ≡ facts_before (length units) units → EndsAs step x l main after new result
