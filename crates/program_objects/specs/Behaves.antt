-- When an object does what a program means.
use Rattle.std.specs.Prelude.{◌≡◌, ℕ, ◌+◌, ◌*◌, ◌≤◌, ℤ, List}
use Rattle.ada_meaning.specs.Execution.{Execution, Ending, by_return, by_exception, Ends}
use Rattle.ada_meaning.specs.Program.{Program}
use Rattle.kernel_code.specs.Whole.{IsInput}
use Rattle.object_facts.specs.Object.{facts_of}
use Rattle.object_format.specs.declared.object.Object.{Object}
use Rattle.rv_machine.specs.Objects.{object_run}
use Rattle.rv_semantics.specs.declared.stepped.TrapWhy.{TrapWhy}
use Rattle.rv_semantics.specs.Run.{Run}
use Rattle.rv_semantics.specs.Run.Outcome.{Ended, Trapped}
use Rattle.transcript.specs.Computed.{reading}
use Rattle.transcript.specs.Facts.{Facts}
use Rattle.transcript.specs.Reading.{IsDisciplined}

-- the number by which a run tells an ending
abbrev pub number_of : Ending → ℕ
number_of by_return = 0
number_of (by_exception e) = e

-- a run shows an execution, by the facts of its object: the ending, the output and the events are equal, and the transcript is disciplined
pub record ShowsExecution (facts : Facts) (run : Run) (x : Execution) : Type 0 where
  pub ended : run.outcome ≡ Ended (number_of x.ending)
  pub output : run.output ≡ x.output
  pub events : reading facts run.entries ≡ x.events
  pub disciplined : IsDisciplined facts run.entries

-- an object does what a program means, on every input of numbers of 32 bits
pub record Behaves (p : Program) (o : Object) : Type 0 where
  -- no run traps
  pub no_trap : (budget : ℕ) (input : List ℤ) → IsInput input → (pc : ℕ) (why : TrapWhy) → (object_run o budget input).outcome ≡ Trapped pc why → ⊥
  -- where a run ends, the program's execution ends, and the run shows it
  pub faithful : (budget : ℕ) (input : List ℤ) → IsInput input → (number : ℕ) → (object_run o budget input).outcome ≡ Ended number
      → (x : Execution) × Ends p input x × ShowsExecution (facts_of o) (object_run o budget input) x

-- where a program's execution ends, each run of the object shows it that may take 500 instructions for each unit of its cost, and 5,000
-- beside
pub record EndsInTime (p : Program) (o : Object) : Type 0 where
  pub in_time : (input : List ℤ) → IsInput input → (x : Execution) → Ends p input x → (budget : ℕ) → 500 * x.cost + 5000 ≤ budget
      → ShowsExecution (facts_of o) (object_run o budget input) x
