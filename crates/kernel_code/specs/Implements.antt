-- When the image of a kernel does what the kernel means, on every input and under every budget.
use Rattle.std.specs.Prelude.{◌≡◌, ℕ, ◌+◌, ◌*◌, ◌≤◌, ℤ, List, reverse, Some}
use Rattle.rv_semantics.specs.declared.stepped.TrapWhy.{TrapWhy}
use Rattle.rv_semantics.specs.Run.{Run}
use Rattle.rv_semantics.specs.Run.Outcome.{Ended as EndedBy, Trapped}
use Rattle.rv_semantics.specs.Laws.{Begins}
use Rattle.transcript.specs.Reading.{IsDisciplined}
use Rattle.transcript.specs.Computed.{reading}
use Rattle.ada_meaning.specs.Execution.{Ending, by_return, by_exception, Execution}
use Rattle.kernel_ir.specs.declared.kernel.Kernel.{Kernel}
use Rattle.kernel_ir.specs.World.{World, Ended, Ends, Exits, Returns, Raises, Cut, world_in}
use Rattle.kernel_ir.specs.Meaning.{exec, ended}
use Rattle.kernel_ir.specs.Limits.{IsWellFormed, IsWithin}
use Rattle.kernel_code.specs.Line.{Site}
use Rattle.kernel_code.specs.Does.{pace}
use Rattle.kernel_code.specs.Calls.{Holds}
use Rattle.kernel_code.specs.Whole.{run_on, IsInput, Matches, Follows}

-- a run ended as the kernel did, with 0 or the number of the exception, and shows what was observed
pub record EndedWith (site : Site) (number : ℕ) (w : World) (run : Run) : Type 0 where
  pub outcome : run.outcome ≡ EndedBy number
  pub matches : Matches site w run

abbrev pub EndsAs : Site → Ended → Run → Type 0
EndsAs site (Ends w) run = EndedWith site 0 w run
EndsAs site (Exits w) run = ⊥
EndsAs site (Returns w) run = ⊥
EndsAs site (Raises e w) run = EndedWith site e w run
EndsAs site (Cut w) run = ⊥

-- where the kernel ended, the run has ended so under each budget that its cost allows
abbrev pub EndsInTime : Site → Kernel → List ℤ → Ended → Type 0
EndsInTime site k input (Cut w) = Unit {0}
EndsInTime site k input end =
    (budget : ℕ) → pace * (world_in end).seen.cost + 8 ≤ budget → EndsAs site end (run_on site k input budget)

-- a run is disciplined, and what it shows is the beginning of what was observed of the kernel
pub record Precedes (site : Site) (run : Run) (w : World) : Type 0 where
  pub output : Begins run.output (reverse w.seen.output)
  pub events : Begins (reading site.facts run.entries) (reverse w.seen.events)
  pub order : IsDisciplined site.facts run.entries

-- what was observed of the kernel is the beginning of what a run shows
pub record Reaches (site : Site) (w : World) (run : Run) : Type 0 where
  pub output : Begins (reverse w.seen.output) run.output
  pub events : Begins (reverse w.seen.events) (reading site.facts run.entries)

-- from some budget on each run shows what was observed
pub record IsReached (site : Site) (k : Kernel) (input : List ℤ) (w : World) : Type 0 where
  pub budget : ℕ
  pub from_there : (more : ℕ) → budget ≤ more → Reaches site w (run_on site k input more)

-- the image implements the kernel
pub record Implements (site : Site) (k : Kernel) : Type 0 where
  -- the run follows the kernel under each fuel
  pub follows : (input : List ℤ) → IsInput input → (fuel : ℕ) → Follows site k input fuel (exec k fuel input)
  -- where the kernel ends, the run ends alike, within a number of instructions that is linear in its cost
  pub in_time : (input : List ℤ) → IsInput input → (fuel : ℕ) → EndsInTime site k input (exec k fuel input)
  -- where the run ends, the kernel ends alike
  pub ends_only : (input : List ℤ) → IsInput input → (budget number : ℕ)
      → (run_on site k input budget).outcome ≡ EndedBy number
      → EndsAs site (exec k (budget + 1) input) (run_on site k input budget)
  -- no run traps
  pub no_trap : (input : List ℤ) → IsInput input → (budget pc : ℕ) (why : TrapWhy)
      → (run_on site k input budget).outcome ≡ Trapped pc why → ⊥
  -- each run is disciplined and shows a beginning of what the kernel does, whether it ended or was cut off
  pub precedes : (input : List ℤ) → IsInput input → (budget : ℕ)
      → Precedes site (run_on site k input budget) (world_in (exec k (budget + 1) input))
  -- what the kernel does under a fuel is reached
  pub reached : (input : List ℤ) → IsInput input → (fuel : ℕ)
      → IsReached site k input (world_in (exec k fuel input))

-- where the run follows the kernel under each fuel, the image implements the kernel
abbrev pub FollowingImplements : Type 0
FollowingImplements =
    (site : Site) (k : Kernel)
    → ((input : List ℤ) → IsInput input → (fuel : ℕ) → Follows site k input fuel (exec k fuel input))
    → Implements site k

-- a kernel's code, wherever it stands, implements it
abbrev pub CodeImplements : Type 0
CodeImplements =
    (site : Site) (k : Kernel) → Holds site k → IsWellFormed site.facts.graph k → IsWithin k → Implements site k

-- the number with which a run ends: 0 after a return, and else that of the exception
abbrev pub number_of : Ending → ℕ
number_of by_return = 0
number_of (by_exception e) = e

-- a run is disciplined and shows an execution: how it ended, its output and its events
pub record ShowsExecution (site : Site) (x : Execution) (run : Run) : Type 0 where
  pub outcome : run.outcome ≡ EndedBy (number_of x.ending)
  pub output : x.output ≡ run.output
  pub events : x.events ≡ reading site.facts run.entries
  pub order : IsDisciplined site.facts run.entries

-- a run that ended as the kernel did shows the kernel's execution
abbrev pub EndingsAreExecutions : Type 0
EndingsAreExecutions =
    (site : Site) (end : Ended) (run : Run) → EndsAs site end run
    → (x : Execution) × (ended end ≡ Some x) × ShowsExecution site x run
