-- What a kernel does on an input, under all fuels together.
use Rattle.std.specs.Prelude.{◌≡◌, ℕ, ◌+◌, ◌*◌, ◌≤◌, ℤ, List, ◌++◌, reverse, ⊤}
use Rattle.cov_base.specs.declared.event.Event.{Event}
use Rattle.ada_meaning.specs.Execution.{Execution, by_return, by_exception, Ends}
use Rattle.ada_meaning.specs.Execution as source
use Rattle.ada_meaning.specs.Program.{Program}
use Rattle.ada_meaning.specs.State.{Seen, world_of}
use Rattle.kernel_ir.specs.declared.kernel.Kernel.{Kernel}
use Rattle.kernel_ir.specs.Meaning as code
use Rattle.kernel_ir.specs.World.{Ended, Cut, world_in}
use Rattle.kernel_ir.specs.World as kernel
use Rattle.statement_code.specs.Frames.{rate}

-- what was observed of a kernel is what an execution shows, at a cost that is at most so many times the execution's
pub record IsObservedOf (x : Execution) (code : Seen) : Type 0 where
  pub output : reverse code.output ≡ x.output
  pub events : reverse code.events ≡ x.events
  pub cost : code.cost ≤ rate * x.cost

-- a kernel ended as an execution did: by return, or with the number of its exception
abbrev pub EndsAs : Execution → Ended → Type 0
EndsAs x (kernel.Ends v) = (x.ending ≡ by_return) × IsObservedOf x v.seen
EndsAs x (kernel.Raises e v) = (x.ending ≡ by_exception e) × IsObservedOf x v.seen
EndsAs x e = ⊥

-- a kernel was not cut off
abbrev pub HasEnded : Ended → Type 0
HasEnded (Cut v) = ⊥
HasEnded e = ⊤

-- the one was observed before the other: its events and its output begin the other's, the latest being first in both
pub record Begins (sooner later : Seen) : Type 0 where
  pub more_events : List Event
  pub more_output : List ℤ
  pub events : later.events ≡ more_events ++ sooner.events
  pub output : later.output ≡ more_output ++ sooner.output

-- On this input the kernel ends exactly where the program's execution does, and as it does. Under each fuel its events and its output begin
-- those of the program under some fuel.
pub record Follows (p : Program) (k : Kernel) (input : List ℤ) : Type 0 where
  pub ends : (x : Execution) → Ends p input x → (fuel : ℕ) × EndsAs x (code.exec k fuel input)
  pub ends_only : (fuel : ℕ) → HasEnded (code.exec k fuel input) → (x : Execution) × Ends p input x × EndsAs x (code.exec k fuel input)
  pub begins : (fuel : ℕ) → (more : ℕ) × Begins (world_in (code.exec k fuel input)).seen (world_of (source.exec p more input)).seen

-- Where a program's execution ends, the kernel ends as it does, at such a cost that 32 instructions for each unit of it, and 8 beside, are no
-- more than 500 for each unit of the execution's cost, and 5,000 beside.
pub record EndsInTime (x : Execution) (k : Kernel) (input : List ℤ) : Type 0 where
  pub fuel : ℕ
  pub ends : EndsAs x (code.exec k fuel input)
  pub time : 32 * (world_in (code.exec k fuel input)).seen.cost + 8 ≤ 500 * x.cost + 5000
