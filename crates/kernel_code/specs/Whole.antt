-- What a run of a kernel's code shows.
use Rattle.std.specs.Prelude.{◌≡◌, ℕ, ◌+◌, ◌*◌, ◌≤◌, ℤ, FitsSigned, List, reverse}
use Rattle.std.specs.List.{AllByRecursion}
use Rattle.std.specs.Int.{w32}
use Rattle.rv_semantics.specs.Layout.{data_start}
use Rattle.rv_semantics.specs.State.{State, start}
use Rattle.rv_semantics.specs.Run.{Run, runs}
use Rattle.rv_semantics.specs.Run.Outcome.{Ended as EndedBy, Cut as CutOff}
use Rattle.transcript.specs.Reading.{IsDisciplined}
use Rattle.transcript.specs.Computed.{reading}
use Rattle.kernel_ir.specs.declared.kernel.Kernel.{Kernel}
use Rattle.kernel_ir.specs.World.{World, Ended, Ends, Exits, Returns, Raises, Cut}
use Rattle.kernel_ir.specs.Meaning.{exec}
use Rattle.kernel_ir.specs.Limits.{IsWellFormed, IsWithin}
use Rattle.kernel_code.specs.Line.{Site}
use Rattle.kernel_code.specs.Does.{pace}
use Rattle.kernel_code.specs.Calls.{Holds}

-- the machine before the first instruction of a kernel's image
abbrev pub first_state : Site → Kernel → State
first_state site k = start site.image (site.address 0 0) data_start k.library

-- the run of a kernel's image on an input, of at most so many instructions
abbrev pub run_on : Site → Kernel → List ℤ → (budget : ℕ) → Run
run_on site k input budget = runs site.image budget (first_state site k) input

-- an input is of numbers of 32 bits
abbrev pub IsInput : List ℤ → Type 0
IsInput input = AllByRecursion (FitsSigned w32) input

-- a run shows what was observed, and is disciplined
pub record Matches (site : Site) (w : World) (run : Run) : Type 0 where
  pub output : reverse w.seen.output ≡ run.output
  pub events : reverse w.seen.events ≡ reading site.facts run.entries
  pub order : IsDisciplined site.facts run.entries

-- a run ends with a number, within the cost
pub record EndsWith (site : Site) (k : Kernel) (input : List ℤ) (number : ℕ) (w : World) : Type 0 where
  pub budget : ℕ
  pub outcome : (run_on site k input budget).outcome ≡ EndedBy number
  pub matches : Matches site w (run_on site k input budget)
  pub spent : budget ≤ pace * w.seen.cost + 8

-- a run goes on for as many instructions as the fuel says, and more
pub record IsGoing (site : Site) (k : Kernel) (input : List ℤ) (fuel : ℕ) (w : World) : Type 0 where
  pub budget : ℕ
  pub outcome : (run_on site k input budget).outcome ≡ CutOff
  pub matches : Matches site w (run_on site k input budget)
  pub enough : fuel ≤ budget

-- the machine follows the kernel under a fuel
abbrev pub Follows : Site → Kernel → List ℤ → (fuel : ℕ) → Ended → Type 0
Follows site k input fuel (Ends w) = EndsWith site k input 0 w
Follows site k input fuel (Exits w) = ⊥
Follows site k input fuel (Returns w) = ⊥
Follows site k input fuel (Raises e w) = EndsWith site k input e w
Follows site k input fuel (Cut w) = IsGoing site k input fuel w

abbrev pub CodeFollows : Type 0
CodeFollows =
    (site : Site) (k : Kernel) → Holds site k → IsWellFormed site.facts.graph k → IsWithin k
    → (input : List ℤ) → IsInput input → (fuel : ℕ) → Follows site k input fuel (exec k fuel input)
