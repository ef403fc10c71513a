-- The laws of runs.
use Rattle.std.specs.Prelude.{◌≡◌, ℕ, ◌+◌, ◌<◌, ◌≤◌, ℤ, List, ◌++◌, length, reverse}
use Rattle.rv_semantics.specs.State.{Image, State}
use Rattle.rv_semantics.specs.Run.{Outcome, before, runs}
use Rattle.rv_semantics.specs.Run.Outcome.{Ended, Trapped, Cut}
use Rattle.rv_semantics.specs.Past.{Config, exec, run_of}

-- a run is over: it ended or trapped
abbrev pub IsOver : Outcome → Type 0
IsOver (Ended number) = Unit {0}
IsOver (Trapped pc why) = Unit {0}
IsOver Cut = ⊥

-- a list is the beginning of another
abbrev pub Begins : {X : Type 0} → List X → List X → Type 0
Begins {X} xs ys = (rest : List X) × (xs ++ rest ≡ ys)

-- a run that is over is the same under a larger budget
abbrev pub StaysOver : Type 0
StaysOver =
    (image : Image) (n more : ℕ) (s : State) (input : List ℤ) →
    IsOver (runs image n s input).outcome → runs image (n + more) s input ≡ runs image n s input

-- two budgets under which a run is over give one run, and so one ending
abbrev pub HasOneEnding : Type 0
HasOneEnding =
    (image : Image) (n m : ℕ) (s : State) (input : List ℤ) →
    IsOver (runs image n s input).outcome → IsOver (runs image m s input).outcome →
    runs image n s input ≡ runs image m s input

-- what a run shows is the beginning of what it shows under a larger budget
abbrev pub BeginsLonger : Type 0
BeginsLonger =
    (image : Image) (n more : ℕ) (s : State) (input : List ℤ) →
    Begins (runs image n s input).entries (runs image (n + more) s input).entries ×
    Begins (runs image n s input).output (runs image (n + more) s input).output

-- how many instructions are executed: as many as the budget where it cuts the run, fewer before a
-- trap, and otherwise at least the ending call
abbrev pub IsCounted : (budget count : ℕ) → Outcome → Type 0
IsCounted budget count (Ended number) = (0 < count) × (count ≤ budget)
IsCounted budget count (Trapped pc why) = count < budget
IsCounted budget count Cut = count ≡ budget

abbrev pub CountsInstructions : Type 0
CountsInstructions =
    (image : Image) (n : ℕ) (s : State) (input : List ℤ) →
    IsCounted n (length (runs image n s input).entries) (runs image n s input).outcome

-- a machine that carries its past carries the run: in the past the latest comes first
abbrev pub CarriesTheRun : Type 0
CarriesTheRun =
    (image : Image) (n : ℕ) (c : Config) →
    run_of (exec image n c) ≡ before (reverse c.past) c.output (runs image n c.state c.input)
