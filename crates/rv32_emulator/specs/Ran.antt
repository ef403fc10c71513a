-- What a run leaves with its recorder and its output.
use Rattle.std.specs.Prelude.{◌≡◌, ℕ, ◌+◌, ℤ, List, ◌++◌, length, Option, Some, None, Result, Ok, Err}
use Rattle.cov_base.specs.declared.failure.Failure.{Failure}
use Rattle.cov_base.specs.declared.failure.Failure.TheVariants.{Fault, WantOfMemory}
use Rattle.rv32_emulator.specs.declared.emulator.Ending.{Ending as RunEnding}
use Rattle.rv32_emulator.specs.declared.emulator.RunFault.{RunFault}
use Rattle.rv32_emulator.specs.declared.emulator.RunFault.TheVariants as faults
use Rattle.rv32_emulator.specs.declared.turn.Turn.{Turn}
use Rattle.rv32_emulator.specs.declared.turn.Turn.TheVariants as turns
use Rattle.rv_semantics.specs.declared.stepped.Seen.{Seen}
use Rattle.rv_semantics.specs.Run.{Run, before, runs}
use Rattle.rv_semantics.specs.Run.Outcome.{Ended, Trapped, Cut}
use Rattle.rv_semantics.specs.State.{Image, State}
use Rattle.trace_record.specs.Recorded.{Recorded, Records}

-- the transcript of a run was recorded, and its output put behind what was put first
pub record HoldsAll (run : Run) (r : Recorded) (first out : List ℤ) : Type 0 where
  pub recorded : Records r run.entries
  pub output : out ≡ first ++ run.output

-- the same of a beginning of the transcript, and of one of the output
pub record HoldsPart (run : Run) (r : Recorded) (first out : List ℤ) : Type 0 where
  pub seen : List Seen
  pub unseen : List Seen
  pub put : List ℤ
  pub unput : List ℤ
  pub entries : run.entries ≡ seen ++ unseen
  pub words : run.output ≡ put ++ unput
  pub recorded : Records r seen
  pub output : out ≡ first ++ put

-- What a run under a budget answers: how it ended, after how many instructions. It is over the budget where so many were executed and it
-- had not ended. All of it was recorded and put, or a beginning where memory was refused.
abbrev pub Answers : (budget : ℕ) → Run → Recorded → (first out : List ℤ) → Result RunEnding (Failure RunFault) → Type 0
Answers budget run r first out (Ok ending) =
    (run.outcome ≡ Ended ending.number) × (ending.count ≡ length run.entries) × HoldsAll run r first out
Answers budget run r first out (Err (Fault (faults.OverBudget count))) =
    (run.outcome ≡ Cut) × (count ≡ budget) × (length run.entries ≡ budget) × HoldsAll run r first out
Answers budget run r first out (Err (Fault (faults.Trap pc why))) =
    (run.outcome ≡ Trapped pc why) × HoldsAll run r first out
Answers budget run r first out (Err WantOfMemory) = HoldsPart run r first out

-- where a run stands after so many instructions: what was recorded and put, and then the run that is left from a state on, is the run
pub record Stands (run : Run) (image : Image) (left : ℕ) (s : State) (input : List ℤ) (r : Recorded) (first out : List ℤ) (count : ℕ) : Type 0 where
  pub seen : List Seen
  pub put : List ℤ
  pub recorded : Records r seen
  pub output : out ≡ first ++ put
  pub counted : length seen ≡ count
  pub rest : before seen put (runs image left s input) ≡ run

-- what one instruction makes of that
abbrev pub Turns : Run → Image → (left : ℕ) → State → Recorded → (first out : List ℤ) → (count : ℕ) → Option Turn → Type 0
Turns run image left s r first out count None = HoldsPart run r first out
Turns run image left s r first out count (Some (turns.On unread)) = Stands run image left s unread.now r first out (count + 1)
Turns run image left s r first out count (Some (turns.End number)) =
    (run.outcome ≡ Ended number) × (length run.entries ≡ count + 1) × HoldsAll run r first out
Turns run image left s r first out count (Some (turns.Trap pc why)) = (run.outcome ≡ Trapped pc why) × HoldsAll run r first out
