-- Stretches of a run.
use Rattle.std.specs.Prelude.{◌≡◌, ℕ, suc, ◌+◌, ℤ, List, [], ◌∷◌, ◌++◌, length, reverse}
use Rattle.rv_semantics.specs.declared.stepped.Seen.{Seen}
use Rattle.rv_semantics.specs.State.{Image, State}
use Rattle.rv_semantics.specs.Run.{before, runs}
use Rattle.rv_semantics.specs.Run.Outcome.{Ended}
use Rattle.rv_semantics.specs.Past.{Config, exec, over}

-- a machine that carries its past
abbrev pub config : State → (input output : List ℤ) → (past : List Seen) → Config
config s input output past = record { state = s; input = input; output = output; past = past }

-- a stretch of a run leads from one state to another: it executes these entries, in order of time, and
-- puts these words; then the run goes on from the other state. With a past it is the same.
pub record Leads (image : Image) (s : State) (input : List ℤ) (entries : List Seen) (output : List ℤ) (s' : State) (input' : List ℤ) : Type 0 where
  pub by : (k : ℕ) → runs image (k + length entries) s input ≡ before entries output (runs image k s' input')
  pub carried : (k : ℕ) (put : List ℤ) (past : List Seen)
      → exec image (k + length entries) (config s input put past)
      ≡ exec image k (config s' input' (put ++ output) (reverse entries ++ past))

-- a run ends at the next instruction, with a number
pub record Ends (image : Image) (s : State) (input : List ℤ) (entry : Seen) (number : ℕ) : Type 0 where
  pub by : (k : ℕ) → runs image (suc k) s input ≡ record { entries = entry ∷ []; output = []; outcome = Ended number }
  pub carried : (k : ℕ) (put : List ℤ) (past : List Seen)
      → exec image (suc k) (config s input put past) ≡ over number (config s input put (entry ∷ past))
