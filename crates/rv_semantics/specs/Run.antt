-- A run under a budget of instructions: its transcript in order of time, its output and its ending.
use Rattle.std.specs.Prelude.{ℕ, zero, suc, ℤ, List, [], ◌∷◌, ◌++◌, slice_get, drop}
use Rattle.rv_semantics.specs.declared.stepped.Seen.{Seen}
use Rattle.rv_semantics.specs.declared.stepped.TrapWhy.{TrapWhy}
use Rattle.rv_semantics.specs.declared.stepped.Stepped.TheVariants.{Went, Get, Put, End, Trap}
use Rattle.rv_semantics.specs.State.{Image, State, given}
use Rattle.rv_semantics.specs.Step.{Answer, step}

-- how a run ended: by the ending call, by a trap, or cut off by its budget
pub data Outcome : Type 0 where
  Ended : (number : ℕ) → Outcome
  Trapped : (pc : ℕ) (why : TrapWhy) → Outcome
  Cut : Outcome

-- what a run shows: the executed instructions and the words that were put, both in order of time
pub record Run : Type 0 where
  pub entries : List Seen
  pub output : List ℤ
  pub outcome : Outcome

-- the run that shows these entries and this output first, and then what another shows
abbrev pub before : List Seen → List ℤ → Run → Run
before entries output run = record {
  entries = entries ++ run.entries;
  output = output ++ run.output;
  outcome = run.outcome;
}

-- the run from a step on, where `next` is the run that follows from a state with the input unread
abbrev pub after : (next : State → List ℤ → Run) → Answer → (input : List ℤ) → Run
after next (Went seen, s) input = before (seen ∷ []) [] (next s input)
after next (Get seen, s) input = before (seen ∷ []) [] (next (given s (slice_get input 0)) (drop 1 input))
after next (Put seen word, s) input = before (seen ∷ []) (word ∷ []) (next s input)
after next (End seen number, s) input = record { entries = seen ∷ []; output = []; outcome = Ended number }
after next (Trap pc why, s) input = record { entries = []; output = []; outcome = Trapped pc why }

-- the run of at most `budget` instructions from a state, with this input unread
unfoldable pub runs : Image → (budget : ℕ) → State → (input : List ℤ) → Run
runs image zero s input = record { entries = []; output = []; outcome = Cut }
runs image (suc budget) s input = after (runs image budget) (step image s) input
