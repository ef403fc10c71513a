-- The same run, as a machine that carries what it did: for proofs about compiled code, in which a
-- state says what was executed and put before.
use Rattle.std.specs.Prelude.{ℕ, zero, suc, ℤ, List, [], ◌∷◌, ◌++◌, reverse, slice_get, drop}
use Rattle.rv_semantics.specs.declared.stepped.Seen.{Seen}
use Rattle.rv_semantics.specs.declared.stepped.TrapWhy.{TrapWhy}
use Rattle.rv_semantics.specs.declared.stepped.Stepped.TheVariants.{Went, Get, Put, End, Trap}
use Rattle.rv_semantics.specs.State.{Image, State, given}
use Rattle.rv_semantics.specs.Step.{Answer, step}
use Rattle.rv_semantics.specs.Run.{Outcome, Run}
use Rattle.rv_semantics.specs.Run.Outcome.{Ended, Trapped, Cut}

-- a machine with the input unread, the words that were put, and the executed instructions, the
-- latest first
pub record Config : Type 0 where
  pub state : State
  pub input : List ℤ
  pub output : List ℤ
  pub past : List Seen

-- where an execution stands: it goes on, is over with a number, or trapped
pub data Execution : Type 0 where
  goes : (c : Config) → Execution
  over : (number : ℕ) (c : Config) → Execution
  trapped : (pc : ℕ) (why : TrapWhy) (c : Config) → Execution

-- what a step makes of a machine that carries its past
abbrev pub turned : Answer → Config → Execution
turned (Went seen, s) c =
    goes (record { state = s; input = c.input; output = c.output; past = seen ∷ c.past })
turned (Get seen, s) c =
    goes (record {
      state = given s (slice_get c.input 0);
      input = drop 1 c.input;
      output = c.output;
      past = seen ∷ c.past;
    })
turned (Put seen word, s) c =
    goes (record { state = s; input = c.input; output = c.output ++ word ∷ []; past = seen ∷ c.past })
turned (End seen number, s) c =
    over number (record { state = s; input = c.input; output = c.output; past = seen ∷ c.past })
turned (Trap pc why, s) c = trapped pc why c

-- an execution that goes on is continued
abbrev pub continued : (Config → Execution) → Execution → Execution
continued next (goes c) = next c
continued next (over number c) = over number c
continued next (trapped pc why c) = trapped pc why c

-- the execution of at most `budget` instructions
unfoldable pub exec : Image → (budget : ℕ) → Config → Execution
exec image zero c = goes c
exec image (suc budget) c = continued (exec image budget) (turned (step image c.state) c)

-- the run that an execution carries
abbrev pub carried : Outcome → Config → Run
carried outcome c = record { entries = reverse c.past; output = c.output; outcome = outcome }

abbrev pub run_of : Execution → Run
run_of (goes c) = carried Cut c
run_of (over number c) = carried (Ended number) c
run_of (trapped pc why c) = carried (Trapped pc why) c
