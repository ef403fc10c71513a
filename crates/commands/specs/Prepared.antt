-- What making an output says of files that were read before.
use Rattle.std.specs.Prelude.{◌≡◌, ◌⊎◌, ℕ, ℤ, List, Option, IfSome, Result, Ok}
use Rattle.command_words.specs.Task.{Task}
use Rattle.cov_io.specs.Outside.{Held, Holds}
use Rattle.commands.specs.Content.{Made, IsFileOf, IsInputOf, RefusesInput, RunsTo, StopsRun, trace_file}
use Rattle.commands.specs.declared.status.Status.{Status}
use Rattle.commands.specs.Outcome.{Prepares}
use Rattle.commands.specs.Verdict.{Output}
use Rattle.object_facts.specs.Object.{facts_of}
use Rattle.object_format.specs.declared.object.Object.{Object}
use Rattle.rv_semantics.specs.declared.stepped.Seen.{Seen}
use Rattle.trace_format.specs.Checks.{trace_of}
use Rattle.trace_format.specs.Formats.{trace_spelling}
use Rattle.trace_record.specs.Recorded.{Recorded, Records}
use Rattle.trace_record.specs.Written.{traced}
use Rattle.transcript.specs.Pieces.{IsEnded}

-- the task whose object file has this name is prepared so, if the file of that name holds the bytes
abbrev pub PreparesFrom : (List ℕ → Task) → List ℕ → Option Held → ℕ → ℕ → Result Output Status → Type 0
PreparesFrom task bytes held reads reads' verdict =
    (name : List ℕ) → IfSome held (Holds name bytes) → Prepares (task name) held reads reads' verdict

-- the same, if the file of that name is the object's
abbrev pub PreparesOver : (List ℕ → Task) → Object → Option Held → ℕ → ℕ → Result Output Status → Type 0
PreparesOver task o held reads reads' verdict =
    (name bytes : List ℕ) → IfSome held (Holds name bytes) → IsFileOf o bytes → Prepares (task name) held reads reads' verdict

-- the bytes are an input, and the object's run on it made this
abbrev pub RunsOnInput : Object → (budget : ℕ) → (input : List ℕ) → Made → Type 0
RunsOnInput o budget input made = (numbers : List ℤ) × IsInputOf numbers input × RunsTo o budget numbers made

-- the bytes are no input, or the object's run on it has no ending
abbrev pub StopsOnInput : Object → (budget : ℕ) → (input : List ℕ) → Status → Type 0
StopsOnInput o budget input status =
    RefusesInput input status ⊎ ((numbers : List ℤ) × IsInputOf numbers input × StopsRun o budget numbers status)

-- the bytes are the trace file of a run that was recorded up to this ending
abbrev pub IsTraceOf : Recorded → (ending : ℕ) → List ℕ → Type 0
IsTraceOf r ending bytes =
    (run : List Seen) → Records r run → IsEnded (facts_of r.object) run
    → (bytes ≡ trace_spelling (traced r.object run ending)) × (trace_of bytes ≡ Ok (trace_file r.object run ending))
