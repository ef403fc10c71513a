-- The runs of an object on the inputs of the workload, and the totals that they come to.
use Rattle.std.specs.Prelude.{◌≡◌, ◌↔◌, ◌⊎◌, ℕ, ℤ, List, [], ◌∷◌, length, Ok}
use Rattle.annotated_report.specs.Totals.{totals_alone}
use Rattle.cov_base.specs.declared.event.Event.{Event}
use Rattle.cov_base.specs.declared.failure.Failure.{Failure}
use Rattle.cov_base.specs.declared.failure.Failure.TheVariants.{Fault, WantOfMemory}
use Rattle.cov_base.specs.declared.level.Level.TheVariants.{Mcdc}
use Rattle.cov_base.specs.Lists.{Everywhere, Somewhere}
use Rattle.coverage_set.specs.Covered.{Covered, Has}
use Rattle.object_facts.specs.Object.{facts_of}
use Rattle.object_format.specs.declared.object.Object.{Object}
use Rattle.rv32_emulator.specs.declared.emulator.RunFault.{RunFault}
use Rattle.rv32_emulator.specs.declared.emulator.RunFault.TheVariants.{OverBudget, Trap}
use Rattle.rv_machine.specs.Objects.{object_run}
use Rattle.rv_semantics.specs.Run.{Run}
use Rattle.rv_semantics.specs.Run.Outcome.{Ended, Trapped, Cut}
use Rattle.trace_format.specs.Checks.{trace_of}
use Rattle.trace_format.specs.Formats.{trace_digest}
use Rattle.trace_format.specs.Trace.{TraceFile, closed_by}
use Rattle.trace_record.specs.Written.{traced}
use Rattle.transcript.specs.Reading.{Tells, IsDisciplined}
use Rattle.workload.specs.declared.inputs.Triple.{Triple}

-- at most so many instructions a run may take
abbrev pub run_budget : ℕ
run_budget = 100000000

-- an input as the numbers that a program gets
abbrev pub numbers_of : Triple → List ℤ
numbers_of input = input.a ∷ input.b ∷ input.c ∷ []

-- the object's run on an input
abbrev pub run_on : Object → Triple → Run
run_on o input = object_run o run_budget (numbers_of input)

-- where it ends, its transcript is disciplined
abbrev pub IsFair : Object → Triple → Type 0
IsFair o input = (ending : ℕ) → (run_on o input).outcome ≡ Ended ending → IsDisciplined (facts_of o) (run_on o input).entries

-- it ends
abbrev pub HasEnded : Object → Triple → Type 0
HasEnded o input = (ending : ℕ) × ((run_on o input).outcome ≡ Ended ending)

-- its transcript tells the event
abbrev pub TellsOn : Object → Event → Triple → Type 0
TellsOn o e input = Tells (facts_of o) (run_on o input).entries e

-- why there is no trace of it: it had not ended after as many instructions as its budget, or an instruction trapped
-- before, or memory was refused
abbrev pub StopsOn : Object → Failure RunFault → Triple → Type 0
StopsOn o (Fault (OverBudget count)) input =
    ((run_on o input).outcome ≡ Cut) × (length (run_on o input).entries ≡ run_budget) × (count ≡ run_budget)
StopsOn o (Fault (Trap pc why)) input = (run_on o input).outcome ≡ Trapped pc why
StopsOn o WantOfMemory input = Unit {0}

-- the same of one of several inputs
abbrev pub StopsAmong : Object → List Triple → Failure RunFault → Type 0
StopsAmong o inputs (Fault fault) = Somewhere (StopsOn o (Fault fault)) inputs
StopsAmong o inputs WantOfMemory = Unit {0}

-- the text is the totals of the events that the transcripts of the runs on these inputs tell, each of which ended, at
-- the level of masking MC/DC
pub record TellsTotals (o : Object) (inputs : List Triple) (text : List ℕ) : Type 0 where
  pub ended : Everywhere (HasEnded o) inputs
  pub events : List Event
  pub all_events : (e : Event) → Somewhere (λ x. x ≡ e) events ↔ Somewhere (TellsOn o e) inputs
  pub told : text ≡ totals_alone Mcdc o.obligations events

-- ---- on the way

-- the trace file of a run, closed by the digest of its own bytes
abbrev pub file_on : Object → Triple → (ending : ℕ) → TraceFile
file_on o input ending =
    closed_by (traced o (run_on o input).entries ending) (trace_digest (traced o (run_on o input).entries ending))

-- the run on the input ended, and the bytes are read as its trace
pub record IsTraceOn (o : Object) (input : Triple) (bytes : List ℕ) : Type 0 where
  pub ending : ℕ
  pub ended : (run_on o input).outcome ≡ Ended ending
  pub read : trace_of bytes ≡ Ok (file_on o input ending)

-- the new coverage has what the old one has, and what the run tells
abbrev pub AddsRun : Object → Triple → (old new : Covered) → Type 0
AddsRun o input old new = (e : Event) → Has new e ↔ (Has old e ⊎ TellsOn o e input)

-- the same of several runs
abbrev pub AddsRuns : Object → List Triple → (old new : Covered) → Type 0
AddsRuns o inputs old new = (e : Event) → Has new e ↔ (Has old e ⊎ Somewhere (TellsOn o e) inputs)

-- the text is the totals of what is covered
pub record TellsCovered (o : Object) (c : Covered) (text : List ℕ) : Type 0 where
  pub events : List Event
  pub all_events : (e : Event) → Somewhere (λ x. x ≡ e) events ↔ Has c e
  pub told : text ≡ totals_alone Mcdc o.obligations events
