-- What a reader may use of a call, one fact each. They follow from `Answers`.
use Rattle.std.specs.Prelude.{◌≡◌, ◌≢◌, ◌⊎◌, ℕ, List, [], ◌++◌, Option, None, Some, IsSome, IfSome}
use Rattle.std.specs.List.{AllByRecursion}
use Rattle.std.specs.FinMap as finmap
use Rattle.command_words.specs.Task.{Task}
use Rattle.cov_io.specs.Outside.{Held, Rose, WhereTold}
use Rattle.commands.specs.declared.status.FileRef.{FileRef}
use Rattle.commands.specs.declared.status.Status.{Status}
use Rattle.commands.specs.declared.status.Status.TheVariants.{Done, Usage, ReadFault, WriteFault, WantOfMemory}
use Rattle.commands.specs.Lines.{line_of}
use Rattle.commands.specs.Outcome.{Call, IsMissing, PutsText}
use Rattle.commands.specs.TaskFiles.{files_of, output_of, sources_of, IsRead}
use Rattle.commands.specs.Verdict.{TellsName}

-- Usage comes exactly where the words are no command, want of memory aside
abbrev pub UsageIsExact : Option Task → Status → Type 0
UsageIsExact task status = (status ≡ Usage → task ≡ None) × (task ≡ None → (status ≡ Usage) ⊎ (status ≡ WantOfMemory))

-- the files tell that each file which the task reads is there
abbrev pub AreThere : Option Held → Task → Type 0
AreThere held task =
    IfSome held (λ told. AllByRecursion (λ name. IsSome (finmap.get told name)) (files_of task ++ sources_of told task))

-- after Done no count rose, and each file that was read is there
pub record IsWhole (task : Option Task) (call : Call) : Type 0 where
  pub reads : call.reads_after ≡ call.reads
  pub writes : call.writes_after ≡ call.writes
  pub failures : call.failures_after ≡ call.failures
  pub there : IfSome task (AreThere call.held)

-- Done says that all went well
abbrev pub DoneIsWhole : Option Task → Call → Status → Type 0
DoneIsWhole task call status = status ≡ Done → IsWhole task call

-- every other answer but WriteFault leaves the files as before
abbrev pub RefusalsLeaveFiles : Call → Status → Type 0
RefusalsLeaveFiles call status =
    status ≢ Done → status ≢ WriteFault → (call.held_after ≡ call.held) × (call.writes_after ≡ call.writes)

-- whatever the answer, only the file that the task names as its output may change
abbrev pub OthersStay : Option Task → Call → Type 0
OthersStay task call =
    (name : List ℕ) → IfSome task (λ asked. output_of asked ≢ Some name) → WhereTold (λ old new. finmap.get new name ≡ finmap.get old name) call.held call.held_after

-- this is the name in the line of a refusal; where the words are no command there is none
abbrev pub IsToldName : Option Held → Option Task → Status → (name : List ℕ) → Type 0
IsToldName held None status name = name ≡ []
IsToldName held (Some task) status name = TellsName held task status name

-- every answer but Done and WriteFault puts its one line, or a part of it where the sink fails
abbrev pub RefusalsPutOneLine : Option Task → Call → Status → Type 0
RefusalsPutOneLine task call status =
    status ≢ Done → status ≢ WriteFault
    → (name : List ℕ) × IsToldName call.held task status name
    × PutsText (line_of name status) call.written call.written_after call.failures call.failures_after

-- this status is a ReadFault
abbrev pub IsReadFault : Status → Type 0
IsReadFault status = (file : FileRef) × (status ≡ ReadFault file)

-- where the count of read faults rose, the answer is ReadFault or WantOfMemory
abbrev pub RisenReadsAreTold : Call → Status → Type 0
RisenReadsAreTold call status = call.reads_after ≢ call.reads → IsReadFault status ⊎ (status ≡ WantOfMemory)

-- ReadFault names a file that the task reads, and comes only where the count of read faults rose or that file is told not to be there
abbrev pub ReadFaultHasCause : Option Task → Call → Status → Type 0
ReadFaultHasCause task call status =
    (file : FileRef) → status ≡ ReadFault file → (asked : Task) → task ≡ Some asked
    → IsRead call.held asked file × (Rose call.reads call.reads_after ⊎ IsMissing call.held asked file)

-- why the output can't be written
pub record IsUnwritten (task : Option Task) (call : Call) : Type 0 where
  pub reads : call.reads_after ≡ call.reads
  pub there : IfSome task (AreThere call.held)
  pub cause : Rose call.writes call.writes_after ⊎ Rose call.failures call.failures_after

-- WriteFault comes only where no read failed, each file that was read is there, and a write or a put failed
abbrev pub WriteFaultHasCause : Option Task → Call → Status → Type 0
WriteFaultHasCause task call status = status ≡ WriteFault → IsUnwritten task call
