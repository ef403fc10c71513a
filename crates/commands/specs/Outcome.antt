-- Why a status comes, and what it leaves.
use Rattle.std.specs.Prelude.{◌≡◌, ℕ, List, [], Option, None, Some, IfSome, IsSomeAnd, Result, Ok, Err, option_map, ◌⊎◌}
use Rattle.command_words.specs.Task.{Task}
use Rattle.cov_io.specs.Outside.{Held, Rose, WhereTold, IsAbsent, SameBut, Replaces, Appends, AppendsPrefix}
use Rattle.commands.specs.declared.status.FileRef.{FileRef}
use Rattle.commands.specs.declared.status.Status.{Status}
use Rattle.commands.specs.declared.status.Status.TheVariants.{Done, Usage, SourceChanged, ReadFault, WriteFault, WantOfMemory}
use Rattle.commands.specs.Lines.{line_of}
use Rattle.commands.specs.TaskFiles.{output_of, ShowsSources, IsRead, IsNameOf}
use Rattle.commands.specs.Verdict.{NewFile, Output, ComesTo, TellsName}

-- the files and the sink before and after a call
pub record Call : Type 0 where
  pub held : Option Held
  pub held_after : Option Held
  pub reads : ℕ
  pub reads_after : ℕ
  pub writes : ℕ
  pub writes_after : ℕ
  pub written : Option (List ℕ)
  pub written_after : Option (List ℕ)
  pub failures : ℕ
  pub failures_after : ℕ

-- a call, by what its files and its sink tell
abbrev pub call_of : {F S : Type 0} → (F → Option Held) → (F → ℕ) → (F → ℕ) → (S → Option (List ℕ)) → (S → ℕ) → F → F → S → S → Call
call_of held reads writes written failures files files' out out' =
    record {
      held = held files;
      held_after = held files';
      reads = reads files;
      reads_after = reads files';
      writes = writes files;
      writes_after = writes files';
      written = written out;
      written_after = written out';
      failures = failures out;
      failures_after = failures out';
    }

-- a text was put whole, or a part of it where the sink failed
abbrev pub PutsText : List ℕ → Option (List ℕ) → Option (List ℕ) → ℕ → ℕ → Type 0
PutsText text written written' failures failures' =
    (WhereTold (Appends text) written written' × (failures' ≡ failures))
    ⊎ (WhereTold (AppendsPrefix text) written written' × Rose failures failures')

-- all files are as before, and this line was put
pub record Ends (line : List ℕ) (call : Call) : Type 0 where
  pub files : call.held_after ≡ call.held
  pub writes : call.writes_after ≡ call.writes
  pub puts : PutsText line call.written call.written_after call.failures call.failures_after

-- the new file stands under its name, and all others are as before
abbrev pub HasFile : Option NewFile → Call → Type 0
HasFile None call = call.held_after ≡ call.held
HasFile (Some file) call = WhereTold (Replaces file.name file.bytes) call.held call.held_after

-- the new file may be spoilt, and all others are as before
abbrev pub HasSpoilt : Option NewFile → Call → Type 0
HasSpoilt None call = ⊥
HasSpoilt (Some file) call = WhereTold (SameBut file.name) call.held call.held_after

-- the whole output was given, and nothing failed
pub record Gives (output : Output) (call : Call) : Type 0 where
  pub file : HasFile output.file call
  pub writes : call.writes_after ≡ call.writes
  pub text : WhereTold (Appends output.text) call.written call.written_after
  pub failures : call.failures_after ≡ call.failures

-- the write failed, and its line was put
pub record WriteFails (output : Output) (call : Call) : Type 0 where
  pub file : HasSpoilt output.file call
  pub writes : Rose call.writes call.writes_after
  pub puts : PutsText (line_of [] WriteFault) call.written call.written_after call.failures call.failures_after

-- the put of the output failed, and nothing more was put; the file is written
pub record PutFails (output : Output) (call : Call) : Type 0 where
  pub file : HasFile output.file call
  pub writes : call.writes_after ≡ call.writes
  pub text : WhereTold (AppendsPrefix output.text) call.written call.written_after
  pub failures : Rose call.failures call.failures_after

-- what becomes of an output that was made
abbrev pub Delivers : Output → Call → Status → Type 0
Delivers output call Done = Gives output call
Delivers output call WriteFault = WriteFails output call ⊎ PutFails output call
Delivers output call WantOfMemory = Ends (line_of [] WantOfMemory) call
Delivers output call status = ⊥

-- the output that the task names
abbrev pub IsNamed : Task → Output → Type 0
IsNamed task output = option_map (λ file. file.name) output.file ≡ output_of task

-- all files were read and checked, and the output was made of them
pub record Delivered (task : Task) (status : Status) (call : Call) : Type 0 where
  pub output : Output
  pub reads : call.reads_after ≡ call.reads
  pub named : IsNamed task output
  pub comes : IfSome call.held (λ held. ComesTo held task (Ok output))
  pub delivers : Delivers output call status

-- a file that the task reads is told not to be there
abbrev pub IsMissing : Option Held → Task → FileRef → Type 0
IsMissing held task file = (name : List ℕ) × IsNameOf held task file name × IsAbsent held name

-- this file can't be read: reading failed, or it is told not to be there
abbrev pub CannotGet : Task → FileRef → Option Held → ℕ → ℕ → Type 0
CannotGet task file held reads reads' =
    IsRead held task file
    × (Rose reads reads' ⊎ (IsMissing held task file × IsSomeAnd held (λ told. ComesTo told task (Err (ReadFault file)))))

-- what a check says of the bytes that were read
abbrev pub Refuses : Task → Status → Option Held → ℕ → ℕ → Type 0
Refuses task status held reads reads' = (reads' ≡ reads) × IfSome held (λ told. ComesTo told task (Err status))

-- why no output was made
abbrev pub Stops : Task → Option Held → ℕ → ℕ → Status → Type 0
Stops task held reads reads' Done = ⊥
Stops task held reads reads' Usage = ⊥
Stops task held reads reads' WriteFault = ⊥
Stops task held reads reads' WantOfMemory = Unit {0}
Stops task held reads reads' (ReadFault file) = CannotGet task file held reads reads'
Stops task held reads reads' (SourceChanged file) = ShowsSources task × Refuses task (SourceChanged file) held reads reads'
Stops task held reads reads' status = Refuses task status held reads reads'

-- what making the output says, before anything is written or put
abbrev pub Prepares : Task → Option Held → ℕ → ℕ → Result Output Status → Type 0
Prepares task held reads reads' (Ok output) =
    (reads' ≡ reads) × IsNamed task output × IfSome held (λ told. ComesTo told task (Ok output))
Prepares task held reads reads' (Err status) = Stops task held reads reads' status

-- all files are as before, and the line of this status was put
pub record PutsRefusal (task : Task) (call : Call) (status : Status) : Type 0 where
  pub name : List ℕ
  pub named : TellsName call.held task status name
  pub ends : Ends (line_of name status) call

-- why this status, and what it leaves
abbrev pub Because : Task → Call → Status → Type 0
Because task call Done = Delivered task Done call
Because task call Usage = ⊥
Because task call WriteFault = Delivered task WriteFault call
Because task call WantOfMemory = Ends (line_of [] WantOfMemory) call
Because task call status = Stops task call.held call.reads call.reads_after status × PutsRefusal task call status

-- the same of the words: where they are no command, or there was no memory to tell, nothing is read
abbrev pub Answers : Option Task → Call → Status → Type 0
Answers None call status =
    ((status ≡ Usage) ⊎ (status ≡ WantOfMemory)) × (call.reads_after ≡ call.reads) × Ends (line_of [] status) call
Answers (Some task) call status = Because task call status
