-- What compile and run leave where they are done.
use Rattle.std.specs.Prelude.{◌≡◌, ℕ, ℤ, List, length, map, Option, Some}
use Rattle.std.specs.FinMap as finmap
use Rattle.ada_meaning.specs.Program.{Program}
use Rattle.command_words.specs.Task.{Task, Compile, Run}
use Rattle.cov_base.specs.declared.obligations.SourceFile.{SourceFile}
use Rattle.cov_io.specs.Outside.{Held, Holds, WhereTold, Appends, Replaces}
use Rattle.commands.specs.Content.{IsFileOf, IsInputOf, object_lines}
use Rattle.commands.specs.declared.status.Status.{Status}
use Rattle.commands.specs.declared.status.Status.TheVariants.{Done}
use Rattle.commands.specs.Outcome.{Call}
use Rattle.commands.specs.RunLines.{run_lines}
use Rattle.commands.specs.RunsCovered.{IsTraceOf}
use Rattle.commands.specs.TaskFiles.{AreHeld}
use Rattle.kernel_code.specs.Whole.{IsInput}
use Rattle.object_format.specs.declared.object.Object.{Object}
use Rattle.object_format.specs.File.{object_bytes}
use Rattle.program_objects.specs.Source.{IsObjectOf, IsCheap}
use Rattle.rv_machine.specs.Objects.{object_run}

-- The sources of these names are a legal program; the file of this name holds the bytes of an object of it, which is
-- cheap, and that object's counts and digest were put.
pub record LeavesObject (main object : List ℕ) (names : List (List ℕ)) (held : Held) (call : Call) : Type 0 where
  pub sources : List SourceFile
  pub named : map (λ source. source.name) sources ≡ names
  pub read : AreHeld held sources
  pub program : Program
  pub made : Object
  pub of_program : IsObjectOf sources main program made
  pub cheap : IsCheap sources main program made
  pub written : WhereTold (Replaces object (object_bytes made)) call.held call.held_after
  pub told : WhereTold (Appends (object_lines made)) call.written call.written_after

-- After Done of compile the named file holds an object of the sources that were read.
unfoldable pub CompileLeavesAnObject : Option Task → Call → Status → Type 0
CompileLeavesAnObject task call status =
    (held : Held) (main object : List ℕ) (names : List (List ℕ))
    → call.held ≡ Some held → task ≡ Some (Compile main object names) → status ≡ Done
    → LeavesObject main object names held call

-- The file of this name holds the one trace of the object's run on the numbers of the input, which are of 32 bits; what
-- the run put was put, with its ending, its length and its trace's digest.
pub record LeavesTrace (input trace : List ℕ) (budget : ℕ) (o : Object) (held : Held) (call : Call) : Type 0 where
  pub bytes : List ℕ
  pub there : Holds input bytes held
  pub numbers : List ℤ
  pub read : IsInputOf numbers bytes
  pub fit : IsInput numbers
  pub ending : ℕ
  pub file : List ℕ
  pub of_run : IsTraceOf o (record { budget = budget; input = numbers; ending = ending }) file
  pub written : WhereTold (Replaces trace file) call.held call.held_after
  pub told : WhereTold
      (Appends (run_lines o.obligations.exceptions (object_run o budget numbers).output ending
      (length (object_run o budget numbers).entries) file))
      call.written call.written_after

-- After Done of run over a checked object the named file holds the trace of its run on the input.
unfoldable pub RunLeavesATrace : Option Task → Call → Status → Type 0
RunLeavesATrace task call status =
    (held : Held) (input trace object : List ℕ) (budget : ℕ)
    → call.held ≡ Some held → task ≡ Some (Run input budget trace object) → status ≡ Done
    → (bytes : List ℕ) (o : Object) → finmap.get held object ≡ Some bytes → IsFileOf o bytes
    → LeavesTrace input trace budget o held call
