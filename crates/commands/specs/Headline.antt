-- What coverage prints of a program's own executions.
use Rattle.std.specs.Prelude.{◌≡◌, ◌≢◌, ◌↔◌, ℕ, ℤ, List, length, AllPairs, Option, Some}
use Rattle.std.specs.FinMap as finmap
use Rattle.ada_meaning.specs.Execution.{Execution, Ends}
use Rattle.ada_meaning.specs.Obligations.{obligations_of}
use Rattle.ada_meaning.specs.Program.{Program}
use Rattle.command_words.specs.Task.{Task, Coverage}
use Rattle.program_objects.specs.Exemptions.{exempt_regions}
use Rattle.program_objects.specs.Source.{IsObjectOf}
use Rattle.cov_base.specs.declared.event.Event.{Event}
use Rattle.cov_base.specs.declared.level.Annotation.{Annotation}
use Rattle.cov_base.specs.declared.level.Level.{Level}
use Rattle.cov_base.specs.declared.obligations.SourceFile.{SourceFile}
use Rattle.cov_io.specs.Outside.{Held, WhereTold, Appends}
use Rattle.cov_base.specs.Lists.{Everywhere, Somewhere}
use Rattle.commands.specs.declared.status.Status.{Status}
use Rattle.commands.specs.declared.status.Status.TheVariants.{Done}
use Rattle.commands.specs.Outcome.{Call}
use Rattle.commands.specs.TaskFiles.{held_under}
use Rattle.commands.specs.Texts.{coverage_text, names_of}
use Rattle.commands.specs.RunsCovered.{ARun, AreTracesOf, digest_of_run}
use Rattle.kernel_code.specs.Whole.{IsInput}
use Rattle.object_format.specs.declared.object.Object.{Object}
use Rattle.object_format.specs.File.{object_bytes}

-- the event occurs in the program's own execution on the input
abbrev pub Occurs : Program → (input : List ℤ) → Event → Type 0
Occurs p input e = (x : Execution) × Ends p input x × Somewhere (λ f. f ≡ e) x.events

-- what coverage prints of a program from these sources, which exempt their regions: the bytes of annotated sources are those that are held
-- under their names
abbrev pub text_of : Annotation → Level → List SourceFile → Program → Held → (traces : ℕ) → List Event → List ℕ
text_of annotation level files p held traces events =
    coverage_text annotation level (obligations_of p (exempt_regions files)) traces events (held_under held (names_of files))

-- For every program, every object of it, and the traces of runs of that object on any inputs: after Done of coverage over these files, what
-- was put is exactly the report, in the form that was asked for, of the program's obligations and of the events of the program's own
-- executions on these inputs, whatever the list in which they are given, and of the number of different traces.
unfoldable pub CoverageTellsTheSource : Option Task → Call → Status → Type 0
CoverageTellsTheSource task call status =
    (held : Held) (level : Level) (annotation : Annotation) (object : List ℕ) (names : List (List ℕ))
    → call.held ≡ Some held → task ≡ Some (Coverage level annotation object names) → status ≡ Done
    → (files : List SourceFile) (main : List ℕ) (p : Program) (o : Object) → IsObjectOf files main p o → finmap.get held object ≡ Some (object_bytes o)
    → (runs : List ARun) → AreTracesOf held o names runs → Everywhere (λ r. IsInput r.input) runs
    → (events : List Event) → ((e : Event) → Somewhere (λ x. x ≡ e) events ↔ Somewhere (λ r. Occurs p r.input e) runs)
    → (digests : List (List ℕ)) → ((d : List ℕ) → Somewhere (λ x. x ≡ d) digests ↔ Somewhere (λ r. digest_of_run o r ≡ d) runs)
    → AllPairs (λ x y. x ≢ y) digests
    → WhereTold (Appends (text_of annotation level files p held (length digests) events)) call.written call.written_after
