-- What adding traces makes of a coverage, and what is made of it.
use Rattle.std.specs.Prelude.{◌≡◌, ◌↔◌, ◌⊎◌, ℕ, List, [], Result, Ok, Err}
use Rattle.command_words.specs.Task.{Task, Coverage, Consolidate}
use Rattle.cov_base.specs.declared.event.Event.{Event}
use Rattle.cov_base.specs.declared.event.Event.TheVariants.{Done}
use Rattle.cov_base.specs.declared.event.Vector.{Vector}
use Rattle.cov_base.specs.declared.position.DecId.{DecId}
use Rattle.cov_base.specs.declared.position.InstId.{InstId}
use Rattle.coverage_set.specs.Covered.{Covered, Has, HasRun}
use Rattle.decision_map.specs.Decisions.{graph_at}
use Rattle.cov_base.specs.Lists.{Somewhere}
use Rattle.cov_base.specs.Path.{IsPathVector}
use Rattle.cov_io.specs.Outside.{Held}
use Rattle.commands.specs.Content.{RunShows, ClosesWith, ListsEvent, ListsRun, Shows, Counts, TellsFile}
use Rattle.commands.specs.declared.ready.coverage.Product.{Product}
use Rattle.commands.specs.declared.ready.coverage.Product.TheVariants as products
use Rattle.commands.specs.declared.status.Status.{Status}
use Rattle.commands.specs.declared.status.Status.TheVariants.{WantOfMemory}
use Rattle.commands.specs.TaskFiles.{names_in, read_for}
use Rattle.commands.specs.Verdict.{Output, Covers, Consolidates, Writes}
use Rattle.object_format.specs.declared.fault.ObjectFault.{ObjectFault}
use Rattle.object_format.specs.declared.object.FileEntry.{FileEntry}
use Rattle.object_format.specs.declared.object.Object.{Object}

-- a coverage has what another had, and these events and runs with digests
pub record AddsWhat (old new : Covered) (IsThere : Event → Type 0) (IsCounted : List ℕ → Type 0) : Type 0 where
  pub object : new.object ≡ old.object
  pub events : (e : Event) → Has new e ↔ (Has old e ⊎ IsThere e)
  pub runs : (digest : List ℕ) → HasRun new digest ↔ (HasRun old digest ⊎ IsCounted digest)

-- what these traces and consolidated files of the object show
abbrev pub Adds : Object → (old new : Covered) → (traces : List (List ℕ)) → Type 0
Adds o old new traces =
    AddsWhat old new (λ e. Somewhere (λ trace. Shows o trace e) traces) (λ digest. Somewhere (Counts digest) traces)

-- what this trace shows
abbrev pub AddsRun : Object → (old new : Covered) → (trace : List ℕ) → Type 0
AddsRun o old new trace = AddsWhat old new (RunShows o trace) (λ digest. ClosesWith digest trace)

-- what this consolidated file lists
abbrev pub AddsListed : (old new : Covered) → (bytes : List ℕ) → Type 0
AddsListed old new bytes = AddsWhat old new (ListsEvent bytes) (λ digest. ListsRun digest bytes)

-- each vector that a coverage has is of a path of its decision's graph in the object
abbrev pub HasPaths : Object → Covered → Type 0
HasPaths o c = (d : DecId) (i : InstId) (vector : Vector) → Has c (Done d i vector) → IsPathVector (graph_at o d.0) vector

-- the consolidated file of a coverage was made, to have this name, unless memory was refused
abbrev pub IsConsolidationOf : (name : List ℕ) → Covered → Result Output Status → Type 0
IsConsolidationOf name c (Ok output) = Writes name output (TellsFile c)
IsConsolidationOf name c (Err status) = status ≡ WantOfMemory

-- ---- what is made

-- the task that makes it of the object and the traces of these names
abbrev pub task_for : Product → (object : List ℕ) → (traces : List (List ℕ)) → Task
task_for (products.Report level annotate) object traces = Coverage level annotate object traces
task_for (products.File name) object traces = Consolidate object name.now traces

-- the sources that are read for it
abbrev pub sources_for : Product → Object → List FileEntry
sources_for (products.Report level annotate) o = read_for annotate o.files
sources_for (products.File name) o = []

-- the names of those of the object that was read, if there is one
abbrev pub listed_for : Product → Result Object ObjectFault → List (List ℕ)
listed_for (products.Report level annotate) read = names_in annotate read
listed_for (products.File name) read = []

-- what the task comes to where the object and the traces were read
abbrev pub Yields : Product → Held → Object → (traces : List (List ℕ)) → Result Output Status → Type 0
Yields (products.Report level annotate) told o = Covers told level annotate o
Yields (products.File name) told o = Consolidates name.now o
