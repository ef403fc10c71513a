-- Coverage and consolidation take the traces of an object's own runs.
use Rattle.std.proofs.Common.{◌≡◌, ℕ, List, Option, Some, Result, Err}
use Rattle.std.specs.FinMap as finmap
use Rattle.command_words.specs.Task.{Task, Coverage, Consolidate}
use Rattle.cov_base.specs.Lists.{Everywhere}
use Rattle.cov_io.specs.Outside.{Held}
use Rattle.commands.specs.CompleteRuns.{RunsAreTakenByCoverage, RunsAreTakenByConsolidation}
use Rattle.commands.specs.Content.{IsFileOf}
use Rattle.commands.specs.declared.status.Status.{Status}
use Rattle.commands.specs.Outcome.{Call, Answers}
use Rattle.commands.specs.RunsCovered.{ARun, transcript_of, AreTracesOf}
use Rattle.commands.specs.TaskFiles.{read_for}
use Rattle.commands.specs.Verdict.{Output, AfterRead, AfterObject, AfterTraces, Covers, Prints, Consolidates}
use Rattle.commands.proofs.CompleteLaws.{all_pass, asked, done_unless, of_object, of_read}
use Rattle.commands.proofs.KeptLaws.{none_stops}
use Rattle.object_facts.specs.Object.{facts_of}
use Rattle.object_format.specs.declared.object.Object.{Object}
use Rattle.transcript.specs.Reading.{IsDisciplined}

-- a refusal, as a verdict
abbrev refused : Status → Result Output Status
refused status = Err status

-- an object and the files of its runs stop nothing
unstopped_runs : (held : Held) (object : List ℕ) (names : List (List ℕ)) (Then : Object → List (List ℕ) → Result Output Status → Type 0) (s : Status)
    → (bytes : List ℕ) (o : Object) → finmap.get held object ≡ Some bytes → IsFileOf o bytes
    → (runs : List ARun) → AreTracesOf held o names runs → Everywhere (λ r. IsDisciplined (facts_of o) (transcript_of o r)) runs
    → AfterRead held 0 object (λ bytes. AfterObject bytes (λ o. AfterTraces held o 1 names (Then o))) (refused s)
    → (traces : List (List ℕ)) × Then o traces (refused s)
unstopped_runs held object names Then s bytes o there file runs are fair comes =
    all_pass held o 1 names runs (Then o) s file.checked.sound are fair
    (of_object o bytes (λ o. AfterTraces held o 1 names (Then o)) s file
    (of_read held 0 object bytes (λ bytes. AfterObject bytes (λ o. AfterTraces held o 1 names (Then o))) s there comes))

pub coverage_taken : (task : Option Task) (call : Call) (status : Status) → Answers task call status → RunsAreTakenByCoverage task call status
unfolding RunsAreTakenByCoverage
coverage_taken task call status answers = λ held level annotation object names holds is fine bytes o there file kept runs are fair.
    done_unless held (Coverage level annotation object names) call status holds fine
    (λ s comes. let read = unstopped_runs held object names (Covers held level annotation) s bytes o there file runs are fair comes in
    none_stops held 0 (read_for annotation o.files) (Prints held level annotation o read.0) (refused s) kept read.1)
    (asked (Coverage level annotation object names) task call status is answers)

pub consolidation_taken : (task : Option Task) (call : Call) (status : Status) → Answers task call status → RunsAreTakenByConsolidation task call status
unfolding RunsAreTakenByConsolidation
consolidation_taken task call status answers = λ held object name names holds is fine bytes o there file runs are fair.
    done_unless held (Consolidate object name names) call status holds fine
    (λ s comes. (unstopped_runs held object names (Consolidates name) s bytes o there file runs are fair comes).1)
    (asked (Consolidate object name names) task call status is answers)
