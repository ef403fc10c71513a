-- Coverage and consolidation take the traces of an object's own runs, whatever object it is that passed its checks.
use Rattle.std.specs.Prelude.{◌≡◌, ℕ, List, Option, Some}
use Rattle.std.specs.FinMap as finmap
use Rattle.command_words.specs.Task.{Task, Coverage, Consolidate}
use Rattle.cov_base.specs.declared.level.Annotation.{Annotation}
use Rattle.cov_base.specs.declared.level.Level.{Level}
use Rattle.cov_base.specs.Lists.{Everywhere}
use Rattle.cov_io.specs.Outside.{Held}
use Rattle.commands.specs.Complete.{NothingFails, IsDone}
use Rattle.commands.specs.Content.{IsFileOf}
use Rattle.commands.specs.declared.status.Status.{Status}
use Rattle.commands.specs.Outcome.{Call}
use Rattle.commands.specs.Reading.{AreKept}
use Rattle.commands.specs.RunsCovered.{ARun, transcript_of, AreTracesOf}
use Rattle.commands.specs.TaskFiles.{read_for}
use Rattle.object_facts.specs.Object.{facts_of}
use Rattle.object_format.specs.declared.object.Object.{Object}
use Rattle.transcript.specs.Reading.{IsDisciplined}

-- Where nothing fails, files of runs of an object that have disciplined transcripts are covered; where sources are to
-- be annotated, each that the object lists has to be there with the digest that the object keeps.
unfoldable pub RunsAreTakenByCoverage : Option Task → Call → Status → Type 0
RunsAreTakenByCoverage task call status =
    (held : Held) (level : Level) (annotation : Annotation) (object : List ℕ) (names : List (List ℕ))
    → call.held ≡ Some held → task ≡ Some (Coverage level annotation object names) → NothingFails call
    → (bytes : List ℕ) (o : Object) → finmap.get held object ≡ Some bytes → IsFileOf o bytes
    → AreKept held (read_for annotation o.files)
    → (runs : List ARun) → AreTracesOf held o names runs
    → Everywhere (λ r. IsDisciplined (facts_of o) (transcript_of o r)) runs → IsDone status

-- and such files are consolidated
unfoldable pub RunsAreTakenByConsolidation : Option Task → Call → Status → Type 0
RunsAreTakenByConsolidation task call status =
    (held : Held) (object name : List ℕ) (names : List (List ℕ))
    → call.held ≡ Some held → task ≡ Some (Consolidate object name names) → NothingFails call
    → (bytes : List ℕ) (o : Object) → finmap.get held object ≡ Some bytes → IsFileOf o bytes
    → (runs : List ARun) → AreTracesOf held o names runs
    → Everywhere (λ r. IsDisciplined (facts_of o) (transcript_of o r)) runs → IsDone status
