-- What consolidate writes of an object's own runs.
use Rattle.std.proofs.Common.{◌≡◌, ℕ, List, IfSome, Option, Some, Ok, subst}
use Rattle.command_words.specs.Task.{Task, Consolidate}
use Rattle.cov_io.specs.Outside.{Held, WhereTold, Appends, Replaces}
use Rattle.commands.specs.Content.{Shows, Counts, ConsolidatesTo}
use Rattle.commands.specs.declared.status.Status.{Status}
use Rattle.commands.specs.declared.status.Status.TheVariants.{Done}
use Rattle.commands.specs.Outcome.{Call, Delivered, HasFile, Because, Answers}
use Rattle.commands.specs.RunsConsolidated.{RunsAreConsolidated, ProgramsAreConsolidated}
use Rattle.commands.specs.RunsCovered.{ARun, transcript_of, IsFileOfRuns, AreTracesOf, digest_of_run}
use Rattle.commands.specs.Verdict.{NewFile, AfterRead, AfterObject, AfterTraces, Consolidates, ComesTo}
use Rattle.commands.proofs.HeadlineLaws.{all_fair, is_file, traced_ended}
use Rattle.commands.proofs.RunsLaw.{AreOf, alike, shows_tells, counts_digests, read_are, came_to, through}
use Rattle.object_facts.specs.Object.{facts_of}
use Rattle.object_format.specs.Checked.{IsSound}
use Rattle.object_format.specs.declared.object.Object.{Object}
use Rattle.object_format.specs.File.{object_bytes}
use Rattle.transcript.specs.Reading.{Tells}

-- a file of traces is that of their runs
file_of_runs : (o : Object) → IsSound o → (held : Held) (names : List (List ℕ)) (runs : List ARun) (traces : List (List ℕ)) (bytes text : List ℕ)
    → AreTracesOf held o names runs → AreOf o runs traces → (made : ConsolidatesTo o traces (record { file = bytes; text = text }))
    → IsFileOfRuns o runs bytes
file_of_runs o sound held names runs traces bytes text held_are are made = record {
  ended = traced_ended held o names runs held_are;
  covered = made.covered;
  stands = record {
    object = made.stands.object;
    events = λ e.
        through (made.stands.events e) (alike o (λ t. Shows o t e) (λ r. Tells (facts_of o) (transcript_of o r) e) (shows_tells o sound e) runs traces are);
    runs = λ d. through (made.stands.runs d) (alike o (Counts d) (λ r. digest_of_run o r ≡ d) (counts_digests o d) runs traces are);
  };
  file = made.tells.file;
}

-- a new file that is there stands under its name
pub new_file : (call : Call) (file : Option NewFile) (name bytes : List ℕ) → file ≡ Some (record { name = name; bytes = bytes }) → HasFile file call
    → WhereTold (Replaces name bytes) call.held call.held_after
new_file call file name bytes is has = subst (λ (f : Option NewFile). HasFile f call) is has

pub consolidated_law : (task : Option Task) (call : Call) (status : Status) → Answers task call status → RunsAreConsolidated task call status
unfolding RunsAreConsolidated file_of_runs
consolidated_law task call status answers = λ held object name names holds asked is.
    let done : Delivered (Consolidate object name names) Done call =
    subst (λ (s : Status). Because (Consolidate object name names) call s) is (subst (λ (t : Option Task). Answers t call status) asked answers) in
    λ bytes o there file runs are fair.
    let comes : AfterRead held 0 object (λ bytes. AfterObject bytes (λ o. AfterTraces held o 1 names (Consolidates name o))) (Ok done.output) =
    subst (λ (h : Option Held). IfSome h (λ told. ComesTo told (Consolidate object name names) (Ok done.output))) holds done.comes in
    let after = came_to (λ o. AfterTraces held o 1 names (Consolidates name o)) o done.output bytes file (rw there at comes) in
    let read = read_are held o 1 names runs (Consolidates name o) done.output are fair after in
    let made = read.2.2 in
    record {
      bytes = read.2.0;
      of_runs = file_of_runs o file.checked.sound held names runs read.0 read.2.0 done.output.text are read.1 made;
      written = new_file call done.output.file name read.2.0 read.2.1 done.delivers.file;
      count = made.tells.count;
      counted = made.tells.counted;
      told = subst (λ (text : List ℕ). WhereTold (Appends text) call.written call.written_after) made.tells.told done.delivers.text;
    }

pub program_law : (task : Option Task) (call : Call) (status : Status) → Answers task call status → ProgramsAreConsolidated task call status
unfolding ProgramsAreConsolidated RunsAreConsolidated
program_law task call status answers = λ held object name names holds asked is files main p o of there runs are inputs.
    consolidated_law task call status answers held object name names holds asked is (object_bytes o) o there (is_file files main p o of) runs are
    (all_fair p o of.behaves held names runs inputs are)
