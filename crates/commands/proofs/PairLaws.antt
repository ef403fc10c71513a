-- The pairs that coverage shows are the least of those that occurred.
use Rattle.std.proofs.Common.{◌≡◌, ◌↔◌, ℕ, List, length, Option, None, Some, ap, sym, subst, ◌∙◌}
use Rattle.std.specs.FinMap as finmap
use Rattle.ada_meaning.specs.Obligations.{obligations_of}
use Rattle.ada_meaning.specs.Program.{Program}
use Rattle.annotated_report.proofs.PairedEvents.{ends_in_pairs}
use Rattle.annotated_report.specs.Paired.{EndsInPairs}
use Rattle.annotated_report.specs.Report.{report_text}
use Rattle.command_words.specs.Task.{Task, Coverage}
use Rattle.cov_base.specs.declared.event.Event.{Event}
use Rattle.cov_base.specs.declared.level.Annotation.{Annotation}
use Rattle.cov_base.specs.declared.level.Annotation.TheVariants.{Report, Json}
use Rattle.cov_base.specs.declared.level.Level.{Level}
use Rattle.cov_base.specs.declared.obligations.Obligations.{Obligations}
use Rattle.cov_base.specs.declared.obligations.SourceFile.{SourceFile}
use Rattle.cov_io.specs.Outside.{Held, WhereTold, Appends}
use Rattle.cov_base.specs.Lists.{Everywhere, Somewhere}
use Rattle.commands.specs.declared.status.Status.{Status}
use Rattle.commands.specs.declared.status.Status.TheVariants.{Done}
use Rattle.commands.specs.Headline.{text_of}
use Rattle.commands.specs.Outcome.{Call, Delivered, Because, Answers}
use Rattle.commands.specs.RunsCovered.{ARun, AreTracesOf}
use Rattle.commands.specs.ShownPairs.{OccursInRuns, PutsLeastPairs, LeastPairsAreShown, PutsLeastPairsInJson, LeastPairsAreInJson}
use Rattle.commands.specs.TaskFiles.{held_under}
use Rattle.commands.specs.Texts.{coverage_text, names_of}
use Rattle.commands.proofs.HeadlineLaws.{all_fair, is_file, text_kept, through, traced_ended, tells_somewhere}
use Rattle.commands.proofs.RunsLaw.{report_done}
use Rattle.commands.proofs.TextLaws.{named_under}
use Rattle.json_report.proofs.ToldPairs.{carries_pairs}
use Rattle.json_report.specs.Pairs.{CarriesLeastPairs}
use Rattle.json_report.specs.Text.{json_text}
use Rattle.kernel_code.specs.Whole.{IsInput}
use Rattle.object_format.specs.declared.object.Object.{Object}
use Rattle.object_format.specs.File.{object_bytes}
use Rattle.program_objects.specs.Exemptions.{exempt_regions}
use Rattle.program_objects.specs.Source.{IsObjectOf}

-- what is told of a sink, where something follows from it
told_follows : {A : Type 0} (R S : A → A → Type 0) → ((old new : A) → R old new → S old new) → (old new : Option A) → WhereTold R old new → WhereTold S old new
told_follows R S step None new told = told
told_follows R S step (Some old) None told = told
told_follows R S step (Some old) (Some new) told = step old new told

-- the text that was put is that of some list of the events that occurred
record IsTextOfRuns (annotation : Annotation) (level : Level) (files : List SourceFile) (p : Program) (held : Held) (runs : List ARun) (text : List ℕ) : Type 0 where
  traces : ℕ
  events : List Event
  occur : (e : Event) → Somewhere (λ x. x ≡ e) events ↔ OccursInRuns p runs e
  told : text ≡ text_of annotation level files p held traces events

text_done : (held : Held) (level : Level) (annotation : Annotation) (object : List ℕ) (names : List (List ℕ)) (call : Call) → call.held ≡ Some held
    → (done : Delivered (Coverage level annotation object names) Done call)
    → (files : List SourceFile) (main : List ℕ) (p : Program) (o : Object) → IsObjectOf files main p o → finmap.get held object ≡ Some (object_bytes o)
    → (runs : List ARun) → AreTracesOf held o names runs → Everywhere (λ r. IsInput r.input) runs
    → IsTextOfRuns annotation level files p held runs done.output.text
text_done held level annotation object names call holds done files main p o of there runs are inputs =
    let report = report_done held level annotation object names call holds done (object_bytes o) o there (is_file files main p o of) runs are
    (all_fair p o of.behaves held names runs inputs are) in
    let ended = traced_ended held o names runs are in
    record {
      traces = length report.digests;
      events = report.events;
      occur = λ e. through (report.all_events e) (tells_somewhere p o of.checked.sound of.behaves e runs inputs ended);
      told = report.told ∙ text_kept annotation level held (length report.digests) report.events files main p o of;
    }

-- a command that is done
done_of : (task : Task) (words : Option Task) (call : Call) (status : Status) → Answers words call status → words ≡ Some task → status ≡ Done → Delivered task Done call
done_of task words call status answers asked is =
    subst (λ (s : Status). Because task call s) is (subst (λ (t : Option Task). Answers t call status) asked answers)

pub pairs_law : (task : Option Task) (call : Call) (status : Status) → Answers task call status → LeastPairsAreShown task call status
unfolding LeastPairsAreShown
pairs_law task call status answers = λ held level object names holds asked is asks files main p o of there runs are inputs.
    let done = done_of (Coverage level Report object names) task call status answers asked is in
    let text = text_done held level Report object names call holds done files main p o of there runs are inputs in
    let obligations : Obligations = obligations_of p (exempt_regions files) in
    let told : done.output.text ≡ report_text level obligations text.traces text.events (names_of files) =
    text.told ∙ ap (λ (ns : List (List ℕ)). report_text level obligations text.traces text.events ns) (named_under held (names_of files)) in
    let ends : EndsInPairs level obligations.decisions (OccursInRuns p runs) (names_of files) done.output.text =
    subst (λ (t : List ℕ). EndsInPairs level obligations.decisions (OccursInRuns p runs) (names_of files) t) (sym told)
    (ends_in_pairs level obligations text.traces text.events (OccursInRuns p runs) (names_of files) text.occur asks) in
    told_follows (Appends done.output.text) (PutsLeastPairs level files p runs)
    (λ old new put. record { text = done.output.text; put = put; pairs = ends }) call.written call.written_after done.delivers.text

pub json_pairs_law : (task : Option Task) (call : Call) (status : Status) → Answers task call status → LeastPairsAreInJson task call status
unfolding LeastPairsAreInJson
json_pairs_law task call status answers = λ held level object names holds asked is asks files main p o of there runs are inputs.
    let done = done_of (Coverage level Json object names) task call status answers asked is in
    let text = text_done held level Json object names call holds done files main p o of there runs are inputs in
    let obligations : Obligations = obligations_of p (exempt_regions files) in
    let told : done.output.text ≡ json_text level obligations text.traces text.events (names_of files) =
    text.told ∙ ap (λ (ns : List (List ℕ)). json_text level obligations text.traces text.events ns) (named_under held (names_of files)) in
    let carries : CarriesLeastPairs level obligations.decisions (OccursInRuns p runs) (names_of files) done.output.text =
    subst (λ (t : List ℕ). CarriesLeastPairs level obligations.decisions (OccursInRuns p runs) (names_of files) t) (sym told)
    (carries_pairs level obligations text.traces text.events (OccursInRuns p runs) (names_of files) text.occur asks) in
    told_follows (Appends done.output.text) (PutsLeastPairsInJson level files p runs)
    (λ old new put. record { text = done.output.text; put = put; pairs = carries }) call.written call.written_after done.delivers.text
