-- What coverage prints of a program's own executions.
use Rattle.std.proofs.Common.{◌≡◌, ◌↔◌, inl, inr, ⊎_elim, ℕ, List, [], ◌∷◌, ◌++◌, length, map, Option, refl, sym, ap, subst, ◌∙◌}
use Rattle.ada_meaning.specs.Execution.{Execution, Ends}
use Rattle.ada_meaning.specs.Program.{Program}
use Rattle.ada_meaning.proofs.FuelExecution.{one_ending_law}
use Rattle.command_words.specs.Task.{Task}
use Rattle.program_objects.specs.Behaves.{Behaves, ShowsExecution}
use Rattle.program_objects.specs.Source.{entry_of_file, IsObjectOf}
use Rattle.cov_base.specs.declared.event.Event.{Event}
use Rattle.cov_base.specs.declared.level.Annotation.{Annotation}
use Rattle.cov_base.specs.declared.level.Level.{Level}
use Rattle.cov_base.specs.declared.obligations.Obligations.{Obligations}
use Rattle.cov_base.specs.declared.obligations.SourceFile.{SourceFile}
use Rattle.cov_io.specs.Outside.{Held, WhereTold, Appends}
use Rattle.cov_base.specs.Lists.{Everywhere, Somewhere}
use Rattle.commands.specs.Content.{IsFileOf}
use Rattle.commands.specs.declared.status.Status.{Status}
use Rattle.commands.specs.Headline.{Occurs, text_of, CoverageTellsTheSource}
use Rattle.commands.specs.Outcome.{Call, Answers}
use Rattle.commands.specs.RunsCovered.{ARun, transcript_of, IsWrittenOf, AreTracesOf, RunsAreCovered}
use Rattle.commands.specs.TaskFiles.{entry_names, held_under}
use Rattle.commands.specs.Texts.{coverage_text, names_of}
use Rattle.commands.proofs.RunsLaw.{runs_law}
use Rattle.kernel_code.specs.Whole.{IsInput}
use Rattle.object_facts.proofs.Fair.{fair}
use Rattle.object_facts.specs.Object.{facts_of}
use Rattle.object_format.specs.Checked.{IsSound}
use Rattle.object_format.specs.declared.object.Object.{Object}
use Rattle.object_format.specs.File.{object_bytes}
use Rattle.rv_machine.specs.Objects.{object_run}
use Rattle.rv_semantics.specs.Run.Outcome.{Ended}
use Rattle.transcript.proofs.Told.{told_law}
use Rattle.transcript.specs.Reading.{Tells, IsDisciplined}

-- each of the runs ended
abbrev Ended_all : Object → List ARun → Type 0
Ended_all o runs = Everywhere (λ r. (object_run o r.budget r.input).outcome ≡ Ended r.ending) runs

both_ended : (o : Object) (xs ys : List ARun) → Ended_all o xs → Ended_all o ys → Ended_all o (xs ++ ys)
both_ended o [] ys first second = second
both_ended o (x ∷ xs) ys first second = (first.0, both_ended o xs ys first.1 second)

file_ended : (o : Object) (runs : List ARun) (bytes : List ℕ) → IsWrittenOf o runs bytes → Ended_all o runs
file_ended o runs bytes (inl (r, only, trace)) = subst (λ (rs : List ARun). Ended_all o rs) (sym only) (trace.ended, tt)
file_ended o runs bytes (inr file) = file.ended

pub traced_ended : (held : Held) (o : Object) (names : List (List ℕ)) (runs : List ARun) → AreTracesOf held o names runs → Ended_all o runs
traced_ended held o [] runs are = subst (λ (rs : List ARun). Ended_all o rs) (sym are) tt
traced_ended held o (name ∷ names) runs are =
    subst (λ (rs : List ARun). Ended_all o rs) (sym are.2)
    (both_ended o are.0 are.1 (file_ended o are.0 are.3 are.5) (traced_ended held o names are.1 are.6))

-- the run of a program's object shows the execution
shown : (p : Program) (o : Object) → Behaves p o → (r : ARun) → IsInput r.input → (object_run o r.budget r.input).outcome ≡ Ended r.ending
    → (x : Execution) × Ends p r.input x × ShowsExecution (facts_of o) (object_run o r.budget r.input) x
shown p o behaves r input ended = behaves.faithful r.budget r.input input r.ending ended

-- what its transcript tells occurs in the execution, and nothing else
tells_occurs : (p : Program) (o : Object) → IsSound o → Behaves p o → (e : Event) (r : ARun) → IsInput r.input → (object_run o r.budget r.input).outcome ≡ Ended r.ending
    → Tells (facts_of o) (transcript_of o r) e ↔ Occurs p r.input e
tells_occurs p o sound behaves e r input ended =
    let run = shown p o behaves r input ended in
    let told = told_law (facts_of o) (transcript_of o r) e (fair o sound) in (
      λ tells. (run.0, run.1, subst (λ (es : List Event). Somewhere (λ f. f ≡ e) es) run.2.events (told.0 tells)),
      λ occurs. told.1 (subst (λ (es : List Event). Somewhere (λ f. f ≡ e) es)
          (ap (λ (x : Execution). x.events) (one_ending_law p r.input occurs.0 run.0 occurs.1 run.1) ∙ sym run.2.events) occurs.2),
    )

-- the same of one of many runs
pub tells_somewhere : (p : Program) (o : Object) → IsSound o → Behaves p o → (e : Event) (runs : List ARun) → Everywhere (λ r. IsInput r.input) runs → Ended_all o runs
    → Somewhere (λ r. Tells (facts_of o) (transcript_of o r) e) runs ↔ Somewhere (λ r. Occurs p r.input e) runs
tells_somewhere p o sound behaves e [] inputs ended = (λ none. none, λ none. none)
tells_somewhere p o sound behaves e (r ∷ rs) inputs ended =
    let here = tells_occurs p o sound behaves e r inputs.0 ended.0 in
    let later = tells_somewhere p o sound behaves e rs inputs.1 ended.1 in (
      λ s. ⊎_elim (λ a. inl (here.0 a)) (λ b. inr (later.0 b)) s,
      λ s. ⊎_elim (λ a. inl (here.1 a)) (λ b. inr (later.1 b)) s,
    )

all_disciplined : (p : Program) (o : Object) → Behaves p o → (runs : List ARun) → Everywhere (λ r. IsInput r.input) runs → Ended_all o runs
    → Everywhere (λ r. IsDisciplined (facts_of o) (transcript_of o r)) runs
all_disciplined p o behaves [] inputs ended = tt
all_disciplined p o behaves (r ∷ rs) inputs ended =
    ((shown p o behaves r inputs.0 ended.0).2.disciplined, all_disciplined p o behaves rs inputs.1 ended.1)

-- the same of runs whose traces are held
pub all_fair : (p : Program) (o : Object) → Behaves p o → (held : Held) (names : List (List ℕ)) (runs : List ARun) → Everywhere (λ r. IsInput r.input) runs
    → AreTracesOf held o names runs → Everywhere (λ r. IsDisciplined (facts_of o) (transcript_of o r)) runs
all_fair p o behaves held names runs inputs are = all_disciplined p o behaves runs inputs (traced_ended held o names runs are)

-- an object of sources has their names
names_kept : (files : List SourceFile) → entry_names (map entry_of_file files) ≡ names_of files
names_kept [] = refl
names_kept (f ∷ fs) = ap (λ (names : List (List ℕ)). f.name ∷ names) (names_kept fs)

pub sources_named : (files : List SourceFile) (main : List ℕ) (p : Program) (o : Object) → IsObjectOf files main p o → entry_names o.files ≡ names_of files
sources_named files main p o of = ap entry_names of.sources ∙ names_kept files

pub is_file : (files : List SourceFile) (main : List ℕ) (p : Program) (o : Object) → IsObjectOf files main p o → IsFileOf o (object_bytes o)
is_file files main p o of = record { checked = of.checked; spelled = refl }

-- what coverage prints over an object of sources
pub text_kept : (annotation : Annotation) (level : Level) (held : Held) (n : ℕ) (events : List Event) (files : List SourceFile) (main : List ℕ) (p : Program) (o : Object)
    → IsObjectOf files main p o
    → coverage_text annotation level o.obligations n events (held_under held (entry_names o.files)) ≡ text_of annotation level files p held n events
text_kept annotation level held n events files main p o of =
    ap (λ (names : List (List ℕ)). coverage_text annotation level o.obligations n events (held_under held names)) (sources_named files main p o of)
    ∙ ap (λ (obligations : Obligations). coverage_text annotation level obligations n events (held_under held (names_of files))) of.obligations

pub through : {A B C : Type 0} → A ↔ B → B ↔ C → A ↔ C
through first second = (λ a. second.0 (first.0 a), λ c. first.1 (second.1 c))

back : {A B : Type 0} → A ↔ B → B ↔ A
back both = (both.1, both.0)

pub headline_law : (task : Option Task) (call : Call) (status : Status) → Answers task call status → CoverageTellsTheSource task call status
unfolding CoverageTellsTheSource RunsAreCovered
headline_law task call status answers = λ held level annotation object names holds asked is files main p o of there runs are inputs events of_events digests of_digests once.
    let ended = traced_ended held o names runs are in
    let told = runs_law task call status answers held level annotation object names holds asked is (object_bytes o) o there (is_file files main p o of) runs are
    (all_disciplined p o of.behaves runs inputs ended) events
    (λ e. through (of_events e) (back (tells_somewhere p o of.checked.sound of.behaves e runs inputs ended))) digests of_digests once in
    subst (λ (text : List ℕ). WhereTold (Appends text) call.written call.written_after) (text_kept annotation level held (length digests) events files main p o of) told
