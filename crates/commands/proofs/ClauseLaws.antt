-- What a reader may use of a call, out of why its status comes.
use Rattle.std.proofs.Common.{◌≡◌, ◌≢◌, ◌⊎◌, ℕ, ◌+◌, List, [], ◌∷◌, ◌++◌, Option, None, Some, IsSome, IfSome, MatchOption, Result, Ok, Err, inl, inr, refl, sym, ◌∙◌, ap, subst}
use Rattle.std.specs.FinMap as finmap
use Rattle.std.specs.List.{AllByRecursion}
use Rattle.command_words.specs.Task.{Task, Compile, Run, Coverage, Consolidate}
use Rattle.cov_base.specs.declared.level.Annotation.{Annotation}
use Rattle.cov_base.specs.declared.level.Level.{Level}
use Rattle.cov_base.specs.declared.obligations.SourceFile.{SourceFile}
use Rattle.cov_io.specs.Outside.{Held, WhereTold, Replaces, SameBut}
use Rattle.commands.specs.declared.status.Status.{Status}
use Rattle.commands.specs.declared.status.Status.TheVariants.{Done, Usage, SourceRefused, ObjectRefused, TraceRefused, InputRefused, OverBudget, Trap, SourceChanged, ReadFault, WriteFault, WantOfMemory}
use Rattle.commands.specs.Clauses.{UsageIsExact, AreThere, DoneIsWhole, RefusalsLeaveFiles, OthersStay, IsToldName, RefusalsPutOneLine, RisenReadsAreTold, ReadFaultHasCause, WriteFaultHasCause}
use Rattle.commands.specs.Lines.{line_of}
use Rattle.commands.specs.Outcome.{Call, Answers, Because, HasFile, HasSpoilt, IsNamed, Delivered, PutsRefusal, PutsText}
use Rattle.commands.specs.TaskFiles.{entry_names, names_read, output_of, read_for}
use Rattle.commands.specs.Verdict.{NewFile, Output, AfterSources, AfterTraces, Compiles, Covers, Prints, Consolidates, ComesTo}
use Rattle.commands.proofs.KeptLaws.{kept_follow, names_are}
use Rattle.object_format.proofs.FileLaws.{structured_only}
use Rattle.object_format.specs.declared.object.Object.{Object}
use Rattle.object_format.specs.File.{structured}

-- an output, as a verdict
abbrev succeeds : Output → Result Output Status
succeeds output = Ok output

-- what is told of a read whose answer is an output: the file was there
read_there : (held : Option (List ℕ)) (status : Status) (output : Output) (P : List ℕ → Type 0) → MatchOption held (succeeds output ≡ Err status) P → IsSome held × IfSome held P
read_there None status output P h = absurd (cc)
read_there (Some bytes) status output P h = (refl, h)

-- past the check of the first file
passed : (held : Option (List ℕ)) (refused next : List ℕ → Type 0) → IfSome held (λ bytes. ⊥ ⊎ next bytes) → IfSome held next
passed None refused next h = tt
passed (Some bytes) refused next (inl h) = absurd h
passed (Some bytes) refused next (inr h) = h

-- what follows from what holds of the first file's bytes, where it is there
some_there : (held : Option (List ℕ)) (P : List ℕ → Type 0) (A : Type 0) → IsSome held → IfSome held P → ((bytes : List ℕ) → P bytes → A) → A
some_there None P A there h f = absurd (cc)
some_there (Some bytes) P A there h f = f bytes h

-- each of these names is there
abbrev AreIn : Held → List (List ℕ) → Type 0
AreIn held names = AllByRecursion (λ name. IsSome (finmap.get held name)) names

both_in : (held : Held) (names others : List (List ℕ)) → AreIn held names → AreIn held others → AreIn held (names ++ others)
both_in held [] others first second = second
both_in held (name ∷ names) others first second = (first.0, both_in held names others first.1 second)

-- each trace is there where reading them came to an output, and what follows holds of it
record AreThereWith (held : Held) (names : List (List ℕ)) (Then : List (List ℕ) → Result Output Status → Type 0) (output : Output) : Type 0 where
  there : AreIn held names
  traces : List (List ℕ)
  says : Then traces (Ok output)

traces_there : (held : Held) (o : Object) (number : ℕ) (names : List (List ℕ)) (Then : List (List ℕ) → Result Output Status → Type 0) (output : Output)
    → AfterTraces held o number names Then (Ok output) → AreThereWith held names Then output
traces_there held o number [] Then output h = record { there = tt; traces = []; says = h }
traces_there held o number (name ∷ names) Then output h =
    let first = read_there (finmap.get held name) _ output _ h in
    some_there (finmap.get held name) _ (AreThereWith held (name ∷ names) Then output) first.0 (passed (finmap.get held name) (λ _. ⊥) _ first.1)
    (λ trace next. let rest = traces_there held o (number + 1) names (λ traces. Then (trace ∷ traces)) output next.1 in
    record { there = (first.0, rest.there); traces = trace ∷ rest.traces; says = rest.says })

-- each source is there where reading them came to an output
sources_there : (held : Held) (place : ℕ) (names : List (List ℕ)) (Then : List SourceFile → Result Output Status → Type 0) (output : Output)
    → AfterSources held place names Then (Ok output) → AreIn held names
sources_there held place [] Then output h = tt
sources_there held place (name ∷ names) Then output h =
    let first = read_there (finmap.get held name) _ output _ h in
    let others = some_there (finmap.get held name) _ _ first.0 first.1
    (λ bytes next. sources_there held (place + 1) names (λ others. Then (record { name = name; bytes = bytes } ∷ others)) output next) in
    (first.0, others)

-- what is told of a file that is there
bytes_of : (held : Option (List ℕ)) (P : List ℕ → Type 0) → IsSome held → IfSome held P → (bytes : List ℕ) × (held ≡ Some bytes) × P bytes
bytes_of None P there says = absurd (cc)
bytes_of (Some bytes) P there says = (bytes, refl, says)

-- each file of a coverage is there where it came to an output
covered_there : (held : Held) (level : Level) (annotation : Annotation) (object : List ℕ) (traces : List (List ℕ)) (output : Output)
    → ComesTo held (Coverage level annotation object traces) (Ok output) → AreThere (Some held) (Coverage level annotation object traces)
covered_there held level annotation object traces output h =
    let first = read_there (finmap.get held object) _ output _ h in
    let read = bytes_of (finmap.get held object) _ first.0 (passed (finmap.get held object) (λ _. ⊥) _ first.1) in
    let o = read.2.0 in
    let spelled : structured read.0 ≡ Ok o = ap structured read.2.1.spelled ∙ structured_only o read.2.1.checked.closed in
    let named = names_are annotation (finmap.get held object) read.0 o read.1 spelled in
    let traced = traces_there held o 1 traces (Covers held level annotation o) output read.2.2 in
    let kept = kept_follow held 0 (read_for annotation o.files) (Prints held level annotation o traced.traces) output traced.says in (
      first.0,
      both_in held traces (names_read annotation (finmap.get held object)) traced.there
          (subst (λ (names : List (List ℕ)). AreIn held names) (sym named) kept.there),
    )

-- each file is there where the task came to an output
there : (held : Held) (task : Task) (output : Output) → ComesTo held task (Ok output) → AreThere (Some held) task
there held (Compile main object sources) output h = both_in held sources [] (sources_there held 0 sources (Compiles main object) output h) tt
there held (Run input budget trace object) output h =
    let first = read_there (finmap.get held object) _ output _ h in
    let second = some_there (finmap.get held object) _ _ first.0 (passed (finmap.get held object) (λ _. ⊥) _ first.1) (λ bytes next. (read_there (finmap.get held input) _ output _ next.2).0) in
    (first.0, (second, tt))
there held (Coverage level annotation object traces) output h = covered_there held level annotation object traces output h
there held (Consolidate object name traces) output h =
    let first = read_there (finmap.get held object) _ output _ h in
    let others = some_there (finmap.get held object) _ _ first.0 (passed (finmap.get held object) (λ _. ⊥) _ first.1)
    (λ bytes next. (traces_there held next.0 1 traces (Consolidates name next.0) output next.2).there) in
    (first.0, both_in held traces [] others tt)

-- the same where the files may not tell
all_there : (held : Option Held) (task : Task) (output : Output) → IfSome held (λ told. ComesTo told task (Ok output)) → AreThere held task
all_there None task output h = tt
all_there (Some held) task output h = there held task output h

pub usage_law : (task : Option Task) (call : Call) (status : Status) → Answers task call status → UsageIsExact task status
usage_law None call status a = (λ _. refl, λ _. a.0)
usage_law (Some task) call status a = (λ e. absurd (subst (Because task call) e a), λ e. absurd (cc))

-- words that are no command come to no other status
only : (status other : Status) → (status ≡ Usage) ⊎ (status ≡ WantOfMemory) → (Usage ≡ other → ⊥) → (WantOfMemory ≡ other → ⊥) → status ≡ other → ⊥
only status other (inl usage) no_usage no_memory e = no_usage (sym usage ∙ e)
only status other (inr memory) no_usage no_memory e = no_memory (sym memory ∙ e)

pub done_law : (task : Option Task) (call : Call) (status : Status) → Answers task call status → DoneIsWhole task call status
done_law None call status a = λ e. absurd (only status Done a.0 (λ e. cc) (λ e. cc) e)
done_law (Some task) call status a = λ e.
    let d : Delivered task Done call = subst (Because task call) e a in
    record { reads = d.reads; writes = d.delivers.writes; failures = d.delivers.failures; there = all_there call.held task d.output d.comes }

leaves : (task : Task) (call : Call) (status : Status) → Because task call status → RefusalsLeaveFiles call status
leaves task call Done a = λ d w. absurd (d refl)
leaves task call Usage a = absurd a
leaves task call WriteFault a = λ d w. absurd (w refl)
leaves task call WantOfMemory a = λ d w. (a.files, a.writes)
leaves task call (SourceChanged file) a = λ d w. (a.1.ends.files, a.1.ends.writes)
leaves task call (ReadFault file) a = λ d w. (a.1.ends.files, a.1.ends.writes)
leaves task call (SourceRefused file line col why) a = λ d w. (a.1.ends.files, a.1.ends.writes)
leaves task call (ObjectRefused why) a = λ d w. (a.1.ends.files, a.1.ends.writes)
leaves task call (TraceRefused index why) a = λ d w. (a.1.ends.files, a.1.ends.writes)
leaves task call (InputRefused line) a = λ d w. (a.1.ends.files, a.1.ends.writes)
leaves task call (OverBudget count) a = λ d w. (a.1.ends.files, a.1.ends.writes)
leaves task call (Trap pc why) a = λ d w. (a.1.ends.files, a.1.ends.writes)

pub files_law : (task : Option Task) (call : Call) (status : Status) → Answers task call status → RefusalsLeaveFiles call status
files_law None call status a = λ d w. (a.2.files, a.2.writes)
files_law (Some task) call status a = leaves task call status a

-- what was put of a refusal
put_of : (task : Task) (call : Call) (status : Status) → PutsRefusal task call status
    → (name : List ℕ) × IsToldName call.held (Some task) status name × PutsText (line_of name status) call.written call.written_after call.failures call.failures_after
put_of task call status a = (a.name, a.named, a.ends.puts)

puts_line : (task : Task) (call : Call) (status : Status) → Because task call status → RefusalsPutOneLine (Some task) call status
puts_line task call Done a = λ d w. absurd (d refl)
puts_line task call Usage a = absurd a
puts_line task call WriteFault a = λ d w. absurd (w refl)
puts_line task call WantOfMemory a = λ d w. ([], refl, a.puts)
puts_line task call (SourceChanged file) a = λ d w. put_of task call (SourceChanged file) a.1
puts_line task call (ReadFault file) a = λ d w. put_of task call (ReadFault file) a.1
puts_line task call (SourceRefused file line col why) a = λ d w. put_of task call (SourceRefused file line col why) a.1
puts_line task call (ObjectRefused why) a = λ d w. put_of task call (ObjectRefused why) a.1
puts_line task call (TraceRefused index why) a = λ d w. put_of task call (TraceRefused index why) a.1
puts_line task call (InputRefused line) a = λ d w. put_of task call (InputRefused line) a.1
puts_line task call (OverBudget count) a = λ d w. put_of task call (OverBudget count) a.1
puts_line task call (Trap pc why) a = λ d w. put_of task call (Trap pc why) a.1

pub line_law : (task : Option Task) (call : Call) (status : Status) → Answers task call status → RefusalsPutOneLine task call status
line_law None call status a = λ d w. ([], refl, a.2.puts)
line_law (Some task) call status a = puts_line task call status a

rises : (task : Task) (call : Call) (status : Status) → Because task call status → RisenReadsAreTold call status
rises task call Done a = λ rose. absurd (rose a.reads)
rises task call Usage a = absurd a
rises task call WriteFault a = λ rose. absurd (rose a.reads)
rises task call WantOfMemory a = λ rose. inr refl
rises task call (SourceChanged file) a = λ rose. absurd (rose a.0.1.0)
rises task call (ReadFault file) a = λ rose. inl (file, refl)
rises task call (SourceRefused file line col why) a = λ rose. absurd (rose a.0.0)
rises task call (ObjectRefused why) a = λ rose. absurd (rose a.0.0)
rises task call (TraceRefused index why) a = λ rose. absurd (rose a.0.0)
rises task call (InputRefused line) a = λ rose. absurd (rose a.0.0)
rises task call (OverBudget count) a = λ rose. absurd (rose a.0.0)
rises task call (Trap pc why) a = λ rose. absurd (rose a.0.0)

pub rose_law : (task : Option Task) (call : Call) (status : Status) → Answers task call status → RisenReadsAreTold call status
rose_law None call status a = λ rose. absurd (rose a.1)
rose_law (Some task) call status a = rises task call status a

-- the first of what holds besides
without : (A B C : Type 0) → A ⊎ (B × C) → A ⊎ B
without A B C (inl a) = inl a
without A B C (inr h) = inr h.0

pub read_fault_law : (task : Option Task) (call : Call) (status : Status) → Answers task call status → ReadFaultHasCause task call status
read_fault_law None call status a = λ file e asked is. absurd (cc)
read_fault_law (Some task) call status a = λ file e asked is.
    let b = subst (Because task call) e a in
    let same : task ≡ asked = cc in
    rw (← same) (b.0.0, without _ _ _ b.0.1)

pub write_fault_law : (task : Option Task) (call : Call) (status : Status) → Answers task call status → WriteFaultHasCause task call status
write_fault_law None call status a = λ e. absurd (only status WriteFault a.0 (λ e. cc) (λ e. cc) e)
write_fault_law (Some task) call status a = λ e.
    let d : Delivered task WriteFault call = subst (Because task call) e a in
    record {
      reads = d.reads;
      there = all_there call.held task d.output d.comes;
      cause = elim d.delivers [ inl failed ↦ inl failed.writes | inr failed ↦ inr failed.failures ];
    }

-- a relation that follows from another holds where that one is told
told_weaker : (R Q : Held → Held → Type 0) (old new : Option Held) → ((before after : Held) → R before after → Q before after) → WhereTold R old new → WhereTold Q old new
told_weaker R Q None new f h = tt
told_weaker R Q (Some old) None f h = absurd h
told_weaker R Q (Some old) (Some new) f h = f old new h

-- nothing is held otherwise
abbrev stays_at : List ℕ → Held → Held → Type 0
stays_at name old new = finmap.get new name ≡ finmap.get old name

unchanged : (name : List ℕ) (old new : Option Held) → new ≡ old → WhereTold (stays_at name) old new
unchanged name None new e = tt
unchanged name (Some old) new e = rw e refl

-- another name than the task's output is no new file's
other_name : (task : Task) (file : NewFile) (name : List ℕ) → Some file.name ≡ output_of task → output_of task ≢ Some name → name ≢ file.name
other_name task file name named other e = other (sym named ∙ ap (λ n. Some n) (sym e))

with_file : (task : Task) (call : Call) (output : Output) (name : List ℕ) (file : Option NewFile) → output.file ≡ file → IsNamed task output → HasFile output.file call → output_of task ≢ Some name → WhereTold (stays_at name) call.held call.held_after
with_file task call output name None is named has other = unchanged name call.held call.held_after (rw is at has)
with_file task call output name (Some file) is named has other =
    told_weaker (Replaces file.name file.bytes) (stays_at name) call.held call.held_after
    (λ before after replaces. replaces.others name (other_name task file name (rw is at named) other)) (rw is at has)

with_spoilt : (task : Task) (call : Call) (output : Output) (name : List ℕ) (file : Option NewFile) → output.file ≡ file → IsNamed task output → HasSpoilt output.file call → output_of task ≢ Some name → WhereTold (stays_at name) call.held call.held_after
with_spoilt task call output name None is named has other = absurd (rw is at has)
with_spoilt task call output name (Some file) is named has other =
    told_weaker (SameBut file.name) (stays_at name) call.held call.held_after
    (λ before after same. same name (other_name task file name (rw is at named) other)) (rw is at has)

others_stay : (task : Task) (call : Call) (status : Status) → Because task call status → (name : List ℕ) → output_of task ≢ Some name → WhereTold (stays_at name) call.held call.held_after
others_stay task call Done a name other = with_file task call a.output name a.output.file refl a.named a.delivers.file other
others_stay task call Usage a name other = absurd a
others_stay task call WriteFault a name other =
    elim a.delivers [
      | inl failed ↦ with_spoilt task call a.output name a.output.file refl a.named failed.file other
      | inr failed ↦ with_file task call a.output name a.output.file refl a.named failed.file other
    ]
others_stay task call WantOfMemory a name other = unchanged name call.held call.held_after a.files
others_stay task call (SourceChanged file) a name other = unchanged name call.held call.held_after a.1.ends.files
others_stay task call (ReadFault file) a name other = unchanged name call.held call.held_after a.1.ends.files
others_stay task call (SourceRefused file line col why) a name other = unchanged name call.held call.held_after a.1.ends.files
others_stay task call (ObjectRefused why) a name other = unchanged name call.held call.held_after a.1.ends.files
others_stay task call (TraceRefused index why) a name other = unchanged name call.held call.held_after a.1.ends.files
others_stay task call (InputRefused line) a name other = unchanged name call.held call.held_after a.1.ends.files
others_stay task call (OverBudget count) a name other = unchanged name call.held call.held_after a.1.ends.files
others_stay task call (Trap pc why) a name other = unchanged name call.held call.held_after a.1.ends.files

pub others_law : (task : Option Task) (call : Call) (status : Status) → Answers task call status → OthersStay task call
others_law None call status a = λ name other. unchanged name call.held call.held_after a.2.files
others_law (Some task) call status a = λ name other. others_stay task call status a name other
