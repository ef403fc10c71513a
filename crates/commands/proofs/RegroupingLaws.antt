-- However runs are grouped into files, coverage puts the same text, and consolidate writes the same file.
use Rattle.std.proofs.Common.{◌≡◌, ◌↔◌, inl, inr, ⊎_elim, ℕ, ◌+◌, List, [], ◌∷◌, ◌++◌, length, map, IfSome, MatchOption, Option, None, Some, Result, Ok, Err, refl, sym, ap, subst, ◌∙◌}
use Rattle.std.specs.FinMap as finmap
use Rattle.command_words.specs.Task.{Task, Coverage, Consolidate}
use Rattle.cov_base.specs.declared.level.Annotation.{Annotation}
use Rattle.cov_base.specs.declared.level.Annotation.TheVariants.{Report, Xcov, Json}
use Rattle.cov_base.specs.declared.level.Level.{Level}
use Rattle.cov_base.specs.declared.obligations.SourceFile.{SourceFile}
use Rattle.cov_base.specs.Lists.{Somewhere}
use Rattle.cov_io.specs.Outside.{Held, WhereTold, Appends, Replaces}
use Rattle.commands.specs.Content.{Made, Shows, Counts, Reports, ConsolidatesTo}
use Rattle.commands.specs.declared.status.Status.{Status}
use Rattle.commands.specs.declared.status.Status.TheVariants.{Done, ReadFault}
use Rattle.commands.specs.declared.status.FileRef.TheVariants.{Word}
use Rattle.commands.specs.Grouping.{TellSame}
use Rattle.commands.specs.Outcome.{Call, Delivered, Because, Answers}
use Rattle.commands.specs.Regrouping.{AreFiles, PutsReport, WritesOneFile, FilesAreCovered, FilesAreConsolidated, CoversFiles, ConsolidatesFiles, PutSame, WriteSame, CoverageKnowsNoGrouping, ConsolidationKnowsNoGrouping, OneFileStandsForAll}
use Rattle.commands.specs.TaskFiles.{entry_names, held_under, read_for}
use Rattle.commands.specs.Texts.{ShowSame}
use Rattle.commands.specs.Verdict.{Output, AfterRead, AfterObject, AfterTrace, AfterTraces, Covers, Prints, Consolidates, ComesTo}
use Rattle.commands.proofs.ConsolidateLaws.{new_file}
use Rattle.commands.proofs.GroupingLaws.{it_stands, one_consolidation, one_report}
use Rattle.commands.proofs.KeptLaws.{kept_follow}
use Rattle.commands.proofs.RunsLaw.{back, came_to, through}
use Rattle.commands.proofs.TextLaws.{named_under, same_shown}
use Rattle.object_format.specs.declared.object.Object.{Object}
use Rattle.transcript.proofs.Lists.{in_append, in_left, in_right}

-- ---- files that tell the same

-- what is so of an item that is there is so somewhere
found : {X : Type 0} (P : X → Type 0) (x : X) (ys : List X) → P x → Somewhere (λ y. y ≡ x) ys → Somewhere P ys
found P x [] p there = absurd there
found P x (y ∷ ys) p (inl is) = inl (subst P (sym is) p)
found P x (y ∷ ys) p (inr there) = inr (found P x ys p there)

-- what is so somewhere is so in a list that has all these items
moved : {X : Type 0} (P : X → Type 0) (xs ys : List X) → ((x : X) → Somewhere (λ y. y ≡ x) xs → Somewhere (λ y. y ≡ x) ys)
    → Somewhere P xs → Somewhere P ys
moved P [] ys within s = absurd s
moved P (x ∷ xs) ys within (inl here) = found P x ys here (within x (inl refl))
moved P (x ∷ xs) ys within (inr there) = moved P xs ys (λ z later. within z (inr later)) there

-- lists of the same items
moved_both : {X : Type 0} (P : X → Type 0) (xs ys : List X) → ((x : X) → Somewhere (λ y. y ≡ x) xs ↔ Somewhere (λ y. y ≡ x) ys)
    → Somewhere P xs ↔ Somewhere P ys
moved_both P xs ys same = (moved P xs ys (λ x there. (same x).0 there), moved P ys xs (λ x there. (same x).1 there))

-- in any order, and with any repetition
pub same_members : (o : Object) (files others : List (List ℕ))
    → ((bytes : List ℕ) → Somewhere (λ x. x ≡ bytes) files ↔ Somewhere (λ x. x ≡ bytes) others) → TellSame o files others
same_members o files others same = record {
  events = λ e. moved_both (λ bytes. Shows o bytes e) files others same;
  runs = λ d. moved_both (Counts d) files others same;
}

-- a list beside another
beside_both : {X : Type 0} (P : X → Type 0) (a b c d : List X) → Somewhere P a ↔ Somewhere P b → Somewhere P c ↔ Somewhere P d
    → Somewhere P (a ++ c) ↔ Somewhere P (b ++ d)
beside_both P a b c d first second = (
  λ s. ⊎_elim (λ x. in_left P b d (first.0 x)) (λ y. in_right P b d (second.0 y)) (in_append P a c s),
  λ s. ⊎_elim (λ x. in_left P a c (first.1 x)) (λ y. in_right P a c (second.1 y)) (in_append P b d s),
)

pub same_beside : (o : Object) (a b c d : List (List ℕ)) → TellSame o a b → TellSame o c d → TellSame o (a ++ c) (b ++ d)
same_beside o a b c d first second = record {
  events = λ e. beside_both (λ bytes. Shows o bytes e) a b c d (first.events e) (second.events e);
  runs = λ digest. beside_both (Counts digest) a b c d (first.runs digest) (second.runs digest);
}

pub same_back : (o : Object) (a b : List (List ℕ)) → TellSame o a b → TellSame o b a
same_back o a b same = record { events = λ e. back (same.events e); runs = λ d. back (same.runs d) }

pub same_through : (o : Object) (a b c : List (List ℕ)) → TellSame o a b → TellSame o b c → TellSame o a c
same_through o a b c first second = record {
  events = λ e. through (first.events e) (second.events e);
  runs = λ d. through (first.runs d) (second.runs d);
}

same_self : (o : Object) (files : List (List ℕ)) → TellSame o files files
same_self o files = record { events = λ e. (λ s. s, λ s. s); runs = λ d. (λ s. s, λ s. s) }

-- with a part consolidated first
pub part_first : (o : Object) (part others : List (List ℕ)) (made : Made) → ConsolidatesTo o part made
    → TellSame o (part ++ others) (made.file ∷ others)
part_first o part others made f =
    same_beside o part (made.file ∷ []) others others (it_stands o part made f) (same_self o others)

-- ---- what was read

-- an output, as a verdict
abbrev succeeds : Output → Result Output Status
succeeds output = Ok output

-- a file that is there, as an option
abbrev got : List ℕ → Option (List ℕ)
got file = Some file

-- one more file
one_more : (held : Held) (name bytes : List ℕ) (names files : List (List ℕ)) → finmap.get held name ≡ Some bytes → AreFiles held names files
    → AreFiles held (name ∷ names) (bytes ∷ files)
one_more held name bytes names files there are =
    ap (λ (first : Option (List ℕ)). first ∷ map (λ name. finmap.get held name) names) there
    ∙ ap (λ (rest : List (Option (List ℕ))). got bytes ∷ rest) are

-- the file was there, where reading it came to an output
output_of_file : (held : Held) (number : ℕ) (name : List ℕ) (Then : List ℕ → Result Output Status → Type 0) (output : Output)
    → AfterRead held number name Then (Ok output) → (bytes : List ℕ) × (finmap.get held name ≡ Some bytes) × Then bytes (Ok output)
output_of_file held number name Then output says = by_file (finmap.get held name) refl says
  where
    by_file : (file : Option (List ℕ)) → finmap.get held name ≡ file
        → MatchOption file (succeeds output ≡ Err (ReadFault (Word number))) (λ bytes. Then bytes (Ok output))
        → (bytes : List ℕ) × (finmap.get held name ≡ Some bytes) × Then bytes (Ok output)
    by_file None is says = let x : ⊥ = cc says in absurd x
    by_file (Some bytes) is says = (bytes, is, says)

-- a trace that was not refused
not_refused : (number : ℕ) (o : Object) (bytes : List ℕ) (Then : Result Output Status → Type 0) (output : Output)
    → AfterTrace number o bytes Then (Ok output) → Then (Ok output)
not_refused number o bytes Then output (inl refused) = absurd refused
not_refused number o bytes Then output (inr next) = next.1

-- the files that were read
files_read : (held : Held) (o : Object) (number : ℕ) (names : List (List ℕ)) (Then : List (List ℕ) → Result Output Status → Type 0) (output : Output)
    → AfterTraces held o number names Then (Ok output) → (files : List (List ℕ)) × AreFiles held names files × Then files (Ok output)
files_read held o number [] Then output says = ([], refl, says)
files_read held o number (name ∷ names) Then output says =
    let Later : List ℕ → Result Output Status → Type 0 = λ trace. AfterTraces held o (number + 1) names (λ traces. Then (trace ∷ traces)) in
    let first = output_of_file held number name (λ trace. AfterTrace number o trace (Later trace)) output says in
    let rest = files_read held o (number + 1) names (λ traces. Then (first.0 ∷ traces)) output (not_refused number o first.0 (Later first.0) output first.2) in
    (first.0 ∷ rest.0, one_more held name first.0 names rest.0 first.1 rest.1, rest.2)

-- ---- one call

pub files_covered : (task : Option Task) (call : Call) (status : Status) → Answers task call status → FilesAreCovered task call status
unfolding FilesAreCovered
files_covered task call status answers = λ held level annotation object names holds asked is.
    let done : Delivered (Coverage level annotation object names) Done call =
    subst (λ (s : Status). Because (Coverage level annotation object names) call s) is (subst (λ (t : Option Task). Answers t call status) asked answers) in
    λ bytes o there file.
    let comes : AfterRead held 0 object (λ bytes. AfterObject bytes (λ o. AfterTraces held o 1 names (Covers held level annotation o))) (Ok done.output) =
    subst (λ (h : Option Held). IfSome h (λ told. ComesTo told (Coverage level annotation object names) (Ok done.output))) holds done.comes in
    let after = came_to (λ o. AfterTraces held o 1 names (Covers held level annotation o)) o done.output bytes file (rw there at comes) in
    let read = files_read held o 1 names (Covers held level annotation o) done.output after in
    let kept = kept_follow held 0 (read_for annotation o.files) (Prints held level annotation o read.0) done.output read.2 in
    (read.0, read.1, record { text = done.output.text; of_files = kept.says.1; told = done.delivers.text })

pub files_consolidated : (task : Option Task) (call : Call) (status : Status) → Answers task call status → FilesAreConsolidated task call status
unfolding FilesAreConsolidated
files_consolidated task call status answers = λ held object name names holds asked is.
    let done : Delivered (Consolidate object name names) Done call =
    subst (λ (s : Status). Because (Consolidate object name names) call s) is (subst (λ (t : Option Task). Answers t call status) asked answers) in
    λ bytes o there file.
    let comes : AfterRead held 0 object (λ bytes. AfterObject bytes (λ o. AfterTraces held o 1 names (Consolidates name o))) (Ok done.output) =
    subst (λ (h : Option Held). IfSome h (λ told. ComesTo told (Consolidate object name names) (Ok done.output))) holds done.comes in
    let after = came_to (λ o. AfterTraces held o 1 names (Consolidates name o)) o done.output bytes file (rw there at comes) in
    let read = files_read held o 1 names (Consolidates name o) done.output after in (
      read.0,
      read.1,
      record {
        made = record { file = read.2.0; text = done.output.text };
        of_files = read.2.2;
        written = new_file call done.output.file name read.2.0 read.2.1 done.delivers.file;
        told = done.delivers.text;
      },
    )

-- ---- two calls

-- files under the same names are the same
same_items : (xs ys : List (List ℕ)) → map got xs ≡ map got ys → xs ≡ ys
same_items [] [] e = refl
same_items [] (y ∷ ys) e = cc e
same_items (x ∷ xs) [] e = cc e
same_items (x ∷ xs) (y ∷ ys) e =
    let first : got x ≡ got y = cc e in
    let here : x ≡ y = cc first in
    let rest : map got xs ≡ map got ys = cc e in
    ap (λ (z : List ℕ). z ∷ xs) here ∙ ap (λ (zs : List (List ℕ)). y ∷ zs) (same_items xs ys rest)

same_files : (held : Held) (names files others : List (List ℕ)) → AreFiles held names files → AreFiles held names others → files ≡ others
same_files held names files others first second = same_items files others (sym first ∙ second)

-- a call of coverage puts the report of its files
puts_report : (level : Level) (annotation : Annotation) (o : Object) (held : Held) (files : List (List ℕ)) (task : Option Task) (call : Call) (status : Status)
    → FilesAreCovered task call status → CoversFiles level annotation o held files task call status → PutsReport level annotation o held files call
unfolding FilesAreCovered
puts_report level annotation o held files task call status clause is =
    let told = clause held level annotation is.object is.names is.is_held is.asked is.done is.bytes o is.there is.is_file in
    subst (λ (fs : List (List ℕ)). PutsReport level annotation o held fs call) (same_files held is.names told.0 files told.1 is.are) told.2

-- a call of consolidate writes the one file of its files
writes_file : (name : List ℕ) (o : Object) (held : Held) (files : List (List ℕ)) (task : Option Task) (call : Call) (status : Status)
    → FilesAreConsolidated task call status → ConsolidatesFiles name o held files task call status → WritesOneFile o files name call
unfolding FilesAreConsolidated
writes_file name o held files task call status clause is =
    let told = clause held is.object name is.names is.is_held is.asked is.done is.bytes o is.there is.is_file in
    subst (λ (fs : List (List ℕ)). WritesOneFile o fs name call) (same_files held is.names told.0 files told.1 is.are) told.2

-- what is shown of the sources is the same
shown_same : (annotation : Annotation) (held other : Held) (names : List (List ℕ)) → (annotation ≡ Xcov → held_under held names ≡ held_under other names)
    → ShowSame annotation (held_under held names) (held_under other names)
shown_same Report held other names same = named_under held names ∙ sym (named_under other names)
shown_same Xcov held other names same = same refl
shown_same Json held other names same = named_under held names ∙ sym (named_under other names)

-- a report over sources is that over others of which the same is shown
report_moved : (level : Level) (annotation : Annotation) (o : Object) (sources others : List SourceFile) (files : List (List ℕ)) (text : List ℕ)
    → ShowSame annotation sources others → Reports level annotation o sources files text → Reports level annotation o others files text
report_moved level annotation o sources others files text same f = record {
  fit = f.fit;
  report = record {
    events = f.report.events;
    digests = f.report.digests;
    all_events = f.report.all_events;
    all_digests = f.report.all_digests;
    each_once = f.report.each_once;
    told = f.report.told ∙ same_shown annotation level o.obligations (length f.report.digests) f.report.events sources others same;
  };
}

-- both texts are one
both_put : (call other : Call) (a b : List ℕ) → a ≡ b → WhereTold (Appends a) call.written call.written_after
    → WhereTold (Appends b) other.written other.written_after → PutSame call other
both_put call other a b same first second =
    (b, subst (λ (text : List ℕ). WhereTold (Appends text) call.written call.written_after) same first, second)

-- both files are one
both_written : (name other_name : List ℕ) (call other : Call) (a b : List ℕ) → a ≡ b → WhereTold (Replaces name a) call.held call.held_after
    → WhereTold (Replaces other_name b) other.held other.held_after → WriteSame name other_name call other
both_written name other_name call other a b same first second =
    (b, subst (λ (bytes : List ℕ). WhereTold (Replaces name bytes) call.held call.held_after) same first, second)

pub coverage_regrouped : (task : Option Task) (call : Call) (status : Status) → FilesAreCovered task call status → CoverageKnowsNoGrouping task call status
unfolding CoverageKnowsNoGrouping
coverage_regrouped task call status clause = λ level annotation o held files is other_task other other_status other_clause other_held others also sources same.
    let first = puts_report level annotation o held files task call status clause is in
    let second = puts_report level annotation o other_held others other_task other other_status other_clause also in
    let moved_first = report_moved level annotation o (held_under held (entry_names o.files)) (held_under other_held (entry_names o.files)) files first.text
    (shown_same annotation held other_held (entry_names o.files) sources) first.of_files in
    both_put call other first.text second.text
    (one_report level annotation o files others (held_under other_held (entry_names o.files)) first.text second.text same moved_first second.of_files)
    first.told second.told

pub consolidation_regrouped : (task : Option Task) (call : Call) (status : Status) → FilesAreConsolidated task call status → ConsolidationKnowsNoGrouping task call status
unfolding ConsolidationKnowsNoGrouping
consolidation_regrouped task call status clause = λ name o held files is other_task other other_status other_clause other_name other_held others also same.
    let first = writes_file name o held files task call status clause is in
    let second = writes_file other_name o other_held others other_task other other_status other_clause also in
    let one = one_consolidation o files others first.made second.made same first.of_files second.of_files in (
      both_written name other_name call other first.made.file second.made.file (ap (λ (m : Made). m.file) one) first.written second.written,
      both_put call other first.made.text second.made.text (ap (λ (m : Made). m.text) one) first.told second.told,
    )

pub file_stands : (task : Option Task) (call : Call) (status : Status) → FilesAreConsolidated task call status → OneFileStandsForAll task call status
unfolding OneFileStandsForAll
file_stands task call status clause = λ name o held part is.
    let wrote = writes_file name o held part task call status clause is in
    (wrote.made.file, wrote.written, λ others. part_first o part others wrote.made wrote.of_files)

pub coverage_law : (task : Option Task) (call : Call) (status : Status) → Answers task call status → CoverageKnowsNoGrouping task call status
coverage_law task call status answers = coverage_regrouped task call status (files_covered task call status answers)

pub consolidation_law : (task : Option Task) (call : Call) (status : Status) → Answers task call status → ConsolidationKnowsNoGrouping task call status
consolidation_law task call status answers = consolidation_regrouped task call status (files_consolidated task call status answers)
