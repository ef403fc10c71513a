-- A use can always go on.
use Rattle.std.proofs.Common.{◌≡◌, ℕ, ◌+◌, ◌*◌, ◌≤◌, ℤ, List, [], ◌∷◌, map, Option, Some, IfSome, refl, sym, ap, subst, ◌∙◌}
use Rattle.std.specs.Str.{str_to_ascii_lowercase}
use Rattle.std.specs.FinMap as finmap
use Rattle.ada_meaning.specs.Execution.{Execution, Ends}
use Rattle.ada_meaning.specs.Program.{Program}
use Rattle.ada_rules.specs.Legal.{legal, checked}
use Rattle.ada_syntax.specs.declared.unit.Unit.{Unit as LibraryUnit}
use Rattle.command_words.specs.Task.{Run, Coverage, Consolidate}
use Rattle.cov_base.specs.declared.level.Annotation.{Annotation}
use Rattle.cov_base.specs.declared.level.Annotation.TheVariants.{Xcov}
use Rattle.cov_base.specs.declared.level.Level.{Level}
use Rattle.cov_base.specs.declared.obligations.SourceFile.{SourceFile}
use Rattle.cov_base.specs.Lists.{Everywhere}
use Rattle.cov_io.specs.Outside.{Held, Holds}
use Rattle.commands.specs.Complete.{NothingFails, IsDone, ProgramsRun, TracesAreCovered, TracesAreConsolidated, SourcesAreThere}
use Rattle.commands.specs.Content.{IsInputOf}
use Rattle.commands.specs.Leaves.{LeavesObject}
use Rattle.commands.specs.Reading.{AreKept}
use Rattle.commands.specs.TaskFiles.{AreHeld}
use Rattle.object_format.specs.File.{object_bytes}
use Rattle.program_objects.proofs.Refusals.{one_program}
use Rattle.program_objects.specs.Legal.{IsLegal}
use Rattle.program_objects.specs.Source.{entry_of_file}
use Rattle.user_calls.specs.Calls.{ACall, IsMade}
use Rattle.user_calls.specs.GoesOn.{AreProgramOf, SourcesStay, AUseGoesOn}
use Rattle.user_calls.proofs.WayLaws.{moved, left_object, AreKnown, standing, files_known}

-- ---- sources are one program

same_verdict : (p q : Program) → legal p ≡ legal q → p ≡ q
same_verdict p q is = cc is

pub one_meaning : (files : List SourceFile) (main : List ℕ) (p q : Program) → IsLegal files main p → IsLegal files main q → p ≡ q
one_meaning files main p q first second =
    same_verdict p q
    (sym first.program.legal
    ∙ ap (λ (units : List LibraryUnit). checked units (str_to_ascii_lowercase main)) (one_program files first.units second.units first.parsed second.parsed)
    ∙ second.program.legal)

-- files of the same names that are held are the same
one_file : (x y : SourceFile) (held : Held) → x.name ≡ y.name → Holds x.name x.bytes held → Holds y.name y.bytes held → x ≡ y
one_file x y held named first second =
    let bytes : x.bytes ≡ y.bytes =
    moved (λ (bs : List ℕ). x.bytes ≡ bs) (finmap.get held y.name) x.bytes y.bytes
    (subst (λ (n : List ℕ). finmap.get held n ≡ Some x.bytes) named first) second refl in
    λ k. record { name = named k; bytes = bytes k }

same_files : (xs ys : List SourceFile) (held : Held) → map (λ source. source.name) xs ≡ map (λ source. source.name) ys → AreHeld held xs → AreHeld held ys → xs ≡ ys
same_files [] [] held named first second = refl
same_files [] (y ∷ ys) held named first second = absurd (let x : ⊥ = cc named in x)
same_files (x ∷ xs) [] held named first second = absurd (let y : ⊥ = cc named in y)
same_files (x ∷ xs) (y ∷ ys) held named first second =
    let front : x.name ≡ y.name = cc named in
    let rest : map (λ (source : SourceFile). source.name) xs ≡ map (λ (source : SourceFile). source.name) ys = cc named in
    let one : x ≡ y = one_file x y held front first.0 second.0 in
    let others : xs ≡ ys = same_files xs ys held rest first.1 second.1 in
    ap (λ (f : SourceFile). f ∷ xs) one ∙ ap (λ (fs : List SourceFile). y ∷ fs) others

-- the program that the sources are is that of the object
same_program : (main object : List ℕ) (names : List (List ℕ)) (held : Held) (first : ACall) (left : LeavesObject main object names held first.call)
    (sources : List SourceFile) (p : Program) → AreProgramOf main names held sources p → p ≡ left.program
same_program main object names held first left sources p are =
    let same = same_files sources left.sources held (are.named ∙ sym left.named) are.read left.read in
    one_meaning left.sources main p left.program (subst (λ (fs : List SourceFile). IsLegal fs main p) same are.legal) left.of_program.legal

-- ---- sources that stayed are there

are_kept : (sources : List SourceFile) (held now : Held) → AreHeld held sources
    → Everywhere (λ name. finmap.get now name ≡ finmap.get held name) (map (λ source. source.name) sources)
    → AreKept now (map entry_of_file sources)
are_kept [] held now read stay = tt
are_kept (source ∷ sources) held now read stay =
    ((source.bytes, stay.0 ∙ read.0, refl), are_kept sources held now read.1 stay.1)

sources_there : (annotation : Annotation) (sources : List SourceFile) (names : List (List ℕ)) (held now : Held) (there : Option Held)
    → map (λ source. source.name) sources ≡ names → AreHeld held sources → there ≡ Some now
    → ((annotation ≡ Xcov) → IfSome there (λ now. Everywhere (λ name. finmap.get now name ≡ finmap.get held name) names))
    → SourcesAreThere annotation now sources
sources_there annotation sources names held now there named read is stay = λ form.
    let stands : Everywhere (λ name. finmap.get now name ≡ finmap.get held name) names =
    subst (λ (h : Option Held). IfSome h (λ now. Everywhere (λ name. finmap.get now name ≡ finmap.get held name) names)) is (stay form) in
    are_kept sources held now read
    (subst (λ (ns : List (List ℕ)). Everywhere (λ name. finmap.get now name ≡ finmap.get held name) ns) (sym named) stands)

-- ---- the three kinds of calls

run_goes_on : (main object : List ℕ) (names : List (List ℕ)) (held now : Held) (first last : ACall) (left : LeavesObject main object names held first.call)
    → IsMade last → last.call.held ≡ Some now → Holds object (object_bytes left.made) now → NothingFails last.call
    → (input : List ℕ) (budget : ℕ) (trace : List ℕ) → last.task ≡ Some (Run input budget trace object)
    → (told : Held) (bytes : List ℕ) (numbers : List ℤ) → last.call.held ≡ Some told → Holds input bytes told → IsInputOf numbers bytes
    → (sources : List SourceFile) (p : Program) → AreProgramOf main names held sources p
    → (x : Execution) → Ends p numbers x → 500 * x.cost + 5000 ≤ budget → IsDone last.status
unfolding ProgramsRun
run_goes_on main object names held now first last left made is there fine input budget trace asked told bytes numbers also holds reads sources p are x ends enough =
    made.ends told input trace object budget also asked fine left.sources main left.program left.made left.of_program left.cheap
    (moved (Holds object (object_bytes left.made)) last.call.held now told is also there) bytes numbers holds reads x
    (subst (λ (q : Program). Ends q numbers x) (same_program main object names held first left sources p are) ends) enough

covers_goes_on : (main object : List ℕ) (names : List (List ℕ)) (held now : Held) (first last : ACall) (left : LeavesObject main object names held first.call)
    → IsMade last → last.call.held ≡ Some now → Holds object (object_bytes left.made) now → NothingFails last.call
    → (level : Level) (annotation : Annotation) (files : List (List ℕ)) → last.task ≡ Some (Coverage level annotation object files)
    → (inputs : List (List ℤ)) → AreKnown left.made now files inputs → SourcesStay annotation names held last.call → IsDone last.status
unfolding TracesAreCovered
covers_goes_on main object names held now first last left made is there fine level annotation files asked inputs are stay =
    made.covers now level annotation object files is asked fine left.sources main left.program left.made left.of_program there
    (sources_there annotation left.sources names held now last.call.held left.named left.read is stay) are.runs are.traces are.fit

consolidates_goes_on : (main object : List ℕ) (names : List (List ℕ)) (held now : Held) (first last : ACall) (left : LeavesObject main object names held first.call)
    → IsMade last → last.call.held ≡ Some now → Holds object (object_bytes left.made) now → NothingFails last.call
    → (name : List ℕ) (files : List (List ℕ)) → last.task ≡ Some (Consolidate object name files)
    → (inputs : List (List ℤ)) → AreKnown left.made now files inputs → IsDone last.status
unfolding TracesAreConsolidated
consolidates_goes_on main object names held now first last left made is there fine name files asked inputs are =
    made.consolidates now object name files is asked fine left.sources main left.program left.made left.of_program there are.runs are.traces are.fit

pub goes_on_law : AUseGoesOn
unfolding AUseGoesOn
goes_on_law = λ main object names held first calls it last next fine.
    let left = left_object main object names held first calls it in
    let there = standing main object names held first calls it left in
    let is : last.call.held ≡ Some there.now = next.1 ∙ there.is in
    record {
      runs = λ input budget trace asked now bytes numbers also holds reads sources p are x ends enough.
          run_goes_on main object names held there.now first last left next.0 is there.there fine input budget trace asked now bytes numbers also holds reads sources p are x ends enough;
      covers = λ level annotation files asked inputs together stay.
          covers_goes_on main object names held there.now first last left next.0 is there.there fine level annotation files asked inputs
          (files_known main object names held first calls it left there files inputs together) stay;
      consolidates = λ name files asked inputs together.
          consolidates_goes_on main object names held there.now first last left next.0 is there.there fine name files asked inputs
          (files_known main object names held first calls it left there files inputs together);
    }
