-- What a task comes to on what the files hold, where nothing outside fails and memory suffices.
use Rattle.std.specs.Prelude.{◌≡◌, ◌≢◌, ◌⊎◌, ℕ, ◌+◌, ℤ, List, [], ◌∷◌, Option, None, Some, MatchOption, Result, Err, MatchResult, IsOkAnd, IsErrAnd}
use Rattle.std.specs.FinMap as finmap
use Rattle.cov_base.specs.declared.level.Annotation.{Annotation}
use Rattle.cov_base.specs.declared.level.Level.{Level}
use Rattle.cov_base.specs.declared.obligations.SourceFile.{SourceFile}
use Rattle.command_words.specs.Task.{Task, Compile, Run, Coverage, Consolidate}
use Rattle.cov_io.specs.Outside.{Held, Holds}
use Rattle.commands.specs.Content.{Made, IsFileOf, RefusesSources, CompilesTo, RefusesObject, IsInputOf, RefusesInput, StopsRun, RunsTo, IsTraceFor, RefusesTrace, Reports, ConsolidatesTo}
use Rattle.commands.specs.declared.status.FileRef.{FileRef}
use Rattle.commands.specs.declared.status.FileRef.TheVariants.{Word, Source}
use Rattle.commands.specs.declared.status.Status.{Status}
use Rattle.commands.specs.declared.status.Status.TheVariants.{SourceRefused, SourceChanged, ReadFault}
use Rattle.commands.specs.TaskFiles.{entry_names, files_of, held_under, name_in_place, read_for, IsNameOf}
use Rattle.object_format.specs.declared.object.FileEntry.{FileEntry}
use Rattle.object_format.specs.declared.object.Object.{Object}
use Rattle.sha2.specs.Sha256.{sha256}

-- a file to be written
pub record NewFile : Type 0 where
  pub name : List ℕ
  pub bytes : List ℕ

-- what a command writes, if it does, and puts
pub record Output : Type 0 where
  pub file : Option NewFile
  pub text : List ℕ

-- a file is there, and what follows holds of its bytes; or it is not, and that is the answer
abbrev pub AfterFile : Held → FileRef → List ℕ → (List ℕ → Result Output Status → Type 0) → Result Output Status → Type 0
AfterFile held file name Then verdict =
    MatchOption (finmap.get held name) (verdict ≡ Err (ReadFault file)) (λ bytes. Then bytes verdict)

-- the same of a file that the words name, in this place
abbrev pub AfterRead : Held → ℕ → List ℕ → (List ℕ → Result Output Status → Type 0) → Result Output Status → Type 0
AfterRead held place = AfterFile held (Word place)

-- the bytes are those of an object, and what follows holds of it; or they are none, and that is the answer
abbrev pub AfterObject : List ℕ → (Object → Result Output Status → Type 0) → Result Output Status → Type 0
AfterObject bytes Then verdict =
    IsErrAnd verdict (RefusesObject bytes) ⊎ ((o : Object) × IsFileOf o bytes × Then o verdict)

-- the output writes this file
abbrev pub Writes : List ℕ → Output → (Made → Type 0) → Type 0
Writes name output Says =
    (bytes : List ℕ) × (output.file ≡ Some (record { name = name; bytes = bytes })) × Says (record { file = bytes; text = output.text })

-- the files of these names are read one after another, the first in this place, and what follows holds of all of them,
-- as sources; nothing is checked before the last is read
abbrev pub AfterSources : Held → (place : ℕ) → (names : List (List ℕ))
    → (List SourceFile → Result Output Status → Type 0) → Result Output Status → Type 0
AfterSources held place [] Then verdict = Then [] verdict
AfterSources held place (name ∷ names) Then verdict =
    AfterRead held place name
    (λ bytes. AfterSources held (place + 1) names (λ others. Then (record { name = name; bytes = bytes } ∷ others)))
    verdict

-- the sources were read
abbrev pub Compiles : (main object : List ℕ) → List SourceFile → Result Output Status → Type 0
Compiles main object sources verdict =
    MatchResult verdict (λ output. Writes object output (CompilesTo main sources)) (RefusesSources main sources)

-- the bytes are an input, and what follows holds of its numbers; or they are none, and that is the answer
abbrev pub AfterInput : List ℕ → (List ℤ → Result Output Status → Type 0) → Result Output Status → Type 0
AfterInput bytes Then verdict = IsErrAnd verdict (RefusesInput bytes) ⊎ ((input : List ℤ) × IsInputOf input bytes × Then input verdict)

-- the object and the input were read
abbrev pub RunsOn : (trace : List ℕ) → (budget : ℕ) → Object → (input : List ℤ) → Result Output Status → Type 0
RunsOn trace budget o input verdict = MatchResult verdict (λ output. Writes trace output (RunsTo o budget input)) (StopsRun o budget input)

-- the bytes are a trace for the object, and what follows holds; or they are none, and that is the answer
abbrev pub AfterTrace : (number : ℕ) → Object → (trace : List ℕ) → (Result Output Status → Type 0) → Result Output Status → Type 0
AfterTrace number o trace Then verdict = IsErrAnd verdict (RefusesTrace number o trace) ⊎ (IsTraceFor o trace × Then verdict)

-- the traces of these names are read and checked one after another, the first with this number, and what follows holds of all of them
abbrev pub AfterTraces : Held → Object → (number : ℕ) → (names : List (List ℕ)) → (List (List ℕ) → Result Output Status → Type 0) → Result Output Status → Type 0
AfterTraces held o number [] Then verdict = Then [] verdict
AfterTraces held o number (name ∷ names) Then verdict =
    AfterRead held number name
    (λ trace. AfterTrace number o trace (AfterTraces held o (number + 1) names (λ traces. Then (trace ∷ traces))))
    verdict

-- the source that an object lists under this number has the digest that it keeps, and what follows holds; or it has
-- another, and that is the answer
abbrev pub AfterDigest : (number : ℕ) → FileEntry → (source : List ℕ) → (Result Output Status → Type 0) → Result Output Status → Type 0
AfterDigest number entry source Then verdict =
    ((sha256 source ≢ entry.sha256) × (verdict ≡ Err (SourceChanged number))) ⊎ ((sha256 source ≡ entry.sha256) × Then verdict)

-- these sources are read and checked one after another, the first with this number, and what follows holds
abbrev pub AfterKept : Held → (number : ℕ) → List FileEntry → (Result Output Status → Type 0) → Result Output Status → Type 0
AfterKept held number [] Then verdict = Then verdict
AfterKept held number (entry ∷ entries) Then verdict =
    AfterFile held (Source number) entry.name
    (λ source. AfterDigest number entry source (AfterKept held (number + 1) entries Then))
    verdict

-- all files were read, and this is printed of them
abbrev pub Prints : Held → Level → Annotation → Object → List (List ℕ) → Result Output Status → Type 0
Prints held level annotation o traces verdict =
    IsOkAnd verdict (λ output. (output.file ≡ None)
    × Reports level annotation o (held_under held (entry_names o.files)) traces output.text)

-- the object and the traces were read
abbrev pub Covers : Held → Level → Annotation → Object → List (List ℕ) → Result Output Status → Type 0
Covers held level annotation o traces = AfterKept held 0 (read_for annotation o.files) (Prints held level annotation o traces)

-- the object and the traces were read, and the file is to have this name
abbrev pub Consolidates : (name : List ℕ) → Object → List (List ℕ) → Result Output Status → Type 0
Consolidates name o traces verdict = IsOkAnd verdict (λ output. Writes name output (ConsolidatesTo o traces))

-- what the task comes to
abbrev pub ComesTo : Held → Task → Result Output Status → Type 0
ComesTo held (Compile main object sources) verdict = AfterSources held 0 sources (Compiles main object) verdict
ComesTo held (Run input budget trace object) verdict =
    AfterRead held 0 object
    (λ bytes. AfterObject bytes (λ o. AfterRead held 1 input (λ bytes. AfterInput bytes (RunsOn trace budget o))))
    verdict
ComesTo held (Coverage level annotation object traces) verdict =
    AfterRead held 0 object (λ bytes. AfterObject bytes (λ o. AfterTraces held o 1 traces (Covers held level annotation o))) verdict
ComesTo held (Consolidate object output traces) verdict =
    AfterRead held 0 object (λ bytes. AfterObject bytes (λ o. AfterTraces held o 1 traces (Consolidates output o))) verdict

-- ---- names

-- the name that the words give to a file; they give none to a source that the object names
abbrev pub word_of : Task → FileRef → List ℕ
word_of task (Word place) = name_in_place (files_of task) place
word_of task (Source number) = []

-- and to the file that a status tells of
abbrev pub word_for : Task → Status → List ℕ
word_for task (SourceRefused file line col why) = word_of task (Word file)
word_for task (ReadFault file) = word_of task file
word_for task status = []

-- this is the name in the line that tells a status
abbrev pub TellsName : Option Held → Task → Status → (name : List ℕ) → Type 0
TellsName held task (ReadFault file) name = IsNameOf held task file name
TellsName held task (SourceChanged number) name = IsNameOf held task (Source number) name
TellsName held task status name = name ≡ word_for task status
