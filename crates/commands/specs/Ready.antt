-- What a command made, before anything is written or put.
use Rattle.std.specs.Prelude.{◌≡◌, ◌⊎◌, ℕ, List, Option, None, Some, IfSome, Result, Ok, Err, option_map, unwrap_or, string_bytes}
use Rattle.command_words.specs.Task.{Task}
use Rattle.commands.specs.declared.ready.Ready.{Ready}
use Rattle.commands.specs.declared.ready.ReadyFile.{ReadyFile}
use Rattle.commands.specs.declared.status.FileRef.{FileRef}
use Rattle.commands.specs.declared.status.FileRef.TheVariants.{Word, Source}
use Rattle.commands.specs.declared.status.Refusal.{Refusal}
use Rattle.commands.specs.declared.status.Status.{Status}
use Rattle.commands.specs.declared.status.Status.TheVariants.{SourceChanged, ReadFault, WantOfMemory}
use Rattle.commands.specs.TaskFiles.{name_in_place, sources_of}
use Rattle.commands.specs.Verdict.{NewFile, Output, word_for}
use Rattle.cov_io.specs.Outside.{Held}

abbrev pub file_view : ReadyFile → NewFile
file_view file = record { name = file.name.now; bytes = file.bytes.items }

abbrev pub output_view : Ready → Output
output_view ready = record { file = option_map file_view ready.file; text = ready.text.items }

abbrev pub verdict_view : Result Ready Status → Result Output Status
verdict_view (Ok ready) = Ok (output_view ready)
verdict_view (Err status) = Err status

-- ---- refusals

-- the same where a refusal tells a name besides
abbrev pub answer_view : Result Ready Refusal → Result Output Status
answer_view (Ok ready) = Ok (output_view ready)
answer_view (Err refusal) = Err refusal.status

-- the name of a source that a refusal tells
abbrev pub source_told : Refusal → Option (List ℕ)
source_told refusal = option_map string_bytes refusal.source

-- the name in the line of a refusal: that of the source, or else what the words give
abbrev pub told_name : Task → Refusal → List ℕ
told_name task refusal = unwrap_or (source_told refusal) (word_for task refusal.status)

-- a refusal of a source with these names has that name, and any other has none
abbrev pub FileIsTold : (names : List (List ℕ)) → FileRef → Option (List ℕ) → Type 0
FileIsTold names (Word place) source = source ≡ None
FileIsTold names (Source number) source = source ≡ Some (name_in_place names number)

abbrev pub SourceIsTold : (names : List (List ℕ)) → Status → Option (List ℕ) → Type 0
SourceIsTold names (ReadFault file) source = FileIsTold names file source
SourceIsTold names (SourceChanged number) source = FileIsTold names (Source number) source
SourceIsTold names status source = source ≡ None

abbrev pub TellsSource : (names : List (List ℕ)) → Refusal → Type 0
TellsSource names refusal = SourceIsTold names refusal.status (source_told refusal)

-- the same of the one source with this number and name
abbrev pub OneFileIsTold : (number : ℕ) (name : List ℕ) → FileRef → Option (List ℕ) → Type 0
OneFileIsTold number name (Word place) source = source ≡ None
OneFileIsTold number name (Source other) source = (other ≡ number) × (source ≡ Some name)

abbrev pub OneSourceIsTold : (number : ℕ) (name : List ℕ) → Status → Option (List ℕ) → Type 0
OneSourceIsTold number name (ReadFault file) source = OneFileIsTold number name file source
OneSourceIsTold number name (SourceChanged other) source = OneFileIsTold number name (Source other) source
OneSourceIsTold number name status source = source ≡ None

abbrev pub TellsOneSource : (number : ℕ) (name : List ℕ) → Refusal → Type 0
TellsOneSource number name refusal = OneSourceIsTold number name refusal.status (source_told refusal)

-- the refusal has this status and this name of a source, or memory was refused
abbrev pub IsOfSource : Status → (name : List ℕ) → Refusal → Type 0
IsOfSource status name refusal =
    ((refusal.status ≡ status) × (source_told refusal ≡ Some name))
    ⊎ ((refusal.status ≡ WantOfMemory) × (source_told refusal ≡ None))

-- the same of the sources that a task reads, whatever names these have where the files don't tell
pub record TellsSourceOf (task : Task) (held : Option Held) (refusal : Refusal) : Type 0 where
  pub names : List (List ℕ)
  pub are : IfSome held (λ told. names ≡ sources_of told task)
  pub tells : TellsSource names refusal
