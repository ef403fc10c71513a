-- The files that a task reads and writes.
use Rattle.std.specs.Prelude.{◌≡◌, ℕ, ◌<◌, List, [], ◌∷◌, length, map, unwrap_or, slice_get, Option, None, Some, IfSome, Result, Ok, Err}
use Rattle.std.specs.FinMap as finmap
use Rattle.command_words.specs.Task.{Task, Compile, Run, Coverage, Consolidate}
use Rattle.cov_base.specs.declared.level.Annotation.{Annotation}
use Rattle.cov_base.specs.declared.level.Annotation.TheVariants.{Report, Xcov, Json}
use Rattle.cov_base.specs.declared.obligations.SourceFile.{SourceFile}
use Rattle.cov_base.specs.Lists.{Everywhere}
use Rattle.cov_io.specs.Outside.{Held, Holds}
use Rattle.commands.specs.declared.status.FileRef.{FileRef}
use Rattle.commands.specs.declared.status.FileRef.TheVariants.{Word, Source}
use Rattle.object_format.specs.declared.fault.ObjectFault.{ObjectFault}
use Rattle.object_format.specs.declared.object.FileEntry.{FileEntry}
use Rattle.object_format.specs.declared.object.Object.{Object}
use Rattle.object_format.specs.File.{structured}

-- ---- files that the words name

-- their names, in the order of reading
abbrev pub files_of : Task → List (List ℕ)
files_of (Compile main object sources) = sources
files_of (Run input budget trace object) = object ∷ input ∷ []
files_of (Coverage level annotation object traces) = object ∷ traces
files_of (Consolidate object output traces) = object ∷ traces

-- the name of the file that a task writes, where it writes one
abbrev pub output_of : Task → Option (List ℕ)
output_of (Compile main object sources) = Some object
output_of (Run input budget trace object) = Some trace
output_of (Coverage level annotation object traces) = None
output_of (Consolidate object output traces) = Some output

-- each of these sources has the bytes that the file of its name holds
abbrev pub AreHeld : Held → List SourceFile → Type 0
AreHeld told sources = Everywhere (λ source. Holds source.name source.bytes told) sources

-- ---- files that the object names

-- of the sources that an object lists, those that coverage in this form reads: all that are to be annotated
abbrev pub read_for : Annotation → List FileEntry → List FileEntry
read_for Report entries = []
read_for Xcov entries = entries
read_for Json entries = []

-- their names
abbrev pub entry_names : List FileEntry → List (List ℕ)
entry_names entries = map (λ entry. entry.name) entries

-- the same of the object in a file's bytes, if it is one
abbrev pub names_in : Annotation → Result Object ObjectFault → List (List ℕ)
names_in annotation (Ok o) = entry_names (read_for annotation o.files)
names_in annotation (Err fault) = []

-- and of that file, if it is there
abbrev pub names_read : Annotation → Option (List ℕ) → List (List ℕ)
names_read annotation None = []
names_read annotation (Some bytes) = names_in annotation (structured bytes)

-- the names of the sources that a task reads behind the files that its words name
abbrev pub sources_of : Held → Task → List (List ℕ)
sources_of told (Coverage level annotation object traces) = names_read annotation (finmap.get told object)
sources_of told (Compile main object sources) = []
sources_of told (Run input budget trace object) = []
sources_of told (Consolidate object output traces) = []

-- the files of these names, with the bytes that are held under them
abbrev pub held_under : Held → List (List ℕ) → List SourceFile
held_under told names = map (λ name. record { name = name; bytes = unwrap_or (finmap.get told name) [] }) names

-- the task prints annotated sources
abbrev pub ShowsSources : Task → Type 0
ShowsSources (Coverage level annotation object traces) = annotation ≡ Xcov
ShowsSources (Compile main object sources) = ⊥
ShowsSources (Run input budget trace object) = ⊥
ShowsSources (Consolidate object output traces) = ⊥

-- ---- either

-- the name in a place; none has a name beyond
abbrev pub name_in_place : List (List ℕ) → (place : ℕ) → List ℕ
name_in_place names place = unwrap_or (slice_get names place) []

-- the task reads this file
abbrev pub IsRead : Option Held → Task → FileRef → Type 0
IsRead held task (Word place) = place < length (files_of task)
IsRead held task (Source number) = ShowsSources task × IfSome held (λ told. number < length (sources_of told task))

-- this is the file's name: of a source, where the files tell what they hold, the one that the object has
abbrev pub IsNameOf : Option Held → Task → FileRef → (name : List ℕ) → Type 0
IsNameOf held task (Word place) name = name ≡ name_in_place (files_of task) place
IsNameOf held task (Source number) name = IfSome held (λ told. name ≡ name_in_place (sources_of told task) number)
