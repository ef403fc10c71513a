-- What reading files says.
use Rattle.std.specs.Prelude.{◌≡◌, ◌≢◌, ℕ, ◌+◌, List, [], ◌∷◌, ◌++◌, length, map, take, Option, IfSome, IsSomeAnd, ◌⊎◌}
use Rattle.std.specs.FinMap as finmap
use Rattle.cov_base.specs.declared.level.Annotation.{Annotation}
use Rattle.cov_base.specs.declared.obligations.SourceFile.{SourceFile}
use Rattle.cov_io.specs.Outside.{Held, Holds, Rose, IsAbsent}
use Rattle.cov_base.specs.Lists.{Everywhere}
use Rattle.commands.specs.Content.{IsTraceFor, IsRunTraceFor, RefusesTrace, RefusesRunTrace}
use Rattle.commands.specs.Covering.{Adds, AddsRun}
use Rattle.commands.specs.declared.status.Status.{Status}
use Rattle.commands.specs.declared.status.Status.TheVariants.{WantOfMemory, ReadFault, SourceChanged, TraceRefused}
use Rattle.commands.specs.declared.status.TraceWhy.{TraceWhy}
use Rattle.commands.specs.declared.status.FileRef.{FileRef}
use Rattle.commands.specs.declared.status.FileRef.TheVariants.{Word, Source}
use Rattle.commands.specs.TaskFiles.{AreHeld, entry_names, held_under, read_for}
use Rattle.commands.specs.Texts.{names_of, ShowSame}
use Rattle.coverage_set.specs.Covered.{Covered}
use Rattle.object_format.specs.declared.object.FileEntry.{FileEntry}
use Rattle.object_format.specs.declared.object.Object.{Object}
use Rattle.sha2.specs.Sha256.{sha256}
use Rattle.trace_format.specs.Stream.{AreTold}

-- why this file, which has this name, was not read
abbrev pub IsFileUnread : FileRef → List ℕ → Option Held → ℕ → ℕ → Status → Type 0
IsFileUnread file name held reads reads' status =
    (status ≡ WantOfMemory) ⊎ ((status ≡ ReadFault file) × (Rose reads reads' ⊎ IsAbsent held name))

-- why the file in this place was not read
abbrev pub IsUnread : ℕ → List ℕ → Option Held → ℕ → ℕ → Status → Type 0
IsUnread place = IsFileUnread (Word place)

-- the answer of a check, unless memory was refused
abbrev pub UnlessMemory : (Status → Type 0) → Status → Type 0
UnlessMemory Says status = (status ≡ WantOfMemory) ⊎ Says status

-- ---- sources

-- where the files tell what they hold, each of these sources has the bytes of the file of its name
abbrev pub WereHeld : Option Held → List SourceFile → Type 0
WereHeld held sources = IfSome held (λ told. AreHeld told sources)

-- the files of these names were read, and are these sources
pub record WereSources (names : List (List ℕ)) (held : Option Held) (sources : List SourceFile) : Type 0 where
  pub named : map (λ source. source.name) sources ≡ names
  pub read : WereHeld held sources

-- one of the files of these names, the first in place 0, was not read, and those before it were
pub record StopsReading (names : List (List ℕ)) (held : Option Held) (reads reads' : ℕ) (status : Status) : Type 0 where
  pub earlier : List SourceFile
  pub name : List ℕ
  pub later : List (List ℕ)
  pub are : names ≡ map (λ source. source.name) earlier ++ (name ∷ later)
  pub read : WereHeld held earlier
  pub unread : IsUnread (length earlier) name held reads reads' status

-- ---- sources that an object lists

-- the file of a source that an object lists is there, with the digest that the object keeps
abbrev pub IsKept : Held → FileEntry → Type 0
IsKept told entry = (bytes : List ℕ) × Holds entry.name bytes told × (sha256 bytes ≡ entry.sha256)

abbrev pub AreKept : Held → List FileEntry → Type 0
AreKept told entries = Everywhere (IsKept told) entries

-- these sources were read as the object lists them; where the files tell what they hold, each has its digest
pub record WereKept (entries : List FileEntry) (held : Option Held) (sources : List SourceFile) : Type 0 where
  pub named : names_of sources ≡ entry_names entries
  pub read : IfSome held (λ told. AreKept told entries × (sources ≡ held_under told (entry_names entries)))

-- the same of the sources that coverage in a form shows, of which it reads those that it annotates
pub record WereShown (annotation : Annotation) (entries : List FileEntry) (held : Option Held) (sources : List SourceFile) : Type 0 where
  pub named : names_of sources ≡ entry_names entries
  pub read : IfSome held (λ told. AreKept told (read_for annotation entries)
      × ShowSame annotation sources (held_under told (entry_names entries)))

-- the source with this number has another digest than the object keeps
abbrev pub IsChanged : ℕ → FileEntry → Option Held → ℕ → ℕ → Status → Type 0
IsChanged number entry held reads reads' status =
    (status ≡ SourceChanged number) × (reads' ≡ reads)
    × IfSome held (λ told. (bytes : List ℕ) × Holds entry.name bytes told × (sha256 bytes ≢ entry.sha256))

-- why the source with this number stops the command
abbrev pub StopsAtSource : ℕ → FileEntry → Option Held → ℕ → ℕ → Status → Type 0
StopsAtSource number entry held reads reads' status =
    IsFileUnread (Source number) entry.name held reads reads' status ⊎ IsChanged number entry held reads reads' status

-- one of these sources, from number 0, stops the command, and those before it were read
pub record StopsAmongSources (entries : List FileEntry) (held : Option Held) (reads reads' : ℕ) (status : Status) : Type 0 where
  pub earlier : List FileEntry
  pub entry : FileEntry
  pub later : List FileEntry
  pub are : entries ≡ earlier ++ (entry ∷ later)
  pub read : IfSome held (λ told. AreKept told earlier)
  pub stops : StopsAtSource (length earlier) entry held reads reads' status

-- ---- one trace after another

-- the files of these names hold these bytes, and each is a trace that fits the object
abbrev pub AreRead : Held → Object → (names traces : List (List ℕ)) → Type 0
AreRead told o [] [] = Unit {0}
AreRead told o [] (trace ∷ traces) = ⊥
AreRead told o (name ∷ names) [] = ⊥
AreRead told o (name ∷ names) (trace ∷ traces) = Holds name trace told × IsTraceFor o trace × AreRead told o names traces

-- where the files tell what they hold, each of these names has a trace that fits the object
abbrev pub WereRead : Option Held → Object → (names : List (List ℕ)) → Type 0
WereRead held o names = IfSome held (λ told. (traces : List (List ℕ)) × AreRead told o names traces)

-- and what they show was added to a coverage
abbrev pub WereAdded : Option Held → Object → (names : List (List ℕ)) → (old new : Covered) → Type 0
WereAdded held o names old new = IfSome held (λ told. (traces : List (List ℕ)) × AreRead told o names traces × Adds o old new traces)

-- the file of this name was read, and is no trace that fits the object
pub record IsNoTrace (number : ℕ) (o : Object) (name : List ℕ) (held : Option Held) (reads reads' : ℕ) (status : Status) : Type 0 where
  pub why : TraceWhy
  pub is : status ≡ TraceRefused number why
  pub count : reads' ≡ reads
  pub refused : IfSome held (λ told. (trace : List ℕ) × Holds name trace told × RefusesTrace number o trace status)

-- why the trace with this number stops the command
abbrev pub StopsAt : (number : ℕ) → Object → (name : List ℕ) → Option Held → ℕ → ℕ → Status → Type 0
StopsAt number o name held reads reads' status = IsUnread number name held reads reads' status ⊎ IsNoTrace number o name held reads reads' status

-- one of these traces, from number 1, stops the command, and those before it were read
pub record StopsAmong (o : Object) (names : List (List ℕ)) (held : Option Held) (reads reads' : ℕ) (status : Status) : Type 0 where
  pub earlier : List (List ℕ)
  pub name : List ℕ
  pub later : List (List ℕ)
  pub are : names ≡ earlier ++ (name ∷ later)
  pub read : WereRead held o earlier
  pub stops : StopsAt (length earlier + 1) o name held reads reads' status

-- ---- one trace

-- the first bytes of the file of this name, as many as 8
abbrev pub HasFront : Option Held → (name front : List ℕ) → Type 0
HasFront held name front = IfSome held (λ told. IsSomeAnd (finmap.get told name) (λ bytes. front ≡ take 8 bytes))

-- where the files tell the bytes of this name, they are a trace that fits the object, and what it shows was added
abbrev pub RunWasAdded : Option Held → Object → (name : List ℕ) → (old new : Covered) → Type 0
RunWasAdded held o name old new = (bytes : List ℕ) → AreTold held name bytes → IsRunTraceFor o bytes × AddsRun o old new bytes

-- the trace of this name was read, and is none that fits the object
pub record IsNoRun (number : ℕ) (o : Object) (name : List ℕ) (held : Option Held) (reads reads' : ℕ) (status : Status) : Type 0 where
  pub why : TraceWhy
  pub is : status ≡ TraceRefused number why
  pub count : reads' ≡ reads
  pub refused : (bytes : List ℕ) → AreTold held name bytes → RefusesRunTrace number o bytes status

-- why it was not added
abbrev pub StopsRun : (number : ℕ) → Object → (name : List ℕ) → Option Held → ℕ → ℕ → Status → Type 0
StopsRun number o name held reads reads' status = IsUnread number name held reads reads' status ⊎ IsNoRun number o name held reads reads' status
