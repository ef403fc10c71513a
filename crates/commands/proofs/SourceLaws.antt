-- What was found out of sources that were read, as what the compilation comes to.
use Rattle.std.proofs.Common.{◌≡◌, ◌⊎◌, ℕ, zero, suc, ◌+◌, ◌<◌, ◌≤◌, List, [], ◌∷◌, ◌++◌, length, map, take, drop, get_or, slice_get, unwrap_or, Option, None, Some, IfSome, Result, Ok, Err, inl, inr, refl, sym, ◌∙◌, ap, subst, arith}
use Rattle.std.specs.FinMap as finmap
use Rattle.std.specs.List.{AllByRecursion}
use Rattle.std.proofs.lemmas.List.{length-append, length-map, length-take-le, take-append-drop, take_all, drop_more, map-append, map_more}
use Rattle.command_words.specs.Task.{AreSources, Compile}
use Rattle.cov_base.specs.declared.obligations.SourceFile.{SourceFile}
use Rattle.cov_io.specs.Outside.{Held, Holds, IsAbsent, Rose}
use Rattle.commands.specs.Content.{CompilesTo, RefusesSources, refused_for}
use Rattle.commands.specs.declared.status.FileRef.TheVariants.{Word}
use Rattle.commands.specs.declared.status.Status.{Status}
use Rattle.commands.specs.declared.status.Status.TheVariants.{ReadFault, WantOfMemory}
use Rattle.commands.specs.Outcome.{CannotGet, Prepares, Stops}
use Rattle.commands.specs.Reading.{IsUnread, StopsReading, UnlessMemory, WereHeld, WereSources}
use Rattle.commands.specs.TaskFiles.{AreHeld}
use Rattle.commands.specs.Verdict.{Output, AfterSources, Compiles, ComesTo}
use Rattle.program_objects.specs.Legal.{AreRefused}

-- the names of sources
abbrev pub names_of : List SourceFile → List (List ℕ)
names_of sources = map (λ source. source.name) sources

-- a refusal, as a verdict
abbrev refused : Status → Result Output Status
refused status = Err status

-- ---- one file after another

-- all of them were read, and what follows holds of them
all_read : (told : Held) (place : ℕ) (sources : List SourceFile) (Then : List SourceFile → Result Output Status → Type 0) (verdict : Result Output Status)
    → AreHeld told sources → Then sources verdict → AfterSources told place (names_of sources) Then verdict
all_read told place [] Then verdict held says = says
all_read told place (source ∷ sources) Then verdict held says =
    rw held.0 (all_read told (place + 1) sources (λ others. Then (source ∷ others)) verdict held.1 says)

-- those before one were read, and that one is not there
stops_at : (told : Held) (place at : ℕ) (earlier : List SourceFile) (name : List ℕ) (later : List (List ℕ))
    (Then : List SourceFile → Result Output Status → Type 0)
    → at ≡ length earlier + place → AreHeld told earlier → finmap.get told name ≡ None
    → AfterSources told place (names_of earlier ++ (name ∷ later)) Then (refused (ReadFault (Word at)))
stops_at told place at [] name later Then is held absent =
    let same : at ≡ place = omega (arith, is) in
    rw absent (ap (λ (p : ℕ). refused (ReadFault (Word p))) same)
stops_at told place at (source ∷ earlier) name later Then is held absent =
    let next : at ≡ length earlier + (place + 1) = omega (arith, is) in
    rw held.0 (stops_at told (place + 1) at earlier name later (λ others. Then (source ∷ others)) next held.1 absent)

-- what follows of the sources is what the compilation comes to
comes_to : (held : Option Held) (main object : List ℕ) (names : List (List ℕ)) (sources : List SourceFile) (verdict : Result Output Status)
    → WereSources names held sources → Compiles main object sources verdict
    → IfSome held (λ told. ComesTo told (Compile main object names) verdict)
comes_to None main object names sources verdict were says = tt
comes_to (Some told) main object names sources verdict were says =
    subst (λ (ns : List (List ℕ)). AfterSources told 0 ns (Compiles main object) verdict) were.named
    (all_read told 0 sources (Compiles main object) verdict were.read says)

-- ---- a file that was not read

-- its place among the names
placed : (earlier : List SourceFile) (name : List ℕ) (later : List (List ℕ)) → length earlier < length (names_of earlier ++ (name ∷ later))
placed earlier name later =
    omega (arith, length-append (names_of earlier) (name ∷ later), length-map earlier (λ (source : SourceFile). source.name))

name_in : (earlier : List SourceFile) (name : List ℕ) (later : List (List ℕ)) → slice_get (names_of earlier ++ (name ∷ later)) (length earlier) ≡ Some name
name_in [] name later = refl
name_in (source ∷ earlier) name later = name_in earlier name later

-- and its name there
name_there : (earlier : List SourceFile) (name : List ℕ) (later : List (List ℕ))
    → unwrap_or (slice_get (names_of earlier ++ (name ∷ later)) (length earlier)) [] ≡ name
name_there earlier name later = rw (name_in earlier name later) refl

cannot_get : (held : Option Held) (reads reads' : ℕ) (main object : List ℕ) (earlier : List SourceFile) (name : List ℕ) (later : List (List ℕ))
    → WereHeld held earlier → Rose reads reads' ⊎ IsAbsent held name
    → CannotGet (Compile main object (names_of earlier ++ (name ∷ later))) (Word (length earlier)) held reads reads'
cannot_get held reads reads' main object earlier name later were (inl rose) = (placed earlier name later, inl rose)
cannot_get None reads reads' main object earlier name later were (inr absent) = absurd absent
cannot_get (Some told) reads reads' main object earlier name later were (inr absent) = (
  placed earlier name later,
  inr (
    (name, sym (name_there earlier name later), absent),
    stops_at told 0 (length earlier) earlier name later (Compiles main object) (omega arith) were absent,
  ),
)

pub compile_unread : (held : Option Held) (reads reads' : ℕ) (main object : List ℕ) (names : List (List ℕ)) (status : Status)
    → StopsReading names held reads reads' status → Stops (Compile main object names) held reads reads' status
compile_unread held reads reads' main object names status stop = rw stop.are (by_cause stop.unread)
  where
    by_cause : IsUnread (length stop.earlier) stop.name held reads reads' status
        → Stops (Compile main object (names_of stop.earlier ++ (stop.name ∷ stop.later))) held reads reads' status
    by_cause (inl memory) = rw memory tt
    by_cause (inr (e, cause)) =
        rw e (cannot_get held reads reads' main object stop.earlier stop.name stop.later stop.read cause)

-- ---- what was made of the sources

-- by a view of them
pub compile_refused : (held : Option Held) (reads reads' : ℕ) (main object : List ℕ) (names : List (List ℕ)) (sources view : List SourceFile) (status : Status)
    → reads' ≡ reads → WereSources names held sources → view ≡ sources → UnlessMemory (RefusesSources main view) status
    → Stops (Compile main object names) held reads reads' status
compile_refused held reads reads' main object names sources view status same were is (inl memory) = rw memory tt
compile_refused held reads reads' main object names sources view status same were is (inr (fault, refuses, told)) =
    let refuses' : AreRefused sources main fault = subst (λ (ss : List SourceFile). AreRefused ss main fault) is refuses in
    rw told (same, comes_to held main object names sources (refused (refused_for fault)) were (fault, refuses', refl))

pub compile_made : (held : Option Held) (reads reads' : ℕ) (main object : List ℕ) (names : List (List ℕ)) (sources view : List SourceFile) (file text : List ℕ)
    → reads' ≡ reads → WereSources names held sources → view ≡ sources → CompilesTo main view (record { file = file; text = text })
    → Prepares (Compile main object names) held reads reads' (Ok (record { file = Some (record { name = object; bytes = file }); text = text }))
compile_made held reads reads' main object names sources view file text same were is says = (
  same,
  refl,
  comes_to held main object names sources (Ok (record { file = Some (record { name = object; bytes = file }); text = text })) were
      (file, refl, subst (λ (ss : List SourceFile). CompilesTo main ss (record { file = file; text = text })) is says),
)

-- ---- reading them, by names that are seen by `now`

-- what is known of the names of a command
pub counted : {X : Type 0} (now : X → List ℕ) (names : List X) → AreSources (map now names)
    → (1 ≤ length names) × (length names ≤ 64) × AllByRecursion (λ name. length name ≤ 4096) (map now names)
counted now names are =
    let same = length-map names now in
    (omega (arith, are.some, same), omega (arith, are.few, same), are.short)

-- the name in a place is short
pub short_at : {X : Type 0} (now : X → List ℕ) (names : List X) (i : ℕ) (d : X)
    → AllByRecursion (λ name. length name ≤ 4096) (map now names) → i < length names → length (now (get_or names i d)) ≤ 4096
short_at now [] i d short lt = absurd (omega (arith, lt))
short_at now (x ∷ xs) zero d short lt = short.0
short_at now (x ∷ xs) (suc i) d short lt = short_at now xs i d short.1 (omega (arith, lt))

-- nothing was read yet
none_held : (held : Option Held) → WereHeld held []
none_held None = tt
none_held (Some told) = tt

pub no_sources : (held : Option Held) → WereSources [] held []
no_sources held = record { named = refl; read = none_held held }

-- all of them were read
pub all_taken : {X : Type 0} (now : X → List ℕ) (names : List X) (i : ℕ) (held : Option Held) (sources : List SourceFile)
    → length names ≤ i → WereSources (map now (take i names)) held sources → WereSources (map now names) held sources
all_taken now names i held sources past were =
    subst (λ xs. WereSources (map now xs) held sources) (take_all i names past) were

-- reading them stops where memory is wanting
pub memory_stops : {X : Type 0} (now : X → List ℕ) (names : List X) (held : Option Held) (reads reads' : ℕ)
    → 1 ≤ length names → StopsReading (map now names) held reads reads' WantOfMemory
memory_stops now [] held reads reads' some = absurd (omega (arith, some))
memory_stops now (x ∷ xs) held reads reads' some =
    record { earlier = []; name = now x; later = map now xs; are = refl; read = none_held held; unread = inl refl }

more_held : (told : Held) (sources : List SourceFile) (source : SourceFile) → AreHeld told sources → Holds source.name source.bytes told
    → AreHeld told (sources ++ (source ∷ []))
more_held told [] source held holds = (holds, tt)
more_held told (s ∷ sources) source held holds = (held.0, more_held told sources source held.1 holds)

-- one more source was read
pub one_more : {X : Type 0} (now : X → List ℕ) (names : List X) (i : ℕ) (d : X) (held held' : Option Held) (sources more : List SourceFile) (source : SourceFile)
    → i < length names → held' ≡ held → more ≡ sources ++ (source ∷ []) → WereSources (map now (take i names)) held sources
    → source.name ≡ now (get_or names i d) → IfSome held' (Holds (now (get_or names i d)) source.bytes)
    → WereSources (map now (take (i + 1) names)) held more
one_more now names i d held held' sources more source lt same is were named holds =
    rw is (record {
      named = map-append (λ (s : SourceFile). s.name) sources (source ∷ []) ∙ ap (λ (ns : List (List ℕ)). ns ++ (source.name ∷ [])) were.named
          ∙ ap (λ (n : List ℕ). map now (take i names) ++ (n ∷ [])) named ∙ sym (map_more now names i d lt);
      read = by_held held were.read
          (subst (λ (h : Option Held). IfSome h (Holds source.name source.bytes)) same
          (subst (λ (n : List ℕ). IfSome held' (Holds n source.bytes)) (sym named) holds));
    })
  where
    by_held : (h : Option Held) → WereHeld h sources → IfSome h (Holds source.name source.bytes) → WereHeld h (sources ++ (source ∷ []))
    by_held None before there = tt
    by_held (Some told) before there = more_held told sources source before there

-- one that was not read, behind those that were
pub stops_reading : {X : Type 0} (now : X → List ℕ) (names : List X) (i : ℕ) (d : X) (held held' : Option Held) (reads reads' reads'' : ℕ) (status : Status) (sources : List SourceFile)
    → i < length names → held' ≡ held → reads' ≡ reads → WereSources (map now (take i names)) held sources
    → IsUnread i (now (get_or names i d)) held' reads' reads'' status
    → StopsReading (map now names) held reads reads'' status
stops_reading now names i d held held' reads reads' reads'' status sources lt same count were unread =
    let name = now (get_or names i d) in
    let long : i ≡ length sources =
    omega (arith, length-map (take i names) now, length-take-le i names (omega (arith, lt)), length-map sources (λ (s : SourceFile). s.name), ap (λ (ns : List (List ℕ)). length ns) were.named) in
    let here = subst (λ (h : Option Held). IsUnread i name h reads' reads'' status) same unread in
    let then_so = subst (λ (n : ℕ). IsUnread i name held n reads'' status) count here in
    record {
      earlier = sources;
      name = name;
      later = map now (drop (i + 1) names);
      are = ap (map now) (sym (take-append-drop i names) ∙ ap (λ rest. take i names ++ rest) (drop_more names i d lt))
          ∙ map-append now (take i names) (get_or names i d ∷ drop (i + 1) names)
          ∙ ap (λ (ns : List (List ℕ)). ns ++ (name ∷ map now (drop (i + 1) names))) (sym were.named);
      read = were.read;
      unread = subst (λ (k : ℕ). IsUnread k name held reads reads'' status) long then_so;
    }
