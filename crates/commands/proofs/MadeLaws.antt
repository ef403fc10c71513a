-- What was made of a coverage, once its traces were added, as what the whole command comes to.
use Rattle.std.proofs.Common.{◌≡◌, ◌⊎◌, ℕ, ◌+◌, ◌<◌, List, [], ◌∷◌, ◌++◌, length, Option, None, Some, IfSome, IsSomeAnd, option_map, Result, Ok, Err, inl, inr, refl, sym, ◌∙◌, ap, subst, arith}
use Rattle.std.specs.FinMap as finmap
use Rattle.std.specs.List.{AllByRecursion}
use Rattle.command_words.specs.Task.{Coverage}
use Rattle.cov_base.specs.declared.event.Event.{Event}
use Rattle.cov_base.specs.declared.level.Annotation.{Annotation}
use Rattle.cov_base.specs.declared.level.Level.{Level}
use Rattle.cov_io.specs.Outside.{Held, Holds, IsAbsent, Rose}
use Rattle.coverage_set.specs.Covered.{Covered, Has, HasRun}
use Rattle.commands.specs.Content.{IsFileOf, IsTraceFor}
use Rattle.commands.specs.Covering.{Adds, Yields, task_for}
use Rattle.commands.specs.declared.ready.coverage.Product.{Product}
use Rattle.commands.specs.declared.ready.coverage.Product.TheVariants as products
use Rattle.commands.specs.declared.status.FileRef.TheVariants.{Source}
use Rattle.commands.specs.declared.status.Status.{Status}
use Rattle.commands.specs.declared.status.Status.TheVariants.{SourceChanged, ReadFault, WantOfMemory}
use Rattle.commands.specs.Outcome.{IsNamed, Prepares, Stops, CannotGet}
use Rattle.commands.specs.Products.{IsMadeOf}
use Rattle.commands.specs.Reading.{AreRead, WereAdded, AreKept, IsChanged, StopsAtSource, StopsAmongSources}
use Rattle.commands.specs.TaskFiles.{entry_names, names_read, name_in_place, read_for}
use Rattle.commands.specs.Verdict.{NewFile, Output, AfterFile, AfterDigest, AfterKept, AfterTraces, Prints, ComesTo}
use Rattle.object_format.proofs.FileLaws.{structured_only}
use Rattle.object_format.specs.declared.object.FileEntry.{FileEntry}
use Rattle.object_format.specs.declared.object.Object.{Object}
use Rattle.object_format.specs.File.{structured}
use Rattle.commands.proofs.CoveringLaws.{reports_added, stands_added}
use Rattle.commands.proofs.KeptLaws.{all_kept, annotated, kept_up_to, name_at, names_are, placed}
use Rattle.commands.proofs.StopLaws.{after_object, all_fit, all_read, comes_to}

-- ---- a source stopped the command

-- the object and the traces were read, where the files tell what they hold
record WereReadBefore (held : Option Held) (object bytes : List ℕ) (names : List (List ℕ)) (o : Object) : Type 0 where
  holds : IfSome held (Holds object bytes)
  is : IsFileOf o bytes
  read : IfSome held (λ told. (traces : List (List ℕ)) × AreRead told o names traces)

-- what a source comes to at which reading stops
source_stop : (told : Held) (level : Level) (annotation : Annotation) (object bytes : List ℕ) (names : List (List ℕ)) (o : Object)
    (earlier : List FileEntry) (entry : FileEntry) (later : List FileEntry) (status : Status)
    → WereReadBefore (Some told) object bytes names o → read_for annotation o.files ≡ earlier ++ (entry ∷ later) → AreKept told earlier
    → ((Next : Result Output Status → Type 0) → AfterFile told (Source (length earlier)) entry.name (λ source. AfterDigest (length earlier) entry source Next) (Err status))
    → ComesTo told (Coverage level annotation object names) (Err status)
source_stop told level annotation object bytes names o earlier entry later status before are kept says =
    let Then : List (List ℕ) → Result Output Status → Type 0 = λ traces. AfterKept told 0 (read_for annotation o.files) (Prints told level annotation o traces) in
    let stops : Then before.read.0 (Err status) =
    subst (λ (entries : List FileEntry). AfterKept told 0 entries (Prints told level annotation o before.read.0) (Err status)) (sym are)
    (kept_up_to told 0 (length earlier) earlier entry later (Prints told level annotation o before.read.0) (Err status) (omega arith) kept says) in
    after_object (Some told) object bytes o (λ told o. AfterTraces told o 1 names (Yields (products.Report level annotation) told o)) (Err status) before.holds before.is
    (all_read told o 1 names before.read.0 Then (Err status) before.read.1 stops)

-- the names of the sources that are read
listed : (told : Held) (annotation : Annotation) (object bytes : List ℕ) (o : Object) → Holds object bytes told → IsFileOf o bytes
    → names_read annotation (finmap.get told object) ≡ entry_names (read_for annotation o.files)
listed told annotation object bytes o holds is =
    names_are annotation (finmap.get told object) bytes o holds (ap structured is.spelled ∙ structured_only o is.checked.closed)

-- the source is one that the command reads
source_read : (held : Option Held) (annotation : Annotation) (object bytes : List ℕ) (names : List (List ℕ)) (o : Object)
    (earlier : List FileEntry) (entry : FileEntry) (later : List FileEntry)
    → WereReadBefore held object bytes names o → read_for annotation o.files ≡ earlier ++ (entry ∷ later)
    → IfSome held (λ told. length earlier < length (names_read annotation (finmap.get told object)))
source_read None annotation object bytes names o earlier entry later before are = tt
source_read (Some told) annotation object bytes names o earlier entry later before are =
    subst (λ (ns : List (List ℕ)). length earlier < length ns) (sym (listed told annotation object bytes o before.holds before.is))
    (placed (read_for annotation o.files) earlier entry later are)

source_absent : (held : Option Held) (reads reads' : ℕ) (level : Level) (annotation : Annotation) (object bytes : List ℕ) (names : List (List ℕ)) (o : Object)
    (earlier : List FileEntry) (entry : FileEntry) (later : List FileEntry)
    → WereReadBefore held object bytes names o → read_for annotation o.files ≡ earlier ++ (entry ∷ later)
    → IfSome held (λ told. AreKept told earlier) → Rose reads reads' ⊎ IsAbsent held entry.name
    → CannotGet (Coverage level annotation object names) (Source (length earlier)) held reads reads'
source_absent held reads reads' level annotation object bytes names o earlier entry later before are kept (inl rose) = (
  (annotated annotation o.files earlier entry later are, source_read held annotation object bytes names o earlier entry later before are),
  inl rose,
)
source_absent None reads reads' level annotation object bytes names o earlier entry later before are kept (inr absent) = absurd absent
source_absent (Some told) reads reads' level annotation object bytes names o earlier entry later before are kept (inr absent) = (
  (annotated annotation o.files earlier entry later are, source_read (Some told) annotation object bytes names o earlier entry later before are),
  inr (
    (entry.name, told_name, absent),
    source_stop told level annotation object bytes names o earlier entry later (ReadFault (Source (length earlier))) before are kept (λ Next. rw absent refl),
  ),
)
  where
    told_name : entry.name ≡ name_in_place (names_read annotation (finmap.get told object)) (length earlier)
    told_name =
        subst (λ (ns : List (List ℕ)). entry.name ≡ name_in_place ns (length earlier)) (sym (listed told annotation object bytes o before.holds before.is))
        (sym (name_at (read_for annotation o.files) earlier entry later are))

source_changed : (held : Option Held) (reads reads' : ℕ) (level : Level) (annotation : Annotation) (object bytes : List ℕ) (names : List (List ℕ)) (o : Object)
    (earlier : List FileEntry) (entry : FileEntry) (later : List FileEntry) (status : Status)
    → WereReadBefore held object bytes names o → read_for annotation o.files ≡ earlier ++ (entry ∷ later)
    → IfSome held (λ told. AreKept told earlier) → IsChanged (length earlier) entry held reads reads' status
    → Stops (Coverage level annotation object names) held reads reads' status
source_changed held reads reads' level annotation object bytes names o earlier entry later status before are kept changed =
    rw changed.0 (annotated annotation o.files earlier entry later are, (changed.1, by_held held before kept changed))
  where
    by_held : (h : Option Held) → WereReadBefore h object bytes names o → IfSome h (λ told. AreKept told earlier) → IsChanged (length earlier) entry h reads reads' status
        → IfSome h (λ told. ComesTo told (Coverage level annotation object names) (Err (SourceChanged (length earlier))))
    by_held None read stand differs = tt
    by_held (Some told) read stand differs =
        source_stop told level annotation object bytes names o earlier entry later (SourceChanged (length earlier)) read are stand
        (λ Next. rw differs.2.1 (inl (differs.2.2, refl)))

source_stops : (held : Option Held) (reads reads' : ℕ) (level : Level) (annotation : Annotation) (object bytes : List ℕ) (names : List (List ℕ)) (o : Object) (status : Status)
    → WereReadBefore held object bytes names o → StopsAmongSources (read_for annotation o.files) held reads reads' status
    → Stops (Coverage level annotation object names) held reads reads' status
source_stops held reads reads' level annotation object bytes names o status before stop = by_cause stop.stops
  where
    by_cause : StopsAtSource (length stop.earlier) stop.entry held reads reads' status → Stops (Coverage level annotation object names) held reads reads' status
    by_cause (inl (inl memory)) = rw memory tt
    by_cause (inl (inr (e, cause))) =
        rw e (source_absent held reads reads' level annotation object bytes names o stop.earlier stop.entry stop.later before stop.are stop.read cause)
    by_cause (inr changed) =
        source_changed held reads reads' level annotation object bytes names o stop.earlier stop.entry stop.later status before stop.are stop.read changed

-- ---- what was made

-- of a coverage to which the traces were added, of nothing before
yields : (product : Product) (told : Held) (reads reads' : ℕ) (traces : List (List ℕ)) (o : Object) (old new : Covered) (output : Output)
    → AllByRecursion (IsTraceFor o) traces → old.object ≡ o → ((e : Event) → Has old e → ⊥) → ((d : List ℕ) → HasRun old d → ⊥) → Adds o old new traces
    → IsMadeOf product o new (Some told) reads reads' (Ok output) → Yields product told o traces (Ok output)
yields (products.Report level annotation) told reads reads' traces o old new output fit own no_event no_run adds made =
    all_kept told 0 (read_for annotation o.files) (Prints told level annotation o traces) (Ok output) made.2.0
    (made.1, record { fit = fit; report = reports_added level annotation o _ old new traces output.text no_event no_run adds made.2.1 })
yields (products.File name) told reads reads' traces o old new output fit own no_event no_run adds made = (
  made.1.0,
  made.1.1,
  record { fit = fit; covered = new; stands = stands_added o old new traces own no_event no_run adds; tells = made.1.2 },
)

-- no read of a file failed meanwhile
made_reads : (product : Product) (o : Object) (c : Covered) (held : Option Held) (reads reads' : ℕ) (output : Output) → IsMadeOf product o c held reads reads' (Ok output) → reads' ≡ reads
made_reads (products.Report level annotation) o c held reads reads' output made = made.0
made_reads (products.File name) o c held reads reads' output made = made.0

-- what was made has the task's name
made_named : (product : Product) (object : List ℕ) (names : List (List ℕ)) (o : Object) (c : Covered) (held : Option Held) (reads reads' : ℕ) (output : Output)
    → IsMadeOf product o c held reads reads' (Ok output) → IsNamed (task_for product object names) output
made_named (products.Report level annotation) object names o c held reads reads' output made = ap (option_map (λ (f : NewFile). f.name)) made.1
made_named (products.File name) object names o c held reads reads' output made = ap (option_map (λ (f : NewFile). f.name)) made.1.1

-- nothing was made
made_stops : (product : Product) (held : Option Held) (reads reads' : ℕ) (object bytes : List ℕ) (names : List (List ℕ)) (o : Object) (c : Covered) (status : Status)
    → WereReadBefore held object bytes names o → IsMadeOf product o c held reads reads' (Err status)
    → Stops (task_for product object names) held reads reads' status
made_stops (products.Report level annotation) held reads reads' object bytes names o c status before (inl memory) = rw memory tt
made_stops (products.Report level annotation) held reads reads' object bytes names o c status before (inr stop) =
    source_stops held reads reads' level annotation object bytes names o status before stop
made_stops (products.File name) held reads reads' object bytes names o c status before made = rw made.1 tt

read_before : (held : Option Held) (object bytes : List ℕ) (names : List (List ℕ)) (o : Object) (a b : Covered)
    → IfSome held (Holds object bytes) → IsFileOf o bytes → WereAdded held o names a b → WereReadBefore held object bytes names o
read_before held object bytes names o a b holds is added = record { holds = holds; is = is; read = by_held held added }
  where
    by_held : (h : Option Held) → WereAdded h o names a b → IfSome h (λ told. (traces : List (List ℕ)) × AreRead told o names traces)
    by_held None added = tt
    by_held (Some told) added = (added.0, added.1)

-- the traces were read and added to a coverage of nothing, and this was made of it
pub coverage_made : (held held' : Option Held) (reads reads' reads'' : ℕ) (product : Product) (object bytes : List ℕ) (names : List (List ℕ)) (o : Object) (old new : Covered) (verdict : Result Output Status)
    → held' ≡ held → reads' ≡ reads → IfSome held (Holds object bytes) → IsFileOf o bytes → WereAdded held o names old new
    → old.object ≡ o → ((e : Event) → Has old e → ⊥) → ((d : List ℕ) → HasRun old d → ⊥) → IsMadeOf product o new held' reads' reads'' verdict
    → Prepares (task_for product object names) held reads reads'' verdict
coverage_made held held' reads reads' reads'' product object bytes names o old new verdict same count holds is added own no_event no_run made =
    by_verdict verdict (subst (λ (h : Option Held). IsMadeOf product o new h reads reads'' verdict) same
    (subst (λ (n : ℕ). IsMadeOf product o new held' n reads'' verdict) count made))
  where
    told : (h : Option Held) (output : Output) → IfSome h (Holds object bytes) → WereAdded h o names old new → IsMadeOf product o new h reads reads'' (Ok output)
        → IfSome h (λ told. ComesTo told (task_for product object names) (Ok output))
    told None output holds added made = tt
    told (Some h) output holds added made =
        comes_to (Some h) product object names (Ok output)
        (after_object (Some h) object bytes o (λ told o. AfterTraces told o 1 names (Yields product told o)) (Ok output) holds is
        (all_read h o 1 names added.0 (Yields product h o) (Ok output) added.1
        (yields product h reads reads'' added.0 o old new output (all_fit h o names added.0 added.1) own no_event no_run added.2 made)))

    by_verdict : (v : Result Output Status) → IsMadeOf product o new held reads reads'' v → Prepares (task_for product object names) held reads reads'' v
    by_verdict (Err status) made = made_stops product held reads reads'' object bytes names o new status (read_before held object bytes names o old new holds is added) made
    by_verdict (Ok output) made = (
      made_reads product o new held reads reads'' output made,
      made_named product object names o new held reads reads'' output made,
      told held output holds added made,
    )
