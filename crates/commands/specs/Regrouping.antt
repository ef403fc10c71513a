-- However runs are grouped into files, coverage puts the same text, and consolidate writes the same file.
use Rattle.std.specs.Prelude.{◌≡◌, ℕ, List, ◌∷◌, ◌++◌, map, Option, Some}
use Rattle.std.specs.FinMap as finmap
use Rattle.command_words.specs.Task.{Task, Coverage, Consolidate}
use Rattle.cov_base.specs.declared.level.Annotation.{Annotation}
use Rattle.cov_base.specs.declared.level.Annotation.TheVariants.{Xcov}
use Rattle.cov_base.specs.declared.level.Level.{Level}
use Rattle.cov_io.specs.Outside.{Held, WhereTold, Appends, Replaces}
use Rattle.commands.specs.Content.{Made, IsFileOf, Reports, ConsolidatesTo}
use Rattle.commands.specs.declared.status.Status.{Status}
use Rattle.commands.specs.declared.status.Status.TheVariants.{Done}
use Rattle.commands.specs.Grouping.{TellSame}
use Rattle.commands.specs.Outcome.{Call}
use Rattle.commands.specs.TaskFiles.{entry_names, held_under}
use Rattle.object_format.specs.declared.object.Object.{Object}

-- ---- one call

-- the files of these names hold these bytes, in this order
abbrev pub AreFiles : Held → (names files : List (List ℕ)) → Type 0
AreFiles held names files = map (λ name. finmap.get held name) names ≡ map (λ file. Some file) files

-- what was put is the report of these files, in this form, over the sources that are held
pub record PutsReport (level : Level) (annotation : Annotation) (o : Object) (held : Held) (files : List (List ℕ))
    (call : Call) : Type 0 where
  pub text : List ℕ
  pub of_files : Reports level annotation o (held_under held (entry_names o.files)) files text
  pub told : WhereTold (Appends text) call.written call.written_after

-- the one consolidated file of these files was written under this name, and its lines were put
pub record WritesOneFile (o : Object) (files : List (List ℕ)) (name : List ℕ) (call : Call) : Type 0 where
  pub made : Made
  pub of_files : ConsolidatesTo o files made
  pub written : WhereTold (Replaces name made.file) call.held call.held_after
  pub told : WhereTold (Appends made.text) call.written call.written_after

-- After Done of coverage over any object and any files, these are traces and consolidated files of the object's runs,
-- and what was put is the report of all that they show.
unfoldable pub FilesAreCovered : Option Task → Call → Status → Type 0
FilesAreCovered task call status =
    (held : Held) (level : Level) (annotation : Annotation) (object : List ℕ) (names : List (List ℕ))
    → call.held ≡ Some held → task ≡ Some (Coverage level annotation object names) → status ≡ Done
    → (bytes : List ℕ) (o : Object) → finmap.get held object ≡ Some bytes → IsFileOf o bytes
    → (files : List (List ℕ)) × AreFiles held names files × PutsReport level annotation o held files call

-- After Done of consolidate over such, the named file is the one consolidated file of all that they show.
unfoldable pub FilesAreConsolidated : Option Task → Call → Status → Type 0
FilesAreConsolidated task call status =
    (held : Held) (object name : List ℕ) (names : List (List ℕ))
    → call.held ≡ Some held → task ≡ Some (Consolidate object name names) → status ≡ Done
    → (bytes : List ℕ) (o : Object) → finmap.get held object ≡ Some bytes → IsFileOf o bytes
    → (files : List (List ℕ)) × AreFiles held names files × WritesOneFile o files name call

-- ---- two calls

-- coverage, in this form, over this object and these files is done
pub record CoversFiles (level : Level) (annotation : Annotation) (o : Object) (held : Held) (files : List (List ℕ))
    (task : Option Task) (call : Call) (status : Status) : Type 0 where
  pub object : List ℕ
  pub names : List (List ℕ)
  pub asked : task ≡ Some (Coverage level annotation object names)
  pub done : status ≡ Done
  pub is_held : call.held ≡ Some held
  pub bytes : List ℕ
  pub there : finmap.get held object ≡ Some bytes
  pub is_file : IsFileOf o bytes
  pub are : AreFiles held names files

-- consolidate, to this name, over this object and these files is done
pub record ConsolidatesFiles (name : List ℕ) (o : Object) (held : Held) (files : List (List ℕ))
    (task : Option Task) (call : Call) (status : Status) : Type 0 where
  pub object : List ℕ
  pub names : List (List ℕ)
  pub asked : task ≡ Some (Consolidate object name names)
  pub done : status ≡ Done
  pub is_held : call.held ≡ Some held
  pub bytes : List ℕ
  pub there : finmap.get held object ≡ Some bytes
  pub is_file : IsFileOf o bytes
  pub are : AreFiles held names files

-- where sources are annotated, those that the object lists are the same in both
abbrev pub HaveSameSources : Annotation → Object → (held others : Held) → Type 0
HaveSameSources annotation o held others =
    annotation ≡ Xcov → held_under held (entry_names o.files) ≡ held_under others (entry_names o.files)

-- the same text was put in both
abbrev pub PutSame : (call other : Call) → Type 0
PutSame call other =
    (text : List ℕ) × WhereTold (Appends text) call.written call.written_after
    × WhereTold (Appends text) other.written other.written_after

-- the same bytes were written in both, each under its own name
abbrev pub WriteSame : (name other_name : List ℕ) → (call other : Call) → Type 0
WriteSame name other_name call other =
    (bytes : List ℕ) × WhereTold (Replaces name bytes) call.held call.held_after
    × WhereTold (Replaces other_name bytes) other.held other.held_after

-- This call of coverage and any other, in one form over one object, put the same text where their files tell the same,
-- however these are grouped, in whatever order, with whatever repetition.
unfoldable pub CoverageKnowsNoGrouping : Option Task → Call → Status → Type 0
CoverageKnowsNoGrouping task call status =
    (level : Level) (annotation : Annotation) (o : Object) (held : Held) (files : List (List ℕ))
    → CoversFiles level annotation o held files task call status
    → (other_task : Option Task) (other : Call) (other_status : Status) → FilesAreCovered other_task other other_status
    → (other_held : Held) (others : List (List ℕ))
    → CoversFiles level annotation o other_held others other_task other other_status
    → HaveSameSources annotation o held other_held → TellSame o files others → PutSame call other

-- This call of consolidate and any other, over one object, write the same bytes and put the same lines where their
-- files tell the same.
unfoldable pub ConsolidationKnowsNoGrouping : Option Task → Call → Status → Type 0
ConsolidationKnowsNoGrouping task call status =
    (name : List ℕ) (o : Object) (held : Held) (files : List (List ℕ))
    → ConsolidatesFiles name o held files task call status
    → (other_task : Option Task) (other : Call) (other_status : Status)
    → FilesAreConsolidated other_task other other_status
    → (other_name : List ℕ) (other_held : Held) (others : List (List ℕ))
    → ConsolidatesFiles other_name o other_held others other_task other other_status
    → TellSame o files others → WriteSame name other_name call other × PutSame call other

-- The file that this call of consolidate writes tells what all of its files do, and may stand for them beside any
-- others.
unfoldable pub OneFileStandsForAll : Option Task → Call → Status → Type 0
OneFileStandsForAll task call status =
    (name : List ℕ) (o : Object) (held : Held) (part : List (List ℕ))
    → ConsolidatesFiles name o held part task call status
    → (bytes : List ℕ) × WhereTold (Replaces name bytes) call.held call.held_after
    × ((others : List (List ℕ)) → TellSame o (part ++ others) (bytes ∷ others))
