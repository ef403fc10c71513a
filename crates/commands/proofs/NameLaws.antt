-- The name in the line of a refusal.
use Rattle.std.proofs.Common.{◌≡◌, inl, inr, ℕ, List, [], ◌∷◌, unwrap_or, IfSome, Option, None, Some, refl, sym, ap, ◌∙◌}
use Rattle.command_words.specs.Task.{Task}
use Rattle.cov_io.specs.Outside.{Held, Holds}
use Rattle.commands.specs.Content.{IsFileOf}
use Rattle.commands.specs.Covering.{listed_for, sources_for, task_for}
use Rattle.commands.specs.declared.ready.coverage.Product.{Product}
use Rattle.commands.specs.declared.ready.coverage.Product.TheVariants as products
use Rattle.commands.specs.declared.status.FileRef.TheVariants.{Word, Source}
use Rattle.commands.specs.declared.status.Refusal.{Refusal}
use Rattle.commands.specs.declared.status.Status.{Status}
use Rattle.commands.specs.declared.status.Status.TheVariants.{Done, Usage, SourceRefused, ObjectRefused, TraceRefused, InputRefused, OverBudget, Trap, SourceChanged, ReadFault, WriteFault, WantOfMemory}
use Rattle.commands.specs.Outcome.{Stops}
use Rattle.commands.specs.Reading.{IsUnread}
use Rattle.commands.specs.Ready.{SourceIsTold, OneSourceIsTold, TellsSource, TellsSourceOf, told_name, source_told}
use Rattle.commands.specs.TaskFiles.{ShowsSources, entry_names, name_in_place, names_in, names_read, sources_of, IsNameOf}
use Rattle.commands.specs.Verdict.{TellsName, word_for}
use Rattle.object_format.proofs.FileLaws.{structured_only}
use Rattle.object_format.specs.declared.object.Object.{Object}
use Rattle.object_format.specs.File.{structured}

-- where no source is told, the name is what the words give
of_word : (source : Option (List ℕ)) (word : List ℕ) → source ≡ None → unwrap_or source word ≡ word
of_word source word none = rw none refl

-- where one is told, the name is its
of_source : (held : Option Held) (task : Task) (names : List (List ℕ)) (number : ℕ) (source : Option (List ℕ)) (word : List ℕ)
    → IfSome held (λ told. names ≡ sources_of told task) → source ≡ Some (name_in_place names number)
    → IsNameOf held task (Source number) (unwrap_or source word)
of_source None task names number source word are tells = tt
of_source (Some told) task names number source word are tells = rw tells (ap (λ (ns : List (List ℕ)). name_in_place ns number) are)

pub told_so : (held : Option Held) (task : Task) (names : List (List ℕ)) (status : Status) (source : Option (List ℕ))
    → IfSome held (λ told. names ≡ sources_of told task) → SourceIsTold names status source
    → TellsName held task status (unwrap_or source (word_for task status))
told_so held task names Done source are tells = of_word source [] tells
told_so held task names Usage source are tells = of_word source [] tells
told_so held task names (SourceRefused file line col why) source are tells = of_word source _ tells
told_so held task names (ObjectRefused why) source are tells = of_word source [] tells
told_so held task names (TraceRefused index why) source are tells = of_word source [] tells
told_so held task names (InputRefused line) source are tells = of_word source [] tells
told_so held task names (OverBudget count) source are tells = of_word source [] tells
told_so held task names (Trap pc why) source are tells = of_word source [] tells
told_so held task names (SourceChanged number) source are tells = of_source held task names number source [] are tells
told_so held task names (ReadFault (Word place)) source are tells = of_word source _ tells
told_so held task names (ReadFault (Source number)) source are tells = of_source held task names number source [] are tells
told_so held task names WriteFault source are tells = of_word source [] tells
told_so held task names WantOfMemory source are tells = of_word source [] tells

-- a refusal tells the name of what it is of
pub refusal_told : (held : Option Held) (task : Task) (refusal : Refusal) → TellsSourceOf task held refusal
    → TellsName held task refusal.status (told_name task refusal)
refusal_told held task refusal is = told_so held task is.names refusal.status (source_told refusal) is.are is.tells

-- a task that annotates no sources is refused for none
pub of_words : (names : List (List ℕ)) (task : Task) (held : Option Held) (reads reads' : ℕ) (status : Status) → (ShowsSources task → ⊥)
    → Stops task held reads reads' status → SourceIsTold names status None
of_words names task held reads reads' Done shows stops = refl
of_words names task held reads reads' Usage shows stops = refl
of_words names task held reads reads' (SourceRefused file line col why) shows stops = refl
of_words names task held reads reads' (ObjectRefused why) shows stops = refl
of_words names task held reads reads' (TraceRefused index why) shows stops = refl
of_words names task held reads reads' (InputRefused line) shows stops = refl
of_words names task held reads reads' (OverBudget count) shows stops = refl
of_words names task held reads reads' (Trap pc why) shows stops = refl
of_words names task held reads reads' (SourceChanged number) shows stops = absurd (shows stops.0)
of_words names task held reads reads' (ReadFault (Word place)) shows stops = refl
of_words names task held reads reads' (ReadFault (Source number)) shows stops = absurd (shows stops.0.0)
of_words names task held reads reads' WriteFault shows stops = refl
of_words names task held reads reads' WantOfMemory shows stops = refl

-- the source with a number is told by its name among all
file_in_place : (names : List (List ℕ)) (number other : ℕ) (name : List ℕ) (source : Option (List ℕ)) → name_in_place names number ≡ name
    → (other ≡ number) × (source ≡ Some name) → source ≡ Some (name_in_place names other)
file_in_place names number other name source is told = told.1 ∙ ap (λ (n : List ℕ). Some n) (sym is) ∙ ap (λ (n : ℕ). Some (name_in_place names n)) (sym told.0)

pub one_told : (names : List (List ℕ)) (number : ℕ) (name : List ℕ) (status : Status) (source : Option (List ℕ)) → name_in_place names number ≡ name
    → OneSourceIsTold number name status source → SourceIsTold names status source
one_told names number name Done source is told = told
one_told names number name Usage source is told = told
one_told names number name (SourceRefused file line col why) source is told = told
one_told names number name (ObjectRefused why) source is told = told
one_told names number name (TraceRefused index why) source is told = told
one_told names number name (InputRefused line) source is told = told
one_told names number name (OverBudget count) source is told = told
one_told names number name (Trap pc why) source is told = told
one_told names number name (SourceChanged other) source is told = file_in_place names number other name source is told
one_told names number name (ReadFault (Word place)) source is told = told
one_told names number name (ReadFault (Source other)) source is told = file_in_place names number other name source is told
one_told names number name WriteFault source is told = told
one_told names number name WantOfMemory source is told = told

-- ---- what a command's words are refused for

-- a refusal that tells no source tells none of the task's
pub no_source : (task : Task) (held : Option Held) (refusal : Refusal)
    → ((names : List (List ℕ)) → SourceIsTold names refusal.status (source_told refusal)) → TellsSourceOf task held refusal
no_source task None refusal tells = record { names = []; are = tt; tells = tells [] }
no_source task (Some told) refusal tells = record { names = sources_of told task; are = refl; tells = tells (sources_of told task) }

-- a file that the words name was not read
pub word_unread : (names : List (List ℕ)) (place : ℕ) (name : List ℕ) (held : Option Held) (reads reads' : ℕ) (status : Status) (source : Option (List ℕ)) → source ≡ None
    → IsUnread place name held reads reads' status → SourceIsTold names status source
word_unread names place name held reads reads' status source none (inl memory) = rw memory none
word_unread names place name held reads reads' status source none (inr unread) = rw unread.0 none

-- the names of the sources are those of the object that was read
pub listed_names : (product : Product) (bytes : List ℕ) (o : Object) → IsFileOf o bytes → listed_for product (structured bytes) ≡ entry_names (sources_for product o)
listed_names (products.Report level annotate) bytes o is = ap (names_in annotate) (ap structured is.spelled ∙ structured_only o is.checked.closed)
listed_names (products.File name) bytes o is = refl

sources_are : (product : Product) (object bytes : List ℕ) (traces : List (List ℕ)) (told : Held) → Holds object bytes told
    → listed_for product (structured bytes) ≡ sources_of told (task_for product object traces)
sources_are (products.Report level annotate) object bytes traces told holds = sym (ap (names_read annotate) holds)
sources_are (products.File name) object bytes traces told holds = refl

pub named_from : (product : Product) (object bytes : List ℕ) (traces : List (List ℕ)) (held : Option Held) (refusal : Refusal) → IfSome held (Holds object bytes)
    → TellsSource (listed_for product (structured bytes)) refusal → TellsSourceOf (task_for product object traces) held refusal
named_from product object bytes traces held refusal holds tells = record { names = listed_for product (structured bytes); are = by_held held holds; tells = tells }
  where
    by_held : (h : Option Held) → IfSome h (Holds object bytes) → IfSome h (λ told. listed_for product (structured bytes) ≡ sources_of told (task_for product object traces))
    by_held None holds = tt
    by_held (Some told) holds = sources_are product object bytes traces told holds
