-- What compile and run leave where they are done.
use Rattle.std.proofs.Common.{◌≡◌, ℕ, ◌+◌, ℤ, List, [], ◌∷◌, map, IfSome, MatchOption, Option, None, Some, Result, Ok, Err, inl, inr, refl, sym, ap, ◌∙◌, subst}
use Rattle.std.specs.FinMap as finmap
use Rattle.command_words.specs.Task.{Task, Compile, Run}
use Rattle.cov_base.specs.declared.obligations.SourceFile.{SourceFile}
use Rattle.cov_io.specs.Outside.{Held, Holds, WhereTold, Appends, Replaces}
use Rattle.commands.specs.Content.{IsFileOf, IsInputOf, CompilesTo, RunsTo, object_lines}
use Rattle.commands.specs.declared.status.FileRef.TheVariants.{Word}
use Rattle.commands.specs.declared.status.Status.{Status}
use Rattle.commands.specs.declared.status.Status.TheVariants.{Done, ReadFault}
use Rattle.commands.specs.Leaves.{LeavesObject, CompileLeavesAnObject, LeavesTrace, RunLeavesATrace}
use Rattle.commands.specs.Outcome.{Call, Delivered, Because, Answers, HasFile}
use Rattle.commands.specs.TaskFiles.{AreHeld}
use Rattle.commands.specs.Verdict.{NewFile, Output, AfterRead, AfterObject, AfterInput, AfterSources, Compiles, RunsOn, ComesTo}
use Rattle.commands.proofs.InputLaws.{numbers_fit}
use Rattle.commands.proofs.RunsLaw.{came_to}
use Rattle.object_format.specs.declared.object.Object.{Object}
use Rattle.object_format.specs.File.{object_bytes}

-- a command that is done
done_of : (task : Task) (words : Option Task) (call : Call) (status : Status) → Answers words call status → words ≡ Some task → status ≡ Done → Delivered task Done call
done_of task words call status answers asked is =
    subst (λ (s : Status). Because task call s) is (subst (λ (t : Option Task). Answers t call status) asked answers)

-- what the task came to, where the files tell
came : (held : Held) (task : Task) (call : Call) (done : Delivered task Done call) → call.held ≡ Some held → ComesTo held task (Ok done.output)
came held task call done holds = subst (λ (h : Option Held). IfSome h (λ told. ComesTo told task (Ok done.output))) holds done.comes

-- a new file that is there stands under its name
new_file : (call : Call) (file : Option NewFile) (name bytes : List ℕ) → file ≡ Some (record { name = name; bytes = bytes }) → HasFile file call
    → WhereTold (Replaces name bytes) call.held call.held_after
new_file call file name bytes is has = subst (λ (f : Option NewFile). HasFile f call) is has

-- ---- compile

-- an output, as a verdict
abbrev succeeds : Output → Result Output Status
succeeds output = Ok output

-- the sources were read, and what follows holds of them
record ReadSources (held : Held) (names : List (List ℕ)) (Then : List SourceFile → Result Output Status → Type 0) (output : Output) : Type 0 where
  sources : List SourceFile
  named : map (λ source. source.name) sources ≡ names
  read : AreHeld held sources
  says : Then sources (Ok output)

sources_read : (held : Held) (place : ℕ) (names : List (List ℕ)) (Then : List SourceFile → Result Output Status → Type 0) (output : Output)
    → AfterSources held place names Then (Ok output) → ReadSources held names Then output
sources_read held place [] Then output says = record { sources = []; named = refl; read = tt; says = says }
sources_read held place (name ∷ names) Then output says =
    by_file (finmap.get held name) refl says
    (λ bytes. sources_read held (place + 1) names (λ others. Then (record { name = name; bytes = bytes } ∷ others)) output)
  where
    After : List ℕ → Result Output Status → Type 0
    After bytes = AfterSources held (place + 1) names (λ others. Then (record { name = name; bytes = bytes } ∷ others))

    by_file : (got : Option (List ℕ)) → finmap.get held name ≡ got
        → MatchOption got (succeeds output ≡ Err (ReadFault (Word place))) (λ bytes. After bytes (Ok output))
        → ((bytes : List ℕ) → After bytes (Ok output) → ReadSources held names (λ others. Then (record { name = name; bytes = bytes } ∷ others)) output)
        → ReadSources held (name ∷ names) Then output
    by_file None is h later = let x : ⊥ = cc h in absurd x
    by_file (Some bytes) is h later =
        let rest = later bytes h in
        record {
          sources = record { name = name; bytes = bytes } ∷ rest.sources;
          named = ap (λ (ns : List (List ℕ)). name ∷ ns) rest.named;
          read = (is, rest.read);
          says = rest.says;
        }

pub object_law : (task : Option Task) (call : Call) (status : Status) → Answers task call status → CompileLeavesAnObject task call status
unfolding CompileLeavesAnObject
object_law task call status answers = λ held main object names holds asked is.
    let done = done_of (Compile main object names) task call status answers asked is in
    let read = sources_read held 0 names (Compiles main object) done.output (came held (Compile main object names) call done holds) in
    let made = read.says.2 in
    record {
      sources = read.sources;
      named = read.named;
      read = read.read;
      program = made.program;
      made = made.object;
      of_program = made.of_program;
      cheap = made.cheap;
      written = subst (λ (bytes : List ℕ). WhereTold (Replaces object bytes) call.held call.held_after) made.spelled
          (new_file call done.output.file object read.says.0 read.says.1 done.delivers.file);
      told = subst (λ (text : List ℕ). WhereTold (Appends text) call.written call.written_after) made.told done.delivers.text;
    }

-- ---- run

-- the input was read, and what follows holds of its numbers
record ReadInput (held : Held) (input : List ℕ) (Then : List ℤ → Result Output Status → Type 0) (output : Output) : Type 0 where
  bytes : List ℕ
  there : Holds input bytes held
  numbers : List ℤ
  read : IsInputOf numbers bytes
  says : Then numbers (Ok output)

input_read : (held : Held) (input : List ℕ) (Then : List ℤ → Result Output Status → Type 0) (output : Output)
    → AfterRead held 1 input (λ bytes. AfterInput bytes Then) (Ok output) → ReadInput held input Then output
input_read held input Then output says = by_file (finmap.get held input) refl says
  where
    of_bytes : (bytes : List ℕ) → finmap.get held input ≡ Some bytes → AfterInput bytes Then (Ok output) → ReadInput held input Then output
    of_bytes bytes is (inl refused) = absurd refused
    of_bytes bytes is (inr next) = record { bytes = bytes; there = is; numbers = next.0; read = next.1; says = next.2 }

    by_file : (got : Option (List ℕ)) → finmap.get held input ≡ got
        → MatchOption got (succeeds output ≡ Err (ReadFault (Word 1))) (λ bytes. AfterInput bytes Then (Ok output)) → ReadInput held input Then output
    by_file None is h = let x : ⊥ = cc h in absurd x
    by_file (Some bytes) is h = of_bytes bytes is h

pub trace_law : (task : Option Task) (call : Call) (status : Status) → Answers task call status → RunLeavesATrace task call status
unfolding RunLeavesATrace
trace_law task call status answers = λ held input trace object budget holds asked is bytes o there file.
    let done = done_of (Run input budget trace object) task call status answers asked is in
    let Next : Object → Result Output Status → Type 0 = λ o. AfterRead held 1 input (λ bytes. AfterInput bytes (RunsOn trace budget o)) in
    let comes : AfterRead held 0 object (λ bytes. AfterObject bytes Next) (Ok done.output) = came held (Run input budget trace object) call done holds in
    let read = input_read held input (RunsOn trace budget o) done.output (came_to Next o done.output bytes file (rw there at comes)) in
    let made = read.says.2 in
    record {
      bytes = read.bytes;
      there = read.there;
      numbers = read.numbers;
      read = read.read;
      fit = numbers_fit read.bytes read.numbers read.read;
      ending = made.ending;
      file = read.says.0;
      of_run = record { ended = made.ended; traced = made.traced; reads_back = made.reads_back };
      written = new_file call done.output.file trace read.says.0 read.says.1 done.delivers.file;
      told = subst (λ (text : List ℕ). WhereTold (Appends text) call.written call.written_after) made.told done.delivers.text;
    }
