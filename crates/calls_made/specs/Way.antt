-- Calls that were made, and what three of them ask for: sources are compiled, the object is run, its coverage is asked.
use Rattle.std.specs.Prelude.{◌≡◌, ◌≢◌, ℕ, ℤ, List, [], ◌∷◌, Option, Some}
use Rattle.command_words.specs.Task.{Task, Compile, Run, Coverage, task_of}
use Rattle.cov_base.specs.declared.level.Annotation.{Annotation}
use Rattle.cov_base.specs.declared.level.Level.{Level}
use Rattle.cov_io.specs.Outside.{Held, Holds}
use Rattle.commands.specs.Content.{IsInputOf}
use Rattle.commands.specs.declared.status.Status.{Status}
use Rattle.commands.specs.Outcome.{Call}
use Rattle.user_calls.specs.Calls.{ACall}
use Rattle.user_calls.specs.Use.{TellsTheSources}

-- the call with these words, what it left, and its status
abbrev pub a_call : List (List ℕ) → Call → Status → ACall
a_call words call status = record { task = task_of words; call = call; status = status }

-- what is asked for
pub record Way : Type 0 where
  pub main : List ℕ
  pub object : List ℕ
  pub sources : List (List ℕ)
  pub input : List ℕ
  pub budget : ℕ
  pub trace : List ℕ
  pub level : Level
  pub annotation : Annotation

-- the words of the three calls ask for it; neither the input nor the trace has the object's name
pub record Asks (way : Way) (compile run coverage : List (List ℕ)) : Type 0 where
  pub compiled : task_of compile ≡ Some (Compile way.main way.object way.sources)
  pub ran : task_of run ≡ Some (Run way.input way.budget way.trace way.object)
  pub covered : task_of coverage ≡ Some (Coverage way.level way.annotation way.object (way.trace ∷ []))
  pub input_apart : way.input ≢ way.object
  pub trace_apart : way.trace ≢ way.object

-- the file of the input has these numbers
pub record HasInput (way : Way) (held : Held) (numbers : List ℤ) : Type 0 where
  pub bytes : List ℕ
  pub there : Holds way.input bytes held
  pub read : IsInputOf numbers bytes

-- what a sink took from `old` to `new` tells the executions on these numbers of the sources that the files held
pub record PutsTheSources (way : Way) (held : Held) (numbers : List ℤ) (old new : Option (List ℕ)) : Type 0 where
  pub last : Call
  pub before : last.written ≡ old
  pub after : last.written_after ≡ new
  pub told : TellsTheSources way.level way.annotation way.main way.sources held (numbers ∷ []) last

-- whatever was asked for by the words of the three calls, and whatever the input has
abbrev pub ToldByCalls : (compile run coverage : List (List ℕ)) → (held : Option Held)
    → (old new : Option (List ℕ)) → Type 0
ToldByCalls compile run coverage held old new =
    (way : Way) → Asks way compile run coverage → (told : Held) → held ≡ Some told
    → (numbers : List ℤ) → HasInput way told numbers → PutsTheSources way told numbers old new
