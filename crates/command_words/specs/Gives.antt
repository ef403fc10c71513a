-- What a call answers that reads words.
use Rattle.std.specs.Prelude.{◌≡◌, Option, Some, None, Result, Ok, Err}
use Rattle.cov_base.specs.declared.failure.Failure.{Failure}
use Rattle.cov_base.specs.declared.failure.Failure.TheVariants.{Fault, WantOfMemory}
use Rattle.clap.specs.declared.error.kind.ErrorKind.{ErrorKind}
use Rattle.clap.specs.declared.error.kind.ErrorKind.TheVariants.{OutOfMemory}
use Rattle.command_words.specs.declared.command.Usage.{Usage}

-- the call answers what is wanted, seen by `view`; its fault, where nothing is wanted; or want of memory
abbrev pub Gives : {A B F : Type 0} → (A → B) → Option B → Result A (Failure F) → Type 0
Gives view wanted (Ok answer) = wanted ≡ Some (view answer)
Gives view wanted (Err (Fault fault)) = wanted ≡ None
Gives view wanted (Err WantOfMemory) = Unit {0}

-- the failure of words in which an error of this kind was found: want of memory is itself, all else the one fault
abbrev pub failure_of : ErrorKind → Failure Usage
failure_of OutOfMemory = WantOfMemory
failure_of other = Fault (record {})
