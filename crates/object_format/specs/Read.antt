-- What is read as an object, and what is not.
use Rattle.std.specs.Prelude.{◌≡◌, ℕ, ◌⊎◌, List, Ok, Err}
use Rattle.cov_base.specs.declared.failure.Failure.{Failure}
use Rattle.cov_base.specs.declared.failure.Failure.TheVariants.{Fault, WantOfMemory}
use Rattle.object_format.specs.declared.fault.ObjectFault.{ObjectFault}
use Rattle.object_format.specs.declared.object.Object.{Object}
use Rattle.object_format.specs.Checked.{IsSound, FailsFirst}
use Rattle.object_format.specs.Counts.{IsCounted}
use Rattle.object_format.specs.Fields.{passes_field}
use Rattle.object_format.specs.File.{IsClosed, structured}

-- an object that reading can give: its parts have a file, its digest is that of the file, and its parts pass the checks
pub record IsObject (o : Object) : Type 0 where
  pub closed : IsClosed o
  pub sound : IsSound o

-- the fault is that of the first layer of the file that fails, or else of the first check that its object fails
abbrev pub IsRefusedFor : List ℕ → ObjectFault → Type 0
IsRefusedFor bytes fault =
    (structured bytes ≡ Err fault) ⊎ ((o : Object) × (structured bytes ≡ Ok o) × FailsFirst (passes_field o) o fault)

-- reading failed so, where memory wasn't refused
abbrev pub IsFailure : List ℕ → Failure ObjectFault → Type 0
IsFailure bytes (Fault fault) = IsRefusedFor bytes fault
IsFailure bytes WantOfMemory = Unit {0}

-- an object whose parts can be written: they pass the checks, and their counts have room
pub record HasObject (o : Object) : Type 0 where
  pub sound : IsSound o
  pub counted : IsCounted o
