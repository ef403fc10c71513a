-- What units declare for others: whole objects.
use Rattle.std.specs.Prelude.{reverse}
use Rattle.cov_base.specs.Lists.{Everywhere}
use Rattle.ada_meaning.specs.Collected.{decisions_of}
use Rattle.ada_rules.specs.Entities.{Standard}
use Rattle.ada_rules.specs.Environment.{Interface, package_interface, generic_interface, World, State, beginning_state}
use Rattle.legal_programs.specs.Deciding.{Decides, IsWholeRegion}

abbrev pub IsWholeInterface : Interface → Type 0
IsWholeInterface (package_interface region) = IsWholeRegion region
IsWholeInterface (generic_interface formals region) = IsWholeRegion region
IsWholeInterface i = Unit {0}

pub record IsWholeStandard (standard : Standard) : Type 0 where
  pub predefined : IsWholeRegion standard.predefined
  pub test_io : IsWholeRegion standard.test_io_declarations

pub record IsWholeWorld (w : World) : Type 0 where
  pub standard : IsWholeStandard w.standard
  pub interfaces : Everywhere IsWholeInterface w.interfaces

-- the decisions of the subprograms that were made so far are numbered in turn from 0, and none has too many conditions
-- where no limit was passed
abbrev pub AreDecidedInTurn : State → Type 0
AreDecidedInTurn s = Decides beginning_state (decisions_of (reverse s.subprograms)) s
