-- The main procedure of a program.
use Rattle.std.specs.Prelude.{◌≡◌, Some, slice_get}
use Rattle.ada_meaning.specs.Program.{Subprogram, Program}
use Rattle.ada_meaning.specs.WellFormed.{IsMain}

-- it is there, has no parameters, and stands in no generic
pub record HasMain (p : Program) : Type 0 where
  pub main : Subprogram
  pub is_main : slice_get p.subprograms p.main ≡ Some main
  pub main_alone : IsMain main
