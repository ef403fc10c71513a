-- Parameters of mode out and in out, recursion, and copies of a generic.
use Rattle.std.specs.Prelude.{ℕ, pos, true, false, [], ◌∷◌, None}
use Rattle.ada_meaning.specs.Types.{Range, between, static_number, static_formal, scalar, here, of_instance}
use Rattle.ada_meaning.specs.Tree.{Object, constant, read, call, subprogram, operator, local_object, library_object, whole, no_actual, by_expression, by_variable, assignment, procedure_call, scalar_value, no_handler}
use Rattle.ada_meaning.specs.Program.{Parameter, Mode, out_mode, in_out_mode, no_initial, actual_object, LibraryObject, Program}
use Rattle.ada_meaning.specs.Execution.{by_return}
use Rattle.ada_meaning.specs.Obligations.{IsResolved}
use Rattle.meaning_examples.specs.Writing.{place, at, integer, natural, positive, number, var, plus, is_equal, is_less, asks, ◌next◌, ended_here, put, set_var, if_only, return_truth, true_value, false_value, on_exception, integer_is, integer_in, body, generic_body, plain, T, F, starts, gives, starts_in, gives_in, Shows}

abbrev pub small : Range
small = between (static_number (pos 0)) (static_number (pos 9))

abbrev pub library_var : ℕ → Object
library_var d = library_object here d

abbrev pub small_object : ℕ → LibraryObject
small_object d = record { declaration = d; generic = None; subtype = scalar small; initial = no_initial }

abbrev pub integer_by : Mode → ℕ → Parameter
integer_by mode d = record { declaration = d; mode = mode; subtype = scalar integer }

-- package Pk is
--    subtype Small is Integer range 0 .. 9;
--    A, B, C : Small;
--    procedure Set (X : out Integer; Y : in out Integer; Z : out Integer);
-- end Pk;
-- package body Pk is
--    procedure Set (X : out Integer; Y : in out Integer; Z : out Integer) is
--    begin
--       X := 5;
--       Y := Y + 10;
--       Z := 7;
--    end Set;
-- end Pk;
-- with Test_IO;
-- with Pk;
-- procedure Copy_Back is
-- begin
--    Pk.Set (Pk.A, Pk.B, Pk.C);
-- exception
--    when Constraint_Error =>
--       Test_IO.Put (Pk.A);
--       Test_IO.Put (Pk.B);
--       Test_IO.Put (Pk.C);
-- end Copy_Back;
abbrev pub copy_back : Program
copy_back = record {
  subprograms =
      body (integer_by out_mode 3 ∷ integer_by in_out_mode 4 ∷ integer_by out_mode 5 ∷ []) []
      (set_var (at 0 9 7) 3 (number 5) next set_var (at 1 10 7) 4 (plus (var 4) (number 10)) next set_var (at 2 11 7) 5 (number 7) next ended_here)
      no_handler
      ∷ body [] []
      (procedure_call (at 3 18 4) (subprogram here 0)
      (by_variable (library_var 0) whole small (by_variable (library_var 1) whole small (by_variable (library_var 2) whole small no_actual)))
      next ended_here)
      (on_exception 1
      (put (at 4 21 7) (read (library_var 0) whole)
      next put (at 5 22 7) (read (library_var 1) whole)
      next put (at 6 23 7) (read (library_var 2) whole)
      next ended_here)
      no_handler)
      ∷ [];
  main = 1;
  objects = small_object 0 ∷ small_object 1 ∷ small_object 2 ∷ [];
  constants = [];
  instances = [];
  declared = [];
  exceptions = [];
}

-- the second copy back fails; the first one stays, and the third is left out
abbrev pub CopiesBack : Type 0
CopiesBack = Shows copy_back 2 [] by_return (pos 5 ∷ pos 0 ∷ pos 0 ∷ [])
    (starts 3 ∷ starts 0 ∷ starts 1 ∷ starts 2 ∷ starts 4 ∷ starts 5 ∷ starts 6 ∷ [])

-- procedure Out_First_P (X : out Natural; Y : out Positive) is
-- begin
--    if X = 0 and then Y = 1 then
--       X := 4;
--    end if;
-- end Out_First_P;
-- with Test_IO;
-- with Out_First_P;
-- procedure Out_First is
--    A : Integer := 8;
--    B : Integer := 9;
-- begin
--    Out_First_P (A, B);
--    Test_IO.Put (A);
--    Test_IO.Put (B);
-- end Out_First;
abbrev pub out_first : Program
out_first = plain
    (body
    (record { declaration = 0; mode = out_mode; subtype = scalar natural } ∷ record { declaration = 1; mode = out_mode; subtype = scalar positive } ∷ [])
    []
    (if_only (at 0 4 4) (at 0 4 7) (operator true (asks 4 7 (is_equal (var 0) (number 0))) (asks 4 22 (is_equal (var 1) (number 1))))
    (assignment (at 1 5 7) (local_object 0) whole (scalar_value natural (number 4)) next ended_here)
    next ended_here)
    no_handler
    ∷ body [] (integer_is (at 2 11 4) 2 (number 8) ∷ integer_is (at 3 12 4) 3 (number 9) ∷ [])
    (procedure_call (at 4 14 4) (subprogram here 0)
    (by_variable (local_object 2) whole integer (by_variable (local_object 3) whole integer no_actual))
    next put (at 5 15 4) (var 2)
    next put (at 6 16 4) (var 3)
    next ended_here)
    no_handler
    ∷ [])
    1

-- a parameter of mode out begins with its subtype's first value
abbrev pub OutFirst : Type 0
OutFirst = Shows out_first 2 [] by_return (pos 4 ∷ pos 1 ∷ [])
    (starts 2 ∷ starts 3 ∷ starts 4 ∷ starts 0 ∷ gives 0 (T ∷ T ∷ []) ∷ starts 1 ∷ starts 5 ∷ starts 6 ∷ [])

-- generic
--    Limit : Integer;
-- package G is
--    function Small (X : Integer) return Boolean;
-- end G;
-- package body G is
--    function Small (X : Integer) return Boolean is
--    begin
--       if X < Limit then
--          return True;
--       end if;
--       return False;
--    end Small;
-- end G;
-- with G;
-- package G1 is new G (1);
-- with G;
-- package G2 is new G (9);
-- with Test_IO; with G1; with G2;
-- procedure Smaller is
-- begin
--    if G1.Small (5) or else G2.Small (5) then
--       Test_IO.Put (1);
--    end if;
-- end Smaller;
abbrev pub smaller : Program
smaller = record {
  subprograms =
      generic_body 0 (integer_in 0 ∷ []) []
      (if_only (at 0 9 7) (at 0 9 10) (asks 9 10 (is_less (var 0) (constant (static_formal 0)))) (return_truth (at 1 10 10) true_value next ended_here)
      next return_truth (at 2 12 7) false_value
      next ended_here)
      no_handler
      ∷ body [] []
      (if_only (at 3 22 4) (at 1 22 7)
      (operator false
      (asks 22 7 (call (subprogram (of_instance 1) 0) (by_expression (number 5) no_actual)))
      (asks 22 28 (call (subprogram (of_instance 2) 0) (by_expression (number 5) no_actual))))
      (put (at 4 23 7) (number 1) next ended_here)
      next ended_here)
      no_handler
      ∷ [];
  main = 1;
  objects = [];
  constants = [];
  instances =
      record { name = 103 ∷ 49 ∷ []; place = place 16 1; generic = 0; actuals = actual_object (static_number (pos 1)) (pos 1) ∷ []; constants = [] }
      ∷ record { name = 103 ∷ 50 ∷ []; place = place 18 1; generic = 0; actuals = actual_object (static_number (pos 9)) (pos 9) ∷ []; constants = [] }
      ∷ [];
  declared = [];
  exceptions = [];
}

-- the decision of the generic is False in the one instance, and True in the other
abbrev pub BothInstances : Type 0
BothInstances = Shows smaller 2 [] by_return (pos 1 ∷ [])
    (starts 3 ∷ starts_in 1 0 ∷ gives_in 1 0 (F ∷ []) ∷ starts_in 1 2 ∷ starts_in 2 0 ∷ gives_in 2 0 (T ∷ []) ∷ starts_in 2 1 ∷ gives 1 (F ∷ T ∷ []) ∷ starts 4 ∷ [])
    × IsResolved smaller
