-- Activations with objects of their own, places of actuals, overlapping actuals, words of input that fail a check, and operators.
use Rattle.std.specs.Prelude.{ℕ, pos, false, [], ◌∷◌}
use Rattle.ada_meaning.specs.Types.{Range, between, static_number, scalar, here, multiplication, unary_plus, unary_minus, absolute_value}
use Rattle.ada_meaning.specs.Tree.{read, signed, operation, subprogram, local_object, whole, element, no_actual, by_expression, by_variable, assignment, procedure_call, scalar_value, others_value, initialized, without_value, block_statement, block, return_value, test_get, for_loop, over_bounds, bare_loop, return_statement, exit_statement, no_handler}
use Rattle.ada_meaning.specs.Program.{Mode, in_mode, out_mode, in_out_mode, Parameter, Program, Subprogram}
use Rattle.ada_meaning.specs.Execution.{by_return, by_exception}
use Rattle.meaning_examples.specs.Writing.{at, integer, natural, positive, number, var, plus, minus, exceeds, is_equal, asks, ◌next◌, ended_here, put, set_var, if_only, on_exception, integer_is, body, declaring, plain, calls, T, F, starts, gives, Shows}

-- function Fact (N : Natural) return Positive is
--    R : Positive := 1;
-- begin
--    if N > 0 then
--       R := Fact (N - 1) * N;
--    end if;
--    return R;
-- end Fact;
abbrev pub fact : Subprogram
fact = body (record { declaration = 0; mode = in_mode; subtype = scalar natural } ∷ [])
    (initialized (at 0 2 4) 1 (scalar_value positive (number 1)) ∷ [])
    (if_only (at 1 4 4) (at 0 4 7) (asks 4 7 (exceeds (var 0) (number 0)))
    (assignment (at 2 5 7) (local_object 1) whole
    (scalar_value positive (operation multiplication (calls 0 (by_expression (minus (var 0) (number 1)) no_actual)) (var 0)))
    next ended_here)
    next return_value (at 3 7 4) positive (var 1)
    next ended_here)
    no_handler

-- with Test_IO; with Fact;
-- procedure Factorial is
-- begin
--    Test_IO.Put (Fact (2));
--    Test_IO.Put (Fact (-1));
-- end Factorial;
abbrev pub calling_fact : Subprogram
calling_fact = body [] []
    (put (at 4 12 4) (calls 0 (by_expression (number 2) no_actual))
    next put (at 5 13 4) (calls 0 (by_expression (signed unary_minus (number 1)) no_actual))
    next ended_here)
    no_handler

abbrev pub factorial : Program
factorial = plain (fact ∷ calling_fact ∷ []) 1

-- each activation has a parameter and a variable of its own, and an actual is checked before the call
abbrev pub OwnVariables : Type 0
OwnVariables = Shows factorial 4 [] (by_exception 1) (pos 2 ∷ [])
    (starts 4
    ∷ starts 0 ∷ starts 1 ∷ gives 0 (T ∷ []) ∷ starts 2
    ∷ starts 0 ∷ starts 1 ∷ gives 0 (T ∷ []) ∷ starts 2
    ∷ starts 0 ∷ starts 1 ∷ gives 0 (F ∷ []) ∷ starts 3
    ∷ starts 3 ∷ starts 3
    ∷ starts 5 ∷ [])

abbrev pub one_to_three : Range
one_to_three = between (static_number (pos 1)) (static_number (pos 3))

abbrev pub integer_by : Mode → ℕ → Parameter
integer_by mode d = record { declaration = d; mode = mode; subtype = scalar integer }

-- procedure Bump (X, I : in out Integer) is
-- begin
--    I := I + 1;
--    X := X + I;
-- end Bump;
-- procedure Both (X, Y : out Integer) is
-- begin
--    X := 1;
--    Y := 2;
-- end Both;
-- with Test_IO; with Bump; with Both;
-- procedure Actuals is
--    type Tab is array (1 .. 3) of Integer;
--    V : Tab := (others => 10);
--    I : Integer := 1;
-- begin
--    Bump (V (I), I);
--    Test_IO.Put (V (1));
--    Test_IO.Put (V (2));
--    Bump (I, I);
--    Test_IO.Put (I);
--    Both (I, I);
--    Test_IO.Put (I);
-- end Actuals;
abbrev pub actuals : Program
actuals = plain
    (body (integer_by in_out_mode 0 ∷ integer_by in_out_mode 1 ∷ []) []
    (set_var (at 0 3 4) 1 (plus (var 1) (number 1)) next set_var (at 1 4 4) 0 (plus (var 0) (var 1)) next ended_here)
    no_handler
    ∷ body (integer_by out_mode 0 ∷ integer_by out_mode 1 ∷ []) []
    (set_var (at 2 8 4) 0 (number 1) next set_var (at 3 9 4) 1 (number 2) next ended_here)
    no_handler
    ∷ body []
    (initialized (at 4 14 4) 2 (others_value one_to_three (scalar_value integer (number 10))) ∷ integer_is (at 5 15 4) 3 (number 1) ∷ [])
    (procedure_call (at 6 17 4) (subprogram here 0)
    (by_variable (local_object 2) (element one_to_three (var 3) whole) integer (by_variable (local_object 3) whole integer no_actual))
    next put (at 7 18 4) (read (local_object 2) (element one_to_three (number 1) whole))
    next put (at 8 19 4) (read (local_object 2) (element one_to_three (number 2) whole))
    next procedure_call (at 9 20 4) (subprogram here 0) (by_variable (local_object 3) whole integer (by_variable (local_object 3) whole integer no_actual))
    next put (at 10 21 4) (var 3)
    next procedure_call (at 11 22 4) (subprogram here 1) (by_variable (local_object 3) whole integer (by_variable (local_object 3) whole integer no_actual))
    next put (at 12 23 4) (var 3)
    next ended_here)
    no_handler
    ∷ [])
    2

-- V (1) is the actual although I is 2 at the end; of two actuals that are one variable the last copy back stays
abbrev pub Places : Type 0
Places = Shows actuals 2 [] by_return (pos 12 ∷ pos 10 ∷ pos 3 ∷ pos 2 ∷ [])
    (starts 4 ∷ starts 5 ∷ starts 6 ∷ starts 0 ∷ starts 1 ∷ starts 7 ∷ starts 8 ∷ starts 9 ∷ starts 0 ∷ starts 1 ∷ starts 10
    ∷ starts 11 ∷ starts 2 ∷ starts 3 ∷ starts 12 ∷ [])

-- with Test_IO;
-- procedure Words is
--    subtype Three is Integer range 1 .. 3;
--    X : Three;
-- begin
--    begin
--       Test_IO.Get (X);
--    exception
--       when Constraint_Error => Test_IO.Put (X);
--    end;
--    Test_IO.Get (X);
--    for I in 1 .. X loop
--       loop
--          if I = 2 then
--             return;
--          end if;
--          exit;
--       end loop;
--       Test_IO.Put (+abs (-I));
--    end loop;
-- end Words;
abbrev pub words : Program
words = plain
    (declaring (scalar integer ∷ []) (body [] (without_value 0 (scalar one_to_three) ∷ [])
    (block_statement (block []
    (procedure_call (at 0 7 7) test_get (by_variable (local_object 0) whole one_to_three no_actual) next ended_here)
    (on_exception 1 (put (at 1 9 32) (var 0) next ended_here) no_handler))
    next procedure_call (at 2 11 4) test_get (by_variable (local_object 0) whole one_to_three no_actual)
    next for_loop (at 3 12 4) 1 false (over_bounds (number 1) (var 0))
    (bare_loop (at 4 13 7)
    (if_only (at 5 14 10) (at 0 14 13) (asks 14 13 (is_equal (var 1) (number 2))) (return_statement (at 6 15 13) next ended_here)
    next exit_statement (at 7 17 10)
    next ended_here)
    next put (at 8 19 7) (signed unary_plus (signed absolute_value (signed unary_minus (var 1))))
    next ended_here)
    next ended_here)
    no_handler)
    ∷ [])
    0

-- a word that fails its check is taken, and the variable stays; a return leaves all loops
abbrev pub WordsOfInput : Type 0
WordsOfInput = Shows words 2 (pos 4 ∷ pos 3 ∷ []) by_return (pos 1 ∷ pos 1 ∷ [])
    (starts 0 ∷ starts 1 ∷ starts 2 ∷ starts 3 ∷ starts 4 ∷ starts 5 ∷ gives 0 (F ∷ []) ∷ starts 7 ∷ starts 8
    ∷ starts 4 ∷ starts 5 ∷ gives 0 (T ∷ []) ∷ starts 6 ∷ [])
    × Shows words 2 (pos 3 ∷ []) (by_exception 4) [] (starts 0 ∷ starts 2 ∷ [])
