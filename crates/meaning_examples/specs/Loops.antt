-- Loops, arrays and case statements.
use Rattle.std.specs.Prelude.{pos, true, false, [], ◌∷◌}
use Rattle.ada_meaning.specs.Types.{Range, between, static_number, scalar, at_most}
use Rattle.ada_meaning.specs.Tree.{relation, read, negation, operator, local_object, whole, element, assignment, scalar_value, others_value, initialized, case_statement, alternative, no_alternative, value_choice, null_statement, while_loop, for_loop, over_bounds, exit_when, no_handler}
use Rattle.ada_meaning.specs.Program.{Program, Subprogram}
use Rattle.ada_meaning.specs.Execution.{by_return, by_exception}
use Rattle.meaning_examples.specs.Writing.{at, integer, natural, number, var, plus, minus, is_equal, exceeds, asks, ◌next◌, ended_here, put, get_var, set_var, integer_is, some_integer, body, declaring, plain, T, F, N, starts, gives, Shows}

-- with Test_IO;
-- procedure W is
--    N : Integer;
-- begin
--    Test_IO.Get (N);
--    while not (N <= 0) loop
--       N := N - 1;
--       exit when N = 3;
--    end loop;
--    Test_IO.Put (N);
-- end W;
abbrev pub w : Program
w = plain
    (body [] (some_integer 0 ∷ [])
    (get_var (at 0 5 4) 0
    next while_loop (at 1 6 4) (at 0 6 10) (negation (asks 6 15 (relation at_most (var 0) (number 0))))
    (set_var (at 2 7 7) 0 (minus (var 0) (number 1))
    next exit_when (at 3 8 7) (at 1 8 17) (asks 8 17 (is_equal (var 0) (number 3)))
    next ended_here)
    next put (at 4 10 4) (var 0)
    next ended_here)
    no_handler
    ∷ [])
    0

abbrev pub While : Type 0
While =
    Shows w 3 (pos 2 ∷ []) by_return (pos 0 ∷ [])
    (starts 0 ∷ starts 1 ∷ gives 0 (F ∷ []) ∷ starts 2 ∷ starts 3 ∷ gives 1 (F ∷ []) ∷ gives 0 (F ∷ []) ∷ starts 2 ∷ starts 3 ∷ gives 1 (F ∷ [])
    ∷ gives 0 (T ∷ []) ∷ starts 4 ∷ [])
    × Shows w 2 (pos 5 ∷ []) by_return (pos 3 ∷ [])
    (starts 0 ∷ starts 1 ∷ gives 0 (F ∷ []) ∷ starts 2 ∷ starts 3 ∷ gives 1 (F ∷ []) ∷ gives 0 (F ∷ []) ∷ starts 2 ∷ starts 3 ∷ gives 1 (T ∷ []) ∷ starts 4 ∷ [])
    × Shows w 1 (pos 0 ∷ []) by_return (pos 0 ∷ []) (starts 0 ∷ starts 1 ∷ gives 0 (T ∷ []) ∷ starts 4 ∷ [])

-- with Test_IO;
-- procedure Loops is
--    N : Integer := 0;
-- begin
--    for I in 3 .. 2 loop
--       N := N + 100;
--    end loop;
--    for I in reverse 1 .. 3 loop
--       exit when I = 1 or else N > 4;
--       N := N + I;
--    end loop;
--    Test_IO.Put (N);
-- end Loops;
abbrev pub loops : Program
loops = plain
    (declaring (scalar integer ∷ scalar integer ∷ []) (body [] (integer_is (at 0 3 4) 0 (number 0) ∷ [])
    (for_loop (at 1 5 4) 1 false (over_bounds (number 3) (number 2)) (set_var (at 2 6 7) 0 (plus (var 0) (number 100)) next ended_here)
    next for_loop (at 3 8 4) 2 true (over_bounds (number 1) (number 3))
    (exit_when (at 4 9 7) (at 0 9 17) (operator false (asks 9 17 (is_equal (var 2) (number 1))) (asks 9 31 (exceeds (var 0) (number 4))))
    next set_var (at 5 10 7) 0 (plus (var 0) (var 2))
    next ended_here)
    next put (at 6 12 4) (var 0)
    next ended_here)
    no_handler)
    ∷ [])
    0

-- a null range gives no turn, and a reverse loop goes down
abbrev pub For : Type 0
For = Shows loops 1 [] by_return (pos 5 ∷ [])
    (starts 0 ∷ starts 1 ∷ starts 3 ∷ starts 4 ∷ gives 0 (F ∷ F ∷ []) ∷ starts 5 ∷ starts 4 ∷ gives 0 (F ∷ F ∷ []) ∷ starts 5 ∷ starts 4 ∷ gives 0 (T ∷ N ∷ [])
    ∷ starts 6 ∷ [])

abbrev pub day : Range
day = between (static_number (pos 0)) (static_number (pos 2))

abbrev pub one_to_three : Range
one_to_three = between (static_number (pos 1)) (static_number (pos 3))

-- with Test_IO;
-- procedure T is
--    type Day is (Mon, Tue, Wed);
--    type Tab is array (1 .. 3) of Natural;
--    V : Tab := (others => 2);
--    D : Day := Tue;
--    N : Integer;
-- begin
--    Test_IO.Get (N);
--    for I in reverse 1 .. N loop
--       V (I) := V (I) - 1;
--    end loop;
--    case D is
--       when Mon | Wed => null;
--       when Tue => Test_IO.Put (V (1));
--    end case;
-- end T;
abbrev pub procedure_t : Subprogram
procedure_t = declaring (scalar integer ∷ []) (body []
    (initialized (at 0 5 4) 0 (others_value one_to_three (scalar_value natural (number 2)))
    ∷ initialized (at 1 6 4) 1 (scalar_value day (number 1)) ∷ some_integer 2 ∷ [])
    (get_var (at 2 9 4) 2
    next for_loop (at 3 10 4) 3 true (over_bounds (number 1) (var 2))
    (assignment (at 4 11 7) (local_object 0) (element one_to_three (var 3) whole)
    (scalar_value natural (minus (read (local_object 0) (element one_to_three (var 3) whole)) (number 1)))
    next ended_here)
    next case_statement (at 5 13 4) (var 1)
    (alternative (value_choice (static_number (pos 0)) ∷ value_choice (static_number (pos 2)) ∷ []) (null_statement (at 6 14 25) next ended_here)
    (alternative (value_choice (static_number (pos 1)) ∷ [])
    (put (at 7 15 19) (read (local_object 0) (element one_to_three (number 1) whole)) next ended_here)
    no_alternative))
    next ended_here)
    no_handler)

abbrev pub t : Program
t = plain (procedure_t ∷ []) 0

abbrev pub ArrayAndCase : Type 0
ArrayAndCase =
    Shows t 1 (pos 3 ∷ []) by_return (pos 1 ∷ [])
    (starts 0 ∷ starts 1 ∷ starts 2 ∷ starts 3 ∷ starts 4 ∷ starts 4 ∷ starts 4 ∷ starts 5 ∷ starts 7 ∷ [])
    × Shows t 1 (pos 0 ∷ []) by_return (pos 2 ∷ []) (starts 0 ∷ starts 1 ∷ starts 2 ∷ starts 3 ∷ starts 5 ∷ starts 7 ∷ [])
    × Shows t 1 (pos 4 ∷ []) (by_exception 1) [] (starts 0 ∷ starts 1 ∷ starts 2 ∷ starts 3 ∷ starts 4 ∷ [])
