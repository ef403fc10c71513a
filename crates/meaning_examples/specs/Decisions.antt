-- Programs with one decision: three conditions in two ways, and an evaluation that an exception abandons.
use Rattle.std.specs.Prelude.{ℤ, pos, true, false, List, [], ◌∷◌}
use Rattle.ada_meaning.specs.Types.{unequal}
use Rattle.ada_meaning.specs.Tree.{Test, operator, relation, return_statement, null_statement, no_handler}
use Rattle.ada_meaning.specs.Program.{Program}
use Rattle.ada_meaning.specs.Execution.{by_return, by_exception}
use Rattle.meaning_examples.specs.Writing.{at, number, var, over, is_equal, exceeds, asks, ◌next◌, ended_here, put, get_var, if_only, some_integer, body, plain, Mark, T, F, N, starts, gives, Shows}

-- with Test_IO;
-- procedure Early_Return is
-- begin
--    Test_IO.Put (1);
--    return;
--    Test_IO.Put (2);
-- end Early_Return;
abbrev pub early_return : Program
early_return = plain (body [] [] (put (at 0 4 4) (number 1) next return_statement (at 1 5 4) next put (at 2 6 4) (number 2) next ended_here) no_handler ∷ []) 0

abbrev pub Returns : Type 0
Returns = Shows early_return 1 [] by_return (pos 1 ∷ []) (starts 0 ∷ starts 1 ∷ [])

-- with Test_IO;
-- procedure P is
--    A, B, C : Integer;
-- begin
--    Test_IO.Get (A);
--    Test_IO.Get (B);
--    Test_IO.Get (C);
--    if .. then
--       Test_IO.Put (1);
--    end if;
-- end P;
abbrev pub three : Test → Program
three t = plain
    (body [] (some_integer 0 ∷ some_integer 1 ∷ some_integer 2 ∷ [])
    (get_var (at 0 5 4) 0
    next get_var (at 1 6 4) 1
    next get_var (at 2 7 4) 2
    next if_only (at 3 8 4) (at 0 8 7) t (put (at 4 9 7) (number 1) next ended_here)
    next ended_here)
    no_handler
    ∷ [])
    0

-- A = 1 and then (B = 1 or else C = 1)
abbrev pub and_first : Program
and_first = three (operator true (asks 8 7 (is_equal (var 0) (number 1)))
    (operator false (asks 8 23 (is_equal (var 1) (number 1))) (asks 8 37 (is_equal (var 2) (number 1)))))

-- (A = 1 and then B = 1) or else C = 1
abbrev pub or_first : Program
or_first = three (operator false
    (operator true (asks 8 8 (is_equal (var 0) (number 1))) (asks 8 23 (is_equal (var 1) (number 1))))
    (asks 8 38 (is_equal (var 2) (number 1))))

-- three inputs give a vector, and then the statement in the if statement starts or doesn't
abbrev pub Taken : Program → List ℤ → List Mark → Type 0
Taken p input v =
    Shows p 1 input by_return (pos 1 ∷ []) (starts 0 ∷ starts 1 ∷ starts 2 ∷ starts 3 ∷ gives 0 v ∷ starts 4 ∷ [])

abbrev pub NotTaken : Program → List ℤ → List Mark → Type 0
NotTaken p input v = Shows p 1 input by_return [] (starts 0 ∷ starts 1 ∷ starts 2 ∷ starts 3 ∷ gives 0 v ∷ [])

abbrev pub AndFirst : Type 0
AndFirst =
    Taken and_first (pos 1 ∷ pos 1 ∷ pos 0 ∷ []) (T ∷ T ∷ N ∷ [])
    × Taken and_first (pos 1 ∷ pos 0 ∷ pos 1 ∷ []) (T ∷ F ∷ T ∷ [])
    × NotTaken and_first (pos 1 ∷ pos 0 ∷ pos 0 ∷ []) (T ∷ F ∷ F ∷ [])
    × NotTaken and_first (pos 0 ∷ pos 0 ∷ pos 0 ∷ []) (F ∷ N ∷ N ∷ [])

abbrev pub OrFirst : Type 0
OrFirst =
    Taken or_first (pos 1 ∷ pos 1 ∷ pos 0 ∷ []) (T ∷ T ∷ N ∷ [])
    × Taken or_first (pos 1 ∷ pos 0 ∷ pos 1 ∷ []) (T ∷ F ∷ T ∷ [])
    × NotTaken or_first (pos 0 ∷ pos 0 ∷ pos 0 ∷ []) (F ∷ N ∷ F ∷ [])
    × NotTaken or_first (pos 1 ∷ pos 0 ∷ pos 0 ∷ []) (T ∷ F ∷ F ∷ [])

-- with Test_IO;
-- procedure Divide is
--    X, Y : Integer;
-- begin
--    Test_IO.Get (X);
--    Test_IO.Get (Y);
--    if X /= 0 and then 100 / Y > 5 then
--       null;
--    end if;
-- end Divide;
abbrev pub divide : Program
divide = plain
    (body [] (some_integer 0 ∷ some_integer 1 ∷ [])
    (get_var (at 0 5 4) 0
    next get_var (at 1 6 4) 1
    next if_only (at 2 7 4) (at 0 7 7)
    (operator true (asks 7 7 (relation unequal (var 0) (number 0))) (asks 7 23 (exceeds (over (number 100) (var 1)) (number 5))))
    (null_statement (at 3 8 7) next ended_here)
    next ended_here)
    no_handler
    ∷ [])
    0

abbrev pub Abandoned : Type 0
Abandoned =
    Shows divide 1 (pos 1 ∷ pos 0 ∷ []) (by_exception 1) [] (starts 0 ∷ starts 1 ∷ starts 2 ∷ [])
    × Shows divide 1 (pos 1 ∷ pos 10 ∷ []) by_return [] (starts 0 ∷ starts 1 ∷ starts 2 ∷ gives 0 (T ∷ T ∷ []) ∷ starts 3 ∷ [])
    × Shows divide 1 (pos 0 ∷ pos 0 ∷ []) by_return [] (starts 0 ∷ starts 1 ∷ starts 2 ∷ gives 0 (F ∷ N ∷ []) ∷ [])
