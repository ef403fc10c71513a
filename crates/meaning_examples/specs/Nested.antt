-- Decisions inside decisions: by recursion, as operands and as indices.
use Rattle.std.specs.Prelude.{ℕ, pos, true, false, [], ◌∷◌}
use Rattle.ada_meaning.specs.Types.{scalar}
use Rattle.ada_meaning.specs.Tree.{Label, Expr, complement, decision, read, condition, operator, local_object, whole, element, no_actual, by_expression, assignment, scalar_value, others_value, initialized, without_value, no_handler}
use Rattle.ada_meaning.specs.Program.{Program, Subprogram}
use Rattle.ada_meaning.specs.Execution.{by_return, by_exception}
use Rattle.meaning_examples.specs.Writing.{in_file, at, integer, boolean, number, var, minus, over, is_equal, exceeds, asks, ◌next◌, ended_here, put, get_var, if_only, return_truth, true_value, false_value, integer_in, some_integer, body, plain, calls, on_exception, T, F, N, starts, gives, Shows}

-- function F (N, D : Integer) return Boolean is
-- begin
--    if (N > 0 and then F (N - 1, 0)) or else 10 / D > 1 then
--       return True;
--    end if;
--    return False;
-- exception
--    when Constraint_Error =>
--       return False;
-- end F;
abbrev pub f : Subprogram
f = body (integer_in 0 ∷ integer_in 1 ∷ []) []
    (if_only (at 0 3 4) (at 0 3 7)
    (operator false
    (operator true (asks 3 8 (exceeds (var 0) (number 0)))
    (asks 3 23 (calls 0 (by_expression (minus (var 0) (number 1)) (by_expression (number 0) no_actual)))))
    (asks 3 45 (exceeds (over (number 10) (var 1)) (number 1))))
    (return_truth (at 1 4 7) true_value next ended_here)
    next return_truth (at 2 6 4) false_value
    next ended_here)
    (on_exception 1 (return_truth (at 3 9 7) false_value next ended_here) no_handler)

-- with Test_IO;
-- with F;
-- procedure Inner is
-- begin
--    if F (1, 2) then
--       Test_IO.Put (1);
--    end if;
-- end Inner;
abbrev pub inner : Program
inner = plain
    (f
    ∷ body [] []
    (if_only (at 4 15 4) (at 1 15 7) (asks 15 7 (calls 0 (by_expression (number 1) (by_expression (number 2) no_actual))))
    (put (at 5 16 7) (number 1) next ended_here)
    next ended_here)
    no_handler
    ∷ [])
    1

-- the inner evaluation is abandoned and gives no vector; the outer one goes on
abbrev pub InnerAbandoned : Type 0
InnerAbandoned = Shows inner 3 [] by_return (pos 1 ∷ [])
    (starts 4 ∷ starts 0 ∷ starts 0 ∷ starts 3 ∷ gives 0 (T ∷ F ∷ T ∷ []) ∷ starts 1 ∷ gives 1 (T ∷ []) ∷ starts 5 ∷ [])

-- function H (N : Integer) return Boolean is
-- begin
--    return (N > 0 and then H (N - 1)) or else N = 1;
-- end H;
abbrev pub h : Subprogram
h = body (integer_in 0 ∷ []) []
    (return_truth (at 0 3 4)
    (decision (at 0 3 11)
    (operator false
    (operator true (asks 3 12 (exceeds (var 0) (number 0))) (asks 3 27 (calls 0 (by_expression (minus (var 0) (number 1)) no_actual))))
    (asks 3 46 (is_equal (var 0) (number 1)))))
    next ended_here)
    no_handler

-- the statement or decision with this number in the second file
abbrev pub at_second : ℕ → ℕ → ℕ → Label
at_second n line column = record { number = n; place = in_file 1 line column }

-- with Test_IO;
-- with H;
-- procedure HM is
-- begin
--    if H (2) then
--       Test_IO.Put (1);
--    end if;
-- end HM;
abbrev pub hm : Program
hm = plain
    (h
    ∷ body [] []
    (if_only (at_second 1 5 4) (at_second 1 5 7) (condition (in_file 1 5 7) (calls 0 (by_expression (number 2) no_actual)))
    (put (at_second 2 6 7) (number 1) next ended_here)
    next ended_here)
    no_handler
    ∷ [])
    1

abbrev pub Recursive : Type 0
Recursive = Shows hm 4 [] by_return (pos 1 ∷ [])
    (starts 1 ∷ starts 0 ∷ starts 0 ∷ starts 0 ∷ gives 0 (F ∷ N ∷ F ∷ []) ∷ gives 0 (T ∷ F ∷ T ∷ []) ∷ gives 0 (T ∷ T ∷ N ∷ [])
    ∷ gives 1 (T ∷ []) ∷ starts 2 ∷ [])

-- procedure Nest is
--    A, B : Boolean;
-- begin
--    if (A or else B) = A then
--       A := B;
--    end if;
-- end Nest;
abbrev pub nest : Program
nest = plain
    (body [] (without_value 0 (scalar boolean) ∷ without_value 1 (scalar boolean) ∷ [])
    (if_only (at 0 4 4) (at 0 4 7)
    (asks 4 7 (is_equal (decision (at 1 4 7) (operator false (asks 4 8 (var 0)) (asks 4 18 (var 1)))) (var 0)))
    (assignment (at 1 5 7) (local_object 0) whole (scalar_value boolean (var 1)) next ended_here)
    next ended_here)
    no_handler
    ∷ [])
    0

abbrev pub AsOperand : Type 0
AsOperand = Shows nest 1 [] by_return [] (starts 0 ∷ gives 1 (F ∷ F ∷ []) ∷ gives 0 (T ∷ []) ∷ starts 1 ∷ [])

-- T (..), for an array with an index of type Boolean
abbrev pub truth_part : Expr → Expr
truth_part e = read (local_object 0) (element boolean e whole)

-- with Test_IO;
-- procedure Nested is
--    type Tab is array (Boolean) of Integer;
--    T : Tab := (others => 1);
--    A, B : Integer;
-- begin
--    Test_IO.Get (A);
--    Test_IO.Get (B);
--    T (A > 0 and then B > 0) := 7;
--    if (A > 1 or else B > 1) = not (A > B) or else T (A = B) / (A - B) = 0 then
--       Test_IO.Put (1);
--    end if;
--    Test_IO.Put (T (True));
-- end Nested;
abbrev pub nested : Program
nested = plain
    (body [] (initialized (at 0 4 4) 0 (others_value boolean (scalar_value integer (number 1))) ∷ some_integer 1 ∷ some_integer 2 ∷ [])
    (get_var (at 1 7 4) 1
    next get_var (at 2 8 4) 2
    next assignment (at 3 9 4) (local_object 0)
    (element boolean (decision (at 0 9 7) (operator true (asks 9 7 (exceeds (var 1) (number 0))) (asks 9 22 (exceeds (var 2) (number 0))))) whole)
    (scalar_value integer (number 7))
    next if_only (at 4 10 4) (at 1 10 7)
    (operator false
    (asks 10 7 (is_equal
    (decision (at 2 10 7) (operator false (asks 10 8 (exceeds (var 1) (number 1))) (asks 10 22 (exceeds (var 2) (number 1)))))
    (complement (exceeds (var 1) (var 2)))))
    (asks 10 51 (is_equal (over (truth_part (is_equal (var 1) (var 2))) (minus (var 1) (var 2))) (number 0))))
    (put (at 5 11 7) (number 1) next ended_here)
    next put (at 6 13 4) (truth_part true_value)
    next ended_here)
    no_handler
    ∷ [])
    0

abbrev pub AsIndex : Type 0
AsIndex =
    Shows nested 1 (pos 1 ∷ pos 2 ∷ []) by_return (pos 1 ∷ pos 7 ∷ [])
    (starts 0 ∷ starts 1 ∷ starts 2 ∷ starts 3 ∷ gives 0 (T ∷ T ∷ []) ∷ starts 4 ∷ gives 2 (F ∷ T ∷ []) ∷ gives 1 (T ∷ N ∷ []) ∷ starts 5 ∷ starts 6 ∷ [])
    × Shows nested 1 (pos 2 ∷ pos 1 ∷ []) by_return (pos 7 ∷ [])
    (starts 0 ∷ starts 1 ∷ starts 2 ∷ starts 3 ∷ gives 0 (T ∷ T ∷ []) ∷ starts 4 ∷ gives 2 (T ∷ N ∷ []) ∷ gives 1 (F ∷ F ∷ []) ∷ starts 6 ∷ [])
    × Shows nested 1 (pos 0 ∷ pos 0 ∷ []) (by_exception 1) []
    (starts 0 ∷ starts 1 ∷ starts 2 ∷ starts 3 ∷ gives 0 (F ∷ N ∷ []) ∷ starts 4 ∷ gives 2 (F ∷ F ∷ []) ∷ [])
    × Shows nested 1 (pos 5 ∷ pos 5 ∷ []) by_return (pos 1 ∷ pos 7 ∷ [])
    (starts 0 ∷ starts 1 ∷ starts 2 ∷ starts 3 ∷ gives 0 (T ∷ T ∷ []) ∷ starts 4 ∷ gives 2 (T ∷ N ∷ []) ∷ gives 1 (T ∷ N ∷ []) ∷ starts 5 ∷ starts 6 ∷ [])
