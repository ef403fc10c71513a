-- Other statements: elsif and else, case with ranges and others, loops over a subtype and without an end, functions that reach their end.
use Rattle.std.specs.Prelude.{◌≡◌, pos, false, [], ◌∷◌, None}
use Rattle.ada_meaning.specs.Types.{Range, between, static_number, scalar, multiplication}
use Rattle.ada_meaning.specs.Tree.{operation, no_actual, by_expression, if_statement, branch, else_part, case_statement, alternative, no_alternative, value_choice, range_choice, other_values, null_statement, bare_loop, for_loop, over_subtype, exit_statement, no_handler, conversion}
use Rattle.ada_meaning.specs.Program.{Program, Subprogram}
use Rattle.ada_meaning.specs.Execution.{by_return, by_exception, exec, ended, events_at, output_at}
use Rattle.meaning_examples.specs.Writing.{at, natural, number, var, is_equal, is_less, exceeds, asks, ◌next◌, ended_here, put, get_var, set_var, if_only, return_truth, true_value, calls, integer_in, integer_is, some_integer, on_exception, body, declaring, plain, T, F, starts, gives, Shows}

-- with Test_IO;
-- procedure Choose is
--    N : Integer;
-- begin
--    loop
--       Test_IO.Get (N);
--       if N < 0 then
--          exit;
--       elsif N = 0 then
--          null;
--       else
--          case N is
--             when 1 => Test_IO.Put (10);
--             when 2 .. 5 | 7 => Test_IO.Put (20);
--             when others => Test_IO.Put (30);
--          end case;
--       end if;
--    end loop;
-- end Choose;
abbrev pub choose : Program
choose = plain
    (body [] (some_integer 0 ∷ [])
    (bare_loop (at 0 5 4)
    (get_var (at 1 6 7) 0
    next if_statement (at 2 7 7)
    (branch (at 0 7 10) (asks 7 10 (is_less (var 0) (number 0))) (exit_statement (at 3 8 10) next ended_here)
    (branch (at 1 9 13) (asks 9 13 (is_equal (var 0) (number 0))) (null_statement (at 4 10 10) next ended_here)
    (else_part
    (case_statement (at 5 12 10) (var 0)
    (alternative (value_choice (static_number (pos 1)) ∷ []) (put (at 6 13 23) (number 10) next ended_here)
    (alternative (range_choice (static_number (pos 2)) (static_number (pos 5)) ∷ value_choice (static_number (pos 7)) ∷ [])
    (put (at 7 14 32) (number 20) next ended_here)
    (alternative (other_values ∷ []) (put (at 8 15 28) (number 30) next ended_here)
    no_alternative)))
    next ended_here))))
    next ended_here)
    next ended_here)
    no_handler
    ∷ [])
    0

abbrev pub Choices : Type 0
Choices =
    Shows choose 2 (pos 1 ∷ []) (by_exception 4) (pos 10 ∷ [])
    (starts 0 ∷ starts 1 ∷ starts 2 ∷ gives 0 (F ∷ []) ∷ gives 1 (F ∷ []) ∷ starts 5 ∷ starts 6 ∷ starts 1 ∷ [])
    × Shows choose 6 (pos 5 ∷ pos 6 ∷ pos 7 ∷ pos 0 ∷ []) (by_exception 4) (pos 20 ∷ pos 30 ∷ pos 20 ∷ [])
    (starts 0
    ∷ starts 1 ∷ starts 2 ∷ gives 0 (F ∷ []) ∷ gives 1 (F ∷ []) ∷ starts 5 ∷ starts 7
    ∷ starts 1 ∷ starts 2 ∷ gives 0 (F ∷ []) ∷ gives 1 (F ∷ []) ∷ starts 5 ∷ starts 8
    ∷ starts 1 ∷ starts 2 ∷ gives 0 (F ∷ []) ∷ gives 1 (F ∷ []) ∷ starts 5 ∷ starts 7
    ∷ starts 1 ∷ starts 2 ∷ gives 0 (F ∷ []) ∷ gives 1 (T ∷ []) ∷ starts 4
    ∷ starts 1 ∷ [])

abbrev pub one_to_four : Range
one_to_four = between (static_number (pos 1)) (static_number (pos 4))

-- with Test_IO;
-- function No_Result (N : Natural) return Boolean is
-- begin
--    if N > 2 then
--       return True;
--    end if;
-- exception
--    when Program_Error => Test_IO.Put (100);
-- end No_Result;
-- with Test_IO; with No_Result;
-- procedure Reach_End is
--    subtype Four is Integer range 1 .. 4;
--    P : Integer := 1;
-- begin
--    for I in Four loop
--       P := P * I;
--    end loop;
--    Test_IO.Put (P);
--    if No_Result (3) then
--       Test_IO.Put (Natural (P));
--    end if;
--    if No_Result (2) then
--       Test_IO.Put (4);
--    end if;
-- exception
--    when Program_Error => Test_IO.Put (Natural (P * 1));
-- end Reach_End;
abbrev pub no_result : Subprogram
no_result = body (integer_in 0 ∷ []) []
    (if_only (at 0 4 4) (at 0 4 7) (asks 4 7 (exceeds (var 0) (number 2))) (return_truth (at 1 5 7) true_value next ended_here) next ended_here)
    (on_exception 2 (put (at 2 8 26) (number 100) next ended_here) no_handler)

abbrev pub reach_end : Program
reach_end = plain
    (no_result
    ∷ declaring (scalar one_to_four ∷ []) (body [] (integer_is (at 3 13 4) 0 (number 1) ∷ [])
    (for_loop (at 4 15 4) 1 false (over_subtype one_to_four) (set_var (at 5 16 7) 0 (operation multiplication (var 0) (var 1)) next ended_here)
    next put (at 6 18 4) (var 0)
    next if_only (at 7 19 4) (at 1 19 7) (asks 19 7 (calls 0 (by_expression (number 3) no_actual)))
    (put (at 8 20 7) (conversion natural (var 0)) next ended_here)
    next if_only (at 9 22 4) (at 2 22 7) (asks 22 7 (calls 0 (by_expression (number 2) no_actual)))
    (put (at 10 23 7) (number 4) next ended_here)
    next ended_here)
    (on_exception 2 (put (at 11 26 26) (conversion natural (operation multiplication (var 0) (number 1))) next ended_here) no_handler))
    ∷ [])
    1

-- Program_Error is raised in the caller, so the function's own handler doesn't take it
abbrev pub EndOfFunction : Type 0
EndOfFunction = Shows reach_end 2 [] by_return (pos 24 ∷ pos 24 ∷ pos 24 ∷ [])
    (starts 3 ∷ starts 4 ∷ starts 5 ∷ starts 5 ∷ starts 5 ∷ starts 5 ∷ starts 6
    ∷ starts 7 ∷ starts 0 ∷ gives 0 (T ∷ []) ∷ starts 1 ∷ gives 1 (T ∷ []) ∷ starts 8
    ∷ starts 9 ∷ starts 0 ∷ gives 0 (F ∷ []) ∷ starts 11 ∷ [])

-- with Test_IO;
-- procedure Endless is
-- begin
--    loop
--       Test_IO.Put (1);
--    end loop;
-- end Endless;
abbrev pub endless : Program
endless = plain (body [] [] (bare_loop (at 0 4 4) (put (at 1 5 7) (number 1) next ended_here) next ended_here) no_handler ∷ []) 0

-- a loop without an end is cut off, and what was observed so far is known
abbrev pub CutOff : Type 0
CutOff = (ended (exec endless 3 []) ≡ None) × (output_at endless 3 [] ≡ pos 1 ∷ pos 1 ∷ pos 1 ∷ [])
    × (events_at endless 2 [] ≡ starts 0 ∷ starts 1 ∷ starts 1 ∷ [])
