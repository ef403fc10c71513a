-- Recursion up to the greatest depth and past it, and arithmetic at its limits.
use Rattle.std.specs.Prelude.{◌≡◌, ℕ, ℤ, pos, negsuc, List, [], ◌∷◌, Option, Some, None}
use Rattle.ada_meaning.specs.Types.{unary_minus, division, remainder, modulus}
use Rattle.ada_meaning.specs.Tree.{Expr, literal, signed, operation, subprogram, no_actual, by_expression, procedure_call, handler, other_exceptions, no_handler}
use Rattle.ada_meaning.specs.Types.{here}
use Rattle.ada_meaning.specs.Program.{Program, Subprogram}
use Rattle.ada_meaning.specs.Execution.{by_return, by_exception, exec}
use Rattle.meaning_examples.specs.Writing.{at, number, var, plus, minus, over, exceeds, asks, ◌next◌, ended_here, put, set_var, if_only, integer_is, integer_in, body, plain, starts, Observed, observed, Shows}

-- procedure R (N : Integer) is
-- begin
--    if N > 1 then
--       R (N - 1);
--    end if;
-- end R;
abbrev pub r : Subprogram
r = body (integer_in 0 ∷ []) []
    (if_only (at 0 3 4) (at 0 3 7) (asks 3 7 (exceeds (var 0) (number 1)))
    (procedure_call (at 1 4 7) (subprogram here 0) (by_expression (minus (var 0) (number 1)) no_actual) next ended_here)
    next ended_here)
    no_handler

-- with Test_IO; with R;
-- procedure M is
-- begin
--    R (..);
--    Test_IO.Put (1);
-- exception
--    when others => Test_IO.Put (2);
-- end M;
abbrev pub m : ℕ → Program
m n = plain
    (r
    ∷ body [] []
    (procedure_call (at 2 11 4) (subprogram here 0) (by_expression (number n) no_actual) next put (at 3 12 4) (number 1) next ended_here)
    (handler (other_exceptions ∷ []) (put (at 4 14 19) (number 2) next ended_here) no_handler)
    ∷ [])
    1

-- the output of an execution
abbrev pub output_of : Option Observed → List ℤ
output_of (Some x) = x.output
output_of None = []

-- 511 nested calls return, and 512 raise Storage_Error in the last caller
abbrev pub Deep : Type 0
Deep = (output_of (observed (exec (m 511) 513 [])) ≡ pos 1 ∷ []) × (output_of (observed (exec (m 512) 513 [])) ≡ pos 2 ∷ [])

-- a negative operand
abbrev pub negative : ℕ → Expr
negative n = signed unary_minus (number n)

-- with Test_IO;
-- procedure Signs is
-- begin
--    Test_IO.Put ((-7) / 2);
--    Test_IO.Put ((-7) rem 2);
--    Test_IO.Put ((-7) mod 2);
--    Test_IO.Put (7 mod (-2));
-- end Signs;
abbrev pub signs : Program
signs = plain
    (body [] []
    (put (at 0 4 4) (operation division (negative 7) (number 2))
    next put (at 1 5 4) (operation remainder (negative 7) (number 2))
    next put (at 2 6 4) (operation modulus (negative 7) (number 2))
    next put (at 3 7 4) (operation modulus (number 7) (negative 2))
    next ended_here)
    no_handler
    ∷ [])
    0

abbrev pub Signs : Type 0
Signs = Shows signs 1 [] by_return (negsuc 2 ∷ negsuc 0 ∷ pos 1 ∷ negsuc 0 ∷ []) (starts 0 ∷ starts 1 ∷ starts 2 ∷ starts 3 ∷ [])

-- procedure Limit is
--    X : Integer := ..;
--    Y : Integer := ..;
-- begin
--    X := ..;
-- end Limit;
abbrev pub limit : Expr → Expr → Expr → Program
limit x y e = plain
    (body [] (integer_is (at 0 2 4) 0 x ∷ integer_is (at 1 3 4) 1 y ∷ []) (set_var (at 2 5 4) 0 e next ended_here) no_handler ∷ [])
    0

abbrev pub integer_first : Expr
integer_first = literal (negsuc 2147483647)

abbrev pub integer_last : Expr
integer_last = literal (pos 2147483647)

-- First / (-1) and Last + 1 are outside the base range; First rem (-1) and First mod (-1) are 0
abbrev pub Limits : Type 0
Limits =
    Shows (limit integer_first (negative 1) (over (var 0) (var 1))) 1 [] (by_exception 1) [] (starts 0 ∷ starts 1 ∷ starts 2 ∷ [])
    × Shows (limit integer_last (number 1) (plus (var 0) (var 1))) 1 [] (by_exception 1) [] (starts 0 ∷ starts 1 ∷ starts 2 ∷ [])
    × Shows (limit integer_first (negative 1) (operation remainder (var 0) (var 1))) 1 [] by_return [] (starts 0 ∷ starts 1 ∷ starts 2 ∷ [])
    × Shows (limit integer_first (negative 1) (operation modulus (var 0) (var 1))) 1 [] by_return [] (starts 0 ∷ starts 1 ∷ starts 2 ∷ [])
