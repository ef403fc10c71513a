-- Exceptions: raised by name, again, in a handler, in a declarative part, by a check and at the end of the input.
use Rattle.std.specs.Prelude.{pos, negsuc, [], ◌∷◌, None}
use Rattle.ada_meaning.specs.Types.{scalar, here}
use Rattle.ada_meaning.specs.Tree.{initialized, scalar_value, null_statement, raise_statement, raise_again, block_statement, block, predefined, declared, handler, other_exceptions, no_handler}
use Rattle.ada_meaning.specs.Program.{Program}
use Rattle.ada_meaning.specs.Execution.{by_return, by_exception}
use Rattle.meaning_examples.specs.Writing.{place, at, integer, natural, number, var, minus, over, ◌next◌, ended_here, put, get_var, on_exception, integer_is, some_integer, body, declaring, plain, starts, Shows}

-- package Pk is
--    E : exception;
-- end Pk;
-- with Pk;
-- procedure U is
-- begin
--    begin
--       raise Pk.E;
--    exception
--       when Constraint_Error => null;
--    end;
-- end U;
abbrev pub u : Program
u = record {
  subprograms = body [] []
      (block_statement (block [] (raise_statement (at 0 8 7) (declared here 0) next ended_here)
      (on_exception 1 (null_statement (at 1 10 32) next ended_here) no_handler))
      next ended_here)
      no_handler
      ∷ [];
  main = 0;
  objects = [];
  constants = [];
  instances = [];
  declared = record { declaration = 0; place = place 2 4; generic = None; unit = 112 ∷ 107 ∷ []; name = 101 ∷ [] } ∷ [];
  exceptions = record { instance = 0; declaration = 0 } ∷ [];
}

-- an exception that no handler has ends the execution
abbrev pub Unhandled : Type 0
Unhandled = Shows u 1 [] (by_exception 5) [] (starts 0 ∷ [])

-- with Test_IO;
-- procedure Q is
--    X : Integer := 5;
--    Y : Integer;
-- begin
--    Test_IO.Get (Y);
--    Test_IO.Put (X / Y);
--    Test_IO.Put (X);
-- end Q;
abbrev pub q : Program
q = plain
    (body [] (integer_is (at 0 3 4) 0 (number 5) ∷ some_integer 1 ∷ [])
    (get_var (at 1 6 4) 1 next put (at 2 7 4) (over (var 0) (var 1)) next put (at 3 8 4) (var 0) next ended_here)
    no_handler
    ∷ [])
    0

-- a division by zero, and the end of the input
abbrev pub OfOperations : Type 0
OfOperations =
    Shows q 1 (negsuc 1 ∷ []) by_return (negsuc 1 ∷ pos 5 ∷ []) (starts 0 ∷ starts 1 ∷ starts 2 ∷ starts 3 ∷ [])
    × Shows q 1 (pos 0 ∷ []) (by_exception 1) [] (starts 0 ∷ starts 1 ∷ starts 2 ∷ [])
    × Shows q 1 [] (by_exception 4) [] (starts 0 ∷ starts 1 ∷ [])

-- with Test_IO;
-- procedure Raise_Decl is
-- begin
--    declare
--       X : Integer := 1;
--       Y : Natural := X - 2;
--    begin
--       Test_IO.Put (Y);
--    exception
--       when Constraint_Error => Test_IO.Put (1);
--    end;
-- exception
--    when Constraint_Error => Test_IO.Put (2);
-- end Raise_Decl;
abbrev pub raise_decl : Program
raise_decl = plain
    (declaring (scalar integer ∷ scalar natural ∷ []) (body [] []
    (block_statement (block
    (integer_is (at 0 5 7) 0 (number 1) ∷ initialized (at 1 6 7) 1 (scalar_value natural (minus (var 0) (number 2))) ∷ [])
    (put (at 2 8 7) (var 1) next ended_here)
    (on_exception 1 (put (at 3 10 32) (number 1) next ended_here) no_handler))
    next ended_here)
    (on_exception 1 (put (at 4 13 29) (number 2) next ended_here) no_handler))
    ∷ [])
    0

-- an exception of a declarative part is not handled by the same block
abbrev pub InDeclarations : Type 0
InDeclarations = Shows raise_decl 1 [] by_return (pos 2 ∷ []) (starts 0 ∷ starts 1 ∷ starts 4 ∷ [])

-- with Test_IO;
-- procedure Raise_Handler is
-- begin
--    begin
--       begin
--          raise Program_Error;
--       exception
--          when Program_Error => raise Constraint_Error;
--          when Constraint_Error => Test_IO.Put (1);
--       end;
--    exception
--       when Constraint_Error => Test_IO.Put (2); raise;
--    end;
-- exception
--    when others => Test_IO.Put (3);
-- end Raise_Handler;
abbrev pub raise_handler : Program
raise_handler = plain
    (body [] []
    (block_statement (block []
    (block_statement (block [] (raise_statement (at 0 6 10) (predefined 2) next ended_here)
    (on_exception 2 (raise_statement (at 1 8 32) (predefined 1) next ended_here)
    (on_exception 1 (put (at 2 9 35) (number 1) next ended_here) no_handler)))
    next ended_here)
    (on_exception 1 (put (at 3 12 32) (number 2) next raise_again (at 4 12 49) next ended_here) no_handler))
    next ended_here)
    (handler (other_exceptions ∷ []) (put (at 5 15 19) (number 3) next ended_here) no_handler)
    ∷ [])
    0

-- an exception of a handler is not handled by the same block, and `raise;` raises what its handler took
abbrev pub InHandlers : Type 0
InHandlers = Shows raise_handler 1 [] by_return (pos 2 ∷ pos 3 ∷ []) (starts 0 ∷ starts 1 ∷ starts 3 ∷ starts 4 ∷ starts 5 ∷ [])
