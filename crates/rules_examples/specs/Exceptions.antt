-- Exceptions and handlers.
use Rattle.std.specs.Prelude.{List, [], ◌∷◌}
use Rattle.rules_examples.specs.Cases.{◌⏎◌, Case, Hold, names, types, good}
use Rattle.rules_examples.specs.Bases.{of_guard, of_errors, of_depth}

-- changes of `guard`
abbrev pub changes_of_guard : List Case
changes_of_guard =
    -- raise of an unknown name
    of_guard 0 10 10 ("         raise Good;" ⏎ []) (names 0 10 16) ∷
    -- exception declared twice
    of_guard 0 3 3 ("   Bad, Bad : exception;" ⏎ []) (names 0 3 9) ∷
    -- raise; after a handled block
    of_guard 0 22 21 ("   raise;" ⏎ []) (types 0 22 4) ∷
    -- raise of a procedure
    of_guard 0 10 10 ("         raise Guard;" ⏎ []) (types 0 10 10) ∷
    -- handler of a unit
    of_guard 0 27 27 ("   when Test_IO =>" ⏎ []) (types 0 27 9) ∷
    -- others first of two
    of_guard 0 29 29 ("   when others | Program_Error =>" ⏎ []) (types 0 29 9) ∷
    -- exception assigned
    of_guard 0 19 19 ("         Bad := True;" ⏎ []) (types 0 19 10) ∷
    -- exception called
    of_guard 0 28 28 ("      Bad;" ⏎ []) (types 0 28 7) ∷
    -- one exception in two handlers
    of_guard 0 18 18 ("      when Constraint_Error | Bad =>" ⏎ []) (good 16 4 5) ∷
    -- raise; in a block in a handler
    of_guard 0 30 30 ("      begin raise; end;" ⏎ []) (good 16 4 5) ∷
    -- exit in a handler in a loop
    of_guard 0 23 23 ("      begin null; exception when others => exit; end; exit when N = 1;" ⏎ []) (good 18 4 5) ∷
    -- predefined exceptions may be hidden
    of_guard 0 3 3 ("   Bad, Worse, Program_Error : exception;" ⏎ []) (good 16 4 5) ∷
    []

-- changes of `errors`
abbrev pub changes_of_errors : List Case
changes_of_errors =
    -- exception of a body from outside
    of_errors 0 32 32 ("   when Errors.Deep =>" ⏎ []) (names 0 32 9) ∷
    -- exception of a subprogram from outside
    of_errors 0 32 32 ("   when Errors.Odd =>" ⏎ []) (names 0 32 9) ∷
    -- local exception in another subprogram's handler
    of_errors 0 21 21 ("      when Depp =>" ⏎ []) (names 0 21 12) ∷
    -- exception named like the function's parameter
    of_errors 0 9 9 ("      N : exception;" ⏎ []) (names 0 9 7) ∷
    -- second body of the function
    of_errors 0 24 23 ("   function Next (N : Integer) return Integer is begin return 1; end Next;" ⏎ []) (names 0 24 13) ∷
    -- object as a handler's choice
    of_errors 0 32 32 ("   when Errors.Limit =>" ⏎ []) (types 0 32 9) ∷
    -- function's only return is gone with its handler
    of_errors 0 17 20 ("      null;" ⏎ "   exception" ⏎ "      when Odd =>" ⏎ "         null;" ⏎ []) (types 0 8 4) ∷
    -- in parameter assigned in a handler
    of_errors 0 20 20 ("         N := 0; return N;" ⏎ []) (types 0 20 10) ∷
    -- a return in a handler alone
    of_errors 0 17 17 ("      null;" ⏎ []) (good 11 2 2) ∷
    -- others after named ones
    of_errors 0 21 21 ("      when others =>" ⏎ []) (good 11 2 2) ∷
    []

-- changes of `depth`
abbrev pub changes_of_depth : List Case
changes_of_depth =
    -- unknown predefined name
    of_depth 0 10 10 ("   when Storage_Error | Tasking_Error =>" ⏎ []) (names 0 10 25) ∷
    -- exception of the other unit
    of_depth 1 5 5 ("   raise Stop;" ⏎ []) (names 1 5 10) ∷
    -- exception of the other unit by its name
    of_depth 1 5 5 ("   raise Down.Stop;" ⏎ []) (types 1 5 10) ∷
    -- exit outside the loop in a handler
    of_depth 0 13 13 ("      exit;" ⏎ []) (types 0 13 7) ∷
    -- loop parameter as an in out actual in a block
    of_depth 1 8 8 ("         Down (L, K);" ⏎ []) (types 1 8 10) ∷
    -- parameter too few in a recursion
    of_depth 0 6 6 ("      Down (Left);" ⏎ []) (types 0 6 7) ∷
    -- exception hidden by a variable
    of_depth 0 2 2 ("   Stop : exception; Storage_Error : Integer;" ⏎ []) (types 0 10 9) ∷
    -- in parameter given to an in out one
    of_depth 0 6 6 ("      Down (Left, N);" ⏎ []) (types 0 6 7) ∷
    []

abbrev pub Exceptions : Type 0
Exceptions = Hold changes_of_guard × Hold changes_of_errors × Hold changes_of_depth
