-- What `return` gives, how functions end, case statements, handlers, and the number of parameters.
use Rattle.std.specs.Prelude.{List, [], ◌∷◌, ◌++◌}
use Rattle.rules_examples.specs.Cases.{Lines, ◌⏎◌, Case, Outcome, of_main, of_units, Hold, types, counts, good}

-- a function F with these statements, of which the first stands in line 3
abbrev pub function_of : Lines → Outcome → Case
function_of ss o = of_units ("function F return Integer is" ⏎ "begin" ⏎ ss ++ ("end F;" ⏎ [])) o

-- what `return` gives
abbrev pub returns_of_bodies : List Case
returns_of_bodies =
    -- a procedure that returns a value
    of_main [] ("   return 1;" ⏎ []) (types 0 3 4) ∷
    -- a procedure that returns
    of_main [] ("   return;" ⏎ []) (good 1 0 0) ∷
    -- a function that returns a value of another type
    function_of ("   return True;" ⏎ []) (types 0 3 4) ∷
    -- and one of its own
    function_of ("   return 1;" ⏎ []) (good 2 0 0) ∷
    []

-- a function has a `return` somewhere among its statements
abbrev pub ends_of_functions : List Case
ends_of_functions =
    -- in a loop alone
    function_of ("   loop" ⏎ "      return 1;" ⏎ "   end loop;" ⏎ []) (good 3 0 0) ∷
    -- in a loop with a parameter
    function_of ("   for I in 1 .. 2 loop" ⏎ "      return I;" ⏎ "   end loop;" ⏎ []) (good 3 0 0) ∷
    -- in an alternative of a case statement
    function_of ("   case 1 is" ⏎ "      when 1 => null;" ⏎ "      when others => return 1;" ⏎ "   end case;" ⏎ [])
    (good 4 0 0) ∷
    -- in a block
    function_of ("   begin" ⏎ "      return 1;" ⏎ "   end;" ⏎ []) (good 2 0 0) ∷
    -- in a handler of a block
    function_of ("   begin" ⏎ "      null;" ⏎ "   exception" ⏎ "      when others => return 1;" ⏎ "   end;" ⏎ [])
    (good 3 0 0) ∷
    -- in an else part
    function_of ("   if True then" ⏎ "      null;" ⏎ "   else" ⏎ "      return 1;" ⏎ "   end if;" ⏎ []) (good 4 1 1) ∷
    -- a loop without one
    function_of ("   loop" ⏎ "      null;" ⏎ "   end loop;" ⏎ []) (types 0 1 1) ∷
    -- a case statement without one
    function_of ("   case 1 is" ⏎ "      when others => null;" ⏎ "   end case;" ⏎ []) (types 0 1 1) ∷
    -- a block without one
    function_of ("   begin" ⏎ "      null;" ⏎ "   end;" ⏎ []) (types 0 1 1) ∷
    []

-- case statements
abbrev pub case_statements : List Case
case_statements =
    -- a selector that is an array
    of_main ("   type A is array (1 .. 2) of Integer; X : A;" ⏎ [])
    ("   case X is" ⏎ "      when others => null;" ⏎ "   end case;" ⏎ []) (types 0 4 9) ∷
    -- its component
    of_main ("   type A is array (1 .. 2) of Integer; X : A;" ⏎ [])
    ("   case X (1) is" ⏎ "      when others => null;" ⏎ "   end case;" ⏎ []) (good 2 0 0) ∷
    -- a selector that is a record
    of_main ("   type R is record N : Integer; end record; X : R;" ⏎ [])
    ("   case X is" ⏎ "      when others => null;" ⏎ "   end case;" ⏎ []) (types 0 4 9) ∷
    -- its component
    of_main ("   type R is record N : Integer; end record; X : R;" ⏎ [])
    ("   case X.N is" ⏎ "      when others => null;" ⏎ "   end case;" ⏎ []) (good 2 0 0) ∷
    -- the last value is left out
    of_main ("   type E is (P, Q, R); X : E;" ⏎ [])
    ("   case X is" ⏎ "      when P | Q => null;" ⏎ "   end case;" ⏎ []) (types 0 4 4) ∷
    -- the first value is left out
    of_main ("   type E is (P, Q, R); X : E;" ⏎ [])
    ("   case X is" ⏎ "      when Q .. R => null;" ⏎ "   end case;" ⏎ []) (types 0 4 4) ∷
    -- each value is named
    of_main ("   type E is (P, Q, R); X : E;" ⏎ [])
    ("   case X is" ⏎ "      when P | Q .. R => null;" ⏎ "   end case;" ⏎ []) (good 2 0 0) ∷
    -- `others` before another alternative
    of_main ("   type E is (P, Q, R); X : E;" ⏎ [])
    ("   case X is" ⏎ "      when others => null;" ⏎ "      when P => null;" ⏎ "   end case;" ⏎ [])
    (types 0 4 4) ∷
    []

-- handlers
abbrev pub order_of_handlers : List Case
order_of_handlers =
    -- `others` before another handler
    of_main [] ("   null;" ⏎ "exception" ⏎ "   when others => null;" ⏎ "   when Program_Error => null;" ⏎ [])
    (types 0 5 9) ∷
    -- and behind it
    of_main [] ("   null;" ⏎ "exception" ⏎ "   when Program_Error => null;" ⏎ "   when others => null;" ⏎ [])
    (good 3 0 0) ∷
    -- twice
    of_main [] ("   null;" ⏎ "exception" ⏎ "   when others => null;" ⏎ "   when others => null;" ⏎ []) (types 0 5 9) ∷
    []

-- numbers of parameters
abbrev pub numbers_of_parameters : List Case
numbers_of_parameters =
    -- 17 in two lists
    of_units ("procedure Q (A1, A2, A3, A4, A5, A6, A7, A8 : Integer;" ⏎
    "   B1, B2, B3, B4, B5, B6, B7, B8 : Boolean; C1 : Integer) is" ⏎
    "begin" ⏎ "   null;" ⏎ "end Q;" ⏎ []) (counts 0 2 46) ∷
    -- 18 in one list
    of_units ("procedure Q (A1, A2, A3, A4, A5, A6, A7, A8," ⏎
    "   B1, B2, B3, B4, B5, B6, B7, B8, C1, C2 : Integer) is" ⏎
    "begin" ⏎ "   null;" ⏎ "end Q;" ⏎ []) (counts 0 2 36) ∷
    -- 17 of a formal subprogram
    of_units ("generic" ⏎ "   with procedure Q (A1, A2, A3, A4, A5, A6, A7, A8," ⏎
    "   B1, B2, B3, B4, B5, B6, B7, B8, C1 : Integer);" ⏎
    "package G is" ⏎ "end G;" ⏎ []) (counts 0 3 36) ∷
    -- 16
    of_units ("procedure Q (A1, A2, A3, A4, A5, A6, A7, A8 : Integer;" ⏎
    "   B1, B2, B3, B4, B5, B6, B7, B8 : Boolean) is" ⏎
    "begin" ⏎ "   null;" ⏎ "end Q;" ⏎ []) (good 2 0 0) ∷
    []

abbrev pub Bodies : Type 0
Bodies =
    Hold returns_of_bodies × Hold ends_of_functions × Hold case_statements × Hold order_of_handlers
    × Hold numbers_of_parameters
