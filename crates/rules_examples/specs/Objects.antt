-- Objects of type Integer, assignments and calls of Test_IO.
use Rattle.std.specs.Prelude.{List, [], ◌∷◌}
use Rattle.rules_examples.specs.Cases.{◌⏎◌, Case, Hold, names, types, good}
use Rattle.rules_examples.specs.Bases.{of_sum, of_swap, of_plain}

-- changes of `sum`
abbrev pub changes_of_sum : List Case
changes_of_sum =
    -- no entity of that name in a unit
    of_sum 0 7 7 ("   Test_IO.Read (A);" ⏎ []) (names 0 7 4) ∷
    -- undeclared target
    of_sum 0 8 8 ("   E := (A + B) * 2 - A / 3;" ⏎ []) (names 0 8 4) ∷
    -- unknown type
    of_sum 0 3 3 ("   A : Integr;" ⏎ []) (names 0 3 8) ∷
    -- used before its declaration
    of_sum 0 4 4 ("   B : Integer := C;" ⏎ []) (names 0 4 19) ∷
    -- assigned constant
    of_sum 0 8 8 ("   C := (A + B) * 2 - A / 3;" ⏎ []) (types 0 8 4) ∷
    -- parentheses round an out actual
    of_sum 0 7 7 ("   Test_IO.Get ((A));" ⏎ []) (types 0 7 4) ∷
    -- type as a value
    of_sum 0 9 9 ("   Test_IO.Put (Integer);" ⏎ []) (types 0 9 17) ∷
    -- procedure as a value
    of_sum 0 8 8 ("   B := (A + B) * 2 - A / Sum;" ⏎ []) (types 0 8 27) ∷
    -- greatest numeral
    of_sum 0 4 4 ("   B : Integer := 2_147_483_647;" ⏎ []) (good 8 0 0) ∷
    -- underscores count nothing
    of_sum 0 4 4 ("   B : Integer := 0_0_5;" ⏎ []) (good 8 0 0) ∷
    -- the end name may be left out
    of_sum 0 13 13 ("end;" ⏎ []) (good 8 0 0) ∷
    -- names ignore case
    of_sum 0 7 7 ("   Test_IO.GET (a);" ⏎ []) (good 8 0 0) ∷
    []

-- changes of `swap`
abbrev pub changes_of_swap : List Case
changes_of_swap =
    -- undeclared after a change of spelling
    of_swap 0 8 8 ("   Keep := Lift;" ⏎ []) (names 0 8 12) ∷
    -- entity of a unit alone
    of_swap 0 11 11 ("   Test_IO.Pot (Left);" ⏎ []) (names 0 11 4) ∷
    -- second declaration as a constant
    of_swap 0 4 4 ("   Keep : constant Integer := 100 - 1;" ⏎ []) (names 0 4 4) ∷
    -- constant named before it is visible
    of_swap 0 4 4 ("   Limit : constant Integer := 100 - Limit;" ⏎ []) (names 0 4 38) ∷
    -- assigned constant in the middle
    of_swap 0 10 10 ("   Limit := Keep;" ⏎ []) (types 0 10 4) ∷
    -- constant as an out actual
    of_swap 0 7 7 ("   Test_IO.Get (Limit);" ⏎ []) (types 0 7 4) ∷
    -- value of a procedure
    of_swap 0 12 12 ("   Test_IO.Put (Right * Limit / (Left + Swap));" ⏎ []) (types 0 12 41) ∷
    -- value of a type
    of_swap 0 12 12 ("   Test_IO.Put (Right * Limit / (Left + Integer));" ⏎ []) (types 0 12 41) ∷
    []

-- changes of `plain`
abbrev pub changes_of_plain : List Case
changes_of_plain =
    -- no with for the unit
    of_plain 0 5 5 ("   Test_IO.Put (X);" ⏎ []) (names 0 5 4) ∷
    -- name of the unit and of its end differ
    of_plain 0 1 1 ("procedure Plane is" ⏎ []) (names 0 7 5) ∷
    -- end name of a variable
    of_plain 0 7 7 ("end X;" ⏎ []) (names 0 7 5) ∷
    -- later declaration named earlier
    of_plain 0 2 2 ("   X : Integer := Y;" ⏎ []) (names 0 2 19) ∷
    -- unit not named in with as a prefix
    of_plain 0 6 6 ("   Other.Put (X);" ⏎ []) (names 0 6 4) ∷
    []

abbrev pub Objects : Type 0
Objects = Hold changes_of_sum × Hold changes_of_swap × Hold changes_of_plain
