-- What objects are set to, what expressions are made of, and the bounds of loops.
use Rattle.std.specs.Prelude.{List, [], ◌∷◌, ◌++◌}
use Rattle.rules_examples.specs.Cases.{Lines, ◌⏎◌, Case, Outcome, of_main, of_units, Hold, types, good}

-- a package K with these declarations, of which the first stands in line 2
abbrev pub in_package : Lines → Outcome → Case
in_package ds o = of_units ("package K is" ⏎ ds ++ ("end K;" ⏎ [])) o

-- a statement that does nothing
abbrev pub null_line : Lines
null_line = "   null;" ⏎ []

-- values of objects
abbrev pub values_of_objects : List Case
values_of_objects =
    -- a constant without a value
    of_main ("   C : constant Integer;" ⏎ []) null_line (types 0 2 4) ∷
    -- a constant with one
    of_main ("   C : constant Integer := 1;" ⏎ []) null_line (good 2 0 0) ∷
    -- a constant of a package without a value
    in_package ("   C : constant Integer;" ⏎ []) (types 0 2 4) ∷
    -- an object of a package with a value of another type
    in_package ("   V : Boolean := 1;" ⏎ []) (types 0 2 4) ∷
    -- and with one of its own
    in_package ("   V : Integer := 1;" ⏎ []) (good 1 0 0) ∷
    -- two objects of a package with a value
    in_package ("   V, W : Integer := 1;" ⏎ []) (types 0 2 4) ∷
    -- and without one
    in_package ("   V, W : Integer;" ⏎ []) (good 1 0 0) ∷
    -- an array of a package whose components are given a value of another type
    in_package ("   type A is array (1 .. 2) of Boolean;" ⏎ "   V : A := (others => 1);" ⏎ []) (types 0 3 13) ∷
    -- and one of their own
    in_package ("   type A is array (1 .. 2) of Boolean;" ⏎ "   V : A := (others => True);" ⏎ []) (good 1 0 0) ∷
    -- components of what is no array
    in_package ("   V : Integer := (others => 1);" ⏎ []) (types 0 2 4) ∷
    []

-- parts of expressions
abbrev pub parts_of_expressions : List Case
parts_of_expressions =
    -- a bound that has a part beyond the base range
    of_main ("   type T is range 1 .. Integer'Last + 1 - 2;" ⏎ []) null_line (types 0 2 25) ∷
    -- the same value, of parts within it
    of_main ("   type T is range 1 .. Integer'Last - 2 + 1;" ⏎ []) null_line (good 1 0 0) ∷
    -- a constant of a package that has such a part
    in_package ("   C : constant Integer := Integer'Last + 1 - 1;" ⏎ []) (types 0 2 28) ∷
    -- a constant of a subprogram that has one is evaluated when it is executed
    of_main ("   C : constant Integer := Integer'Last + 1 - 1;" ⏎ []) null_line (good 2 0 0) ∷
    -- and has no static value
    of_main ("   C : constant Integer := Integer'Last + 1 - 1;" ⏎ "   type T is range 1 .. C;" ⏎ [])
    null_line (types 0 3 25) ∷
    -- a sum of two Booleans
    of_main ("   B : Boolean;" ⏎ []) ("   B := B + B;" ⏎ []) (types 0 4 9) ∷
    -- a relation of them
    of_main ("   B : Boolean;" ⏎ []) ("   B := B = B;" ⏎ []) (good 1 0 0) ∷
    -- an Integer on the left of `and then`
    of_main ("   N : Integer; B : Boolean;" ⏎ []) ("   B := N and then B;" ⏎ []) (types 0 4 9) ∷
    -- and on the left of `or else`, within `not`
    of_main ("   N : Integer; B : Boolean;" ⏎ []) ("   B := not (N or else B);" ⏎ []) (types 0 4 14) ∷
    -- a relation of it there
    of_main ("   N : Integer; B : Boolean;" ⏎ []) ("   B := N = 1 and then B;" ⏎ []) (good 1 1 2) ∷
    -- an array converted to its own type
    of_main ("   type A is array (1 .. 2) of Integer; X, Y : A;" ⏎ []) ("   X := A (Y);" ⏎ []) (types 0 4 9) ∷
    -- the array as it is
    of_main ("   type A is array (1 .. 2) of Integer; X, Y : A;" ⏎ []) ("   X := Y;" ⏎ []) (good 1 0 0) ∷
    -- an enumeration converted to its own type
    of_main ("   type E is (P, Q); X, Y : E;" ⏎ []) ("   X := E (Y);" ⏎ []) (good 1 0 0) ∷
    []

-- a loop with these bounds, in line 3, and a case statement on its parameter, in line 4, with this one choice
abbrev pub looping : (loop choice : Lines) → Outcome → Case
looping l c o = of_main [] (l ++ ("      case I is" ⏎ c ++ ("      end case;" ⏎ "   end loop;" ⏎ []))) o

-- bounds of loops beyond the base range
abbrev pub bounds_of_loops : List Case
bounds_of_loops =
    -- a bound beyond the base range is evaluated when the loop is executed
    of_main [] ("   for I in 1 .. Integer'Last + 1 loop" ⏎ "      null;" ⏎ "   end loop;" ⏎ []) (good 2 0 0) ∷
    -- the values of its parameter are not those between its bounds
    looping ("   for I in 1 .. Integer'Last + 1 loop" ⏎ []) ("         when 1 .. Integer'Last => null;" ⏎ [])
    (types 0 4 7) ∷
    -- but those of its type
    looping ("   for I in 1 .. Integer'Last + 1 loop" ⏎ [])
    ("         when Integer'First .. Integer'Last => null;" ⏎ []) (good 3 0 0) ∷
    -- two bounds in the base range
    looping ("   for I in 1 .. Integer'Last loop" ⏎ []) ("         when 1 .. Integer'Last => null;" ⏎ [])
    (good 3 0 0) ∷
    -- and a choice outside them
    looping ("   for I in 1 .. Integer'Last loop" ⏎ []) ("         when Integer'First .. Integer'Last => null;" ⏎ [])
    (types 0 5 15) ∷
    []

abbrev pub Values : Type 0
Values = Hold values_of_objects × Hold parts_of_expressions × Hold bounds_of_loops
