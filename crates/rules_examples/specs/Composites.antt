-- Arrays and records.
use Rattle.std.specs.Prelude.{List, [], ◌∷◌}
use Rattle.rules_examples.specs.Cases.{◌⏎◌, Case, Hold, names, types, good}
use Rattle.rules_examples.specs.Bases.{of_table}

-- changes of `table`
abbrev pub changes_of_table : List Case
changes_of_table =
    -- index range by a variable
    of_table 0 4 4 ("   type Flags is array (Z) of Boolean;" ⏎ []) (names 0 4 25) ∷
    -- index of another type
    of_table 0 15 15 ("   T (True) := 5;" ⏎ []) (types 0 15 4) ∷
    -- element to an array
    of_table 0 17 17 ("   U := T (1);" ⏎ []) (types 0 17 4) ∷
    -- component unknown
    of_table 0 20 20 ("   P.Middle := T'First;" ⏎ []) (types 0 20 4) ∷
    -- aggregate for a record
    of_table 0 23 23 ("   Q := (others => 0);" ⏎ []) (types 0 23 4) ∷
    -- constant's element as an out actual
    of_table 0 24 24 ("   Test_IO.Get (Z (3));" ⏎ []) (types 0 24 4) ∷
    -- array indexes by a type name
    of_table 0 15 15 ("   Tab (1) := 5;" ⏎ []) (types 0 15 4) ∷
    -- index range of another type
    of_table 0 3 3 ("   type Tab is array (1 .. False) of Integer;" ⏎ []) (types 0 3 23) ∷
    -- an element of a component
    of_table 0 21 21 ("   P.Marks (P.Left) := Z (4);" ⏎ []) (good 13 0 0) ∷
    -- First of an object's name is static
    of_table 0 13 13 ("   Z : constant Tab := (others => 1); type Six is range T'First .. T'Length + 2;" ⏎ []) (good 13 0 0) ∷
    -- a component has the name of a variable
    of_table 0 6 6 ("      F, T : Integer; Left, Right : Integer;" ⏎ []) (good 13 0 0) ∷
    []

abbrev pub Composites : Type 0
Composites = Hold changes_of_table
