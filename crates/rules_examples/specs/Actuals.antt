-- What `with` names, actuals of instances, and what generics ask of static values.
use Rattle.std.specs.Prelude.{List, [], ◌∷◌, ◌++◌}
use Rattle.rules_examples.specs.Cases.{Lines, ◌⏎◌, Case, Outcome, of_units, Hold, names, types, good}

-- units in `with`
abbrev pub units_in_with : List Case
units_in_with =
    -- a unit that is not there
    of_units ("with K;" ⏎ []) (names 0 1 6) ∷
    -- one behind another that is there
    of_units ("package K is" ⏎ "end K;" ⏎ "with K, L;" ⏎ []) (names 0 3 9) ∷
    -- a part of a unit is none
    of_units ("package K is" ⏎ "   L : Integer;" ⏎ "end K;" ⏎ "with K, L;" ⏎ []) (names 0 4 9) ∷
    -- two units
    of_units ("package K is" ⏎ "end K;" ⏎ "package L is" ⏎ "end L;" ⏎ "with K, L;" ⏎ []) (good 1 0 0) ∷
    []

-- an instance with this actual for a formal integer type, in line 10
abbrev pub type_as : Lines → Outcome → Case
type_as j o =
    of_units ("generic" ⏎ "   type T is range <>;" ⏎ "package G is" ⏎ "   V : T := T'First;" ⏎ "end G;" ⏎
    "package K is" ⏎ "   type E is (P, Q); subtype S is Integer range 1 .. 2;" ⏎ "end K;" ⏎ "with G, K;" ⏎ j) o

-- actuals for a formal integer type
abbrev pub types_of_instances : List Case
types_of_instances =
    -- an integer subtype
    type_as ("package J is new G (K.S);" ⏎ []) (good 1 0 0) ∷
    -- an enumeration
    type_as ("package J is new G (K.E);" ⏎ []) (types 0 10 21) ∷
    -- the predefined one
    type_as ("package J is new G (Boolean);" ⏎ []) (types 0 10 21) ∷
    -- a package
    type_as ("package J is new G (K);" ⏎ []) (types 0 10 21) ∷
    -- a numeral, which is no name
    type_as ("package J is new G (1);" ⏎ []) (types 0 10 21) ∷
    -- a sum
    type_as ("package J is new G (1 + 2);" ⏎ []) (types 0 10 21) ∷
    -- a subtype in parentheses, where a value is meant
    type_as ("package J is new G ((K.S));" ⏎ []) (types 0 10 22) ∷
    -- a name that denotes nothing, in a sum
    type_as ("package J is new G (1 + N);" ⏎ []) (names 0 10 25) ∷
    []

-- an instance, in line 8, with this subprogram for a formal function
abbrev pub function_as : Lines → Outcome → Case
function_as f o =
    of_units ("generic" ⏎ "   with function F (X : Integer) return Integer;" ⏎ "package G is" ⏎ "   V : Integer;" ⏎
    "end G;" ⏎
    f ++ ("with A, G;" ⏎ "package J is new G (A);" ⏎ [])) o

-- actuals for a formal function
abbrev pub functions_of_instances : List Case
functions_of_instances =
    -- the same parameter and result
    function_as ("function A (Y : Integer) return Integer is begin return Y; end A;" ⏎ []) (good 2 0 0) ∷
    -- other subtypes of their types
    function_as ("function A (Y : Positive) return Natural is begin return Y; end A;" ⏎ []) (good 2 0 0) ∷
    -- another result
    function_as ("function A (Y : Integer) return Boolean is begin return Y = 1; end A;" ⏎ []) (types 0 8 21) ∷
    -- no result
    function_as ("procedure A (Y : Integer) is begin null; end A;" ⏎ []) (types 0 8 21) ∷
    -- a parameter more
    function_as ("function A (Y, Z : Integer) return Integer is begin return Y; end A;" ⏎ []) (types 0 8 21) ∷
    -- a parameter less
    function_as ("function A return Integer is begin return 1; end A;" ⏎ []) (types 0 8 21) ∷
    -- a parameter of another type
    function_as ("function A (Y : Boolean) return Integer is begin return 1; end A;" ⏎ []) (types 0 8 21) ∷
    []

-- two generics, each with bounds of its own, and an instance of each, in lines 12 and 14
abbrev pub of_two_generics : Lines → Outcome → Case
of_two_generics is o =
    of_units ("generic" ⏎ "   N : Integer;" ⏎ "package G is" ⏎ "   type T is range 1 .. N;" ⏎ "end G;" ⏎
    "generic" ⏎ "   N : Integer;" ⏎ "package H is" ⏎ "   type T is range 5 .. N;" ⏎ "end H;" ⏎ is) o

-- what each generic asks is asked in its own instances
abbrev pub values_of_instances : List Case
values_of_instances =
    -- the least value that each takes
    of_two_generics ("with G;" ⏎ "package I is new G (1);" ⏎ "with H;" ⏎ "package J is new H (5);" ⏎ [])
    (good 1 0 0) ∷
    -- the second one is given less
    of_two_generics ("with G;" ⏎ "package I is new G (5);" ⏎ "with H;" ⏎ "package J is new H (4);" ⏎ [])
    (types 0 9 20) ∷
    -- the first one is given less
    of_two_generics ("with G;" ⏎ "package I is new G (0);" ⏎ "with H;" ⏎ "package J is new H (5);" ⏎ [])
    (types 0 4 20) ∷
    -- an instance more of the first one, behind that of the second, is given less
    of_two_generics ("with G;" ⏎ "package I is new G (1);" ⏎ "with H;" ⏎ "package J is new H (5);" ⏎ "with G;" ⏎
    "package L is new G (0);" ⏎ [])
    (types 0 4 20) ∷
    -- without an instance of the second one
    of_two_generics ("with G;" ⏎ "package I is new G (1);" ⏎ []) (good 1 0 0) ∷
    []

abbrev pub Actuals : Type 0
Actuals = Hold units_in_with × Hold types_of_instances × Hold functions_of_instances × Hold values_of_instances
