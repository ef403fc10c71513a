-- Bodies that conform to their declarations, and bodies that don't.
use Rattle.std.specs.Prelude.{List, [], ◌∷◌, ◌++◌}
use Rattle.rules_examples.specs.Cases.{Lines, ◌⏎◌, Case, Outcome, of_units, Hold, names, types, good}

-- a procedure of a package, in line 3, and its body, in line 6
abbrev pub procedure_as : (declaration body : Lines) → Outcome → Case
procedure_as d b o =
    of_units ("package K is" ⏎ "   subtype Whole is Integer; type T is (P, Q);" ⏎ d ++ ("end K;" ⏎
    "package body K is" ⏎
    b ++ ("   begin" ⏎ "      null;" ⏎ "   end R;" ⏎ "end K;" ⏎ []))) o

abbrev pub declared_procedure : Lines
declared_procedure = "   procedure R (A : Integer; B : in out Boolean; C : T);" ⏎ []

-- names, modes and subtypes of parameters
abbrev pub parameters_of_bodies : List Case
parameters_of_bodies =
    -- the same
    procedure_as declared_procedure ("   procedure R (A : Integer; B : in out Boolean; C : T) is" ⏎ []) (good 2 0 0) ∷
    -- in other letters, with `in`, and by a full name
    procedure_as declared_procedure ("   procedure r (a : in INTEGER; b : in out boolean; c : K.T) is" ⏎ [])
    (good 2 0 0) ∷
    -- another name
    procedure_as declared_procedure ("   procedure R (A : Integer; B : in out Boolean; D : T) is" ⏎ [])
    (names 0 6 4) ∷
    -- names in another order
    procedure_as declared_procedure ("   procedure R (C : T; A : Integer; B : in out Boolean) is" ⏎ [])
    (names 0 6 4) ∷
    -- `in out` for `in`
    procedure_as declared_procedure ("   procedure R (A : in out Integer; B : in out Boolean; C : T) is" ⏎ [])
    (names 0 6 4) ∷
    -- `out` for `in out`
    procedure_as declared_procedure ("   procedure R (A : Integer; B : out Boolean; C : T) is" ⏎ []) (names 0 6 4) ∷
    -- no mode for `in out`
    procedure_as declared_procedure ("   procedure R (A : Integer; B : Boolean; C : T) is" ⏎ []) (names 0 6 4) ∷
    -- another type
    procedure_as declared_procedure ("   procedure R (A : Integer; B : in out Boolean; C : Boolean) is" ⏎ [])
    (names 0 6 4) ∷
    -- another subtype of one type
    procedure_as declared_procedure ("   procedure R (A : Natural; B : in out Boolean; C : T) is" ⏎ [])
    (names 0 6 4) ∷
    -- another subtype with the same values
    procedure_as declared_procedure ("   procedure R (A : Whole; B : in out Boolean; C : T) is" ⏎ []) (names 0 6 4) ∷
    -- a parameter less
    procedure_as declared_procedure ("   procedure R (A : Integer; B : in out Boolean) is" ⏎ []) (names 0 6 4) ∷
    -- a parameter more
    procedure_as declared_procedure ("   procedure R (A : Integer; B : in out Boolean; C : T; D : T) is" ⏎ [])
    (names 0 6 4) ∷
    -- a variable for a subtype, and a subtype for a variable
    procedure_as ("   V : Integer := 0; procedure R (A : Integer);" ⏎ []) ("   procedure R (A : V) is" ⏎ [])
    (names 0 6 4) ∷
    procedure_as ("   V : Integer := 0; procedure R (A : V);" ⏎ []) ("   procedure R (A : Integer) is" ⏎ [])
    (names 0 6 4) ∷
    -- one variable: the rules on types refuse it where it stands first
    procedure_as ("   V : Integer := 0; procedure R (A : V);" ⏎ []) ("   procedure R (A : V) is" ⏎ [])
    (types 0 3 39) ∷
    -- a list of parameters in two parts
    procedure_as ("   procedure R (A, B : Integer);" ⏎ []) ("   procedure R (A : Integer; B : Integer) is" ⏎ [])
    (good 2 0 0) ∷
    []

-- a function of a package, in line 2, and its body, in line 5, with this statement
abbrev pub function_as : (declaration body : Lines) → Outcome → Case
function_as d b o =
    of_units ("package K is" ⏎ d ++ ("end K;" ⏎ "package body K is" ⏎ b ++ ("   end F;" ⏎ "end K;" ⏎ []))) o

-- results
abbrev pub results_of_bodies : List Case
results_of_bodies =
    -- the same
    function_as ("   function F return Natural;" ⏎ [])
    ("   function F return Natural is" ⏎ "   begin" ⏎ "      return 1;" ⏎ []) (good 2 0 0) ∷
    -- another type
    function_as ("   function F return Natural;" ⏎ [])
    ("   function F return Boolean is" ⏎ "   begin" ⏎ "      return True;" ⏎ []) (names 0 5 4) ∷
    -- another subtype of one type
    function_as ("   function F return Natural;" ⏎ [])
    ("   function F return Positive is" ⏎ "   begin" ⏎ "      return 1;" ⏎ []) (names 0 5 4) ∷
    -- a variable for a subtype
    function_as ("   V : Integer := 0; function F return Natural;" ⏎ [])
    ("   function F return V is" ⏎ "   begin" ⏎ "      return 1;" ⏎ []) (names 0 5 4) ∷
    -- a procedure for a function
    function_as ("   function F return Natural;" ⏎ []) ("   procedure F is" ⏎ "   begin" ⏎ "      return;" ⏎ [])
    (names 0 5 4) ∷
    -- a function for a procedure
    function_as ("   procedure F;" ⏎ []) ("   function F return Natural is" ⏎ "   begin" ⏎ "      return 1;" ⏎ [])
    (names 0 5 4) ∷
    []

abbrev pub Conformance : Type 0
Conformance = Hold parameters_of_bodies × Hold results_of_bodies
