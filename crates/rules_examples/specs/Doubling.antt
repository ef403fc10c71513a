-- Constants of which each is twice the one before it, forty in a row: in a generic with two instances, in a subprogram of its text, and in
-- a subprogram in no generic.
use Rattle.std.specs.Prelude.{ℕ, List, [], ◌∷◌, codes}
use Rattle.rules_examples.specs.Cases.{◌⏎◌, Lines, Outcome, Case, case_of, changed, Hold, types, good}

abbrev pub doubles_file : Lines
doubles_file =
    "generic" ⏎
    "   N : Integer;" ⏎
    "package G is" ⏎
    "   C1 : constant Integer := N;" ⏎
    "   C2 : constant Integer := C1 + C1 - N;" ⏎
    "   C3 : constant Integer := C2 + C2 - N;" ⏎
    "   C4 : constant Integer := C3 + C3 - N;" ⏎
    "   C5 : constant Integer := C4 + C4 - N;" ⏎
    "   C6 : constant Integer := C5 + C5 - N;" ⏎
    "   C7 : constant Integer := C6 + C6 - N;" ⏎
    "   C8 : constant Integer := C7 + C7 - N;" ⏎
    "   C9 : constant Integer := C8 + C8 - N;" ⏎
    "   C10 : constant Integer := C9 + C9 - N;" ⏎
    "   C11 : constant Integer := C10 + C10 - N;" ⏎
    "   C12 : constant Integer := C11 + C11 - N;" ⏎
    "   C13 : constant Integer := C12 + C12 - N;" ⏎
    "   C14 : constant Integer := C13 + C13 - N;" ⏎
    "   C15 : constant Integer := C14 + C14 - N;" ⏎
    "   C16 : constant Integer := C15 + C15 - N;" ⏎
    "   C17 : constant Integer := C16 + C16 - N;" ⏎
    "   C18 : constant Integer := C17 + C17 - N;" ⏎
    "   C19 : constant Integer := C18 + C18 - N;" ⏎
    "   C20 : constant Integer := C19 + C19 - N;" ⏎
    "   C21 : constant Integer := C20 + C20 - N;" ⏎
    "   C22 : constant Integer := C21 + C21 - N;" ⏎
    "   C23 : constant Integer := C22 + C22 - N;" ⏎
    "   C24 : constant Integer := C23 + C23 - N;" ⏎
    "   C25 : constant Integer := C24 + C24 - N;" ⏎
    "   C26 : constant Integer := C25 + C25 - N;" ⏎
    "   C27 : constant Integer := C26 + C26 - N;" ⏎
    "   C28 : constant Integer := C27 + C27 - N;" ⏎
    "   C29 : constant Integer := C28 + C28 - N;" ⏎
    "   C30 : constant Integer := C29 + C29 - N;" ⏎
    "   C31 : constant Integer := C30 + C30 - N;" ⏎
    "   C32 : constant Integer := C31 + C31 - N;" ⏎
    "   C33 : constant Integer := C32 + C32 - N;" ⏎
    "   C34 : constant Integer := C33 + C33 - N;" ⏎
    "   C35 : constant Integer := C34 + C34 - N;" ⏎
    "   C36 : constant Integer := C35 + C35 - N;" ⏎
    "   C37 : constant Integer := C36 + C36 - N;" ⏎
    "   C38 : constant Integer := C37 + C37 - N;" ⏎
    "   C39 : constant Integer := C38 + C38 - N;" ⏎
    "   C40 : constant Integer := C39 + C39 - N;" ⏎
    "   subtype Short is Integer range C40 .. 5;" ⏎
    "   procedure Run;" ⏎
    "end G;" ⏎
    "package body G is" ⏎
    "   procedure Run is" ⏎
    "      D1 : constant Integer := C40 + 1;" ⏎
    "      D2 : constant Integer := D1 + D1;" ⏎
    "      D3 : constant Integer := D2 + D2;" ⏎
    "      D4 : constant Integer := D3 + D3;" ⏎
    "      D5 : constant Integer := D4 + D4;" ⏎
    "      D6 : constant Integer := D5 + D5;" ⏎
    "      D7 : constant Integer := D6 + D6;" ⏎
    "      D8 : constant Integer := D7 + D7;" ⏎
    "      D9 : constant Integer := D8 + D8;" ⏎
    "      D10 : constant Integer := D9 + D9;" ⏎
    "      D11 : constant Integer := D10 + D10;" ⏎
    "      D12 : constant Integer := D11 + D11;" ⏎
    "      D13 : constant Integer := D12 + D12;" ⏎
    "      D14 : constant Integer := D13 + D13;" ⏎
    "      D15 : constant Integer := D14 + D14;" ⏎
    "      D16 : constant Integer := D15 + D15;" ⏎
    "      D17 : constant Integer := D16 + D16;" ⏎
    "      D18 : constant Integer := D17 + D17;" ⏎
    "      D19 : constant Integer := D18 + D18;" ⏎
    "      D20 : constant Integer := D19 + D19;" ⏎
    "      D21 : constant Integer := D20 + D20;" ⏎
    "      D22 : constant Integer := D21 + D21;" ⏎
    "      D23 : constant Integer := D22 + D22;" ⏎
    "      D24 : constant Integer := D23 + D23;" ⏎
    "      D25 : constant Integer := D24 + D24;" ⏎
    "      D26 : constant Integer := D25 + D25;" ⏎
    "      D27 : constant Integer := D26 + D26;" ⏎
    "      D28 : constant Integer := D27 + D27;" ⏎
    "      D29 : constant Integer := D28 + D28;" ⏎
    "      D30 : constant Integer := D29 + D29;" ⏎
    "      D31 : constant Integer := D30 + D30;" ⏎
    "      D32 : constant Integer := D31 + D31;" ⏎
    "      D33 : constant Integer := D32 + D32;" ⏎
    "      D34 : constant Integer := D33 + D33;" ⏎
    "      D35 : constant Integer := D34 + D34;" ⏎
    "      D36 : constant Integer := D35 + D35;" ⏎
    "      D37 : constant Integer := D36 + D36;" ⏎
    "      D38 : constant Integer := D37 + D37;" ⏎
    "      D39 : constant Integer := D38 + D38;" ⏎
    "      D40 : constant Integer := D39 + D39;" ⏎
    "      X : Integer;" ⏎
    "   begin" ⏎
    "      case X is" ⏎
    "         when C40 .. 5 => null;" ⏎
    "         when D2 => X := 1;" ⏎
    "         when others => null;" ⏎
    "      end case;" ⏎
    "   end Run;" ⏎
    "end G;" ⏎
    "with G;" ⏎
    "package I1 is new G (3);" ⏎
    "with G;" ⏎
    "package I2 is new G (5);" ⏎
    "with I1;" ⏎
    "procedure M is" ⏎
    "begin" ⏎
    "   I1.Run;" ⏎
    "end M;" ⏎
    []

abbrev pub of_doubles : (first last : ℕ) → Lines → Outcome → Case
of_doubles first last new o = case_of (codes "m") (changed 0 first last new (doubles_file ∷ [])) o

-- two instances with values of their own
abbrev pub doubles : List Case
doubles = of_doubles 101 101 ("package I2 is new G (5);" ⏎ []) (good 45 0 0) ∷ []

-- bounds out of order in one instance
abbrev pub out_of_order : List Case
out_of_order = of_doubles 101 101 ("package I2 is new G (6);" ⏎ []) (types 0 44 35) ∷ []

-- a value that is named twice in one instance
abbrev pub named_twice : List Case
named_twice = of_doubles 101 101 ("package I2 is new G (-1);" ⏎ []) (types 0 91 7) ∷ []

-- a constant of a subprogram of the generic that has no value in the base range
abbrev pub without_value : List Case
without_value = of_doubles 93 93 ("         when D33 => X := 1;" ⏎ []) (types 0 93 15) ∷ []

abbrev pub own_file : Lines
own_file =
    "procedure M is" ⏎
    "   E1 : constant Integer := 3;" ⏎
    "   E2 : constant Integer := E1 + E1;" ⏎
    "   E3 : constant Integer := E2 + E2;" ⏎
    "   E4 : constant Integer := E3 + E3;" ⏎
    "   E5 : constant Integer := E4 + E4;" ⏎
    "   E6 : constant Integer := E5 + E5;" ⏎
    "   E7 : constant Integer := E6 + E6;" ⏎
    "   E8 : constant Integer := E7 + E7;" ⏎
    "   E9 : constant Integer := E8 + E8;" ⏎
    "   E10 : constant Integer := E9 + E9;" ⏎
    "   E11 : constant Integer := E10 + E10;" ⏎
    "   E12 : constant Integer := E11 + E11;" ⏎
    "   E13 : constant Integer := E12 + E12;" ⏎
    "   E14 : constant Integer := E13 + E13;" ⏎
    "   E15 : constant Integer := E14 + E14;" ⏎
    "   E16 : constant Integer := E15 + E15;" ⏎
    "   E17 : constant Integer := E16 + E16;" ⏎
    "   E18 : constant Integer := E17 + E17;" ⏎
    "   E19 : constant Integer := E18 + E18;" ⏎
    "   E20 : constant Integer := E19 + E19;" ⏎
    "   E21 : constant Integer := E20 + E20;" ⏎
    "   E22 : constant Integer := E21 + E21;" ⏎
    "   E23 : constant Integer := E22 + E22;" ⏎
    "   E24 : constant Integer := E23 + E23;" ⏎
    "   E25 : constant Integer := E24 + E24;" ⏎
    "   E26 : constant Integer := E25 + E25;" ⏎
    "   E27 : constant Integer := E26 + E26;" ⏎
    "   E28 : constant Integer := E27 + E27;" ⏎
    "   E29 : constant Integer := E28 + E28;" ⏎
    "   E30 : constant Integer := E29 + E29;" ⏎
    "   E31 : constant Integer := E30 + E30;" ⏎
    "   E32 : constant Integer := E31 + E31;" ⏎
    "   E33 : constant Integer := E32 + E32;" ⏎
    "   E34 : constant Integer := E33 + E33;" ⏎
    "   E35 : constant Integer := E34 + E34;" ⏎
    "   E36 : constant Integer := E35 + E35;" ⏎
    "   E37 : constant Integer := E36 + E36;" ⏎
    "   E38 : constant Integer := E37 + E37;" ⏎
    "   E39 : constant Integer := E38 + E38;" ⏎
    "   E40 : constant Integer := E39 + E39;" ⏎
    "   X : Integer range 0 .. E30;" ⏎
    "begin" ⏎
    "   null;" ⏎
    "end M;" ⏎
    []

-- the last constant of a subprogram in no generic that has a value, and the first that has none
abbrev pub of_own : List Case
of_own =
    case_of (codes "m") (own_file ∷ []) (good 41 0 0) ∷
    case_of (codes "m") (changed 0 42 42 ("   X : Integer range 0 .. E31;" ⏎ []) (own_file ∷ [])) (types 0 42 27) ∷
    []

abbrev pub Doubling : Type 0
Doubling = Hold doubles × Hold out_of_order × Hold named_twice × Hold without_value × Hold of_own
