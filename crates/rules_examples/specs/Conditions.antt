-- Boolean expressions, branches, loops and blocks.
use Rattle.std.specs.Prelude.{List, [], ◌∷◌}
use Rattle.rules_examples.specs.Cases.{◌⏎◌, Case, Hold, names, types, good}
use Rattle.rules_examples.specs.Bases.{of_walk, of_gate, of_short, of_nested}

-- changes of `walk`
abbrev pub changes_of_walk : List Case
changes_of_walk =
    -- name of an inner block used outside
    of_walk 0 29 28 ("   Test_IO.Put (M);" ⏎ []) (names 0 29 17) ∷
    -- undeclared in an elsif
    of_walk 0 14 14 ("      elsif Lo = (N >= 5) then" ⏎ []) (names 0 14 13) ∷
    -- Boolean assigned to Integer
    of_walk 0 10 10 ("      N := N = 1;" ⏎ []) (types 0 10 7) ∷
    -- elsif an Integer
    of_walk 0 14 14 ("      elsif N then" ⏎ []) (types 0 12 7) ∷
    -- and is not of the language
    of_walk 0 11 11 ("      exit when N = 3 and Low;" ⏎ []) (types 0 11 17) ∷
    -- sign of a Boolean
    of_walk 0 8 8 ("   Low := -Low;" ⏎ []) (types 0 8 11) ∷
    -- Boolean put
    of_walk 0 27 27 ("      Test_IO.Put (Low);" ⏎ []) (types 0 27 7) ∷
    -- assigned type
    of_walk 0 19 19 ("      Boolean := N <= 0;" ⏎ []) (types 0 19 7) ∷
    -- an inner name hides an outer one
    of_walk 0 22 22 ("      M : Integer := N; Low : Integer;" ⏎ []) (good 15 4 4) ∷
    -- exit in a block in a loop
    of_walk 0 25 25 ("         begin exit; end;" ⏎ []) (good 15 4 4) ∷
    -- relation of Booleans
    of_walk 0 19 19 ("      Low := Low >= False;" ⏎ []) (good 15 4 4) ∷
    -- double not in parentheses
    of_walk 0 9 9 ("   while not (not Low) loop" ⏎ []) (good 15 4 4) ∷
    []

-- changes of `gate`
abbrev pub changes_of_gate : List Case
changes_of_gate =
    -- unknown literal
    of_gate 0 6 6 ("   Open := Yes;" ⏎ []) (names 0 6 12) ∷
    -- condition is a call of a procedure
    of_gate 0 10 10 ("      if Gate then" ⏎ []) (types 0 10 10) ∷
    -- numeral for a Boolean
    of_gate 0 6 6 ("   Open := 1;" ⏎ []) (types 0 6 4) ∷
    -- Boolean in a sum
    of_gate 0 9 9 ("      Turns := Turns + True;" ⏎ []) (types 0 9 16) ∷
    -- comparison of Boolean and Integer
    of_gate 0 10 10 ("      if Open /= Turns then" ⏎ []) (types 0 10 10) ∷
    -- variable as a type
    of_gate 0 4 4 ("   Turns : Open := 0;" ⏎ []) (types 0 4 12) ∷
    -- list of Booleans with a value
    of_gate 0 3 3 ("   Open, Shut : Boolean := True;" ⏎ []) (types 0 3 4) ∷
    []

-- changes of `short`
abbrev pub changes_of_short : List Case
changes_of_short =
    -- undeclared last operand
    of_short 0 17 17 ("   Ok := Ok = (A = 1 and then B = 1 and then D = 1);" ⏎ []) (names 0 17 46) ∷
    -- undeclared nested operand
    of_short 0 13 13 ("   while (A < B or else B < E) = Ok loop" ⏎ []) (names 0 13 29) ∷
    -- right operand is an Integer
    of_short 0 9 9 ("   Ok := A > 1 and then B;" ⏎ []) (types 0 9 10) ∷
    -- numeral as an operand
    of_short 0 10 10 ("   if (Ok or else 3) and then not (A = B) then" ⏎ []) (types 0 10 8) ∷
    -- or for or else
    of_short 0 10 10 ("   if (Ok or C = 3) and then not (A = B) then" ⏎ []) (types 0 10 8) ∷
    -- xor in parentheses
    of_short 0 10 10 ("   if (Ok xor C = 3) and then not (A = B) then" ⏎ []) (types 0 10 8) ∷
    -- short-circuit compared with an Integer
    of_short 0 13 13 ("   while (A < B or else B < C) = A loop" ⏎ []) (types 0 13 10) ∷
    -- short-circuit as an operand of +
    of_short 0 14 14 ("      A := A + (Ok or else Ok);" ⏎ []) (types 0 14 12) ∷
    -- three of one kind
    of_short 0 9 9 ("   Ok := A > 1 and then B > 2 and then Ok;" ⏎ []) (good 11 6 15) ∷
    -- two kinds with parentheses
    of_short 0 9 9 ("   Ok := (A > 1 and then B > 2) or else Ok;" ⏎ []) (good 11 6 15) ∷
    []

-- changes of `nested`
abbrev pub changes_of_nested : List Case
changes_of_nested =
    -- undeclared in an initial value
    of_nested 0 3 3 ("   Q : Boolean := P or else not S;" ⏎ []) (names 0 3 33) ∷
    -- used in its own declaration
    of_nested 0 3 3 ("   Q : Boolean := P or else not Q;" ⏎ []) (names 0 3 33) ∷
    -- constant assigned
    of_nested 0 6 6 ("   R := P and then Q;" ⏎ []) (types 0 6 4) ∷
    -- list with a short-circuit value
    of_nested 0 3 3 ("   Q, S : Boolean := P or else not P;" ⏎ []) (types 0 3 4) ∷
    -- not of a numeral
    of_nested 0 3 3 ("   Q : Boolean := P or else not 0;" ⏎ []) (types 0 3 29) ∷
    -- relation of a short-circuit and a numeral
    of_nested 0 4 4 ("   R : constant Boolean := (P and then Q) = 1;" ⏎ []) (types 0 4 28) ∷
    -- initial value of another type
    of_nested 0 3 3 ("   Q : Integer := P or else not P;" ⏎ []) (types 0 3 4) ∷
    -- if of an Integer short-circuit
    of_nested 0 6 6 ("   if P and then Integer'Last then null; end if;" ⏎ []) (types 0 6 7) ∷
    []

abbrev pub Conditions : Type 0
Conditions = Hold changes_of_walk × Hold changes_of_gate × Hold changes_of_short × Hold changes_of_nested
