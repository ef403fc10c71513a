-- Whole sources: the counted limits, and rules one by one.
use Rattle.std.specs.Prelude.{List, [], ◌∷◌, codes}
use Rattle.rules_examples.specs.Cases.{◌⏎◌, Case, case_of, Hold, names, types, counts, good}

-- sources right at the counted limits
abbrev pub near_limits : List Case
near_limits =
    -- 33 conditions over lines
    case_of (codes "p") (("procedure P is" ⏎
    "   A : Boolean;" ⏎
    "begin" ⏎
    "   while" ⏎
    "      (A)" ⏎
    "      or else       (A)" ⏎
    "      or else       (A)" ⏎
    "      or else       (A)" ⏎
    "      or else       (A)" ⏎
    "      or else       (A)" ⏎
    "      or else       (A)" ⏎
    "      or else       (A)" ⏎
    "      or else       (A)" ⏎
    "      or else       (A)" ⏎
    "      or else       (A)" ⏎
    "      or else       (A)" ⏎
    "      or else       (A)" ⏎
    "      or else       (A)" ⏎
    "      or else       (A)" ⏎
    "      or else       (A)" ⏎
    "      or else       (A)" ⏎
    "      or else       (A)" ⏎
    "      or else       (A)" ⏎
    "      or else       (A)" ⏎
    "      or else       (A)" ⏎
    "      or else       (A)" ⏎
    "      or else       (A)" ⏎
    "      or else       (A)" ⏎
    "      or else       (A)" ⏎
    "      or else       (A)" ⏎
    "      or else       (A)" ⏎
    "      or else       (A)" ⏎
    "      or else       (A)" ⏎
    "      or else       (A)" ⏎
    "      or else       (A)" ⏎
    "      or else       (A)" ⏎
    "      or else       (A)" ⏎
    "   loop" ⏎
    "      null;" ⏎
    "   end loop;" ⏎
    "end P;" ⏎
    []) ∷ []) (counts 0 5 7) ∷
    -- 32 conditions over lines
    case_of (codes "p") (("procedure P is" ⏎
    "   A : Boolean;" ⏎
    "begin" ⏎
    "   while" ⏎
    "      (A)" ⏎
    "      or else       (A)" ⏎
    "      or else       (A)" ⏎
    "      or else       (A)" ⏎
    "      or else       (A)" ⏎
    "      or else       (A)" ⏎
    "      or else       (A)" ⏎
    "      or else       (A)" ⏎
    "      or else       (A)" ⏎
    "      or else       (A)" ⏎
    "      or else       (A)" ⏎
    "      or else       (A)" ⏎
    "      or else       (A)" ⏎
    "      or else       (A)" ⏎
    "      or else       (A)" ⏎
    "      or else       (A)" ⏎
    "      or else       (A)" ⏎
    "      or else       (A)" ⏎
    "      or else       (A)" ⏎
    "      or else       (A)" ⏎
    "      or else       (A)" ⏎
    "      or else       (A)" ⏎
    "      or else       (A)" ⏎
    "      or else       (A)" ⏎
    "      or else       (A)" ⏎
    "      or else       (A)" ⏎
    "      or else       (A)" ⏎
    "      or else       (A)" ⏎
    "      or else       (A)" ⏎
    "      or else       (A)" ⏎
    "      or else       (A)" ⏎
    "      or else       (A)" ⏎
    "   loop" ⏎
    "      null;" ⏎
    "   end loop;" ⏎
    "end P;" ⏎
    []) ∷ []) (good 2 1 32) ∷
    -- an array of 2049 words
    case_of (codes "p") (("procedure P is" ⏎
    "   type A is array (1 .. 2049) of Integer;" ⏎
    "   V : A;" ⏎
    "begin" ⏎
    "   null;" ⏎
    "end P;" ⏎
    []) ∷ []) (counts 0 3 4) ∷
    -- arrays and a loop, 2049 words
    case_of (codes "p") (("procedure P is" ⏎
    "   type A is array (1 .. 1023) of Boolean;" ⏎
    "   V, W : A;" ⏎
    "   X : Natural;" ⏎
    "begin" ⏎
    "   for I in A'First .. 2 loop" ⏎
    "      null;" ⏎
    "   end loop;" ⏎
    "   for I in Boolean loop" ⏎
    "      null;" ⏎
    "   end loop;" ⏎
    "end P;" ⏎
    []) ∷ []) (counts 0 9 4) ∷
    -- a record of arrays, 2049 words
    case_of (codes "p") (("procedure P is" ⏎
    "   type A is array (Boolean) of Integer;" ⏎
    "   type R is record" ⏎
    "      X, Y : A;" ⏎
    "      Z : Integer;" ⏎
    "   end record;" ⏎
    "   type B is array (1 .. 410) of R;" ⏎
    "   V : B;" ⏎
    "   N, M : Integer;" ⏎
    "   K : Integer;" ⏎
    "begin" ⏎
    "   null;" ⏎
    "end P;" ⏎
    []) ∷ []) (counts 0 8 4) ∷
    -- a type of 262145 words
    case_of (codes "p") (("procedure P is" ⏎
    "   type A is array (1 .. 262145) of Integer;" ⏎
    "begin" ⏎
    "   null;" ⏎
    "end P;" ⏎
    []) ∷ []) (counts 0 2 4) ∷
    -- a type of words beyond 32 bits
    case_of (codes "p") (("procedure P is" ⏎
    "   type A is array (Integer) of Integer;" ⏎
    "   type B is array (Natural) of A;" ⏎
    "begin" ⏎
    "   null;" ⏎
    "end P;" ⏎
    []) ∷ []) (counts 0 2 4) ∷
    -- a type of a record over the limit
    case_of (codes "p") (("procedure P is" ⏎
    "   type A is array (1 .. 262144) of Integer;" ⏎
    "   type R is record" ⏎
    "      X : A;" ⏎
    "      Y : Integer;" ⏎
    "   end record;" ⏎
    "begin" ⏎
    "   null;" ⏎
    "end P;" ⏎
    []) ∷ []) (counts 0 3 4) ∷
    -- an array of 2048 words
    case_of (codes "p") (("procedure P is" ⏎
    "   type A is array (1 .. 2048) of Integer;" ⏎
    "   V : A;" ⏎
    "begin" ⏎
    "   null;" ⏎
    "end P;" ⏎
    []) ∷ []) (good 1 0 0) ∷
    -- arrays and a loop, 2048 words
    case_of (codes "p") (("procedure P is" ⏎
    "   type A is array (1 .. 1023) of Boolean;" ⏎
    "   V, W : A;" ⏎
    "begin" ⏎
    "   for I in A'First .. 2 loop" ⏎
    "      null;" ⏎
    "   end loop;" ⏎
    "   for I in Boolean loop" ⏎
    "      null;" ⏎
    "   end loop;" ⏎
    "end P;" ⏎
    []) ∷ []) (good 4 0 0) ∷
    -- a record of arrays, 2048 words
    case_of (codes "p") (("procedure P is" ⏎
    "   type A is array (Boolean) of Integer;" ⏎
    "   type R is record" ⏎
    "      X, Y : A;" ⏎
    "      Z : Integer;" ⏎
    "   end record;" ⏎
    "   type B is array (1 .. 409) of R;" ⏎
    "   V : B;" ⏎
    "   N, M : Integer;" ⏎
    "   K : Integer;" ⏎
    "begin" ⏎
    "   null;" ⏎
    "end P;" ⏎
    []) ∷ []) (good 1 0 0) ∷
    -- a type of 262144 words
    case_of (codes "p") (("procedure P is" ⏎
    "   type A is array (1 .. 262144) of Integer;" ⏎
    "begin" ⏎
    "   null;" ⏎
    "end P;" ⏎
    []) ∷ []) (good 1 0 0) ∷
    -- words of parameters, 2049
    case_of (codes "p") (("package K is" ⏎
    "   type A is array (1 .. 1024) of Integer;" ⏎
    "   procedure Q (X : A; Y : in out A; Z : Boolean);" ⏎
    "end K;" ⏎
    "package body K is" ⏎
    "   procedure Q (X : A; Y : in out A; Z : Boolean) is" ⏎
    "   begin" ⏎
    "      Y := X;" ⏎
    "   end Q;" ⏎
    "end K;" ⏎
    "procedure P is" ⏎
    "begin" ⏎
    "   null;" ⏎
    "end P;" ⏎
    []) ∷ []) (counts 0 6 38) ∷
    -- library objects of 262145 words
    case_of (codes "p") (("package K is" ⏎
    "   type A is array (1 .. 131072) of Integer;" ⏎
    "   V : A;" ⏎
    "end K;" ⏎
    "with K;" ⏎
    "package L is" ⏎
    "   W : K.A;" ⏎
    "   X : Boolean;" ⏎
    "end L;" ⏎
    "procedure P is" ⏎
    "begin" ⏎
    "   null;" ⏎
    "end P;" ⏎
    []) ∷ []) (counts 0 5 1) ∷
    []

-- sources that show one rule each
abbrev pub of_rules : List Case
of_rules =
    -- the main unit
    case_of (codes "m") (("with Test_IO;" ⏎
    "procedure M is" ⏎
    "begin" ⏎
    "null;" ⏎
    "end M;" ⏎
    []) ∷ []) (good 1 0 0) ∷
    -- regions
    case_of (codes "m") (("with Test_IO;" ⏎
    "procedure M is" ⏎
    "begin" ⏎
    "declare" ⏎
    "A, A : Integer;" ⏎
    "begin" ⏎
    "null;" ⏎
    "end;" ⏎
    "end M;" ⏎
    []) ∷ []) (names 0 5 4) ∷
    -- hides from its start, visible from its end (3)
    case_of (codes "m") (("with Test_IO;" ⏎
    "procedure M is" ⏎
    "X : Integer;" ⏎
    "begin" ⏎
    "declare" ⏎
    "Y : Integer := X;" ⏎
    "X : Integer := Y;" ⏎
    "begin" ⏎
    "null;" ⏎
    "end;" ⏎
    "end M;" ⏎
    []) ∷ []) (good 3 0 0) ∷
    -- regions (2)
    case_of (codes "m") (("with Test_IO;" ⏎
    "procedure M is" ⏎
    "A : Integer;" ⏎
    "begin" ⏎
    "declare" ⏎
    "A : Boolean;" ⏎
    "begin" ⏎
    "A := True;" ⏎
    "end;" ⏎
    "A := 1;" ⏎
    "end M;" ⏎
    []) ∷ []) (good 2 0 0) ∷
    -- Boolean operands (3)
    case_of (codes "m") (("with Test_IO;" ⏎
    "procedure M is" ⏎
    "A, B : Boolean;" ⏎
    "begin" ⏎
    "A := not B;" ⏎
    "A := A and then B;" ⏎
    "A := A or else not B;" ⏎
    "if A then" ⏎
    "null;" ⏎
    "end if;" ⏎
    "while A loop" ⏎
    "exit when B;" ⏎
    "end loop;" ⏎
    "end M;" ⏎
    []) ∷ []) (good 7 5 7) ∷
    -- declared words per subprogram
    case_of (codes "m") (("with Test_IO;" ⏎
    "procedure M is" ⏎
    "type A is array (1 .. 2048) of Integer;" ⏎
    "X : A;" ⏎
    "begin" ⏎
    "null;" ⏎
    "end M;" ⏎
    []) ∷ []) (good 1 0 0) ∷
    -- Test_IO is predefined
    case_of (codes "m") (("with Test_IO;" ⏎
    "procedure M is" ⏎
    "X : Natural;" ⏎
    "begin" ⏎
    "Test_IO.Get (X);" ⏎
    "end M;" ⏎
    []) ∷ []) (good 1 0 0) ∷
    -- a loop parameter as selector (2)
    case_of (codes "m") (("with Test_IO;" ⏎
    "procedure M is" ⏎
    "subtype S is Integer range 1 .. 4;" ⏎
    "X : S;" ⏎
    "Y : Integer;" ⏎
    "type T is range 1 .. 3;" ⏎
    "Z : T;" ⏎
    "begin" ⏎
    "for I in False .. True loop" ⏎
    "case I is" ⏎
    "when True =>" ⏎
    "null;" ⏎
    "when False =>" ⏎
    "null;" ⏎
    "end case;" ⏎
    "end loop;" ⏎
    "end M;" ⏎
    []) ∷ []) (good 4 0 0) ∷
    -- bodies are no part of it
    case_of (codes "m") (("package A is" ⏎
    "procedure P;" ⏎
    "end A;" ⏎
    "with B;" ⏎
    "package body A is" ⏎
    "procedure P is" ⏎
    "begin" ⏎
    "B.P;" ⏎
    "end P;" ⏎
    "end A;" ⏎
    []) ∷ ("package B is" ⏎
    "procedure P;" ⏎
    "end B;" ⏎
    "with A;" ⏎
    "package body B is" ⏎
    "procedure P is" ⏎
    "begin" ⏎
    "A.P;" ⏎
    "end P;" ⏎
    "end B;" ⏎
    []) ∷ ("with Test_IO;" ⏎
    "procedure M is" ⏎
    "begin" ⏎
    "null;" ⏎
    "end M;" ⏎
    []) ∷ []) (good 3 0 0) ∷
    -- inner name hides the unit
    case_of (codes "m") (("package P is" ⏎
    "P : Integer;" ⏎
    "end P;" ⏎
    "with Test_IO;" ⏎
    "procedure M is" ⏎
    "begin" ⏎
    "null;" ⏎
    "end M;" ⏎
    []) ∷ []) (good 1 0 0) ∷
    -- regions
    case_of (codes "m") (("with Test_IO;" ⏎
    "procedure M is" ⏎
    "E : exception;" ⏎
    "E : Integer;" ⏎
    "begin" ⏎
    "null;" ⏎
    "end M;" ⏎
    []) ∷ []) (names 0 4 1) ∷
    -- others last and alone (2)
    case_of (codes "m") (("with Test_IO;" ⏎
    "procedure M is" ⏎
    "begin" ⏎
    "null;" ⏎
    "exception" ⏎
    "when Constraint_Error | others =>" ⏎
    "null;" ⏎
    "end M;" ⏎
    []) ∷ []) (types 0 6 25) ∷
    -- Test_IO is predefined
    case_of (codes "m") (("with Test_IO;" ⏎
    "procedure M is" ⏎
    "X : Integer;" ⏎
    "begin" ⏎
    "Test_IO.Get (X);" ⏎
    "Test_IO.Put (X);" ⏎
    "raise Test_IO.End_Error;" ⏎
    "end M;" ⏎
    []) ∷ []) (good 3 0 0) ∷
    -- raise; in a handler (5)
    case_of (codes "m") (("with Test_IO;" ⏎
    "procedure M is" ⏎
    "begin" ⏎
    "null;" ⏎
    "exception" ⏎
    "when others =>" ⏎
    "begin" ⏎
    "if True then" ⏎
    "raise;" ⏎
    "end if;" ⏎
    "end;" ⏎
    "end M;" ⏎
    []) ∷ []) (good 3 1 1) ∷
    -- instance of itself
    case_of (codes "m") (("package J is new J;" ⏎
    "with Test_IO;" ⏎
    "procedure M is" ⏎
    "begin" ⏎
    "null;" ⏎
    "end M;" ⏎
    []) ∷ []) (names 0 1 18) ∷
    -- static rules for each instance
    case_of (codes "m") (("generic" ⏎
    "L : Integer;" ⏎
    "package G is" ⏎
    "type T is range 1 .. L;" ⏎
    "X : T := 3;" ⏎
    "end G;" ⏎
    "with G;" ⏎
    "package J is new G (3);" ⏎
    "with Test_IO;" ⏎
    "procedure M is" ⏎
    "begin" ⏎
    "null;" ⏎
    "end M;" ⏎
    []) ∷ []) (good 1 0 0) ∷
    []

abbrev pub Whole : Type 0
Whole = Hold near_limits × Hold of_rules
