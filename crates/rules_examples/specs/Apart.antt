-- Whole sources worked out by hand, for what the others leave out.
use Rattle.std.specs.Prelude.{List, [], ◌∷◌, codes}
use Rattle.rules_examples.specs.Cases.{◌⏎◌, Case, case_of, Hold, names, types, good}

-- sources worked out by hand, for what the others leave out
abbrev pub apart : List Case
apart =
    -- conform lists
    case_of (codes "m") (("package K is" ⏎
    "   procedure Q (A : Integer; B : Integer);" ⏎
    "end K;" ⏎
    "package body K is" ⏎
    "   procedure Q (A, B : in Integer) is" ⏎
    "   begin" ⏎
    "      null;" ⏎
    "   end Q;" ⏎
    "end K;" ⏎
    "procedure M is" ⏎
    "begin" ⏎
    "   null;" ⏎
    "end M;" ⏎
    []) ∷ []) (good 2 0 0) ∷
    -- composite formal object
    case_of (codes "m") (("package K is" ⏎
    "   type A is array (1 .. 2) of Integer;" ⏎
    "end K;" ⏎
    "with K;" ⏎
    "generic" ⏎
    "   X : K.A;" ⏎
    "package G is" ⏎
    "   V : Integer;" ⏎
    "end G;" ⏎
    "procedure M is" ⏎
    "begin" ⏎
    "   null;" ⏎
    "end M;" ⏎
    []) ∷ []) (types 0 6 8) ∷
    -- formal by the own name
    case_of (codes "m") (("generic" ⏎
    "   N : Integer;" ⏎
    "package G is" ⏎
    "   V : Integer := G.N;" ⏎
    "end G;" ⏎
    "with G;" ⏎
    "package J is new G (3);" ⏎
    "procedure M is" ⏎
    "begin" ⏎
    "   null;" ⏎
    "end M;" ⏎
    []) ∷ []) (good 1 0 0) ∷
    -- constant of instance is static
    case_of (codes "m") (("generic" ⏎
    "   N : Integer;" ⏎
    "package G is" ⏎
    "   C : constant Integer := N + 1;" ⏎
    "end G;" ⏎
    "with G;" ⏎
    "package J is new G (3);" ⏎
    "with J;" ⏎
    "procedure M is" ⏎
    "   type T is range J.C .. 4;" ⏎
    "   type U is range 1 .. 10;" ⏎
    "   X : T := 4;" ⏎
    "begin" ⏎
    "   null;" ⏎
    "end M;" ⏎
    []) ∷ []) (good 2 0 0) ∷
    -- constant of instance too great
    case_of (codes "m") (("generic" ⏎
    "   N : Integer;" ⏎
    "package G is" ⏎
    "   C : constant Integer := N + 1;" ⏎
    "end G;" ⏎
    "with G;" ⏎
    "package J is new G (4);" ⏎
    "with J;" ⏎
    "procedure M is" ⏎
    "   type T is range J.C .. 4;" ⏎
    "begin" ⏎
    "   null;" ⏎
    "end M;" ⏎
    []) ∷ []) (types 0 10 20) ∷
    -- case on a formal function
    case_of (codes "m") (("package K is" ⏎
    "   type S is range 0 .. 9;" ⏎
    "   subtype Low is S range 0 .. 1;" ⏎
    "   function F return Low;" ⏎
    "end K;" ⏎
    "package body K is" ⏎
    "   function F return Low is" ⏎
    "   begin" ⏎
    "      return 1;" ⏎
    "   end F;" ⏎
    "end K;" ⏎
    "generic" ⏎
    "   type T is range <>;" ⏎
    "   with function F return T;" ⏎
    "package G is" ⏎
    "   procedure P;" ⏎
    "end G;" ⏎
    "package body G is" ⏎
    "   procedure P is" ⏎
    "   begin" ⏎
    "      case F is" ⏎
    "         when 0 => null;" ⏎
    "         when 1 => null;" ⏎
    "      end case;" ⏎
    "   end P;" ⏎
    "end G;" ⏎
    "with G, K;" ⏎
    "package J is new G (K.S, K.F);" ⏎
    "procedure M is" ⏎
    "begin" ⏎
    "   null;" ⏎
    "end M;" ⏎
    []) ∷ []) (good 5 0 0) ∷
    -- case on a formal function, too many values
    case_of (codes "m") (("package K is" ⏎
    "   type S is range 0 .. 9;" ⏎
    "   function F return S;" ⏎
    "end K;" ⏎
    "package body K is" ⏎
    "   function F return S is" ⏎
    "   begin" ⏎
    "      return 1;" ⏎
    "   end F;" ⏎
    "end K;" ⏎
    "generic" ⏎
    "   type T is range <>;" ⏎
    "   with function F return T;" ⏎
    "package G is" ⏎
    "   procedure P;" ⏎
    "end G;" ⏎
    "package body G is" ⏎
    "   procedure P is" ⏎
    "   begin" ⏎
    "      case F is" ⏎
    "         when 0 => null;" ⏎
    "         when 1 => null;" ⏎
    "      end case;" ⏎
    "   end P;" ⏎
    "end G;" ⏎
    "with G, K;" ⏎
    "package J is new G (K.S, K.F);" ⏎
    "procedure M is" ⏎
    "begin" ⏎
    "   null;" ⏎
    "end M;" ⏎
    []) ∷ []) (types 0 20 7) ∷
    -- two bodies of a package
    case_of (codes "m") (("package K is" ⏎
    "   procedure Q;" ⏎
    "end K;" ⏎
    "package body K is" ⏎
    "   procedure Q is" ⏎
    "   begin" ⏎
    "      null;" ⏎
    "   end Q;" ⏎
    "end K;" ⏎
    "package body K is" ⏎
    "   procedure Q is" ⏎
    "   begin" ⏎
    "      null;" ⏎
    "   end Q;" ⏎
    "end K;" ⏎
    "procedure M is" ⏎
    "begin" ⏎
    "   null;" ⏎
    "end M;" ⏎
    []) ∷ []) (names 0 10 1) ∷
    -- hidden object by its full name
    case_of (codes "m") (("package K is" ⏎
    "   X : Integer;" ⏎
    "   procedure Q;" ⏎
    "end K;" ⏎
    "with K;" ⏎
    "package body K is" ⏎
    "   procedure Q is" ⏎
    "      X : Boolean;" ⏎
    "   begin" ⏎
    "      X := K.X = 1;" ⏎
    "   end Q;" ⏎
    "end K;" ⏎
    "procedure M is" ⏎
    "begin" ⏎
    "   null;" ⏎
    "end M;" ⏎
    []) ∷ []) (good 2 0 0) ∷
    -- unused constant outside its subtype
    case_of (codes "m") (("procedure M is" ⏎
    "   C : constant Positive := 0;" ⏎
    "begin" ⏎
    "   null;" ⏎
    "end M;" ⏎
    []) ∷ []) (good 2 0 0) ∷
    -- unit called Integer hides it in itself
    case_of (codes "m") (("package Integer is" ⏎
    "   X : Integer;" ⏎
    "end Integer;" ⏎
    "procedure M is" ⏎
    "begin" ⏎
    "   null;" ⏎
    "end M;" ⏎
    []) ∷ []) (types 0 2 8) ∷
    -- loop over a formal type, all named per instance
    case_of (codes "m") (("generic" ⏎
    "   type T is (<>);" ⏎
    "package G is" ⏎
    "   procedure P;" ⏎
    "end G;" ⏎
    "package body G is" ⏎
    "   procedure P is" ⏎
    "   begin" ⏎
    "      for I in T loop" ⏎
    "         case I is" ⏎
    "            when T'First => null;" ⏎
    "            when T'Last => null;" ⏎
    "         end case;" ⏎
    "      end loop;" ⏎
    "   end P;" ⏎
    "end G;" ⏎
    "with G;" ⏎
    "package J is new G (Boolean);" ⏎
    "procedure M is" ⏎
    "begin" ⏎
    "   null;" ⏎
    "end M;" ⏎
    []) ∷ []) (good 5 0 0) ∷
    -- loop over a formal type, a value left out
    case_of (codes "m") (("package K is" ⏎
    "   type C is (Red, Green, Blue);" ⏎
    "end K;" ⏎
    "generic" ⏎
    "   type T is (<>);" ⏎
    "package G is" ⏎
    "   procedure P;" ⏎
    "end G;" ⏎
    "package body G is" ⏎
    "   procedure P is" ⏎
    "   begin" ⏎
    "      for I in T loop" ⏎
    "         case I is" ⏎
    "            when T'First => null;" ⏎
    "            when T'Last => null;" ⏎
    "         end case;" ⏎
    "      end loop;" ⏎
    "   end P;" ⏎
    "end G;" ⏎
    "with G, K;" ⏎
    "package J is new G (K.C);" ⏎
    "procedure M is" ⏎
    "begin" ⏎
    "   null;" ⏎
    "end M;" ⏎
    []) ∷ []) (types 0 13 10) ∷
    -- generic without instance has no static rules
    case_of (codes "m") (("generic" ⏎
    "package G is" ⏎
    "   type T is range 5 .. 1;" ⏎
    "end G;" ⏎
    "procedure M is" ⏎
    "begin" ⏎
    "   null;" ⏎
    "end M;" ⏎
    []) ∷ []) (good 1 0 0) ∷
    -- composite in parentheses
    case_of (codes "m") (("procedure M is" ⏎
    "   type A is array (1 .. 2) of Integer;" ⏎
    "   X, Y : A;" ⏎
    "begin" ⏎
    "   X := (Y);" ⏎
    "end M;" ⏎
    []) ∷ []) (good 1 0 0) ∷
    -- own body before its specification
    case_of (codes "m") (("package K is" ⏎
    "   procedure Q;" ⏎
    "end K;" ⏎
    "package body K is" ⏎
    "   procedure R is" ⏎
    "   begin" ⏎
    "      null;" ⏎
    "   end R;" ⏎
    "   procedure R;" ⏎
    "   procedure Q is" ⏎
    "   begin" ⏎
    "      R;" ⏎
    "   end Q;" ⏎
    "end K;" ⏎
    "procedure M is" ⏎
    "begin" ⏎
    "   null;" ⏎
    "end M;" ⏎
    []) ∷ []) (names 0 9 14) ∷
    -- further subprogram declared in the body
    case_of (codes "m") (("package K is" ⏎
    "   procedure Q;" ⏎
    "end K;" ⏎
    "package body K is" ⏎
    "   procedure R (X : in out Integer);" ⏎
    "   procedure Q is" ⏎
    "      V : Integer := 1;" ⏎
    "   begin" ⏎
    "      R (V);" ⏎
    "   end Q;" ⏎
    "   procedure R (X : in out Integer) is" ⏎
    "   begin" ⏎
    "      X := X + 1;" ⏎
    "   end R;" ⏎
    "end K;" ⏎
    "procedure M is" ⏎
    "begin" ⏎
    "   null;" ⏎
    "end M;" ⏎
    []) ∷ []) (good 4 0 0) ∷
    -- attribute with an index is not static
    case_of (codes "m") (("procedure M is" ⏎
    "   type A is array (1 .. 2) of Integer;" ⏎
    "   type B is array (1 .. 2) of A;" ⏎
    "   X : B;" ⏎
    "   type T is range 1 .. X (1)'Length;" ⏎
    "begin" ⏎
    "   null;" ⏎
    "end M;" ⏎
    []) ∷ []) (types 0 5 25) ∷
    -- attribute of an element when executed
    case_of (codes "m") (("procedure M is" ⏎
    "   type A is array (1 .. 2) of Integer;" ⏎
    "   type B is array (1 .. 2) of A;" ⏎
    "   X : B;" ⏎
    "   Y : Integer := X (1)'Length;" ⏎
    "begin" ⏎
    "   null;" ⏎
    "end M;" ⏎
    []) ∷ []) (good 2 0 0) ∷
    -- test_io as a unit
    case_of (codes "m") (("procedure Test_IO is" ⏎
    "begin" ⏎
    "   null;" ⏎
    "end Test_IO;" ⏎
    "procedure M is" ⏎
    "begin" ⏎
    "   null;" ⏎
    "end M;" ⏎
    []) ∷ []) (names 0 1 1) ∷
    -- with cycle over three
    case_of (codes "m") (("with C;" ⏎
    "procedure A is" ⏎
    "begin" ⏎
    "   null;" ⏎
    "end A;" ⏎
    "with A;" ⏎
    "procedure B is" ⏎
    "begin" ⏎
    "   null;" ⏎
    "end B;" ⏎
    "with B;" ⏎
    "procedure C is" ⏎
    "begin" ⏎
    "   null;" ⏎
    "end C;" ⏎
    "procedure M is" ⏎
    "begin" ⏎
    "   null;" ⏎
    "end M;" ⏎
    []) ∷ []) (names 0 1 6) ∷
    -- a unit that leads to a cycle is fine itself
    case_of (codes "m") (("with A;" ⏎
    "procedure M is" ⏎
    "begin" ⏎
    "   A;" ⏎
    "end M;" ⏎
    "with B;" ⏎
    "procedure A is" ⏎
    "begin" ⏎
    "   B;" ⏎
    "end A;" ⏎
    "with A;" ⏎
    "procedure B is" ⏎
    "begin" ⏎
    "   A;" ⏎
    "end B;" ⏎
    []) ∷ []) (names 0 6 6) ∷
    -- nested decisions number outer first
    case_of (codes "m") (("function F (B : Boolean) return Boolean is" ⏎
    "begin" ⏎
    "   return B;" ⏎
    "end F;" ⏎
    "with F;" ⏎
    "procedure M is" ⏎
    "   A : Boolean := F (A and then F (A or else A));" ⏎
    "begin" ⏎
    "   null;" ⏎
    "end M;" ⏎
    []) ∷ []) (names 0 7 22) ∷
    -- nested decisions
    case_of (codes "m") (("function F (B : Boolean) return Boolean is" ⏎
    "begin" ⏎
    "   return B;" ⏎
    "end F;" ⏎
    "with F;" ⏎
    "procedure M is" ⏎
    "   A : Boolean;" ⏎
    "begin" ⏎
    "   A := F (A and then F (A or else A)) or else A;" ⏎
    "end M;" ⏎
    []) ∷ []) (good 2 3 6) ∷
    -- exception in a function of a package
    case_of (codes "m") (("package K is" ⏎
    "   function F return Integer;" ⏎
    "end K;" ⏎
    "package body K is" ⏎
    "   function F return Integer is" ⏎
    "      E : exception;" ⏎
    "   begin" ⏎
    "      raise E;" ⏎
    "   exception" ⏎
    "      when E => return 1;" ⏎
    "   end F;" ⏎
    "end K;" ⏎
    "procedure M is" ⏎
    "begin" ⏎
    "   null;" ⏎
    "end M;" ⏎
    []) ∷ []) (good 3 0 0) ∷
    -- parameter names another before it
    case_of (codes "m") (("procedure Q (A : Integer; B : A) is" ⏎
    "begin" ⏎
    "   null;" ⏎
    "end Q;" ⏎
    "procedure M is" ⏎
    "begin" ⏎
    "   null;" ⏎
    "end M;" ⏎
    []) ∷ []) (types 0 1 31) ∷
    -- choices of a null loop
    case_of (codes "m") (("procedure M is" ⏎
    "begin" ⏎
    "   for I in 2 .. 1 loop" ⏎
    "      case I is" ⏎
    "         when others => null;" ⏎
    "      end case;" ⏎
    "   end loop;" ⏎
    "end M;" ⏎
    []) ∷ []) (good 3 0 0) ∷
    -- range bound of another integer type
    case_of (codes "m") (("procedure M is" ⏎
    "   type T is range 1 .. 10;" ⏎
    "   X : T range 1 .. Integer'Last;" ⏎
    "begin" ⏎
    "   null;" ⏎
    "end M;" ⏎
    []) ∷ []) (types 0 3 21) ∷
    -- enumeration index bounds
    case_of (codes "m") (("procedure M is" ⏎
    "   type E is (A, B, C);" ⏎
    "   type T is array (A .. B) of E;" ⏎
    "   X : T := (others => C);" ⏎
    "begin" ⏎
    "   X (B) := X (A);" ⏎
    "end M;" ⏎
    []) ∷ []) (good 2 0 0) ∷
    -- instance actual from an instance
    case_of (codes "m") (("generic" ⏎
    "   N : Integer;" ⏎
    "package G is" ⏎
    "   C : constant Integer := N + 1;" ⏎
    "end G;" ⏎
    "with G;" ⏎
    "package J is new G (3);" ⏎
    "with G, J;" ⏎
    "package L is new G (J.C);" ⏎
    "with L;" ⏎
    "procedure M is" ⏎
    "   type T is range L.C .. 5;" ⏎
    "begin" ⏎
    "   null;" ⏎
    "end M;" ⏎
    []) ∷ []) (good 1 0 0) ∷
    []

abbrev pub Apart : Type 0
Apart = Hold apart
