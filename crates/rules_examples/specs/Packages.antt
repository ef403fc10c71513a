-- Packages, subprograms, units and what they name in `with`.
use Rattle.std.specs.Prelude.{List, [], ◌∷◌}
use Rattle.rules_examples.specs.Cases.{◌⏎◌, Case, Hold, names, types, good}
use Rattle.rules_examples.specs.Bases.{of_stack, of_funcs, of_modes, of_consts}

-- changes of `stack`
abbrev pub changes_of_stack : List Case
changes_of_stack =
    -- unit not named in with
    of_stack 0 31 31 ([]) (names 0 33 21) ∷
    -- body without the declared function
    of_stack 0 26 30 ("   end Stack;" ⏎ []) (names 0 6 4) ∷
    -- one parameter less
    of_stack 0 14 14 ("   procedure Push (X : Item) is" ⏎ []) (names 0 14 4) ∷
    -- end name of a body
    of_stack 0 30 30 ("end Main;" ⏎ []) (names 0 30 5) ∷
    -- out actual is an expression
    of_stack 0 36 36 ("   Stack.Push (V, not B);" ⏎ []) (types 0 36 4) ∷
    -- actual of another type
    of_stack 0 36 36 ("   Stack.Push (B, B);" ⏎ []) (types 0 36 4) ∷
    -- package as a type
    of_stack 0 34 34 ("   B : Boolean; V : Stack := 4;" ⏎ []) (types 0 34 21) ∷
    -- composite result
    of_stack 0 10 10 ("   function All_Of return Store is begin return S; end All_Of; function Full return Boolean is" ⏎ []) (types 0 10 4) ∷
    -- in written in the body alone
    of_stack 0 14 14 ("   procedure Push (X : in Item; Done : out Boolean) is" ⏎ []) (good 12 2 3) ∷
    -- full name of a subtype in the body
    of_stack 0 22 22 ("   procedure Pop (X : in out Stack.Item) is" ⏎ []) (good 12 2 3) ∷
    -- a unit may be named twice
    of_stack 0 31 31 ("with Stack, Test_IO, Stack;" ⏎ []) (good 12 2 3) ∷
    -- actuals that overlap are accepted
    of_stack 0 37 37 ("   Stack.Pop (V); Stack.Push (V, B);" ⏎ []) (good 13 2 3) ∷
    []

-- changes of `funcs`
abbrev pub changes_of_funcs : List Case
changes_of_funcs =
    -- function not in with
    of_funcs 2 1 1 ("with Test_IO;" ⏎ []) (names 2 7 9) ∷
    -- unit of the same name twice
    of_funcs 1 1 1 ("procedure Gcd (X : Integer; Sum : in out Integer; Last : out Integer) is" ⏎ []) (names 1 1 1) ∷
    -- end name in a second file
    of_funcs 1 5 5 ("end Main;" ⏎ []) (names 1 5 5) ∷
    -- main unit of that name with parameters
    of_funcs 2 3 3 ("procedure Main (A : Integer) is" ⏎ []) (names 0 1 1) ∷
    -- two kinds of errors: naming first
    of_funcs 1 3 3 ("   Last := True + Nope;" ⏎ []) (names 1 3 19) ∷
    -- call of a function with a Boolean
    of_funcs 2 7 7 ("   Add (Gcd (12, True), N, L);" ⏎ []) (types 2 7 9) ∷
    -- value of a case not named: call
    of_funcs 2 9 9 ("      " ⏎ []) (types 2 8 4) ∷
    -- return without value
    of_funcs 0 5 5 ("      return;" ⏎ []) (types 0 5 7) ∷
    -- main unit in another case
    of_funcs 2 3 3 ("procedure MAIN is" ⏎ []) (good 11 1 1) ∷
    -- a call as an actual of a call
    of_funcs 2 7 7 ("   Add (Gcd (Gcd (12, 18), 5), N, L);" ⏎ []) (good 11 1 1) ∷
    -- value evaluated when executed outside its subtype
    of_funcs 2 7 7 ("   Add (Gcd (-12, 18), N, L);" ⏎ []) (good 11 1 1) ∷
    []

-- changes of `modes`
abbrev pub changes_of_modes : List Case
changes_of_modes =
    -- literal of a package alone
    of_modes 0 31 31 ("   L.To (Y) := 9;" ⏎ []) (names 0 31 10) ∷
    -- type of a package without prefix
    of_modes 0 28 28 ("   L : Line;" ⏎ []) (names 0 28 8) ∷
    -- result of another type than declared
    of_modes 0 9 9 ("   function Long (L : Line) return Point;" ⏎ []) (names 0 21 4) ∷
    -- component unknown, through a package type
    of_modes 0 34 34 ("      L.Dotted := False;" ⏎ []) (types 0 34 7) ∷
    -- record where an element is meant
    of_modes 0 32 32 ("   Shape.Move (L.From, 3);" ⏎ []) (types 0 32 4) ∷
    -- record as an in out actual that is a component of Boolean
    of_modes 0 33 33 ("   if Shape.Long (L.Solid) or else L.Solid then" ⏎ []) (types 0 33 7) ∷
    -- in parameter as a for bound of another type
    of_modes 0 16 16 ("      for A in X .. By loop" ⏎ []) (types 0 16 16) ∷
    -- decision in an actual of another type
    of_modes 0 32 32 ("   Shape.Move (L, L.Solid and then L.Solid);" ⏎ []) (types 0 32 4) ∷
    []

-- changes of `consts`
abbrev pub changes_of_consts : List Case
changes_of_consts =
    -- a body where none is due
    of_consts 0 7 6 ("package body K is" ⏎ "end K;" ⏎ []) (names 0 7 1) ∷
    -- a body of no package
    of_consts 0 7 6 ("package body L is" ⏎ "   procedure Q is" ⏎ "   begin" ⏎ "      null;" ⏎ "   end Q;" ⏎ "end L;" ⏎ []) (names 0 7 1) ∷
    -- a package of the predefined unit's name
    of_consts 0 1 1 ("package Test_IO is" ⏎ []) (names 0 1 1) ∷
    -- a package seen through another unit's with
    of_consts 1 1 1 ("" ⏎ []) (names 1 4 8) ∷
    -- initial value from a variable of the package
    of_consts 0 5 5 ("   F : Boolean; W : T := V;" ⏎ []) (types 0 5 26) ∷
    -- initial value of not
    of_consts 0 5 5 ("   F : Boolean := not False;" ⏎ []) (types 0 5 19) ∷
    -- constant beyond the base range
    of_consts 0 2 2 ("   C : constant Integer := 2 * 1073741824;" ⏎ []) (types 0 2 28) ∷
    -- Integer put as it is
    of_consts 1 8 8 ("   Test_IO.Put (K.V);" ⏎ []) (types 1 8 4) ∷
    -- a package without subprograms has no body
    of_consts 0 5 5 ("   F, G : Boolean;" ⏎ []) (good 4 1 2) ∷
    -- a unit of a predefined type's name
    of_consts 1 10 9 ("package Integer is" ⏎ "end Integer;" ⏎ []) (good 4 1 2) ∷
    -- a constant of another unit is static
    of_consts 1 4 4 ("   X : K.T := K.V; type U is range 1 .. K.C;" ⏎ []) (good 4 1 2) ∷
    []

abbrev pub Packages : Type 0
Packages = Hold changes_of_stack × Hold changes_of_funcs × Hold changes_of_modes × Hold changes_of_consts
