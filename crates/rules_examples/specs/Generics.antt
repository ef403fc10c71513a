-- Generics and instances.
use Rattle.std.specs.Prelude.{List, [], ◌∷◌}
use Rattle.rules_examples.specs.Cases.{◌⏎◌, Case, Hold, names, types, good}
use Rattle.rules_examples.specs.Bases.{of_bounds, of_copies, of_sorter}

-- changes of `bounds`
abbrev pub changes_of_bounds : List Case
changes_of_bounds =
    -- generic not in with
    of_bounds 0 32 32 ("with Own;" ⏎ []) (names 0 33 21) ∷
    -- entity unknown in the instance
    of_bounds 0 38 38 ("   Inst.Clear (T);" ⏎ []) (names 0 38 4) ∷
    -- formal twice
    of_bounds 0 3 3 ("   type Kind is range <>;" ⏎ []) (names 0 3 9) ∷
    -- actual missing
    of_bounds 0 33 33 ("package Inst is new Bounds (Own.Colour, Own.Small, Own.Six);" ⏎ []) (types 0 33 1) ∷
    -- variable for a static value
    of_bounds 0 33 33 ("package Inst is new Bounds (Own.Colour, Own.Small, Own.Var, Own.Even);" ⏎ []) (types 0 33 52) ∷
    -- value for a subprogram
    of_bounds 0 33 33 ("package Inst is new Bounds (Own.Colour, Own.Small, Own.Six, Own.Six);" ⏎ []) (types 0 33 61) ∷
    -- new of no generic
    of_bounds 0 33 33 ("package Inst is new Own (Own.Colour, Own.Small, Own.Six, Own.Even);" ⏎ []) (types 0 33 21) ∷
    -- formal types are types of their own
    of_bounds 0 16 16 ("            T (Top) := Top;" ⏎ []) (types 0 16 13) ∷
    -- an object of an instance
    of_bounds 0 34 34 ("with Inst, Own;" ⏎ []) (good 5 1 2) ∷
    -- the type of an instance is the actual
    of_bounds 0 38 38 ("   Inst.Last := Inst.Last + 1; Inst.Fill (T);" ⏎ []) (good 6 1 2) ∷
    -- predefined actuals
    of_bounds 0 33 33 ("package Inst is new Bounds (Boolean, Own.Small, Own.Six, Own.Even);" ⏎ []) (good 5 1 2) ∷
    -- a static expression as an actual
    of_bounds 0 33 33 ("package Inst is new Bounds (Own.Colour, Own.Small, Own.Six + 3, Own.Even);" ⏎ []) (good 5 1 2) ∷
    []

-- changes of `copies`
abbrev pub changes_of_copies : List Case
changes_of_copies =
    -- exception of an instance unknown
    of_copies 0 35 35 ("   when C5.Under =>" ⏎ []) (names 0 35 9) ∷
    -- formal through an instance
    of_copies 0 33 33 ("   X := C4.Limit;" ⏎ []) (names 0 33 9) ∷
    -- a formal as an out actual
    of_copies 0 14 14 ("         Test_IO.Get (Limit);" ⏎ []) (names 0 14 10) ∷
    -- initial value outside its subtype in one instance
    of_copies 0 26 26 ("package C5 is new Clip (1);" ⏎ []) (types 0 5 24) ∷
    -- actual beyond the base range
    of_copies 0 26 26 ("package C5 is new Clip (Integer'Last + 1);" ⏎ []) (types 0 26 25) ∷
    -- types of two instances mixed
    of_copies 0 33 33 ("   X := C5.Value;" ⏎ []) (types 0 33 4) ∷
    -- instance as a value
    of_copies 0 32 32 ("   C5.Set (C4);" ⏎ []) (types 0 32 12) ∷
    -- type rule of the generic, once
    of_copies 0 16 16 ("      Value := N;" ⏎ []) (types 0 16 7) ∷
    -- two choices of a copy that is not there
    of_copies 0 26 26 ("package C5 is new Clip (2 * 2);" ⏎ []) (good 11 1 1) ∷
    -- least actual
    of_copies 0 26 26 ("package C5 is new Clip (3);" ⏎ []) (good 11 1 1) ∷
    -- a copy may be named by a with in a body alone
    of_copies 0 25 25 ("with Clip, C4;" ⏎ []) (good 11 1 1) ∷
    []

-- changes of `sorter`
abbrev pub changes_of_sorter : List Case
changes_of_sorter =
    -- unknown actual
    of_sorter 0 21 21 ("package Ints is new Echo (Integer, Test_IO.Show, Test_IO.Get);" ⏎ []) (names 0 21 36) ∷
    -- unknown attribute of a formal type
    of_sorter 0 14 14 ("      if V /= T'Pos then" ⏎ []) (names 0 14 15) ∷
    -- modes of an actual differ
    of_sorter 0 21 21 ("package Ints is new Echo (Integer, Test_IO.Get, Test_IO.Put);" ⏎ []) (types 0 21 36) ∷
    -- type of an actual's parameter differs
    of_sorter 0 21 21 ("package Ints is new Echo (Boolean, Test_IO.Put, Test_IO.Get);" ⏎ []) (types 0 21 36) ∷
    -- constant given to an out formal
    of_sorter 0 11 11 ("      V : constant T := T'First;" ⏎ []) (types 0 13 7) ∷
    -- formal procedure as a value
    of_sorter 0 14 14 ("      if V /= Show then" ⏎ []) (types 0 14 15) ∷
    -- sign of a discrete formal type
    of_sorter 0 15 15 ("         Show (-V);" ⏎ []) (types 0 15 16) ∷
    -- Length of a formal type
    of_sorter 0 17 17 ("      Count := Count + T'Length;" ⏎ []) (types 0 17 24) ∷
    -- a subtype as an actual
    of_sorter 0 21 21 ("package Ints is new Echo (Positive, Test_IO.Put, Test_IO.Get);" ⏎ []) (good 7 2 3) ∷
    []

abbrev pub Generics : Type 0
Generics = Hold changes_of_bounds × Hold changes_of_copies × Hold changes_of_sorter
