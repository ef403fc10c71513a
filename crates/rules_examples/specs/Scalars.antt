-- Scalar types and subtypes, static values, case statements and loop parameters.
use Rattle.std.specs.Prelude.{List, [], ◌∷◌}
use Rattle.rules_examples.specs.Cases.{◌⏎◌, Case, Hold, names, types, good}
use Rattle.rules_examples.specs.Bases.{of_days, of_nums, of_reach}

-- changes of `days`
abbrev pub changes_of_days : List Case
changes_of_days =
    -- bound is not static
    of_days 0 4 4 ("   subtype Work is Day range Mon .. D;" ⏎ []) (names 0 4 37) ∷
    -- type unknown
    of_days 0 6 6 ("   W : Works;" ⏎ []) (names 0 6 8) ∷
    -- value named twice
    of_days 0 14 14 ("         when Tue .. Wed => N := N + 2;" ⏎ []) (types 0 12 7) ∷
    -- choice is a variable
    of_days 0 14 14 ("         when D => N := N + 2;" ⏎ []) (types 0 14 15) ∷
    -- others twice
    of_days 0 17 17 ("         when others => null;" ⏎ []) (types 0 16 7) ∷
    -- loop parameter assigned
    of_days 0 10 10 ("      I := W;" ⏎ []) (types 0 10 7) ∷
    -- conversion from Integer
    of_days 0 11 11 ("      D := Day (N);" ⏎ []) (types 0 11 12) ∷
    -- bound of another type
    of_days 0 4 4 ("   subtype Work is Day range Mon .. 3;" ⏎ []) (types 0 4 37) ∷
    -- others may stand for no value
    of_days 0 14 14 ("         when Wed => N := N + 2; when others => null;" ⏎ []) (good 14 1 1) ∷
    -- an inner type hides a literal
    of_days 0 17 17 ("         when Mon .. Tue => declare type E is (Mon, Sun); X : E := Mon; begin null; end;" ⏎ []) (good 14 1 1) ∷
    -- selector in parentheses with all values of the type
    of_days 0 12 12 ("      case (D) is when others => null; end case; case W is" ⏎ []) (good 15 1 1) ∷
    -- choice by an attribute
    of_days 0 14 14 ("         when Work'Last => N := N + 2;" ⏎ []) (good 13 1 1) ∷
    []

-- changes of `nums`
abbrev pub changes_of_nums : List Case
changes_of_nums =
    -- bound is a variable
    of_nums 0 6 6 ("   subtype Low is Small range Small'First .. S;" ⏎ []) (names 0 6 46) ∷
    -- two integer types in a sum
    of_nums 0 12 12 ("   B := Big (S) * S;" ⏎ []) (types 0 12 9) ∷
    -- numeral of a relation of two types
    of_nums 0 26 26 ("   case S + B is" ⏎ []) (types 0 26 9) ∷
    -- division by zero
    of_nums 0 3 3 ("   type Small is range 1 .. 10 / 0;" ⏎ []) (types 0 3 29) ∷
    -- bound is a Boolean
    of_nums 0 3 3 ("   type Small is range 1 .. Boolean'Last;" ⏎ []) (types 0 3 29) ∷
    -- constant that is not static, used as a bound
    of_nums 0 5 5 ("   Three : constant Small := Small (3);" ⏎ []) (types 0 6 46) ∷
    -- loop of static bounds, value outside
    of_nums 0 23 23 ("         when 3 .. 4 => P := K;" ⏎ []) (types 0 23 20) ∷
    -- bounds of two types in a loop
    of_nums 0 20 20 ("   for K in S .. P loop" ⏎ []) (types 0 20 13) ∷
    -- First rem -1 is 0
    of_nums 0 3 3 ("   type Small is range Integer'First rem (-1) + 1 .. 10;" ⏎ []) (good 17 0 0) ∷
    -- a value evaluated when executed may be outside
    of_nums 0 8 8 ("   L : Low := 9;" ⏎ []) (good 17 0 0) ∷
    -- a range of one value
    of_nums 0 3 3 ("   type Small is range 3 .. 3;" ⏎ []) (good 17 0 0) ∷
    -- bounds of two integer types
    of_nums 0 3 3 ("   type Small is range 1 .. Positive'First + 9;" ⏎ []) (good 17 0 0) ∷
    []

-- changes of `reach`
abbrev pub changes_of_reach : List Case
changes_of_reach =
    -- a value of a loop over a type left out
    of_reach 0 12 12 ("         when Low + 1 .. 3 => L := I;" ⏎ []) (types 0 10 7) ∷
    -- a value of a loop over a type twice
    of_reach 0 12 12 ("         when 0 .. Low | Low + 1 .. 3 => L := I;" ⏎ []) (types 0 10 7) ∷
    -- a choice of a null range
    of_reach 0 17 17 ("         when 1 => N := I; when others => null;" ⏎ []) (types 0 17 15) ∷
    -- others of a null range left out
    of_reach 0 17 17 ("         when 1 .. 2 => N := I;" ⏎ []) (types 0 17 15) ∷
    -- a choice that is a loop parameter
    of_reach 0 22 22 ("         when I => null;" ⏎ []) (types 0 22 15) ∷
    -- the own type of a loop over a type
    of_reach 0 12 12 ("         when 0 | Low + 1 .. 3 => N := I;" ⏎ []) (types 0 12 35) ∷
    -- a constant in a choice of another type
    of_reach 0 22 22 ("         when Low => null;" ⏎ []) (types 0 22 15) ∷
    -- loop over an object
    of_reach 0 9 9 ("   for I in L loop" ⏎ []) (types 0 9 13) ∷
    -- a loop over a range of one value
    of_reach 0 15 15 ("   for I in 2 .. 2 loop" ⏎ []) (good 15 0 0) ∷
    -- others with every value named
    of_reach 0 22 22 ("         when Integer'First .. -1 | 0 .. Integer'Last => null;" ⏎ []) (good 15 0 0) ∷
    []

abbrev pub Scalars : Type 0
Scalars = Hold changes_of_days × Hold changes_of_nums × Hold changes_of_reach
