-- The order of places in a text: by file, line and column.
use Rattle.std.specs.Prelude.{nat_eq, nat_lt, Bool, true, ◌&&◌, ◌||◌, List, [], ◌∷◌}
use Rattle.cov_base.specs.declared.position.Pos.{Pos}

-- whether a place comes before another
abbrev pub precedes : Pos → Pos → Bool
precedes a b =
    nat_lt a.file b.file
    || nat_eq a.file b.file && (nat_lt a.line b.line || nat_eq a.line b.line && nat_lt a.col b.col)

-- whether a place comes before the first of these, if there is one
abbrev pub is_followed : Pos → List Pos → Bool
is_followed p [] = true
is_followed p (q ∷ qs) = precedes p q

-- whether each place comes before the next
abbrev pub rise : List Pos → Bool
rise [] = true
rise (p ∷ ps) = is_followed p ps && rise ps
