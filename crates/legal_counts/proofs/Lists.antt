-- What holds everywhere in two lists behind each other holds everywhere in each.
use Rattle.std.proofs.Common.{List, [], ◌∷◌, ◌++◌}
use Rattle.cov_base.specs.Lists.{Everywhere}

pub every_parts : {X : Type 0} (P : X → Type 0) (xs ys : List X) → Everywhere P (xs ++ ys) → Everywhere P xs × Everywhere P ys
every_parts P [] ys h = (tt, h)
every_parts P (x ∷ xs) ys h = let rest = every_parts P xs ys h.1 in ((h.0, rest.0), rest.1)
