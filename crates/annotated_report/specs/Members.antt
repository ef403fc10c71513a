-- Lists with the same members.
use Rattle.std.specs.Prelude.{◌≡◌, List}
use Rattle.cov_base.specs.Lists.{Somewhere}

-- x is in the list
abbrev pub Has : {X : Type 0} → List X → X → Type 0
Has xs x = Somewhere (λ y. y ≡ x) xs

-- all that is in the one list is in the other
abbrev pub AreWithin : {X : Type 0} → List X → List X → Type 0
AreWithin {X} xs ys = (x : X) → Has xs x → Has ys x

-- the lists have the same members, in whatever order and however often
abbrev pub AreAlike : {X : Type 0} → List X → List X → Type 0
AreAlike xs ys = AreWithin xs ys × AreWithin ys xs
