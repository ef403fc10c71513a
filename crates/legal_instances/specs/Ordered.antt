-- The order in which units depend on each other, where it is whole: each unit but bodies of packages stands in it once,
-- behind those that it names (Ada RM 2012, 10.1.4, 10.2).
use Rattle.std.specs.Prelude.{◌≡◌, ℕ, true, List, [], ◌∷◌, ◌++◌}
use Rattle.std.specs.List.{sum_by}
use Rattle.ada_rules.specs.Library.{Library, is_ready, units_but_bodies}

-- each number comes as often in one list as in the other
abbrev pub HaveSameItems : List ℕ → List ℕ → Type 0
HaveSameItems xs ys = (weight : ℕ → ℕ) → sum_by weight xs ≡ sum_by weight ys

-- each of these units names only units that come before it
abbrev pub ComeInTurn : List (List ℕ) → (before : List ℕ) → List ℕ → Type 0
ComeInTurn graph before [] = Unit {0}
ComeInTurn graph before (n ∷ ns) = (is_ready graph before n ≡ true) × ComeInTurn graph (before ++ n ∷ []) ns

pub record IsWholeOrder (l : Library) : Type 0 where
  pub units : HaveSameItems (units_but_bodies 0 l.units) l.order
  pub turns : ComeInTurn l.graph [] l.order
