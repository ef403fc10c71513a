-- Statement obligations are numbered in the order in which they are met.
use Rattle.std.specs.Prelude.{◌≡◌, ◌+◌, List, map, length}
use Rattle.ada_meaning.specs.Obligations.{numbers}
use Rattle.ada_meaning.specs.Tree.{Label}
use Rattle.ada_rules.specs.Environment.{State}

-- the labels that are given between two states
pub record Labels (s : State) (ls : List Label) (t : State) : Type 0 where
  pub numbered : map (λ l. l.number) ls ≡ numbers s.statements (length ls)
  pub next : t.statements ≡ s.statements + length ls
