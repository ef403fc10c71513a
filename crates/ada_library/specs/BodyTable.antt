-- A table of the numbers of bodies, and how many were counted.
use Rattle.std.specs.Prelude.{ℕ, List}
use Rattle.ada_rules.specs.Environment.{BodyName}

pub record BodyTable : Type 0 where
  pub numbers : List (BodyName × ℕ)
  pub count : ℕ
