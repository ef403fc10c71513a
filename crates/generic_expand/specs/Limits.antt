-- What the limits on instances and nodes come to, and what copies weigh.
use Rattle.std.specs.Prelude.{◌≡◌, ℕ, ◌+◌, ◌*◌, ◌≤◌, ◌<◌, List, ◌∷◌, ◌++◌, length, map, sum_by, Option, option_map, slice_get, unwrap_or}
use Rattle.cov_base.specs.declared.position.Pos.{Pos}
use Rattle.ada_meaning.specs.Bodies.{instances_of}
use Rattle.ada_tree.specs.Programs.{instance_of, program_of}
use Rattle.ada_tree.specs.Weights.{type_nodes}
use Rattle.ada_tree.specs.declared.program.Program.{Program}
use Rattle.ada_tree.specs.declared.program.Subprogram.{Subprogram}
use Rattle.ada_tree.specs.declared.program.UnitEntry.{UnitEntry}
use Rattle.generic_expand.specs.declared.copies.BodyCopy.{BodyCopy}
use Rattle.generic_expand.specs.Expanded.{copies_of, expanded_nodes, instances_in}

-- how many instances units are, and how many nodes the expanded program has
abbrev pub instance_count : List UnitEntry → ℕ
instance_count us = sum_by (λ u. instances_in u.role) us

abbrev pub node_count : List UnitEntry → ℕ
node_count us = sum_by (λ u. expanded_nodes us u.role u.nodes) us

-- the place of the unit with which a count over units first passes a limit
pub record PassesFirst (count : UnitEntry → ℕ) (limit : ℕ) (units : List UnitEntry) (place : Pos) : Type 0 where
  pub before : List UnitEntry
  pub unit : UnitEntry
  pub behind : List UnitEntry
  pub all : units ≡ before ++ unit ∷ behind
  pub within : sum_by count before ≤ limit
  pub past : limit < sum_by count before + count unit
  pub stands : place ≡ unit.pos

-- how often a declaration counts: once for each instance of its generic
abbrev pub declared_copies : Program → Option ℕ → ℕ
declared_copies p g = length (instances_of g (map instance_of p.instances))

-- the weight of the declarations of types, copies counted
abbrev pub types_weight : Program → ℕ
types_weight p = sum_by (λ t. type_nodes t * declared_copies p t.generic) p.types

-- how many exceptions a program has beside the predefined ones
abbrev pub exception_count : Program → ℕ
exception_count p = sum_by (λ d. declared_copies p d.generic) p.declared

module _ (weight : Subprogram → ℕ) (p : Program) where
  abbrev pub weight_of : BodyCopy → ℕ
  weight_of c = unwrap_or (option_map weight (slice_get p.subprograms c.subprogram)) 0

  -- the weight of the copies of bodies
  abbrev pub copies_weight : ℕ
  copies_weight = sum_by weight_of (copies_of (program_of p))
