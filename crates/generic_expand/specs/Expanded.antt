-- The copies of a program, and when it is too large (Ada RM 2012, 12.3).
use Rattle.std.specs.Prelude.{◌≡◌, ℕ, ◌+◌, nat_eq, nat_lt, if◌then◌else◌, List, [], ◌∷◌, map, Option, Some, None}
use Rattle.cov_base.specs.declared.position.Pos.{Pos}
use Rattle.cov_base.specs.declared.failure.Failure.{Failure}
use Rattle.cov_base.specs.declared.failure.Failure.TheVariants.{Fault, WantOfMemory}
use Rattle.ada_tree.specs.declared.program.UnitEntry.{UnitEntry}
use Rattle.ada_tree.specs.declared.program.UnitRole.{UnitRole}
use Rattle.ada_tree.specs.declared.program.UnitRole.TheVariants.{Once, OfGeneric, InstanceOf}
use Rattle.ada_meaning.specs.Bodies.{Body, bodies_of}
use Rattle.ada_meaning.specs.Program.{Program}
use Rattle.generic_expand.specs.declared.copies.BodyCopy.{BodyCopy}
use Rattle.generic_expand.specs.declared.fault.ExpandFault.{ExpandFault}
use Rattle.generic_expand.specs.declared.fault.ExpandFault.TheVariants.{TooBig, TooMany}

-- a body of a program, as a copy
abbrev pub copy_of : Body → BodyCopy
copy_of b = record { instance = record { 0 = b.instance }; subprogram = b.subprogram }

-- the copies of a program are its bodies
abbrev pub copies_of : Program → List BodyCopy
copies_of p = map copy_of (bodies_of p)

-- how many instances a program may have, and how many nodes an expanded one
abbrev pub instance_limit : ℕ
instance_limit = 64

abbrev pub node_limit : ℕ
node_limit = 4096

-- how many instances a unit is
abbrev pub instances_in : UnitRole → ℕ
instances_in Once = 0
instances_in (OfGeneric g) = 0
instances_in (InstanceOf g) = 1

-- after so many instances, the place of the unit with which the instances of all first pass the limit
abbrev pub past_instances : ℕ → List UnitEntry → Option Pos
past_instances count [] = None
past_instances count (u ∷ us) =
    if nat_lt instance_limit (count + instances_in u.role) then Some u.pos else past_instances (count + instances_in u.role) us

-- the nodes of a unit, where it is part of this generic
abbrev pub nodes_in : ℕ → UnitRole → ℕ → ℕ
nodes_in g (OfGeneric h) nodes = if nat_eq h g then nodes else 0
nodes_in g role nodes = 0

-- those of a generic: of its specification and its body
abbrev pub generic_nodes : ℕ → List UnitEntry → ℕ
generic_nodes g [] = 0
generic_nodes g (u ∷ us) = nodes_in g u.role u.nodes + generic_nodes g us

-- what a unit adds to the expanded program: a generic counts at its instances
abbrev pub expanded_nodes : List UnitEntry → UnitRole → ℕ → ℕ
expanded_nodes all Once nodes = nodes
expanded_nodes all (OfGeneric g) nodes = 0
expanded_nodes all (InstanceOf g) nodes = nodes + generic_nodes g all

-- after units with so many nodes, the place of the unit with which the nodes of all first pass the limit
abbrev pub past_nodes : List UnitEntry → ℕ → List UnitEntry → Option Pos
past_nodes all nodes [] = None
past_nodes all nodes (u ∷ us) =
    if nat_lt node_limit (nodes + expanded_nodes all u.role u.nodes) then Some u.pos else past_nodes all (nodes + expanded_nodes all u.role u.nodes) us

abbrev pub first_past : ℕ → List UnitEntry → Option Pos
first_past nodes units = past_nodes units nodes units

-- the refusal of a program with these units: at the one that takes it past the limit on instances; else on nodes; or there is no memory
pub data Refuses (units : List UnitEntry) : Failure ExpandFault → Type 0 where
  has_too_many : {p : Pos} → past_instances 0 units ≡ Some p → Refuses units (Fault (TooMany p))
  passes_the_limit : {p : Pos} → past_instances 0 units ≡ None → first_past 0 units ≡ Some p → Refuses units (Fault (TooBig p))
  memory_is_out : Refuses units WantOfMemory
