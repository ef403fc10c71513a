-- What the text of a program weighs, by the generic in which it stands: library units by their entries, what code is made of by a weight of
-- its own. Text of a generic counts once for each of its instances (RM 12.3).
use Rattle.std.specs.Prelude.{◌≡◌, ℕ, ◌+◌, ◌≤◌, nat_eq, Bool, true, false, List, length, sum_by, Option, Some, None, if◌then◌else◌}
use Rattle.ada_tree.specs.declared.program.ExceptionDeclaration.{ExceptionDeclaration}
use Rattle.ada_tree.specs.declared.program.Instance.{Instance}
use Rattle.ada_tree.specs.declared.program.Program.{Program}
use Rattle.ada_tree.specs.declared.program.Subprogram.{Subprogram}
use Rattle.ada_tree.specs.declared.program.UnitEntry.{UnitEntry}
use Rattle.ada_tree.specs.declared.program.UnitRole.{UnitRole}
use Rattle.ada_tree.specs.declared.program.UnitRole.TheVariants.{Once, OfGeneric, InstanceOf}
use Rattle.ada_tree.specs.declared.types.CompositeType.{CompositeType}
use Rattle.ada_tree.specs.declared.types.CompositeType.TheVariants.{Array, Record}
use Rattle.ada_tree.specs.declared.types.TypeDeclaration.{TypeDeclaration}

-- how many tokens of the declaration of a composite type count as nodes, at the least: TYPE, a name, IS, ARRAY, an index, OF and a component;
-- or TYPE, a name, IS, RECORD, END, RECORD and a name for each component
abbrev pub definition_nodes : CompositeType → ℕ
definition_nodes (Array r t) = 7
definition_nodes (Record ts) = 6 + length ts

abbrev pub type_nodes : TypeDeclaration → ℕ
type_nodes t = definition_nodes t.definition

-- whether text stands in this generic, or, for none, in no generic
abbrev pub stands_in : Option ℕ → Option ℕ → Bool
stands_in None None = true
stands_in None (Some h) = false
stands_in (Some g) None = false
stands_in (Some g) (Some h) = nat_eq g h

-- the nodes of a unit that count for this generic, or, for none, that count once
abbrev pub unit_nodes_in : Option ℕ → UnitRole → ℕ → ℕ
unit_nodes_in None Once nodes = nodes
unit_nodes_in None (OfGeneric h) nodes = 0
unit_nodes_in None (InstanceOf h) nodes = nodes
unit_nodes_in (Some g) Once nodes = 0
unit_nodes_in (Some g) (OfGeneric h) nodes = if nat_eq h g then nodes else 0
unit_nodes_in (Some g) (InstanceOf h) nodes = 0

abbrev pub text_nodes : Option ℕ → List UnitEntry → ℕ
text_nodes g us = sum_by (λ u. unit_nodes_in g u.role u.nodes) us

-- a count over the instances that units are, by their generics
abbrev pub in_instance : (ℕ → ℕ) → UnitRole → ℕ
in_instance count Once = 0
in_instance count (OfGeneric g) = 0
in_instance count (InstanceOf g) = count g

abbrev pub in_instances : (ℕ → ℕ) → List UnitEntry → ℕ
in_instances count us = sum_by (λ u. in_instance count u.role) us

-- how many exceptions are declared in a generic, or in none: the name of each is a token that counts
abbrev pub exceptions_in : Option ℕ → List ExceptionDeclaration → ℕ
exceptions_in g ds = sum_by (λ d. if stands_in g d.generic then 1 else 0) ds

module _ (weight : Subprogram → ℕ) where
  -- the weight of the bodies and of the types that stand in a generic, or in none
  abbrev pub bodies_weight : Option ℕ → List Subprogram → ℕ
  bodies_weight g ss = sum_by (λ s. if stands_in g s.generic then weight s else 0) ss

  abbrev pub types_weight : Option ℕ → List TypeDeclaration → ℕ
  types_weight g ts = sum_by (λ t. if stands_in g t.generic then type_nodes t else 0) ts

  -- Bodies by this weight, the declarations of types and those of exceptions weigh no more than the nodes of the units in which they stand; and
  -- the instances of a program are those that its units are.
  pub record IsWeighed (p : Program) : Type 0 where
    pub text : (g : Option ℕ) → bodies_weight g p.subprograms + types_weight g p.types + exceptions_in g p.declared ≤ text_nodes g p.units
    pub instances : (count : ℕ → ℕ) → sum_by (λ (i : Instance). count i.generic) p.instances ≡ in_instances count p.units
