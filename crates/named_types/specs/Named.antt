-- Whether a typed program names its composite types where they stand.
use Rattle.std.specs.Prelude.{ℕ, zero, suc, nat_eq, nat_lt, ◌+◌, Bool, true, false, ◌&&◌, List, [], ◌∷◌, length, map, Option, Some, None, slice_get}
use Rattle.std.specs.List.{list_all}
use Rattle.ada_meaning.specs.Bodies.{instances_of}
use Rattle.ada_meaning.specs.Resolved.{owner_in}
use Rattle.ada_tree.specs.Programs.{instance_of}
use Rattle.ada_tree.specs.View.{owner_of}
use Rattle.ada_tree.specs.declared.program.Instance.{Instance}
use Rattle.ada_tree.specs.declared.program.Program.{Program}
use Rattle.ada_tree.specs.declared.program.Subprogram.{Subprogram}
use Rattle.ada_tree.specs.declared.types.Subtype.{Subtype}
use Rattle.ada_tree.specs.declared.types.Subtype.TheVariants as subtype
use Rattle.ada_tree.specs.declared.types.TypeDeclaration.{TypeDeclaration}
use Rattle.lower.specs.Standing.{components_of}
use Rattle.named_types.specs.Same.{begin_with}

-- an instance that is one of this generic
abbrev pub is_one_of : ℕ → Option Instance → Bool
is_one_of g None = false
is_one_of g (Some i) = nat_eq i.generic g

module _ (p : Program) where
  -- what stands in this generic's text, or in none, stands in the instance with this number
  abbrev pub stands_in : Option ℕ → ℕ → Bool
  stands_in None inst = nat_eq inst 0
  stands_in (Some g) zero = false
  stands_in (Some g) (suc i) = is_one_of g (slice_get p.instances i)

  -- so does the text in which a type is declared
  abbrev pub type_stands_in : Option TypeDeclaration → ℕ → Bool
  type_stands_in None inst = false
  type_stands_in (Some t) inst = stands_in t.generic inst

  -- a type that a text names in an instance: a scalar one, or one below a number, in its owner's instance
  abbrev pub is_named : (inst below : ℕ) → Subtype → Bool
  is_named inst below (subtype.Scalar r) = true
  is_named inst below (subtype.Composite o n) =
      nat_lt n below && type_stands_in (slice_get p.types n) (owner_in inst (owner_of o))

  abbrev pub are_named : (inst below : ℕ) → List Subtype → Bool
  are_named inst below ts = list_all (λ t. is_named inst below t) ts

  -- types that are named in each of these instances
  abbrev pub are_named_in : List ℕ → (below : ℕ) → List Subtype → Bool
  are_named_in is below ts = list_all (λ i. are_named i below ts) is

  -- types that a text of this generic, or of none, names
  abbrev pub are_named_by : Option ℕ → (below : ℕ) → List Subtype → Bool
  are_named_by g below ts = are_named_in (instances_of g (map instance_of p.instances)) below ts

  -- types that are built of those before them; the first has the number n
  abbrev pub are_built : ℕ → List TypeDeclaration → Bool
  are_built n [] = true
  are_built n (t ∷ ts) = are_named_by t.generic n (components_of t.definition) && are_built (n + 1) ts

  -- the objects of subprograms
  abbrev pub has_named_objects : Subprogram → Bool
  has_named_objects s = are_named_by s.generic (length p.types) s.objects && begin_with s.parameters s.objects

  abbrev pub are_types_named : Bool
  are_types_named = are_built 0 p.types && list_all has_named_objects p.subprograms
