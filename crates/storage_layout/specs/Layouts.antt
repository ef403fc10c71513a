-- The layouts of composite types: each type has one in each instance in which it stands, behind one for each of its scalar components.
use Rattle.std.specs.Prelude.{ℕ, zero, suc, ◌+◌, nat_eq, pos, Bool, false, ◌&&◌, List, [], ◌∷◌, ◌++◌, length, map, unwrap_or, if◌then◌else◌}
use Rattle.ada_meaning.specs.Arithmetic.{count_between}
use Rattle.ada_meaning.specs.Program.{Bounds}
use Rattle.ada_meaning.specs.Resolved.{owner_in}
use Rattle.ada_meaning.specs.Statics.{static_bounds, values_of}
use Rattle.ada_meaning.specs.Types as type
use Rattle.ada_tree.specs.declared.program.Program.{Program}
use Rattle.ada_tree.specs.declared.types.CompositeType.{CompositeType}
use Rattle.ada_tree.specs.declared.types.CompositeType.TheVariants as composite
use Rattle.ada_tree.specs.declared.types.Owner.TheVariants as owner
use Rattle.ada_tree.specs.declared.types.Subtype.{Subtype}
use Rattle.ada_tree.specs.declared.types.Subtype.TheVariants as subtype
use Rattle.ada_tree.specs.declared.types.TypeDeclaration.{TypeDeclaration}
use Rattle.ada_tree.specs.Objects.{capped}
use Rattle.ada_tree.specs.Programs.{instance_of, program_of}
use Rattle.ada_tree.specs.View.{owner_of, scalar_range_of}
use Rattle.ada_resolved.specs.Forms.{named_type, shape_of}
use Rattle.ada_resolved.specs.Library.{stands_in}
use Rattle.ada_resolved.specs.Sizes.{words}
use Rattle.kernel_ir.specs.declared.kernel.Layout.{Layout}
use Rattle.kernel_ir.specs.declared.kernel.Layout.TheVariants as layout
use Rattle.kernel_ir.specs.Limits.{IsWord}
use Rattle.storage_layout.specs.declared.layouts.LaidType.{LaidType}
use Rattle.storage_layout.specs.declared.layouts.LaidType.TheVariants.{First, Composite}

-- layouts by number, each with what it lays out
pub record Layouts : Type 0 where
  pub laid : List LaidType
  pub layouts : List Layout

-- the first value of a scalar component is a number of 32 bits
abbrev pub HasWord : Layout → Type 0
HasWord (layout.Word x) = IsWord x
HasWord (layout.Array count component) = Unit {0}
HasWord (layout.Record components) = Unit {0}

abbrev pub no_layouts : Layouts
no_layouts = record { laid = []; layouts = [] }

abbrev pub with_layout : LaidType → Layout → Layouts → Layouts
with_layout t l ls = record { laid = ls.laid ++ t ∷ []; layouts = ls.layouts ++ l ∷ [] }

-- whether a layout is that of a type in an instance, and how many stand before it
abbrev pub is_layout_of : (inst number : ℕ) → LaidType → Bool
is_layout_of i n (First x) = false
is_layout_of i n (Composite j m) = nat_eq j i && nat_eq m n

abbrev pub layouts_before : (inst number : ℕ) → List LaidType → ℕ
layouts_before i n [] = zero
layouts_before i n (t ∷ ts) = if is_layout_of i n t then zero else suc (layouts_before i n ts)

-- the number of the layout of a component
abbrev pub component_number : (inst : ℕ) → List LaidType → Subtype → ℕ
component_number inst laid (subtype.Scalar r) = length laid
component_number inst laid (subtype.Composite o n) = layouts_before (owner_in inst (owner_of o)) n laid

module _ (p : Program) (inst : ℕ) where
  -- the bounds of a range; 0 and 0 for one without bounds
  abbrev pub bounds : type.Range → Bounds
  bounds r = unwrap_or (static_bounds (values_of (program_of p)) inst r) (record { low = pos 0; high = pos 0 })

  -- a scalar component has a layout of its own
  abbrev pub with_component : Subtype → Layouts → Layouts
  with_component (subtype.Scalar r) ls = with_layout (First (bounds (scalar_range_of r)).low) (layout.Word (bounds (scalar_range_of r)).low) ls
  with_component (subtype.Composite o n) ls = ls

  abbrev pub with_components : List Subtype → Layouts → Layouts
  with_components [] ls = ls
  with_components (t ∷ ts) ls = with_components ts (with_component t ls)

  -- the numbers of the layouts of components, in order
  abbrev pub component_numbers : Layouts → List Subtype → List ℕ
  component_numbers ls [] = []
  component_numbers ls (t ∷ ts) = component_number inst ls.laid t ∷ component_numbers (with_component t ls) ts

  -- what a type's layout stands behind, and its layout
  abbrev pub with_parts : CompositeType → Layouts → Layouts
  with_parts (composite.Array r t) ls = with_component t ls
  with_parts (composite.Record ts) ls = with_components ts ls

  abbrev pub definition_layout : Layouts → CompositeType → Layout
  definition_layout ls (composite.Array r t) =
      layout.Array (capped (count_between (bounds (scalar_range_of r)).low (bounds (scalar_range_of r)).high)) (component_number inst ls.laid t)
  definition_layout ls (composite.Record ts) = layout.Record (component_numbers ls ts)

  -- the type with this number, by its definition; one whose objects take no words is laid out as a record without components
  abbrev pub with_definition : (number : ℕ) → CompositeType → Layouts → Layouts
  with_definition n d ls =
      if nat_eq (words (shape_of p (named_type p inst (subtype.Composite owner.Here n)))) 0
      then with_layout (Composite inst n) (layout.Record []) ls
      else with_layout (Composite inst n) (definition_layout ls d) (with_parts d ls)

module _ (p : Program) where
  -- a type in an instance, where it stands there; and in so many instances from one on
  abbrev pub with_type_in : (inst number : ℕ) → TypeDeclaration → Layouts → Layouts
  with_type_in i n t ls = if stands_in (map instance_of p.instances) t.generic i then with_definition p i n t.definition ls else ls

  abbrev pub with_type_in_all : (count inst number : ℕ) → TypeDeclaration → Layouts → Layouts
  with_type_in_all zero i n t ls = ls
  with_type_in_all (suc count) i n t ls = with_type_in_all count (i + 1) n t (with_type_in i n t ls)

  -- types from a number on, each in all its instances
  abbrev pub with_types : (number : ℕ) → List TypeDeclaration → Layouts → Layouts
  with_types n [] ls = ls
  with_types n (t ∷ ts) ls = with_types (n + 1) ts (with_type_in_all (length p.instances + 1) 0 n t ls)

  abbrev pub layouts_of : Layouts
  layouts_of = with_types 0 p.types no_layouts
