-- What types are built of, by instance. Where a type has no size, objects of it take no words: it is like a record
-- without a component.
use Rattle.std.specs.Prelude.{ℕ, List, [], ◌∷◌, length, take, Option, Some, None}
use Rattle.ada_meaning.specs.Program.{Program}
use Rattle.ada_meaning.specs.Resolved.{shape_in}
use Rattle.ada_meaning.specs.Shape.{Shape, group, Shapes, no_shape, and_shape}
use Rattle.ada_meaning.specs.Statics.{values_of}
use Rattle.ada_meaning.specs.Types as meaning
use Rattle.ada_tree.specs.declared.program.Program.{Program as Tree}
use Rattle.ada_tree.specs.declared.types.Subtype.{Subtype}
use Rattle.ada_tree.specs.Programs.{program_of, types_of, unfolded}
use Rattle.ada_tree.specs.View.{subtype_of}
use Rattle.ada_resolved.specs.declared.forms.TypeIn.{TypeIn}
use Rattle.ada_resolved.specs.Sizes.{type_size}

-- a shape of this size, if it has one
abbrev pub sized : Option ℕ → Shape → Shape
sized None s = group no_shape
sized (Some n) s = s

-- the shape of objects of a type in an instance
abbrev pub known_shape : Program → ℕ → meaning.Subtype → Shape
known_shape p inst t = sized (type_size (values_of p) inst t) (shape_in p inst t)

-- a type, by the types that stand before what names it
abbrev pub type_of : Tree → TypeIn → meaning.Subtype
type_of p t = unfolded (take t.below (types_of p.types)) (subtype_of t.subtype)

abbrev pub shape_of : Tree → TypeIn → Shape
shape_of p t = known_shape (program_of p) t.instance (type_of p t)

-- the shapes of components, which stand in an instance behind so many types
abbrev pub shapes_of : Tree → (inst below : ℕ) → List Subtype → Shapes
shapes_of p inst below [] = no_shape
shapes_of p inst below (t ∷ ts) = and_shape (shape_of p (record { instance = inst; subtype = t; below = below })) (shapes_of p inst below ts)

-- a type that an object names in an instance
abbrev pub named_type : Tree → ℕ → Subtype → TypeIn
named_type p inst t = record { instance = inst; subtype = t; below = length p.types }
