-- The types of the checker's table as the typed program has them: its composite types have the same numbers there.
use Rattle.std.specs.Prelude.{◌≡◌, ℕ, ◌+◌, ◌<◌, List, [], ◌∷◌, map, length, Option, None, slice_get, unwrap_or}
use Rattle.cov_base.specs.Lists.{Everywhere}
use Rattle.ada_rules.specs.ada_meaning.specs.Types as meaning
use Rattle.ada_tree.specs.declared.types.CompositeType.{CompositeType}
use Rattle.ada_tree.specs.declared.types.ScalarRange.{ScalarRange}
use Rattle.ada_tree.specs.declared.types.Subtype.{Subtype as TreeSubtype}
use Rattle.ada_tree.specs.declared.types.Subtype.TheVariants as tree_subtype
use Rattle.ada_tree.specs.declared.types.TypeDeclaration.{TypeDeclaration}
use Rattle.ada_tree.specs.Programs.{unfolded}
use Rattle.ada_tree.specs.View as tree
use Rattle.ada_rules.specs.Types.{range_in, subtype_in_tree, fields_in_tree}
use Rattle.ada_entities.specs.declared.composite.Component.{Component}
use Rattle.ada_entities.specs.declared.composite.Definition.{Definition}
use Rattle.ada_entities.specs.declared.composite.Definition.TheVariants as definition
use Rattle.ada_entities.specs.declared.types.AdaType.{AdaType}
use Rattle.ada_entities.specs.declared.types.AdaType.TheVariants as type
use Rattle.ada_entities.specs.declared.types.Subtype.{Subtype}
use Rattle.ada_entities.specs.Views.{Shape, array_shape, record_shape, TypeTables, subtype_of}
use Rattle.ada_entities.specs.Tables.{shape_of}

-- a composite type of the rules, as the typed program has it
abbrev pub shape_in_tree : Shape → meaning.Subtype
shape_in_tree (array_shape x c) = meaning.array (range_in x) (subtype_in_tree c)
shape_in_tree (record_shape fs) = meaning.fields (fields_in_tree fs)

abbrev pub shapes_in_tree : TypeTables → List meaning.Subtype
shapes_in_tree k = map shape_in_tree k.shapes

-- a type that leads only to what is in the table
abbrev pub IsThere : TypeTables → AdaType → Type 0
IsThere k (type.Scalar t) = Unit {0}
IsThere k (type.Composite c) = c.number < length k.shapes

abbrev pub IsSubtypeThere : TypeTables → Subtype → Type 0
IsSubtypeThere k t = IsThere k t.of

abbrev pub IsBuiltThere : TypeTables → Definition → Type 0
IsBuiltThere k (definition.Array x c) = IsSubtypeThere k x × IsSubtypeThere k c
IsBuiltThere k (definition.Record cs) = Everywhere (λ (c : Component). IsSubtypeThere k c.subtype) cs

-- a subtype as the typed program names it: a composite one by the number of its type, a scalar one by its range
abbrev pub named_by : AdaType → ScalarRange → TreeSubtype
named_by (type.Scalar t) r = tree_subtype.Scalar r
named_by (type.Composite c) r = tree_subtype.Composite c.seen c.number

abbrev pub named_in_tree : Subtype → TreeSubtype
named_in_tree t = named_by t.of t.range

-- a subtype of the typed program is the checker's, wherever its type is in the table
abbrev pub IsInTree : Subtype → TreeSubtype → Type 0
IsInTree t x =
    (k : TypeTables) → IsSubtypeThere k t
    → unfolded (shapes_in_tree k) (tree.subtype_of x) ≡ subtype_in_tree (subtype_of k t)

-- and so is a composite type
abbrev pub IsDefinedInTree : Definition → CompositeType → Type 0
IsDefinedInTree d x =
    (k : TypeTables) → IsBuiltThere k d → unfolded (shapes_in_tree k) (tree.composite_of x) ≡ shape_in_tree (shape_of k d)

-- the generic at a place, where there may be fewer places
abbrev pub generic_at : List (Option ℕ) → ℕ → Option ℕ
generic_at gs n = unwrap_or (slice_get gs n) None

-- declarations that stand in the texts of these generics, from this place on
abbrev pub AreIn : List (Option ℕ) → ℕ → List TypeDeclaration → Type 0
AreIn gs n [] = Unit {0}
AreIn gs n (d ∷ ds) = (d.generic ≡ generic_at gs n) × AreIn gs (n + 1) ds
