-- Numbers of composite types, unfolded by the checker's table.
use Rattle.std.proofs.Common.{◌≡◌, ℕ, ◌<◌, List, [], ◌∷◌, map, length, option_map, slice_get, unwrap_or, refl, sym, ap, ◌∙◌}
use Rattle.std.proofs.lemmas.Option.{slice_get-map, slice_get-get_or, unwrap_or-slice_get}
use Rattle.cov_base.specs.Lists.{Everywhere}
use Rattle.cov_base.specs.declared.seq.Seq.{Seq}
use Rattle.ada_rules.specs.ada_meaning.specs.Types as meaning
use Rattle.ada_rules.specs.ada_meaning.specs.Types.{Range, of_instance}
use Rattle.ada_rules.specs.ada_meaning.specs.Seen.{subtype_seen}
use Rattle.ada_tree.specs.declared.types.Owner.{Owner as TreeOwner}
use Rattle.ada_tree.specs.declared.types.Owner.TheVariants as owner
use Rattle.ada_tree.specs.declared.types.CompositeType.TheVariants as composite
use Rattle.ada_tree.specs.declared.types.ScalarRange.{ScalarRange}
use Rattle.ada_tree.specs.declared.types.Subtype.{Subtype as TreeSubtype}
use Rattle.ada_tree.specs.Programs.{unfolded, unfolded_components}
use Rattle.ada_tree.specs.View as tree
use Rattle.ada_tree.specs.View.{owner_of, scalar_range_of, numbered}
use Rattle.ada_rules.specs.Types.{Identity, array_type, record_type, no_field, type_in_tree, fields_in_tree}
use Rattle.ada_entities.specs.declared.types.ScalarType.{ScalarType}
use Rattle.ada_entities.specs.declared.types.ScalarType.TheVariants as scalar
use Rattle.ada_entities.specs.declared.types.AdaType.{AdaType as CodeType}
use Rattle.ada_entities.specs.declared.types.AdaType.TheVariants as type
use Rattle.ada_entities.specs.declared.composite.Component.{Component}
use Rattle.ada_entities.specs.declared.composite.Definition.TheVariants as definition
use Rattle.ada_entities.specs.declared.types.Subtype.{Subtype}
use Rattle.ada_entities.specs.Views.{Shape, array_shape, record_shape, shaped, TypeTables, actuals_of, shape_at, identity_of, type_by, type_of, scalar_type_of}
use Rattle.ada_entities.specs.Tables.{fields_of}
use Rattle.ada_entities.specs.Trees.{shape_in_tree, shapes_in_tree, IsThere, IsSubtypeThere, named_by, named_in_tree, IsInTree, IsDefinedInTree}
use Rattle.ada_entities.proofs.TreeSeen.{type_in_tree_seen}

-- a scalar type has no other trace in the tree than its range
pub scalar_in_tree : (t : ScalarType) (r : Range) → meaning.scalar r ≡ type_in_tree (scalar_type_of t) r
scalar_in_tree (scalar.Integer i) r = refl
scalar_in_tree (scalar.Enumeration i n) r = refl
scalar_in_tree (scalar.Formal i k b) r = refl

-- nor has a composite type than its shape
shaped_in_tree : (i : Identity) (s : Shape) (r : Range) → shape_in_tree s ≡ type_in_tree (shaped i s) r
shaped_in_tree i (array_shape x c) r = refl
shaped_in_tree i (record_shape fs) r = refl

-- the type with a number that is in the table
at_number : (f : Shape → meaning.Subtype) (ss : List Shape) (n : ℕ) (d : Shape) (e : meaning.Subtype) → n < length ss
    → unwrap_or (slice_get (map f ss) n) e ≡ f (unwrap_or (slice_get ss n) d)
at_number f ss n d e h =
    ap (λ o. unwrap_or o e) (slice_get-map f ss n ∙ ap (option_map f) (slice_get-get_or ss n d h)) ∙ ap f (sym (unwrap_or-slice_get ss n d))

seen_number : (f : Shape → meaning.Subtype) (g : meaning.Subtype → meaning.Subtype) (ss : List Shape) (n : ℕ) (d : Shape) (e : meaning.Subtype)
    → n < length ss → unwrap_or (option_map g (slice_get (map f ss) n)) e ≡ g (f (unwrap_or (slice_get ss n) d))
seen_number f g ss n d e h =
    ap (λ o. unwrap_or (option_map g o) e) (slice_get-map f ss n ∙ ap (option_map f) (slice_get-get_or ss n d h))
    ∙ ap (λ s. g (f s)) (sym (unwrap_or-slice_get ss n d))

-- a shape that is seen through an instance
shaped_seen : (k : TypeTables) (j : ℕ) (i : Identity) (s : Shape) (r : Range)
    → subtype_seen j (shape_in_tree s) ≡ type_in_tree (type_by k (of_instance j) (shaped i s)) r
shaped_seen k j i (array_shape x c) r = sym (type_in_tree_seen j (actuals_of k j) (array_type i x c) r)
shaped_seen k j i (record_shape fs) r = sym (type_in_tree_seen j (actuals_of k j) (record_type i fs) r)

by_owner : (k : TypeTables) (o : TreeOwner) (i : Identity) (n : ℕ) (r : Range) → n < length k.shapes
    → unfolded (shapes_in_tree k) (tree.subtype_by o (numbered n)) ≡ type_in_tree (type_by k (owner_of o) (shaped i (shape_at k n))) r
by_owner k owner.Here i n r h =
    at_number shape_in_tree k.shapes n (record_shape no_field) (numbered n) h ∙ shaped_in_tree i (shape_at k n) r
by_owner k (owner.Instance j) i n r h =
    seen_number shape_in_tree (subtype_seen j) k.shapes n (record_shape no_field) (meaning.subtype_of j (numbered n)) h
    ∙ shaped_seen k j i (shape_at k n) r

-- a subtype
by_type : (k : TypeTables) (t : CodeType) (r : ScalarRange) → IsThere k t
    → unfolded (shapes_in_tree k) (tree.subtype_of (named_by t r)) ≡ type_in_tree (type_of k t) (scalar_range_of r)
by_type k (type.Scalar t) r h = scalar_in_tree t (scalar_range_of r)
by_type k (type.Composite c) r h = by_owner k c.seen (identity_of c.identity) c.number (scalar_range_of r) h

pub named : (t : Subtype) → IsInTree t (named_in_tree t)
named t = λ k h. by_type k t.of t.range h

-- components, and composite types
components : (k : TypeTables) (cs : List Component) → Everywhere (λ (c : Component). IsSubtypeThere k c.subtype) cs
    → unfolded_components (shapes_in_tree k) (tree.components_of (map (λ (c : Component). named_in_tree c.subtype) cs)) ≡ fields_in_tree (fields_of k cs)
components k [] h = refl
components k (c ∷ cs) h = λ z. meaning.and_component (named c.subtype k h.0 z) (components k cs h.1 z)

pub array_defined : (x c : Subtype) (t : TreeSubtype) → IsInTree c t → IsDefinedInTree (definition.Array x c) (composite.Array x.range t)
array_defined x c t h = λ k there. ap (meaning.array (scalar_range_of x.range)) (h k there.1)

pub record_defined : (cs : Seq Component) (ts : Seq TreeSubtype) → ts ≡ map (λ (c : Component). named_in_tree c.subtype) cs
    → IsDefinedInTree (definition.Record cs) (composite.Record ts)
record_defined cs ts e = λ k there.
    ap (λ xs. meaning.fields (unfolded_components (shapes_in_tree k) (tree.components_of xs))) e ∙ ap meaning.fields (components k cs there)
