-- What objects are set to, of the rules' definitions.
use Rattle.std.proofs.Common.{◌≡◌, not, true, false, if◌then◌else◌, List, [], ◌∷◌, Option, Some, None, option_map, refl, sym, ap, ◌∙◌, ℕ, ◌+◌, ◌<◌, length, drop, get_or, ◌++◌}
use Rattle.std.proofs.lemmas.List.{drop_more}
use Rattle.cov_base.specs.declared.position.Pos.{Pos}
use Rattle.ada_meaning.specs.Tree as tree
use Rattle.ada_meaning.specs.Types as meaning
use Rattle.ada_meaning.specs.Types.{Owner, here, of_instance}
use Rattle.ada_tree.specs.Programs.{unfolded, unfolded_value}
use Rattle.ada_tree.specs.View as view
use Rattle.ada_tree.specs.View.{owner_of, scalar_range_of, others_of, others_by}
use Rattle.ada_tree.specs.declared.types.ScalarRange.{ScalarRange}
use Rattle.ada_tree.specs.declared.statement.Indices.{Indices}
use Rattle.ada_rules.specs.Types as types
use Rattle.ada_rules.specs.Types.{Identity, integer_type, enumeration, formal_type, array_type, record_type, AdaSubtype, of_type, type_in, range_in, is_scalar, fits, subtype_in_tree}
use Rattle.ada_rules.specs.Entities.{Variable}
use Rattle.ada_rules.specs.Denoted as rules
use Rattle.ada_rules.specs.Denoted.{Judged, expr_of_form, nowhere}
use Rattle.ada_rules.specs.Declarations.{value_for}
use Rattle.ada_entities.specs.declared.types.AdaType.TheVariants as type
use Rattle.ada_entities.specs.declared.types.Composite.{Composite}
use Rattle.ada_entities.specs.declared.types.Subtype.{Subtype}
use Rattle.ada_entities.specs.declared.types.ScalarType.{ScalarType}
use Rattle.ada_entities.specs.declared.types.ScalarType.TheVariants as scalar
use Rattle.ada_entities.specs.Views.{Shape, array_shape, record_shape, shaped, TypeTables, shape_at, identity_of, scalar_type_of, type_by, type_of, composite_of, subtype_of}
use Rattle.ada_entities.specs.Tables.{array_parts}
use Rattle.ada_entities.specs.EntityViews.{Tables}
use Rattle.object_values.specs.Values.{value_of_form, value_where_fits}
use Rattle.ada_entities.specs.Trees.{named_by, shapes_in_tree, IsSubtypeThere}
use Rattle.ada_entities.proofs.TreeUnfolding.{named}

scalar_types : (s : ScalarType) → is_scalar (scalar_type_of s) ≡ true
scalar_types (scalar.Integer i) = refl
scalar_types (scalar.Enumeration i n) = refl
scalar_types (scalar.Formal i place kind) = refl

shaped_types : (k : TypeTables) (o : Owner) (i : Identity) (s : Shape) → is_scalar (type_by k o (shaped i s)) ≡ false
shaped_types k here i (array_shape x c) = refl
shaped_types k here i (record_shape fs) = refl
shaped_types k (of_instance n) i (array_shape x c) = refl
shaped_types k (of_instance n) i (record_shape fs) = refl

composite_types : (k : TypeTables) (c : Composite) → is_scalar (composite_of k c) ≡ false
composite_types k c = shaped_types k (owner_of c.seen) (identity_of c.identity) (shape_at k c.number)

-- an expression that stands in no `others`
pub without_others : (t : AdaSubtype) (e : Judged) → value_for t [] e ≡ value_where_fits t e.kind e.form e.variable
without_others (of_type (integer_type i) r) e = refl
without_others (of_type (enumeration i n) r) e = refl
without_others (of_type (formal_type i k b) r) e = refl
without_others (of_type (array_type i x c) r) e = refl
without_others (of_type (record_type i fs) r) e = refl

pub fit : (t : AdaSubtype) (x : types.Kind) (f : rules.Form) (v : Option Variable) → fits (type_in t) x ≡ true
    → value_of_form t f v ≡ value_where_fits t x f v
fit t x f v h = rw h refl

-- a scalar value, and a composite one
pub scalar_form : (k : Tables) (t : Subtype) (s : ScalarType) (f : rules.Form) (v : Option Variable) → t.of ≡ type.Scalar s
    → Some (tree.scalar_value (scalar_range_of t.range) (expr_of_form f)) ≡ value_of_form (subtype_of k.types t) f v
scalar_form k t s f v e = let h : is_scalar (type_of k.types t.of) ≡ true = ap (λ of. is_scalar (type_of k.types of)) e ∙ scalar_types s in rw h refl

pub composite_form : (k : Tables) (t : Subtype) (c : Composite) (f : rules.Form) (v : Option Variable) → t.of ≡ type.Composite c
    → option_map (λ x. tree.composite_value (subtype_in_tree (subtype_of k.types t)) x.object x.parts) v ≡ value_of_form (subtype_of k.types t) f v
composite_form k t c f v e =
    let h : is_scalar (type_of k.types t.of) ≡ false = ap (λ of. is_scalar (type_of k.types of)) e ∙ composite_types k.types c in rw h refl

-- a composite type by its number
pub composite_named : (k : TypeTables) (t : Subtype) (c : Composite) → t.of ≡ type.Composite c → IsSubtypeThere k t
    → unfolded (shapes_in_tree k) (view.subtype_by c.seen (view.numbered c.number)) ≡ subtype_in_tree (subtype_of k t)
composite_named k t c e there =
    ap (λ of. unfolded (shapes_in_tree k) (view.subtype_of (named_by of t.range))) (sym e) ∙ named t k there

-- types are unfolded inside `(others => ..)`
pub unfolded_in : (types : List meaning.Subtype) (rs : List ScalarRange) (v : tree.NewValue)
    → unfolded_value types (others_of rs v) ≡ others_of rs (unfolded_value types v)
unfolded_in types [] v = refl
unfolded_in types (r ∷ rs) v = ap (tree.others_value (scalar_range_of r)) (unfolded_in types rs v)

pub unfolded_by : (types : List meaning.Subtype) (i : Indices) (v : tree.NewValue)
    → unfolded_value types (others_by i v) ≡ others_by i (unfolded_value types v)
unfolded_by types i v = ap (tree.others_value (scalar_range_of i.outermost)) (unfolded_in types i.inner v)

-- ---- how far in `(others => ..)` goes

pub one_more : (rs : List ScalarRange) (r : ScalarRange) (v : tree.NewValue)
    → others_of (rs ++ r ∷ []) v ≡ others_of rs (tree.others_value (scalar_range_of r) v)
one_more [] r v = refl
one_more (q ∷ rs) r v = ap (tree.others_value (scalar_range_of q)) (one_more rs r v)

-- one index more, of an array
in_array : (t : AdaSubtype) (p : Pos) (ps : List Pos) (e : Judged) (x c : AdaSubtype) → array_parts (type_in t) ≡ Some (x, c)
    → value_for t (p ∷ ps) e ≡ option_map (tree.others_value (range_in x)) (value_for c ps e)
in_array (of_type (integer_type i) r) p ps e x c h = absurd cc
in_array (of_type (enumeration i n) r) p ps e x c h = absurd cc
in_array (of_type (formal_type i k b) r) p ps e x c h = absurd cc
in_array (of_type (array_type i y d) r) p ps e x c h = ap (λ o. within o) h where
  within : Option (AdaSubtype × AdaSubtype) → Option tree.NewValue
  within None = None
  within (Some q) = option_map (tree.others_value (range_in q.0)) (value_for q.1 ps e)
in_array (of_type (record_type i fs) r) p ps e x c h = absurd cc

in_other : (t : AdaSubtype) (p : Pos) (ps : List Pos) (e : Judged) → array_parts (type_in t) ≡ None → value_for t (p ∷ ps) e ≡ None
in_other (of_type (integer_type i) r) p ps e h = refl
in_other (of_type (enumeration i n) r) p ps e h = refl
in_other (of_type (formal_type i k b) r) p ps e h = refl
in_other (of_type (array_type i y d) r) p ps e h = absurd cc
in_other (of_type (record_type i fs) r) p ps e h = refl

within_more : (rs : List ScalarRange) (r : ScalarRange) (o : Option tree.NewValue)
    → option_map (others_of rs) (option_map (tree.others_value (scalar_range_of r)) o) ≡ option_map (others_of (rs ++ r ∷ [])) o
within_more rs r None = refl
within_more rs r (Some v) = ap Some (sym (one_more rs r v))

-- a turn of the walk inwards
pub turn_in : (t : AdaSubtype) (others : List Pos) (i : ℕ) (e : Judged) (rs : List ScalarRange) (r : ScalarRange) (x c : AdaSubtype) → i < length others
    → array_parts (type_in t) ≡ Some (x, c) → range_in x ≡ scalar_range_of r
    → option_map (others_of rs) (value_for t (drop i others) e) ≡ option_map (others_of (rs ++ r ∷ [])) (value_for c (drop (i + 1) others) e)
turn_in t others i e rs r x c h parts range =
    ap (λ ps. option_map (others_of rs) (value_for t ps e)) (drop_more others i (get_or others i nowhere) h)
    ∙ ap (option_map (others_of rs)) (in_array t (get_or others i (get_or others i nowhere)) (drop (i + 1) others) e x c parts)
    ∙ ap (λ q. option_map (others_of rs) (option_map (tree.others_value q) (value_for c (drop (i + 1) others) e))) range
    ∙ within_more rs r (value_for c (drop (i + 1) others) e)

pub stops_in : (t : AdaSubtype) (others : List Pos) (i : ℕ) (e : Judged) (rs : List ScalarRange) → i < length others
    → array_parts (type_in t) ≡ None → option_map (others_of rs) (value_for t (drop i others) e) ≡ None
stops_in t others i e rs h parts =
    ap (λ ps. option_map (others_of rs) (value_for t ps e)) (drop_more others i (get_or others i nowhere) h)
    ∙ ap (option_map (others_of rs)) (in_other t (get_or others i (get_or others i nowhere)) (drop (i + 1) others) e parts)

pub alone : (o : Option tree.NewValue) → option_map (others_of []) o ≡ o
alone None = refl
alone (Some v) = refl
