-- What objects are set to, as the checker makes it (Ada RM 2012, 4.3.3, 5.2).
use Rattle.std.specs.Prelude.{◌≡◌, not, Option, None, Some, option_map, if◌then◌else◌}
use Rattle.ada_meaning.specs.Tree as tree
use Rattle.ada_tree.specs.declared.statement.Indices.{Indices}
use Rattle.ada_tree.specs.declared.statement.NewValue.{NewValue}
use Rattle.ada_tree.specs.Programs.{unfolded_value}
use Rattle.ada_tree.specs.View as view
use Rattle.ada_tree.specs.View.{scalar_range_of, object_of, parts_of, numbered, others_by}
use Rattle.ada_rules.specs.Types as types
use Rattle.ada_rules.specs.Types.{AdaSubtype, type_in, range_in, is_scalar, fits, subtype_in_tree}
use Rattle.ada_rules.specs.Entities.{Variable}
use Rattle.ada_rules.specs.Denoted as rules
use Rattle.ada_rules.specs.Denoted.{expr_of_form}
use Rattle.ada_entities.specs.declared.types.AdaType.TheVariants as type
use Rattle.ada_entities.specs.declared.types.Composite.{Composite}
use Rattle.ada_entities.specs.declared.types.Subtype.{Subtype}
use Rattle.ada_entities.specs.Views.{TypeTables, subtype_of}
use Rattle.ada_entities.specs.EntityViews.{Tables}
use Rattle.ada_judged.specs.declared.judged.Form.{Form}
use Rattle.ada_judged.specs.declared.kind.Kind.{Kind}
use Rattle.ada_judged.specs.Views.{kind_of}
use Rattle.ada_judged.specs.JudgedView.{form_of, variable_in}
use Rattle.ada_entities.specs.Trees.{shapes_in_tree, IsSubtypeThere}
use Rattle.object_values.specs.declared.single.Single.{Single}
use Rattle.object_values.specs.declared.single.Single.TheVariants as single

-- a value of the typed program, whose composite types are unfolded from the checker's table
abbrev pub value_in : TypeTables → NewValue → tree.NewValue
value_in k v = unfolded_value (shapes_in_tree k) (view.value_of v)

-- a value without `others`
abbrev pub single_of : Single → tree.NewValue
single_of (single.Scalar r e) = tree.scalar_value (scalar_range_of r) e
single_of (single.Composite o n x parts) = tree.composite_value (view.subtype_by o (numbered n)) (object_of x) (parts_of parts.items)

abbrev pub single_in : TypeTables → Single → tree.NewValue
single_in k v = unfolded_value (shapes_in_tree k) (single_of v)

-- `(others => ..)` round a value, where there are indices
abbrev pub in_indices : Option Indices → tree.NewValue → tree.NewValue
in_indices None v = v
in_indices (Some i) v = others_by i v

-- an object or a part of one, for an object of this composite type
abbrev pub IsComposite : Composite → Form → Option Single → Type 0
IsComposite c f o =
    (k : Tables) (t : Subtype) → t.of ≡ type.Composite c → IsSubtypeThere k.types t
    → option_map (single_in k.types) o
    ≡ option_map (λ v. tree.composite_value (subtype_in_tree (subtype_of k.types t)) v.object v.parts) (variable_in k f)

-- an expression of the type of an object of this subtype
abbrev pub value_of_form : AdaSubtype → rules.Form → Option Variable → Option tree.NewValue
value_of_form t f v =
    if is_scalar (type_in t)
    then Some (tree.scalar_value (range_in t) (expr_of_form f))
    else option_map (λ x. tree.composite_value (subtype_in_tree t) x.object x.parts) v

abbrev pub IsOfForm : Subtype → Form → Option Single → Type 0
IsOfForm t f o =
    (k : Tables) → IsSubtypeThere k.types t
    → option_map (single_in k.types) o ≡ value_of_form (subtype_of k.types t) (form_of f) (variable_in k f)

-- what an object of this subtype is set to by an expression of this kind, wherever its type is in the table
abbrev pub value_where_fits : AdaSubtype → types.Kind → rules.Form → Option Variable → Option tree.NewValue
value_where_fits t k f v = if not (fits (type_in t) k) then None else value_of_form t f v

abbrev pub IsSingle : Subtype → Kind → Form → Option Single → Type 0
IsSingle t x f o =
    (k : Tables) → IsSubtypeThere k.types t
    → option_map (single_in k.types) o
    ≡ value_where_fits (subtype_of k.types t) (kind_of k.types x) (form_of f) (variable_in k f)
