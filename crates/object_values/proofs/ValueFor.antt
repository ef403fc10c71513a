-- What an object is set to, found from the component within.
use Rattle.std.proofs.Common.{◌≡◌, [], List, Option, Some, None, option_map, refl, sym, ap, ◌∙◌}
use Rattle.cov_base.specs.declared.position.Pos.{Pos}
use Rattle.ada_meaning.specs.Tree as tree
use Rattle.ada_tree.specs.View.{others_of}
use Rattle.ada_tree.specs.declared.types.ScalarRange.{ScalarRange}
use Rattle.ada_tree.specs.declared.statement.Indices.{Indices}
use Rattle.ada_tree.specs.declared.statement.NewValue.{NewValue}
use Rattle.ada_rules.specs.Denoted as rules
use Rattle.ada_rules.specs.Declarations as declarations
use Rattle.ada_entities.specs.declared.types.Subtype.{Subtype}
use Rattle.ada_entities.specs.Views.{subtype_of}
use Rattle.ada_entities.specs.EntityViews.{Tables}
use Rattle.ada_judged.specs.declared.judged.Form.{Form}
use Rattle.ada_judged.specs.declared.kind.Kind.{Kind}
use Rattle.ada_judged.specs.Views.{kind_of}
use Rattle.ada_judged.specs.JudgedView.{form_of, variable_in}
use Rattle.object_values.specs.declared.reach.Placement.{Placement}
use Rattle.object_values.specs.declared.single.Single.{Single}
use Rattle.object_values.specs.Values.{value_where_fits, value_in, single_in, in_indices}
use Rattle.object_values.specs.NewValues.{Is}
use Rattle.object_values.specs.Reached.{placed_value, AreIndices}
use Rattle.object_values.proofs.ValueLaws.{without_others}

-- the component within, by the parts of the expression
within : (k : Tables) (t : Subtype) (x : Kind) (f : Form) (e : rules.Judged) → Is k x f e
    → declarations.value_for (subtype_of k.types t) [] e
    ≡ value_where_fits (subtype_of k.types t) (kind_of k.types x) (form_of f) (variable_in k f)
within k t x f e is =
    without_others (subtype_of k.types t) e
    ∙ (λ z. value_where_fits (subtype_of k.types t) (is.kind z) (is.form z) (is.variable z))

-- a value of the component that was placed
pub from_component : (k : Tables) (t : Subtype) (others : List Pos) (p : Placement) (x : Kind) (f : Form) (e : rules.Judged) (s : Option Single)
    (o : Option NewValue)
    → Is k x f e → declarations.value_for (subtype_of k.types t) others e ≡ placed_value k.types e (Some p)
    → option_map (single_in k.types) s ≡ value_where_fits (subtype_of k.types p.component) (kind_of k.types x) (form_of f) (variable_in k f)
    → option_map (value_in k.types) o ≡ option_map (in_indices p.indices) (option_map (single_in k.types) s)
    → option_map (value_in k.types) o ≡ declarations.value_for (subtype_of k.types t) others e
from_component k t others p x f e s o is reached single placed =
    placed ∙ ap (option_map (in_indices p.indices)) (single ∙ sym (within k p.component x f e is)) ∙ sym reached

-- indices as a value has them stand round it as their list does
pub in_their_indices : (rs : List ScalarRange) (i : Option Indices) (o : Option tree.NewValue) → AreIndices rs i
    → option_map (others_of rs) o ≡ option_map (in_indices i) o
in_their_indices rs i None are = refl
in_their_indices rs i (Some v) are = ap Some (are v)
