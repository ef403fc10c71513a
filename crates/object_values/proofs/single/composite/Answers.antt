use Rattle.std.proofs.Common.{Some, option_map, sym, ap, ◌∙◌}
use Rattle.ada_meaning.specs.Tree as tree
use Rattle.ada_tree.specs.View.{object_of, parts_of}
use Rattle.ada_rules.specs.Types.{subtype_in_tree}
use Rattle.ada_entities.specs.Views.{subtype_of}
use Rattle.ada_judged.specs.JudgedView.{variable_in}
use Rattle.object_values.proofs.ValueLaws.{composite_named}
use Rattle.object_values.proofs.single.composite.Goals as goal

pub returns-in-Object : goal.returns-in-Object
returns-in-Object c k t e there =
    let v = c.in-Object.variable in
    ap (λ x. Some (tree.composite_value x (object_of v.object) (parts_of v.parts.items))) (composite_named k.types t c.args.of e there)
    ∙ ap (λ f. option_map (λ x. tree.composite_value (subtype_in_tree (subtype_of k.types t)) x.object x.parts) (variable_in k f)) (sym c.in-Object.is)
