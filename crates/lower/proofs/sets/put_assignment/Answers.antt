use Rattle.std.proofs.Common.{◌+◌, sym, ap, ◌∙◌}
use Rattle.ada_tree.specs.View.{object_of, parts_of, value_of}
use Rattle.statement_code.specs.Values.{part_shape}
use Rattle.lower.specs.Context.{shape_for, shape_named, text}
use Rattle.lower.specs.Pieces.{located_for}
use Rattle.lower.specs.Settings.{set_for}
use Rattle.lower.proofs.Building.{then_put}
use Rattle.lower.proofs.Pieces.{in_words}
use Rattle.lower.proofs.sets.put_assignment.Goals as goal

pub returns : goal.returns
returns c =
    let ctx = c.args.context.now in
    let k = c.args.slot in
    let o = object_of c.args.object in
    let parts = parts_of c.args.selectors.now in
    let v = value_of c.args.value.now in
    in_words c.put_new_value.result c.args.code.now c.put_new_value.new.code _ _ (sym (c.in_default.ensures.none ctx k o))
    (then_put c.put_new_value.result c.args.code.now c.put_located.new.code c.put_new_value.new.code (located_for ctx k o parts)
    (set_for ctx k (k + 1) (part_shape (shape_for ctx o) parts) v) c.in_ok-put_located.ensures
    (in_words c.put_new_value.result c.put_located.new.code c.put_new_value.new.code _ _
    ((λ s. set_for ctx k (c.in_ok-free.ensures.number s) (c.part_of-of.ensures s) v) ∙ ap (λ t. set_for ctx k (k + 1) (part_shape (shape_named (text ctx) t) parts) v) c.type_of.ensures)
    c.put_new_value.ensures))
