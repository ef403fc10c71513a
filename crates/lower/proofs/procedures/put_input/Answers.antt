use Rattle.std.proofs.Common.{◌+◌, sym, ap, ◌∙◌}
use Rattle.ada_tree.specs.View.{object_of, parts_of, scalar_range_of}
use Rattle.kernel_ir.specs.declared.simple.Simple.TheVariants as op
use Rattle.statement_code.specs.Values.{one}
use Rattle.lower.specs.Pieces.{located_for}
use Rattle.lower.specs.Procedures.{get_for, kept_for, stored_for}
use Rattle.lower.proofs.Building.{then_put}
use Rattle.lower.proofs.Pieces.{in_words, three_then}
use Rattle.lower.proofs.Returned.{part_gotten}
use Rattle.lower.proofs.Settings.{bare_parts}
use Rattle.lower.proofs.procedures.put_input.Goals as goal

pub returns-then-not-has_parts : goal.returns-then-not-has_parts
returns-then-not-has_parts c =
    let k = c.args.slot in
    let o = object_of c.args.variable.object in
    let r = scalar_range_of c.args.variable.range in
    in_words c.put_kept_from.result c.args.code.now c.put_kept_from.new.code _ _
    (ap (λ ps. get_for c.args.context.now k o ps r) (sym (bare_parts c.args.variable.selectors.now (sym c.has_parts.ensures ∙ c.if-not-has_parts.true))))
    (then_put c.put_kept_from.result c.args.code.now c.push_simple.new.self c.put_kept_from.new.code (one (op.Get k)) (kept_for c.args.context.now k c.args.variable.object c.args.variable.range)
    c.in_ok-push_simple.ensures.ok c.put_kept_from.ensures)

pub returns : goal.returns
returns c =
    let k = c.args.slot in
    let o = object_of c.args.variable.object in
    let parts = parts_of c.args.variable.selectors.now in
    let r = scalar_range_of c.args.variable.range in
    in_words c.put_stored.result c.args.code.now c.put_stored.new.code _ _
    (sym (part_gotten c.args.context.now k c.args.variable.object c.args.variable.selectors.now c.args.variable.range (sym c.has_parts.ensures ∙ c.if-not-has_parts.false)))
    (three_then c.put_stored.result c.args.code.now c.put_located.new.code c.push_simple-2.new.self c.put_stored.new.code
    (located_for c.args.context.now k o parts) (one (op.Get (k + 1))) (stored_for c.args.context.now k (k + 1) c.args.variable.range)
    c.in_ok-put_located.ensures (rw c.in_ok-from.ensures.number at c.in_ok-push_simple-2.ensures.ok) (rw c.in_ok-from.ensures.number at c.put_stored.ensures))
