use Rattle.std.proofs.Common.{pos, sym, ap, ◌∙◌}
use Rattle.ada_resolved.specs.Sizes.{words}
use Rattle.ada_tree.specs.View.{others_of}
use Rattle.kernel_ir.specs.declared.simple.Simple.TheVariants as op
use Rattle.kernel_ir.specs.Sequence.{joined}
use Rattle.kernel_ir.proofs.Joining.{joined_nothing}
use Rattle.statement_code.specs.Values.{one}
use Rattle.lower.specs.Context.{shape_named, text}
use Rattle.lower.specs.Settings.{others_with, setting_of}
use Rattle.lower.proofs.Settings.{others_put}
use Rattle.lower.proofs.sets.+settings.Goals as goal

pub put_others-returns-in_default : goal.put_others-returns-in_default
put_others-returns-in_default t c =
    let v = others_of c.args.inner.now (setting_of c.args.setting) in
    sym (joined_nothing c.args.code.now)
    ∙ ap (joined c.args.code.now)
    (ap (λ o. others_with c.args.context.now c.args.address c.args.free (words (shape_named (text c.args.context.now) c.args.of)) o v) (sym c.in_default.is)
    ∙ c.components.ensures c.args.address c.args.free v)

pub put_others-returns : goal.put_others-returns
put_others-returns t c =
    let k = c.args.address in
    let j = c.args.free in
    let v = others_of c.args.inner.now (setting_of c.args.setting) in
    others_put c.args.context.now c.push.result k j (words (shape_named (text c.args.context.now) c.args.of)) (shape_named (text c.args.context.now) c.args.of) c.in-Some.component v
    c.args.code.now c.push_simple.new.self c.push.new.self c.new-one.result c.put_set.new.code c.put_next.new.code c.in_ok-turn.turn
    c.new-one.ensures (rw c.in_ok-behind.ensures.number at c.in_ok-put_set.ensures) (c.in_ok-put_next.ensures _ c.args.setting c.words.ensures.words)
    (c.in_ok-push_simple.ensures.ok ∙ ap (λ x. joined c.args.code.now (one x)) c.advanced.ensures
    ∙ ap (λ n. joined c.args.code.now (one (op.Advance j k (pos n)))) c.words-2.ensures.words)
    c.in_ok-turn.ensures
    (ap (λ o. others_with c.args.context.now k j (words (shape_named (text c.args.context.now) c.args.of)) o v) (sym c.in-Some.is) ∙ c.components.ensures k j v)
    c.push.ensures.ok
