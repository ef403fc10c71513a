use Rattle.std.proofs.Common.{option_map, sym, ap, ◌∙◌}
use Rattle.ada_meaning.specs.Tree as tree
use Rattle.ada_tree.specs.Programs.{bounds_of}
use Rattle.ada_resolved.specs.Forms.{shape_of}
use Rattle.ada_resolved.specs.Sizes.{words}
use Rattle.kernel_ir.specs.declared.simple.Simple.TheVariants as op
use Rattle.kernel_ir.specs.Sequence.{joined}
use Rattle.statement_code.specs.Bodies.{parameter_code, parameter_in}
use Rattle.statement_code.specs.Values.{address_on, one}
use Rattle.lower.specs.Context.{home_for, layout_for, parameter_for, text}
use Rattle.lower.specs.Entered.{parameter_by}
use Rattle.lower.proofs.Pieces.{in_words, three_then}
use Rattle.lower.proofs.bodies.put_parameter.Goals as goal

pub returns-in-Some : goal.returns-in-Some
returns-in-Some c =
    let k = c.args.slot in
    let i = c.args.argument in
    let q = parameter_for c.args.context.now c.args.instance c.args.parameter in
    in_words c.put_scalar_parameter.result c.args.code.now c.put_scalar_parameter.new.code _ _
    (ap (λ o. parameter_by c.args.context.now k i q (option_map bounds_of o)) (sym c.in-Some.is) ∙ c.scalar_in.ensures (text c.args.context.now) c.args.context.now k i q
    ∙ ap (parameter_code (home_for c.args.context.now) (layout_for c.args.context.now) k i q) (c.form.ensures.shape ∙ ap (shape_of (text c.args.context.now)) c.named-of.ensures))
    c.put_scalar_parameter.ensures

pub returns : goal.returns
returns c =
    let k = c.args.slot in
    let i = c.args.argument in
    let q = parameter_for c.args.context.now c.args.instance c.args.parameter in
    let n = c.args.parameter.number in
    in_words c.push_simple-3.result c.args.code.now c.push_simple-3.new.self _ _
    (ap (λ o. parameter_by c.args.context.now k i q (option_map bounds_of o)) (sym c.in_default.is) ∙ c.scalar_in.ensures (text c.args.context.now) c.args.context.now k i q
    ∙ ap (parameter_code (home_for c.args.context.now) (layout_for c.args.context.now) k i q) (c.form.ensures.shape ∙ ap (shape_of (text c.args.context.now)) c.named-of.ensures))
    (three_then c.push_simple-3.result c.args.code.now c.push_simple.new.self c.push_simple-2.new.self c.push_simple-3.new.self
    (one (address_on k (home_for c.args.context.now (tree.local_object n)))) (one (parameter_in k i q.mode (words q.shape) (layout_for c.args.context.now n))) (one (op.Move i k))
    (c.in_ok-push_simple.ensures.ok ∙ ap (joined c.args.code.now) (ap one c.address.ensures ∙ ap (λ h. one (address_on k h)) c.home.ensures))
    (c.in_ok-push_simple-2.ensures.ok
    ∙ ap (joined c.push_simple.new.self) (ap one c.given_in.ensures
    ∙ (λ s. one (parameter_in k i q.mode ((c.words-words.ensures.words ∙ ap (λ t. words (shape_of (text c.args.context.now) t)) c.named-of.ensures) s) (c.in_ok-layout.ensures s)))))
    c.push_simple-3.ensures.ok)
