use Rattle.std.proofs.Common.{sym, ap, ◌∙◌}
use Rattle.std.specs.Option.{option_copied}
use Rattle.ada_meaning.specs.Program.{body_target}
use Rattle.ada_tree.specs.View.{actuals_of}
use Rattle.kernel_ir.specs.Sequence.{joined}
use Rattle.kernel_ir.proofs.Joining.{joined_nothing}
use Rattle.lower.specs.Context.{parameters_for}
use Rattle.lower.specs.Pieces.{call_for}
use Rattle.lower.specs.Procedures.{backs_for, input_for, output_for}
use Rattle.lower.proofs.Building.{then_put}
use Rattle.lower.proofs.Pieces.{in_words}
use Rattle.lower.proofs.Returned.{body_called}
use Rattle.lower.proofs.procedures.put_procedure.Goals as goal

pub returns-in-Some : goal.returns-in-Some
returns-in-Some c =
    rw c.in-TestPut.is
    (in_words c.put_output.result c.args.code.now c.put_output.new.code _ _
    (ap (λ o. output_for c.args.context.now c.args.slot (option_copied o)) (sym c.in-Some.is) ∙ c.expression_in.ensures c.args.context.now c.args.slot) c.put_output.ensures)

pub returns-in-None : goal.returns-in-None
returns-in-None c =
    rw c.in-TestPut.is
    (sym (joined_nothing c.args.code.now)
    ∙ ap (joined c.args.code.now) (ap (λ o. output_for c.args.context.now c.args.slot (option_copied o)) (sym c.in-None.is) ∙ c.expression_in.ensures c.args.context.now c.args.slot))

pub returns-in-Some-variable_in : goal.returns-in-Some-variable_in
returns-in-Some-variable_in c =
    rw c.in-TestGet.is
    (in_words c.put_input.result c.args.code.now c.put_input.new.code _ _
    (ap (λ o. input_for c.args.context.now c.args.slot o) (sym c.in-Some-variable_in.is) ∙ c.variable_in.ensures c.args.context.now c.args.slot) c.put_input.ensures)

pub returns-in-None-variable_in : goal.returns-in-None-variable_in
returns-in-None-variable_in c =
    rw c.in-TestGet.is
    (sym (joined_nothing c.args.code.now)
    ∙ ap (joined c.args.code.now) (ap (λ o. input_for c.args.context.now c.args.slot o) (sym c.in-None-variable_in.is) ∙ c.variable_in.ensures c.args.context.now c.args.slot))

pub returns-in_ok-put_call-in-Body : goal.returns-in_ok-put_call-in-Body
returns-in_ok-put_call-in-Body c =
    let k = c.args.slot in
    let t = body_target c.in-Body.field-0 c.in-Body.field-1 in
    let actuals = actuals_of c.args.actuals.now in
    rw c.in-Body.is
    (in_words c.put_backs.result c.args.code.now c.put_backs.new.code _ _ (body_called c.args.context.now k c.in-Body.field-0 c.in-Body.field-1 actuals)
    (then_put c.put_backs.result c.args.code.now c.put_call.new.code c.put_backs.new.code (call_for c.args.context.now k t actuals) (backs_for c.args.context.now k 0 (parameters_for c.args.context.now t) actuals)
    (rw c.in-Body.is at c.in_ok-put_call-in-Body.ensures) (rw c.in-Body.is at c.put_backs.ensures)))
