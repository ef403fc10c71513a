use Rattle.std.proofs.Common.{◌+◌}
use Rattle.std.proofs.lemmas.Result.{on_ok_weaker}
use Rattle.kernel_ir.specs.declared.simple.Operator.TheVariants as operators
use Rattle.kernel_code.proofs.LineParts.{three_parts, operator_put}
use Rattle.kernel_code.proofs.emitter.Emitter.arithmetic.Goals as goal

pub returns-in-Add : goal.returns-in-Add
returns-in-Add c =
    on_ok_weaker c.add.result
    (λ h. rw c.in-Add.is (three_parts _ _ _ _ _ _ _ c.in_ok-load_left.ensures c.in_ok-load_right.ensures h))
    c.add.ensures

pub returns-in-Subtract : goal.returns-in-Subtract
returns-in-Subtract c =
    on_ok_weaker c.subtract.result
    (λ h. rw c.in-Subtract.is (three_parts _ _ _ _ _ _ _ c.in_ok-load_left.ensures c.in_ok-load_right.ensures h))
    c.subtract.ensures

pub returns-in-Multiply : goal.returns-in-Multiply
returns-in-Multiply c =
    on_ok_weaker c.multiply.result
    (λ h. rw c.in-Multiply.is (three_parts _ _ _ _ _ _ _ c.in_ok-load_left.ensures c.in_ok-load_right.ensures h))
    c.multiply.ensures

pub returns-in-Divide : goal.returns-in-Divide
returns-in-Divide c =
    on_ok_weaker c.divide.result
    (λ h. rw c.in-Divide.is (three_parts _ _ _ _ _ _ _ c.in_ok-load_left.ensures c.in_ok-load_right.ensures
    (operator_put operators.Divide (c.args.place + 17) c.args.to c.args.raise_to _ _ h)))
    c.divide.ensures

pub returns-in-Modulo : goal.returns-in-Modulo
returns-in-Modulo c =
    on_ok_weaker c.modulo.result
    (λ h. rw c.in-Modulo.is (three_parts _ _ _ _ _ _ _ c.in_ok-load_left.ensures c.in_ok-load_right.ensures
    (operator_put operators.Modulo (c.args.place + 9) c.args.to c.args.raise_to _ _ h)))
    c.modulo.ensures

pub returns-in-Remainder : goal.returns-in-Remainder
returns-in-Remainder c =
    on_ok_weaker c.remainder.result
    (λ h. rw c.in-Remainder.is (three_parts _ _ _ _ _ _ _ c.in_ok-load_left.ensures c.in_ok-load_right.ensures h))
    c.remainder.ensures
