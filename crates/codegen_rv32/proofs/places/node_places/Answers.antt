use Rattle.std.proofs.Common.{arith}
use Rattle.kernel_code.specs.Code.{code_length}
use Rattle.codegen_rv32.proofs.places.node_places.Goals as goal

pub returns : goal.returns
returns c =
    let end = c.in_ok-end.ensures (code_length c.args.node.now.operand) c.code_length.ensures in
    let next = c.in_ok-next.ensures.number in
    record {
      taken = omega (arith, end, next);
      next = omega (arith, end, next);
      on_true = c.in_ok-on_true.ensures;
      on_false = c.in_ok-on_false.ensures;
    }
