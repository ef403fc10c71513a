use Rattle.std.proofs.Common.{arith}
use Rattle.kernel_code.specs.Code.{code_length}
use Rattle.codegen_rv32.proofs.places.handler_places.Goals as goal

pub returns : goal.returns
returns c =
    let end = c.in_ok-end.ensures (code_length c.args.body.now) c.code_length.ensures in
    let handled = c.in_ok-handled.ensures.number in
    let past = c.in_ok-past.ensures (code_length c.args.handler.now) c.code_length-2.ensures in
    record {
      caught = omega (arith, end, handled);
      handled = omega (arith, end, handled);
      past = omega (arith, end, handled, past);
    }
