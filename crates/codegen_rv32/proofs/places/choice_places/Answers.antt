use Rattle.std.proofs.Common.{arith}
use Rattle.kernel_code.specs.Code.{code_length}
use Rattle.codegen_rv32.proofs.places.choice_places.Goals as goal

pub returns : goal.returns
returns c =
    let test_end = c.in_ok-test_end.ensures.number in
    let otherwise = c.in_ok-otherwise.ensures (code_length c.args.if_true.now) c.code_length.ensures in
    let past = c.in_ok-past.ensures (code_length c.args.if_false.now) c.code_length-2.ensures in
    record {
      inside = omega (arith, test_end);
      otherwise = omega (arith, test_end, otherwise);
      past = omega (arith, test_end, otherwise, past);
    }
