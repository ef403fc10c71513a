use Rattle.std.proofs.Common.{arith}
use Rattle.kernel_ir.specs.TreeView.{nodes_of}
use Rattle.kernel_code.specs.Code.{nodes_length}
use Rattle.codegen_rv32.proofs.places.outcome_places.Goals as goal

pub returns : goal.returns
returns c =
    let true_at = c.in_ok-true_at.ensures (nodes_length (nodes_of c.args.nodes.now)) c.nodes_length.ensures in
    let past = c.in_ok-past.ensures.number in
    record {
      true_at = true_at;
      false_at = omega (arith, true_at, past);
      past = omega (arith, true_at, past);
    }
