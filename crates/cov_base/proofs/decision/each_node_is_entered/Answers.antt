use Rattle.std.proofs.Common.{suc, arith}
use Rattle.cov_base.proofs.Reached.{node_entered}
use Rattle.cov_base.proofs.decision.each_node_is_entered.Goals as goal

pub returns : goal.returns
returns c e k below =
    let enters = node_entered e (suc k) (omega arith) below in
    (enters.at_node, enters.value, enters.leads)
