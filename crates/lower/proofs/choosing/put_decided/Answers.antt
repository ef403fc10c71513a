use Rattle.ada_tree.specs.View.{label_of}
use Rattle.kernel_ir.specs.Tree.{choose}
use Rattle.statement_code.specs.Values.{single}
use Rattle.lower.specs.Pieces.{decide_for}
use Rattle.lower.proofs.Building.{then_put}
use Rattle.lower.proofs.choosing.put_decided.Goals as goal

pub returns : goal.returns
returns c =
    then_put c.push.result c.args.code.now c.put_decision.new.code c.push.new.self
    (single (decide_for c.args.context.now c.args.slot (label_of c.args.decision.now.label) c.args.decision.now.test)) (single (choose c.args.slot c.args.if_true c.args.if_false))
    c.in_ok-put_decision.ensures c.push.ensures.ok
