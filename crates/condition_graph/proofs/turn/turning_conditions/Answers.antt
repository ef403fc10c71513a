use Rattle.cov_base.specs.Marks.{bit}
use Rattle.condition_graph.specs.declared.node.Next.TheVariants.{Node}
use Rattle.condition_graph.specs.declared.node.Exits.{Exits}
use Rattle.condition_graph.proofs.Findings.{finds_before}
use Rattle.condition_graph.proofs.turn.turning_conditions.Goals as goal

-- what a read past the last node would give
abbrev no_exits : Exits
no_exits = record { on_true = Node (record { 0 = 0 }); on_false = Node (record { 0 = 0 }) }

pub loop-number-preserved : goal.loop-number-preserved
loop-number-preserved c =
    let added = c.with_node-found in
    let finds = finds_before c.args.nodes.now c.loop-number.number no_exits c.args.v c.args.given
    (bit c.loop-number.found.leading) (bit c.loop-number.found.turning) (bit added.result.leading) (bit added.result.turning)
    c.loop-number-test.true c.loop-number.auto.number
    (record { leads = c.loop-number.invariant.leading; turns = c.loop-number.invariant.turning })
    (record { leads = added.ensures.leading; turns = added.ensures.turning }) in
    record { leading = finds.leads; turning = finds.turns }
