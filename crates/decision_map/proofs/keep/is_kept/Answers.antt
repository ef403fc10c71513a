use Rattle.decision_map.proofs.Keeping.{tree_beyond}
use Rattle.decision_map.proofs.keep.is_kept.Goals as goal

pub returns-in-None : goal.returns-in-None
returns-in-None c =
    rw (← c.in-Some.ensures, tree_beyond c.args.object.now c.args.graphs.now c.in-Some.condition.decision.0 c.requires c.in-None.ensures.lookup.3)
