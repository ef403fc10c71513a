use Rattle.decision_map.proofs.Ordered.{ordered_law}
use Rattle.decision_map.proofs.fit.check_object.Goals as goal

pub returns-then-ne-clause-ordered : goal.returns-then-ne-clause-ordered
returns-then-ne-clause-ordered c = ordered_law c.args.view.now.blocks c.object-kept.ensures.passed.passes.order

pub returns-clause-ordered : goal.returns-clause-ordered
returns-clause-ordered c = ordered_law c.args.view.now.blocks c.object-kept.ensures.passed.passes.order
