use Rattle.std.proofs.Common.{[], ◌∷◌}
use Rattle.ada_demands.specs.SpanViews.{listed}
use Rattle.ada_demands.proofs.SpanLaws.{begins_earlier}
use Rattle.ada_demands.proofs.spans.SpanTable.add.Goals as goal

pub returns-clause-begins : goal.returns-clause-begins
returns-clause-begins c = begins_earlier (listed c.args.self.now) (c.args.values ∷ []) c.push.new.self.items c.in_ok-push.ensures.items
