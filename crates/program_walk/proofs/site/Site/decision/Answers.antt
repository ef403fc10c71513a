use Rattle.program_walk.specs.Exact.{exact}
use Rattle.program_walk.proofs.site.Site.decision.Goals as goal

pub returns : goal.returns
returns c k env s h = c.decision.ensures (exact c.args.self.now.symbols.now k.spans) env s (c.scope.ensures k env h)
