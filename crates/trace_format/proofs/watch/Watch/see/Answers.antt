use Rattle.std.proofs.Common.{refl, ap, ◌∙◌}
use Rattle.trace_format.specs.Watch.{kept}
use Rattle.trace_format.proofs.WatchLaws.{watched_more}
use Rattle.trace_format.proofs.watch.Watch.see.Goals as goal

pub returns : goal.returns
returns g c = λ seen watched few.
    watched_more g.C.Check.passes c.args.self.now.before _ c.args.self.now.at _ c.args.self.now.failing _ seen c.args.entry.now watched few refl c.saturating_add-self.ensures
    (c.first_of-self.ensures ∙ ap (λ b. kept c.args.self.now.failing b c.args.self.now.at) c.passes-passes.ensures)
