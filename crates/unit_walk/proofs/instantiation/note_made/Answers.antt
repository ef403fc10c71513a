use Rattle.std.proofs.Common.{sym, ap, ◌∙◌}
use Rattle.ada_demands.specs.StaticsViews.{noted}
use Rattle.program_walk.proofs.ChangeLaws.{on_ok}
use Rattle.unit_walk.specs.Instantiating.{with_made}
use Rattle.unit_walk.proofs.instantiation.note_made.Goals as goal

pub returns-in-Some : goal.returns-in-Some
returns-in-Some c =
    on_ok c.instantiate.result _ _
    (λ e k s. e k s ∙ ap (λ g. with_made g c.args.instance (noted k c.args.statics.now s)) (sym c.in-Some.is))
    c.instantiate.ensures
