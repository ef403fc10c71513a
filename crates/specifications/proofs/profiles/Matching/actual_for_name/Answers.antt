use Rattle.std.proofs.Common.{sym, ap, ◌∙◌}
use Rattle.ada_entities.specs.EntityViews.{entity_of}
use Rattle.ada_entities.specs.Views.{identity_of}
use Rattle.ada_phrases.specs.DenotedView.{denotes}
use Rattle.specifications.specs.Matches.{given_so_far, for_name}
use Rattle.specifications.proofs.profiles.Matching.actual_for_name.Goals as goal

pub returns-in-Mark : goal.returns-in-Mark
returns-in-Mark c known k b =
    let m = c.args.self.now in
    c.type_for.ensures k (identity_of c.in-Mark.field-0) m.instantiation.number (given_so_far m k)
    ∙ ap (λ x. for_name m k (entity_of k x) (denotes k c.args.denoted.now)) (sym c.in-Mark.is)
