use Rattle.std.proofs.Common.{option_map, slice_get, sym, ap, ◌∙◌}
use Rattle.ada_entities.specs.EntityViews.{entity_of}
use Rattle.specifications.specs.Passing.{formals_seen}
use Rattle.specifications.proofs.PassingLaws.{formal_there}
use Rattle.specifications.proofs.passing.formal_at.Goals as goal

pub returns-in-Some : goal.returns-in-Some
returns-in-Some c k =
    ap (option_map (entity_of k)) c.at.ensures
    ∙ formal_there k c.in-Some.formals.now c.args.place
    ∙ ap (λ o. option_map (λ e. e.1) (slice_get (formals_seen k o) c.args.place)) (sym c.in-Some.is)
