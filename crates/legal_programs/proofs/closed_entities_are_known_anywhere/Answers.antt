use Rattle.legal_laws.specs.Known.{IsOneOf}
use Rattle.legal_programs.proofs.ClosedEntities.{entity_anywhere, entity_seen_closed}
use Rattle.legal_programs.proofs.closed_entities_are_known_anywhere.Goals as goal

pub returns-clause-anywhere : goal.returns-clause-anywhere
returns-clause-anywhere c =
    λ p i j types shape_there shape_of there sees shown shapes x whole closed h.
    entity_anywhere p i j (IsOneOf types) shape_there shape_of (IsOneOf there) (IsOneOf sees) shown shapes x whole closed h

pub returns-clause-through : goal.returns-clause-through
returns-clause-through c = λ k actuals x h. entity_seen_closed k actuals x h
