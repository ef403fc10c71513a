use Rattle.std.proofs.Common.{option_map, sym, ap, ◌∙◌}
use Rattle.std.proofs.lemmas.Result.{err_from_is_err_and}
use Rattle.ada_entities.specs.Answers.{no_memory}
use Rattle.ada_entities.specs.EntityViews.{entity_of}
use Rattle.ada_phrases.proofs.Parts.{answers_as}
use Rattle.specifications.specs.Generics.{itself}
use Rattle.specifications.proofs.GenericLaws.{unseen, seen_as}
use Rattle.specifications.proofs.generics.generic_named.Goals as goal

pub returns-in_err-entity : goal.returns-in_err-entity
returns-in_err-entity c k env h =
    let e = err_from_is_err_and c.from_residual.result c.from_residual.ensures.1 in
    rw (e.1, e.2) no_memory

pub returns-in_default : goal.returns-in_default
returns-in_default c k env h =
    rw c.refused.ensures
    (unseen env c.args.name.now (sym (c.in_ok-entity.ensures k env h) ∙ ap (option_map (entity_of k)) c.in_default.is))

pub returns : goal.returns
returns c k env h =
    answers_as itself _ _ c.generic_or_any.result
    (seen_as env c.args.name.now (entity_of k c.in-Some.entity) c.generic_of.result
    (sym (c.in_ok-entity.ensures k env h) ∙ ap (option_map (entity_of k)) c.in-Some.is) (c.generic_of.ensures k env.world h.units))
    (c.generic_or_any.ensures env h.step)
