use Rattle.std.proofs.Common.{length, sym, ap, ◌∙◌}
use Rattle.std.proofs.lemmas.List.{length-map}
use Rattle.ada_entities.specs.EntityViews.{named}
use Rattle.specifications.specs.Passing.{formals_seen}
use Rattle.specifications.proofs.passing.count_formals.Goals as goal

pub returns-in-Some : goal.returns-in-Some
returns-in-Some c k =
    c.len.ensures ∙ sym (length-map c.in-Some.formals.now (named k)) ∙ ap (λ o. length (formals_seen k o)) (sym c.in-Some.is)
