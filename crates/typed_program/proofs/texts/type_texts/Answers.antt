use Rattle.std.proofs.Common.{length, subst}
use Rattle.std.proofs.lemmas.Result.{IfOk-weaker}
use Rattle.ada_entities.specs.TypeTable.{tables}
use Rattle.typed_program.specs.TypeTexts.{AreAllTexts}
use Rattle.typed_program.proofs.TextLaws.{of_definitions}
use Rattle.typed_program.proofs.texts.type_texts.Goals as goal

pub returns : goal.returns
returns c =
    IfOk-weaker c.all_generics_among.result _ _
    (λ gs h.
    subst (λ t. AreAllTexts (length (tables t).shapes) c.args.walk.now.found.types.items gs.items) c.types.ensures
    (of_definitions (tables c.types.result.now) c.definitions-count.result.now c.args.walk.now.found.types.items gs.items c.definitions-count.ensures
    (subst (λ ts. AreAllTexts (length c.definitions-count.result.now) ts gs.items) c.as_slice.ensures.value h)))
    c.all_generics_among.ensures
