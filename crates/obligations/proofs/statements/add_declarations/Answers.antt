use Rattle.std.proofs.Common.{[], ◌∷◌, arith, ◌∙◌}
use Rattle.obligations.specs.Entries.{of_declarations}
use Rattle.obligations.proofs.Lists.{one_more, none_left, nothing_listed, declarations_front}
use Rattle.obligations.proofs.statements.add_declarations.Goals as goal

pub loop-declaration-preserved : goal.loop-declaration-preserved
loop-declaration-preserved c =
    let d = c.declaration-item.result in
    one_more of_declarations (λ x. of_declarations (x ∷ [])) declarations_front
    c.args.declarations.now c.loop-declaration.declaration-index d d _ _ c.loop-declaration-test.true c.declaration-item.is c.in_ok-add_declaration.ensures
    ∙ c.loop-declaration.invariant

pub returns : goal.returns
returns c =
    none_left of_declarations nothing_listed
    c.args.declarations.now c.loop-declaration.declaration-index _ _ (omega (arith, c.loop-declaration-test.false)) c.loop-declaration.invariant
