use Rattle.std.proofs.Common.{◌∙◌, refl, arith}
use Rattle.ada_tree.specs.declared.program.ExceptionDeclaration.{ExceptionDeclaration}
use Rattle.obligations.specs.Exceptions.{of_declaration, of_declarations}
use Rattle.obligations.proofs.Growing.{one_grown, none_grown}
use Rattle.obligations.proofs.exceptions.declared.Goals as goal

pub loop-declaration-preserved : goal.loop-declaration-preserved
loop-declaration-preserved c =
    let is = c.args.instances.now in
    let d = c.declaration-item.result in
    one_grown (λ ds. of_declarations ds is) (λ (x : ExceptionDeclaration). of_declaration x.generic x is) (λ x xs. refl)
    c.args.declared.now c.loop-declaration.declaration-index d d _ _ c.loop-declaration-test.true c.declaration-item.is c.in_ok-push_declared.ensures
    ∙ c.loop-declaration.invariant

pub returns : goal.returns
returns c =
    none_grown (λ ds. of_declarations ds c.args.instances.now) refl
    c.args.declared.now c.loop-declaration.declaration-index _ _ (omega (arith, c.loop-declaration-test.false)) c.loop-declaration.invariant
