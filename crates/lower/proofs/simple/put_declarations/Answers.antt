use Rattle.std.proofs.Common.{map, refl, ◌∙◌, arith}
use Rattle.ada_tree.specs.View.{declaration_of}
use Rattle.lower.specs.Stated.{declaration_for, declarations_for}
use Rattle.lower.proofs.Building.{none_left, one_more}
use Rattle.lower.proofs.simple.put_declarations.Goals as goal

pub loop-declaration-preserved : goal.loop-declaration-preserved
loop-declaration-preserved c =
    let k = c.args.slot in
    one_more (λ xs. declarations_for c.args.context.now k (map declaration_of xs)) (λ x. declaration_for c.args.context.now k (declaration_of x)) (λ x xs. refl) c.args.declarations.now c.loop-declaration.declaration-index
    c.declaration-item.result c.declaration-item.result _ _ c.loop-declaration-test.true c.declaration-item.is c.in_ok-put_declaration.ensures
    ∙ c.loop-declaration.invariant

pub returns : goal.returns
returns c =
    none_left (λ xs. declarations_for c.args.context.now c.args.slot (map declaration_of xs)) refl c.args.declarations.now c.loop-declaration.declaration-index _ _
    (omega (arith, c.loop-declaration-test.false)) c.loop-declaration.invariant
