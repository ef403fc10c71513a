use Rattle.std.proofs.Common.{[], ◌∷◌, ◌++◌, map, ap, ◌∙◌, refl, arith}
use Rattle.obligations.specs.declared.exceptions.NamedException.{NamedException}
use Rattle.obligations.proofs.Growing.{one_grown, none_grown}
use Rattle.obligations.proofs.program.push_names.Goals as goal

pub loop-exception-preserved : goal.loop-exception-preserved
loop-exception-preserved c =
    let x = c.exception-item.result in
    one_grown (map (λ (y : NamedException). y.name)) (λ (y : NamedException). y.name ∷ []) (λ y ys. refl)
    c.args.exceptions.now c.loop-exception.exception-index x x _ _ c.loop-exception-test.true c.exception-item.is
    (c.in_ok-push.ensures.items ∙ ap (λ n. c.loop-exception.names.items ++ n ∷ []) (c.from.ensures ∙ c.in_ok-name.ensures.items ∙ c.as_slice.ensures))
    ∙ c.loop-exception.invariant

pub returns : goal.returns
returns c =
    none_grown (map (λ (y : NamedException). y.name)) refl
    c.args.exceptions.now c.loop-exception.exception-index _ _ (omega (arith, c.loop-exception-test.false)) c.loop-exception.invariant
