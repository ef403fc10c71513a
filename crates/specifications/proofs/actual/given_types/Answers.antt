use Rattle.std.proofs.Common.{Option, Some, ◌+◌, ◌++◌, drop, map, arith, refl, ap, ◌∙◌}
use Rattle.ada_rules.specs.Types.{AdaType}
use Rattle.ada_rules.specs.Entities.{given_type}
use Rattle.ada_entities.specs.declared.types.ScalarType.{ScalarType}
use Rattle.ada_entities.specs.Views.{given_of}
use Rattle.specifications.specs.declared.actual.InstanceActual.{InstanceActual}
use Rattle.specifications.specs.Actuals.{actual_of}
use Rattle.specifications.proofs.ActualLaws.{give_same}
use Rattle.specifications.proofs.Listing.{one_more, all_there}
use Rattle.specifications.proofs.actual.given_types.Goals as goal

pub loop-actual-preserved : goal.loop-actual-preserved
loop-actual-preserved c k =
    let gives : Option ScalarType → AdaType = λ t. given_type (Some (given_of t)) in
    let gives_too : InstanceActual → AdaType = λ a. given_type (Some (actual_of k a)) in
    let xs = c.args.actuals.now in
    let i = c.loop-actual.actual-index in
    ap (λ ts. map gives ts ++ map gives_too (drop (i + 1) xs)) c.in_ok-push.ensures.items
    ∙ one_more gives gives_too xs c.loop-actual.types.items (map gives_too xs) i _ _ c.given.result (omega arith) refl (c.given.ensures k)
    (c.loop-actual.invariant k)

pub returns : goal.returns
returns c k =
    let gives : Option ScalarType → AdaType = λ t. given_type (Some (given_of t)) in
    let gives_too : InstanceActual → AdaType = λ a. given_type (Some (actual_of k a)) in
    let xs = c.args.actuals.now in
    rw c.from.ensures (give_same (actual_of k) given_of xs c.loop-actual.types.items
    (all_there gives gives_too xs c.loop-actual.types.items (map gives_too xs) c.loop-actual.actual-index (omega arith) (c.loop-actual.invariant k)))
