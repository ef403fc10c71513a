use Rattle.std.proofs.Common.{◌≡◌, ◌++◌, ◌∷◌, [], length, Some, arith, sym, ap, ◌∙◌, subst, option_map}
use Rattle.ada_rules.specs.Library.{picked, ordered_from}
use Rattle.ada_library.specs.Depending.{taken}
use Rattle.ada_library.specs.Marking.{AreMarked}
use Rattle.ada_library.proofs.OrderLaws.{picked_shorter, ordered_more, marked_last}
use Rattle.ada_library.proofs.ordering.dependency_order.Goals as goal

pub loop-unit-smaller : goal.loop-unit-smaller
loop-unit-smaller c =
    let g = c.args.graph.now in
    let order = c.loop-unit.order.items in
    let rest = c.loop-unit.rest.items in
    let p = taken c.pick.new.rest.items c.in-Some.unit in
    let is : picked g order rest ≡ Some p = c.pick.ensures order c.loop-unit.invariant.marked ∙ ap (option_map (taken c.pick.new.rest.items)) c.in-Some.is in
    omega (arith, picked_shorter g order rest p is)

pub loop-unit-preserved : goal.loop-unit-preserved
loop-unit-preserved c =
    let g = c.args.graph.now in
    let order = c.loop-unit.order.items in
    let rest = c.loop-unit.rest.items in
    let p = taken c.pick.new.rest.items c.in-Some.unit in
    let is : picked g order rest ≡ Some p = c.pick.ensures order c.loop-unit.invariant.marked ∙ ap (option_map (taken c.pick.new.rest.items)) c.in-Some.is in
    let put : c.push.new.self.items ≡ order ++ c.in-Some.unit ∷ [] = c.in_ok-push.ensures.items in
    record {
      ordered =
          ap (λ o. ordered_from g (length p.others) o p.others) put
          ∙ (sym (ordered_more g order rest p is) ∙ c.loop-unit.invariant.ordered);
      marked = subst (λ o. AreMarked o c.put.new.self) (sym put)
          (marked_last order c.in-Some.unit c.loop-unit.done c.put.new.self c.loop-unit.invariant.marked c.in_ok-put.ensures);
    }
