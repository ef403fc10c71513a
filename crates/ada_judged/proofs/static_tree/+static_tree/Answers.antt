use Rattle.std.proofs.Common.{ap}
use Rattle.cov_base.proofs.Drops.{second_inside}
use Rattle.ada_judged.proofs.static_tree.StaticTree.TheLaws.TheTie
use Rattle.ada_judged.specs.declared.static_tree.StaticTree.TheDeep
use Rattle.ada_judged.specs.contracts.static_tree.StaticKind
use borrow.Enum.Known
use contract.BorrowLft.{⊑_static}
use Rattle.ada_judged.proofs.static_tree.+static_tree.Goals as goal

pub StaticTree::drop-drop-requires-2 : goal.StaticTree::drop-drop-requires-2
StaticTree::drop-drop-requires-2 t c κs =
    let held = TheTie.below-StaticKind (Known.at StaticKind.enum 3 c.drop-arg-2-1.given.0) in
    let kind = ap TheDeep.size-StaticKind c.drop-arg-2-1.given.1 in
    let inside = TheTie.below-StaticTree c.self.inside c.self.invariant in
    (((second_inside _ _ _ _ _ _ _ _ _ held kind inside (ap TheDeep.size-StaticTree c.self.view_is) c.requires-raw.0, tt), tt), (⊑_static κs.0, ⊑_static κs.1.0))
