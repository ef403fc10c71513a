use Rattle.std.proofs.Common.{ap}
use Rattle.cov_base.proofs.Drops.{first_inside, second_inside}
use Rattle.ada_tree.proofs.expr.Expr.TheLaws.TheTie
use Rattle.ada_tree.specs.declared.expr.Expr.TheDeep
use Rattle.ada_tree.specs.contracts.expr.ExprKind
use Rattle.ada_tree.specs.contracts.expr.TestKind
use borrow.Enum.Known
use contract.BorrowLft.{⊑_static}
use Rattle.ada_tree.proofs.expr.+expr.Goals as goal

pub Expr::drop-drop-self-inside-requires : goal.Expr::drop-drop-self-inside-requires
Expr::drop-drop-self-inside-requires t c κs =
    let held = TheTie.below-ExprKind (Known.at ExprKind.enum 3 c.drop-arg-1.given.0) in
    let kind = ap TheDeep.size-ExprKind c.drop-arg-1.given.1 in
    let inside = TheTie.below-Expr c.self.inside c.self.invariant in
    (((first_inside _ _ _ _ _ _ _ _ held kind inside (ap TheDeep.size-Expr c.self.view_is) c.requires-raw.0, tt), tt), (⊑_static κs.0, ⊑_static κs.1.0))

pub Expr::drop-drop-requires : goal.Expr::drop-drop-requires
Expr::drop-drop-requires t c κs =
    let held = TheTie.below-ExprKind (Known.at ExprKind.enum 4 c.drop-arg-2-1.given.0) in
    let kind = ap TheDeep.size-ExprKind c.drop-arg-2-1.given.1 in
    let inside = TheTie.below-Expr c.self.inside c.self.invariant in
    (((first_inside _ _ _ _ _ _ _ _ held kind inside (ap TheDeep.size-Expr c.self.view_is) c.requires-raw.0, tt), tt), (⊑_static κs.0, ⊑_static κs.1.0))

pub Expr::drop-drop-requires-3-2 : goal.Expr::drop-drop-requires-3-2
Expr::drop-drop-requires-3-2 t c κs =
    let held = TheTie.below-ExprKind (Known.at ExprKind.enum 6 c.drop-arg-4-1.given.0) in
    let kind = ap TheDeep.size-ExprKind c.drop-arg-4-1.given.1 in
    let inside = TheTie.below-Expr c.self.inside c.self.invariant in
    (((second_inside _ _ _ _ _ _ _ _ _ held kind inside (ap TheDeep.size-Expr c.self.view_is) c.requires-raw.0, tt), tt), (⊑_static κs.0, ⊑_static κs.1.0))

pub Expr::drop-drop-requires-7 : goal.Expr::drop-drop-requires-7
Expr::drop-drop-requires-7 t c κs =
    let held = TheTie.below-ExprKind (Known.at ExprKind.enum 10 c.drop-arg-8-1.given.0) in
    let kind = ap TheDeep.size-ExprKind c.drop-arg-8-1.given.1 in
    let inside = TheTie.below-Expr c.self.inside c.self.invariant in
    (((first_inside _ _ _ _ _ _ _ _ held kind inside (ap TheDeep.size-Expr c.self.view_is) c.requires-raw.0, tt), tt), (⊑_static κs.0, ⊑_static κs.1.0))

pub Test::drop-drop-requires-2-2 : goal.Test::drop-drop-requires-2-2
Test::drop-drop-requires-2-2 t c κs =
    let held = TheTie.below-TestKind (Known.at TestKind.enum 2 c.drop-arg-3-1.given.0) in
    let kind = ap TheDeep.size-TestKind c.drop-arg-3-1.given.1 in
    let inside = TheTie.below-Test c.self.inside c.self.invariant in
    (((second_inside _ _ _ _ _ _ _ _ _ held kind inside (ap TheDeep.size-Test c.self.view_is) c.requires-raw.0, tt), tt), (⊑_static κs.0, ⊑_static κs.1.0))
