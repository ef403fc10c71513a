use Rattle.std.proofs.Common.{ap}
use Rattle.cov_base.proofs.Drops.{second_inside}
use Rattle.ada_syntax.proofs.expr.Expr.TheLaws.TheTie
use Rattle.ada_syntax.specs.declared.expr.Expr.TheDeep
use Rattle.ada_syntax.specs.contracts.expr.ExprKind
use borrow.Enum.Known
use contract.BorrowLft.{⊑_static}
use Rattle.ada_syntax.proofs.+expr.Goals as goal

pub expr::Expr::drop-drop-requires-3-2 : goal.expr::Expr::drop-drop-requires-3-2
expr::Expr::drop-drop-requires-3-2 t c κs =
    let held = TheTie.below-ExprKind (Known.at ExprKind.enum 4 c.drop-arg-4-1.given.0) in
    let kind = ap TheDeep.size-ExprKind c.drop-arg-4-1.given.1 in
    let inside = TheTie.below-Expr c.self.inside c.self.invariant in
    (((second_inside _ _ _ _ _ _ _ _ _ held kind inside (ap TheDeep.size-Expr c.self.view_is) c.requires-raw.0, tt), tt), (⊑_static κs.0, ⊑_static κs.1.0))

pub expr::Expr::drop-drop-requires-4-2 : goal.expr::Expr::drop-drop-requires-4-2
expr::Expr::drop-drop-requires-4-2 t c κs =
    let held = TheTie.below-ExprKind (Known.at ExprKind.enum 5 c.drop-arg-5-1.given.0) in
    let kind = ap TheDeep.size-ExprKind c.drop-arg-5-1.given.1 in
    let inside = TheTie.below-Expr c.self.inside c.self.invariant in
    (((second_inside _ _ _ _ _ _ _ _ _ held kind inside (ap TheDeep.size-Expr c.self.view_is) c.requires-raw.0, tt), tt), (⊑_static κs.0, ⊑_static κs.1.0))

pub expr::Expr::drop-drop-requires-6-2 : goal.expr::Expr::drop-drop-requires-6-2
expr::Expr::drop-drop-requires-6-2 t c κs =
    let held = TheTie.below-ExprKind (Known.at ExprKind.enum 7 c.drop-arg-7-1.given.0) in
    let kind = ap TheDeep.size-ExprKind c.drop-arg-7-1.given.1 in
    let inside = TheTie.below-Expr c.self.inside c.self.invariant in
    (((second_inside _ _ _ _ _ _ _ _ _ held kind inside (ap TheDeep.size-Expr c.self.view_is) c.requires-raw.0, tt), tt), (⊑_static κs.0, ⊑_static κs.1.0))
