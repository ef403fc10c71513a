use Rattle.std.proofs.Common.{ap}
use Rattle.cov_base.proofs.Drops.{first_falls, second_falls, third_falls}
use Rattle.ada_syntax.proofs.statement.HandledStatements.TheLaws.TheTie
use Rattle.ada_syntax.specs.declared.statement.HandledStatements.TheDeep
use Rattle.ada_syntax.specs.contracts.statement.StatementKind
use borrow.Enum.Known
use contract.BorrowLft.{⊑_static}
use Rattle.ada_syntax.proofs.statement.+statement.Goals as goal

pub StatementKind::drop-drop-self-requires-in-If-2 : goal.StatementKind::drop-drop-self-requires-in-If-2
StatementKind::drop-drop-self-requires-in-If-2 t c κs = (
  ((second_falls _ _ _ _ _ _ (TheTie.below-StatementKind (Known.at StatementKind.enum 4 c.self-in-If-1.given.0)) (ap TheDeep.size-StatementKind c.self-in-If-1.given.1) c.requires-raw.0, tt), tt),
  (⊑_static κs.0, ⊑_static κs.1.0),
)

pub StatementKind::drop-drop-self-requires-in-If-3 : goal.StatementKind::drop-drop-self-requires-in-If-3
StatementKind::drop-drop-self-requires-in-If-3 t c κs = (
  ((third_falls _ _ _ _ _ _ _ (TheTie.below-StatementKind (Known.at StatementKind.enum 4 c.self-in-If-1.given.0)) (ap TheDeep.size-StatementKind c.self-in-If-1.given.1) c.requires-raw.0, tt), tt),
  (⊑_static κs.0, ⊑_static κs.1.0),
)

pub StatementKind::drop-drop-self-requires-in-Case-2 : goal.StatementKind::drop-drop-self-requires-in-Case-2
StatementKind::drop-drop-self-requires-in-Case-2 t c κs = (
  ((first_falls _ _ _ _ _ (TheTie.below-StatementKind (Known.at StatementKind.enum 5 c.self-in-Case-1.given.0)) (ap TheDeep.size-StatementKind c.self-in-Case-1.given.1) c.requires-raw.0, tt), tt),
  (⊑_static κs.0, ⊑_static κs.1.0),
)

pub StatementKind::drop-drop-self-requires-in-Loop-2 : goal.StatementKind::drop-drop-self-requires-in-Loop-2
StatementKind::drop-drop-self-requires-in-Loop-2 t c κs = (
  ((first_falls _ _ _ _ _ (TheTie.below-StatementKind (Known.at StatementKind.enum 6 c.self-in-Loop-1.given.0)) (ap TheDeep.size-StatementKind c.self-in-Loop-1.given.1) c.requires-raw.0, tt), tt),
  (⊑_static κs.0, ⊑_static κs.1.0),
)
