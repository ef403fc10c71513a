use Rattle.std.proofs.Common.{sym, subst}
use Rattle.ada_rules.specs.Legal.{after_names}
use Rattle.walked_program.specs.Checking.{IsRefusal}
use Rattle.walked_program.proofs.CheckedLaws.{types_refused}
use Rattle.checker.proofs.whole.typed.Goals as goal

pub returns-in-Err : goal.returns-in-Err
returns-in-Err c l whole =
    subst (IsRefusal (after_names l c.args.main.now)) (sym c.typing.ensures)
    (types_refused l c.args.main.now c.in-Err.failure (c.in-Err.ensures l whole))
