use Rattle.std.proofs.Common.{Err, false, not, sym, ap, ◌∙◌, subst}
use Rattle.ada_rules.specs.Units.{has_main}
use Rattle.ada_entities.specs.Answers.{Refuses, refused_at}
use Rattle.checker.proofs.JudgedLaws.{absent_refused}
use Rattle.checker.proofs.steps.main_is_there.Goals as goal

pub returns-then-not-branch : goal.returns-then-not-branch
returns-then-not-branch c x =
    absent_refused (has_main c.args.main.now c.args.units.now) c.in_ok-has_main.field-0 x c.nowhere.result c.refused.result c.in_ok-has_main.ensures
    c.if-not-branch.true c.nowhere.ensures c.refused.ensures
