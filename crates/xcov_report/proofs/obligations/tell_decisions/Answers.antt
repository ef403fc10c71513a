use Rattle.std.proofs.Common.{◌<◌, ◌∙◌, [], length, sym, subst, arith}
use Rattle.std.proofs.lemmas.List.{get_or_read}
use Rattle.cov_base.specs.Graph.{graph}
use Rattle.cov_base.specs.Lists.{Everywhere}
use Rattle.cov_base.specs.Path.{IsPathVector}
use Rattle.annotated_report.specs.Findings.{expr_of}
use Rattle.annotated_report.proofs.Spelled.{spelled_at, placed_at, paths_at, item_at}
use Rattle.std.proofs.lemmas.Grind.{common_steps}
use Rattle.xcov_report.proofs.obligations.tell_decisions.Goals as goal

pub tell_decision-requires-clause-spelled : goal.tell_decision-requires-clause-spelled
tell_decision-requires-clause-spelled c =
    let at = item_at c.args.decisions.now c.loop-number.number c.index-decisions-number.result c.loop-number-test.true c.index-decisions-number.is in
    spelled_at c.index-decisions-number.result _ (c.requires.evaluated c.loop-number.number c.index-decisions-number.result at)

pub tell_decision-requires-clause-placed : goal.tell_decision-requires-clause-placed
tell_decision-requires-clause-placed c =
    let at = item_at c.args.decisions.now c.loop-number.number c.index-decisions-number.result c.loop-number-test.true c.index-decisions-number.is in
    placed_at c.index-decisions-number.result _ (c.requires.evaluated c.loop-number.number c.index-decisions-number.result at)

pub tell_decision-requires-clause-paths : goal.tell_decision-requires-clause-paths
tell_decision-requires-clause-paths c =
    let entry = c.index-decisions-number.result in
    let at = item_at c.args.decisions.now c.loop-number.number entry c.loop-number-test.true c.index-decisions-number.is in
    let within : c.loop-number.number < length c.args.evaluations.now = omega (arith, c.loop-number-test.true, c.requires.length) in
    let same = c.as_slice.ensures ∙ get_or_read c.args.evaluations.now c.loop-number.number _ within c.index-evaluations-number.is [] in
    subst (λ vectors. Everywhere (IsPathVector (graph (expr_of entry))) vectors) (sym same)
    (paths_at entry _ (c.requires.evaluated c.loop-number.number entry at))

pub loop-number-preserved : goal.loop-number-preserved
loop-number-preserved c = grind (arith, common_steps)
