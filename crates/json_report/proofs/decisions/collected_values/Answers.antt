use Rattle.std.proofs.Common.{◌<◌, ◌∙◌, [], length, sym, subst, arith}
use Rattle.std.proofs.lemmas.Grind.{common_steps}
use Rattle.std.proofs.lemmas.List.{get_or_read}
use Rattle.cov_base.specs.Graph.{graph}
use Rattle.cov_base.specs.Lists.{Everywhere}
use Rattle.cov_base.specs.Path.{IsPathVector}
use Rattle.annotated_report.specs.Findings.{expr_of}
use Rattle.annotated_report.proofs.Spelled.{spelled_at, placed_at, paths_at, item_at}
use Rattle.json_report.proofs.decisions.collected_values.Goals as goal

pub add_decision-requires-clause-spelled : goal.add_decision-requires-clause-spelled
add_decision-requires-clause-spelled c =
    let at = item_at c.args.entries.now c.loop-d.d c.index-entries-d.result c.loop-d-test.true c.index-entries-d.is in
    spelled_at c.index-entries-d.result _ (c.requires.evaluated c.loop-d.d c.index-entries-d.result at)

pub add_decision-requires-clause-placed : goal.add_decision-requires-clause-placed
add_decision-requires-clause-placed c =
    let at = item_at c.args.entries.now c.loop-d.d c.index-entries-d.result c.loop-d-test.true c.index-entries-d.is in
    placed_at c.index-entries-d.result _ (c.requires.evaluated c.loop-d.d c.index-entries-d.result at)

pub add_decision-requires-clause-paths : goal.add_decision-requires-clause-paths
add_decision-requires-clause-paths c =
    let entry = c.index-entries-d.result in
    let at = item_at c.args.entries.now c.loop-d.d entry c.loop-d-test.true c.index-entries-d.is in
    let within : c.loop-d.d < length c.args.evaluations.now = omega (arith, c.loop-d-test.true, c.requires.length) in
    let same = c.as_slice-vectors.ensures ∙ get_or_read c.args.evaluations.now c.loop-d.d _ within c.index-evaluations-d.is [] in
    subst (λ vectors. Everywhere (IsPathVector (graph (expr_of entry))) vectors) (sym same)
    (paths_at entry _ (c.requires.evaluated c.loop-d.d entry at))

pub loop-d-preserved : goal.loop-d-preserved
loop-d-preserved c = grind (arith, common_steps)
