use Rattle.std.proofs.Common.{◌∙◌, ap, length, map}
use Rattle.std.proofs.lemmas.List.{drop_all}
use Rattle.serde_json.specs.View.{view}
use Rattle.cov_base.specs.Expr.{size}
use Rattle.cov_base.proofs.Edges.{length_graph}
use Rattle.json_report.specs.Distinct.{distinct}
use Rattle.json_report.proofs.Added.{values_are}
use Rattle.json_report.proofs.vectors.vector_values.Goals as goal

pub returns : goal.returns
returns c = λ e is.
    values_are (map view c.loop-vector.values.items) c.as_slice-vector-items.result.now (distinct (size e) c.args.vectors.now)
    c.loop-vector.vector-index (length c.args.dec.now) (size e) c.loop-vector.invariant.rest
    (drop_all c.loop-vector.vector-index c.as_slice-vector-items.result.now c.loop-vector-test.false)
    (c.as_slice-vector-items.ensures.value ∙ c.in_ok-kept.ensures e is) (ap length is ∙ length_graph e)
