use Rattle.std.proofs.Common.{◌+◌, drop, arith}
use Rattle.std.proofs.lemmas.Grind.{common_steps}
use Rattle.cov_base.specs.Expr.{size}
use Rattle.cov_base.specs.Path.{IsPathVector}
use Rattle.json_report.specs.Distinct.{distinct}
use Rattle.json_report.proofs.Added.{added_paths, everywhere_at, all_more}
use Rattle.json_report.proofs.Distinctness.{rises_more}
use Rattle.json_report.proofs.vectors.distinct.Goals as goal

pub loop-vector-preserved : goal.loop-vector-preserved
loop-vector-preserved c =
    let e = c.requires.graph.0 in
    record {
      within = grind (arith, common_steps);
      paths = added_paths c.args.dec.now (size e) _ c.loop-vector.kept.items c.add.new.kept.items
          (everywhere_at (IsPathVector c.args.dec.now) c.args.vectors.now c.loop-vector.vector-index _ (drop (c.loop-vector.vector-index + 1) c.args.vectors.now) c.requires.vectors (grind (arith, common_steps)))
          c.loop-vector.invariant.paths (c.in_ok-add.ensures e c.requires.graph.1 (c.loop-vector.invariant.rises e c.requires.graph.1));
      rises = λ e is. rises_more (size e) _ c.loop-vector.kept.items c.add.new.kept.items (c.loop-vector.invariant.rises e is)
          (c.in_ok-add.ensures e is (c.loop-vector.invariant.rises e is));
      rest = λ e is. all_more (size e) c.args.vectors.now c.loop-vector.vector-index _ c.loop-vector.kept.items c.add.new.kept.items (distinct (size e) c.args.vectors.now)
          (drop (c.loop-vector.vector-index + 1) c.args.vectors.now)
          (c.in_ok-add.ensures e is (c.loop-vector.invariant.rises e is)) (c.loop-vector.invariant.rest e is) (grind (arith, common_steps));
    }
