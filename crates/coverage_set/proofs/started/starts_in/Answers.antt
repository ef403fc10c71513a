use Rattle.std.proofs.Common.{arith}
use Rattle.std.proofs.lemmas.Grind.{common_steps}
use Rattle.coverage_set.proofs.Starts.{one_row, row_there}
use Rattle.coverage_set.proofs.started.starts_in.Goals as goal

pub loop-row-preserved : goal.loop-row-preserved
loop-row-preserved c = record {
  within = c.first_reaching-block.ensures.within;
  rest = one_row c.args.view.now.blocks c.args.object.now.rows c.loop-row.row-index c.loop-row.block c.first_reaching-block.result
      _ c.is_covered_at.result c.loop-row.events.items c.add_start.new.events.items _ c.requires.row.rising
      (row_there c.args.object.now.rows c.as_slice-row-items.result.now c.loop-row.row-index _ c.as_slice-row-items.ensures c.loop-row-test.true) c.first_reaching-block.ensures.passed
      c.is_covered_at.ensures c.in_ok-add_start.ensures c.loop-row.invariant.rest;
}

pub returns : goal.returns
returns c = grind (arith, common_steps) steps 2000000
