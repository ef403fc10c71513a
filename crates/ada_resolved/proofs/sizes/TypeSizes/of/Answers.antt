use Rattle.std.proofs.Common.{◌∙◌, [], length, ap}
use Rattle.ada_resolved.proofs.Rows.{rows_are}
use Rattle.ada_resolved.proofs.sizes.TypeSizes.of.Goals as goal

pub invariant_of-result : goal.invariant_of-result
invariant_of-result c = record {
  instances = c.in_ok-instance_count.ensures ∙ ap length c.as_slice.ensures;
  exact = c.in_ok-table_of.ensures ∙ rows_are c.args.program.now [] c.args.program.now.types;
}
