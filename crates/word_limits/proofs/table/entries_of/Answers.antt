use Rattle.std.proofs.Common.{sym, subst}
use Rattle.ada_tree.specs.Programs.{unfolded}
use Rattle.ada_tree.specs.View.{composite_of}
use Rattle.word_limits.specs.Rows.{AreEntries}
use Rattle.word_limits.proofs.RowLaws.{entries_more}
use Rattle.word_limits.proofs.table.entries_of.Goals as goal

pub loop-instance-preserved : goal.loop-instance-preserved
loop-instance-preserved c ts rows =
    let is = c.args.instances.now in
    let t = unfolded ts (composite_of c.args.composite.now) in
    subst (AreEntries is t) (sym c.in_ok-push.ensures.items)
    (entries_more is t c.loop-instance.entries.items c.in_ok-entry_of.field-0 (c.loop-instance.invariant ts rows) (c.in_ok-entry_of.ensures ts rows))
