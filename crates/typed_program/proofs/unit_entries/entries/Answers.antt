use Rattle.std.proofs.Common.{arith}
use Rattle.typed_program.proofs.EntryLaws.{none_so_far, one_more, all_entered}
use Rattle.typed_program.proofs.unit_entries.entries.Goals as goal

pub loop-index-init : goal.loop-index-init
loop-index-init c = none_so_far c.args.library.now c.args.symbols.now.units c.args.units.now c.new-entries.result.items c.new-entries.ensures.items

pub loop-index-preserved : goal.loop-index-preserved
loop-index-preserved c =
    one_more c.args.library.now c.args.symbols.now.units c.args.units.now c.loop-index.index c.loop-index.entries.items c.push.new.self.items
    c.in_ok-number.number c.index-units-index.result c.in_ok-entry.entry c.loop-index.invariant (omega arith) c.index-units-index.is
    c.in_ok-number.ensures.number c.in_ok-entry.ensures c.in_ok-push.ensures.items

pub returns : goal.returns
returns c =
    all_entered c.args.library.now c.args.symbols.now.units c.args.units.now c.loop-index.index c.loop-index.entries.items
    c.loop-index.invariant (omega arith)
