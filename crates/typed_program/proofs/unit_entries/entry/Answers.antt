use Rattle.typed_program.proofs.EntryLaws.{is_entry}
use Rattle.typed_program.proofs.unit_entries.entry.Goals as goal

pub returns : goal.returns
returns c =
    is_entry c.args.library.now c.args.symbols.now.units c.args.number c.args.unit.now c.node_count.result c.in_ok-role.role c.node_count.ensures
    c.in_ok-role.ensures
