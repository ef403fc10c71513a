use Rattle.commands.proofs.CoveringLaws.{bad_list}
use Rattle.commands.proofs.ready.traces.listed_in.Goals as goal

pub returns-in-Err-clause-refused : goal.returns-in-Err-clause-refused
returns-in-Err-clause-refused c =
    bad_list c.args.number c.args.decisions.now c.args.bytes.now c.in-Err.failure c.refused_consolidated.result
    c.in-Err.ensures.refused c.refused_consolidated.ensures
