use Rattle.std.proofs.Common.{◌∙◌}
use Rattle.std.proofs.lemmas.Result.{err_from_is_err_and}
use Rattle.commands.proofs.CoveringLaws.{listed_added}
use Rattle.commands.proofs.ready.traces.add_consolidated.Goals as goal

pub returns-in_err-listed-clause-refused : goal.returns-in_err-listed-clause-refused
returns-in_err-listed-clause-refused c =
    let p = err_from_is_err_and c.from_residual.result c.from_residual.ensures.1 in
    rw (p.1, p.2) c.in_err-listed.ensures.refused

pub join-requires : goal.join-requires
join-requires c = c.in_ok-listed.ensures.read.object ∙ c.requires

pub returns-clause-fits : goal.returns-clause-fits
returns-clause-fits c =
    let read = c.in_ok-listed.ensures.read in
    record { file = read.file; read = read.is; fits = read.fits }

pub returns-clause-added : goal.returns-clause-added
returns-clause-added c =
    listed_added c.args.decisions.now c.args.coverage.now c.in_ok-listed.listed c.join.new.self c.args.bytes.now
    c.in_ok-listed.ensures.read c.in_ok-join.ensures.ok
