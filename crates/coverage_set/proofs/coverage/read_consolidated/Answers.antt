use Rattle.std.proofs.Common.{rules, arith}
use Rattle.std.proofs.lemmas.Grind.{common_steps}
use Rattle.coverage_set.proofs.OneFile.{listed_file}
use Rattle.coverage_set.proofs.Possible.{listed_possible}
use Rattle.coverage_set.proofs.coverage.read_consolidated.Goals as goal

pub invariant_of-result : goal.invariant_of-result
invariant_of-result c =
    rw c.object.ensures (λ e some. listed_possible c.args.map.now c.in_ok-view.view c.in_ok-fit.ensures.fits e ((c.in_ok-events.ensures e).0 some))

pub returns-clause-file : goal.returns-clause-file
returns-clause-file c =
    rw c.object.ensures
    (listed_file c.in_ok-view.view (record { object = c.args.map.now; runs = c.in_ok-runs.runs; events = c.in_ok-events.events }) c.args.bytes.now
    c.in_ok-view.ensures.found.0 c.in_ok-view.ensures.found.1 c.in_ok-fit.ensures.fits.own c.in_ok-runs.ensures c.in_ok-events.ensures)

pub returns-in_err-fit : goal.returns-in_err-fit
returns-in_err-fit c = search rules

pub returns-clause-read : goal.returns-clause-read
returns-clause-read c = grind (arith, common_steps)
