use Rattle.std.proofs.Common.{rules}
use Rattle.std.proofs.Common.{subst}
use Rattle.object_format.specs.declared.object.Object.{Object}
use Rattle.coverage_set.specs.Consolidated.{ArePossible}
use Rattle.coverage_set.proofs.Fitting.{history_kept}
use Rattle.coverage_set.proofs.Members.{in_either}
use Rattle.coverage_set.proofs.Possible.{said_possible}
use Rattle.coverage_set.proofs.coverage.Coverage.add_trace.Goals as goal

pub said-requires-clause-kept : goal.said-requires-clause-kept
said-requires-clause-kept c = history_kept c.args.map.now c.args.view.now c.requires.fits

pub grow-requires : goal.grow-requires
grow-requires c =
    subst (λ (o : Object). ArePossible o c.in_ok-found.found) c.requires.object
    (λ e there. said_possible c.args.map.now c.requires.sound c.args.view.now e ((c.in_ok-found.ensures.said e).0 there))

pub returns-clause-events : goal.returns-clause-events
returns-clause-events c = λ e. in_either _ _ _ _ (c.in_ok-grow.ensures.events e) (c.in_ok-found.ensures.said e)

pub returns-clause-runs : goal.returns-clause-runs
returns-clause-runs c = rw (← c.closing.ensures) c.in_ok-grow.ensures.runs

pub returns-in_err-grow : goal.returns-in_err-grow
returns-in_err-grow c = search rules

pub returns-in_err-found : goal.returns-in_err-found
returns-in_err-found c = search rules
