use Rattle.std.proofs.Common.{ap, ◌∙◌, arith}
use Rattle.trace_format.specs.Checks.{trace_of}
use Rattle.trace_format.proofs.TraceLaws.{is_found, trace_again}
use Rattle.trace_format.proofs.view.TraceView.view.Goals as goal

pub returns-clause-found : goal.returns-clause-found
returns-clause-found c = is_found c.args.bytes.now c.checked.result (λ i. omega (arith, c.type_inv.bytes i)) c.checked.ensures

pub returns-clause-only : goal.returns-clause-only
returns-clause-only c = λ t is e. c.checked.ensures ∙ ap trace_of e ∙ trace_again t is
