use Rattle.std.proofs.Common.{ap, ◌∙◌, arith}
use Rattle.trace_format.specs.ConsolidatedChecks.{consolidated_of}
use Rattle.trace_format.proofs.ConsolidatedLaws.{is_found, consolidated_again}
use Rattle.trace_format.proofs.consolidated.view.ConsolidatedView.view.Goals as goal

pub returns-clause-found : goal.returns-clause-found
returns-clause-found c = is_found c.args.bytes.now c.checked.result (λ i. omega (arith, c.type_inv.bytes i)) c.checked.ensures

pub returns-clause-only : goal.returns-clause-only
returns-clause-only c = λ f is e. c.checked.ensures ∙ ap consolidated_of e ∙ consolidated_again f is
