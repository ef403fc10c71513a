use Rattle.std.proofs.Common.{ap, subst, ◌∙◌, arith}
use Rattle.object_format.specs.File.{structured}
use Rattle.spelling.specs.Outcome.{Delivers}
use Rattle.object_format.proofs.FileLaws.{delivers_found, structured_only}
use Rattle.object_format.proofs.structure.structure.Goals as goal

pub returns-clause-found : goal.returns-clause-found
returns-clause-found c = delivers_found c.args.bytes.now c.layered.result (λ i. omega (arith, c.type_inv.bytes i)) c.layered.ensures

pub returns-clause-only : goal.returns-clause-only
returns-clause-only c = λ o is e. subst (λ r. Delivers (λ o. o) c.layered.result r) (ap structured e ∙ structured_only o is) c.layered.ensures
