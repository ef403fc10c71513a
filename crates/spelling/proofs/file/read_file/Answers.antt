use Rattle.std.proofs.Common.{ap, subst, ◌∙◌, arith}
use Rattle.spelling.specs.Layers.{single, of_version}
use Rattle.spelling.specs.Outcome.{Delivers}
use Rattle.spelling.proofs.LayersLaws.{file_found, file_only}
use Rattle.spelling.proofs.file.read_file.Goals as goal

pub returns-clause-found : goal.returns-clause-found
returns-clause-found g c = file_found c.args.magic.now c.args.version g.T.Formatted.format c.args.bytes.now c.checked.result g.T.Formatted.is_format (λ i. omega (arith, c.type_inv.bytes i)) c.checked.ensures

pub returns-clause-only : goal.returns-clause-only
returns-clause-only g c = λ x fits e. subst (λ r. Delivers (of_version c.args.version) c.checked.result r) (ap (single c.args.magic.now c.args.version g.T.Formatted.format) e ∙ file_only c.args.magic.now c.args.version g.T.Formatted.format x (omega arith) (omega (arith, c.ranges.version)) g.T.Formatted.is_format fits) c.checked.ensures
