use Rattle.std.proofs.Common.{◌∙◌, refl}
use Rattle.exemptions.specs.Marks.{exempt_off}
use Rattle.exemptions.proofs.Spellings.{behind_in-behind}
use Rattle.exemptions.proofs.mark.behind_exempt_off.Goals as goal

pub returns : goal.returns
returns c = c.behind.ensures ∙ behind_in-behind _ exempt_off c.args.tokens.now refl
