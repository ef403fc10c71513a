use Rattle.std.proofs.Common.{◌∙◌, refl}
use Rattle.exemptions.specs.Marks.{exempt_on}
use Rattle.exemptions.proofs.Spellings.{behind_in-behind}
use Rattle.exemptions.proofs.mark.behind_exempt_on.Goals as goal

pub returns : goal.returns
returns c = c.behind.ensures ∙ behind_in-behind _ exempt_on c.args.tokens.now refl
