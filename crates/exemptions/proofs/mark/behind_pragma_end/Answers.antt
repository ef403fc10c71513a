use Rattle.std.proofs.Common.{◌∙◌, refl}
use Rattle.exemptions.specs.Marks.{pragma_end}
use Rattle.exemptions.proofs.Spellings.{behind_in-behind}
use Rattle.exemptions.proofs.mark.behind_pragma_end.Goals as goal

pub returns : goal.returns
returns c = c.behind.ensures ∙ behind_in-behind _ pragma_end c.args.tokens.now refl
