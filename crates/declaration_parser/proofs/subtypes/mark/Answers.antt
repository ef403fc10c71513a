use Rattle.std.proofs.Common.{ap, sym, ◌∙◌}
use Rattle.declaration_parser.specs.SubtypeReading as read
use Rattle.declaration_parser.proofs.SubtypeCode.{no_name_alone}
use Rattle.declaration_parser.proofs.subtypes.mark.Goals as goal

pub returns : goal.returns
returns c =
    let p = no_name_alone c.into_parts-kind.result.0 c.into_parts-kind.result.1 c.into_parts-kind.ensures.chain c.in_default.not-Name in
    ap (λ z. read.mark_alone z c.args.tokens.now) (sym (ap read.name_alone c.into_parts-kind.ensures.form) ∙ p)
