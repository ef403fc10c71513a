use Rattle.std.proofs.Common.{◌∙◌, sym, subst, IsUtf8}
use Rattle.json_report.proofs.Letters.{vector_utf8}
use Rattle.json_report.proofs.strings.vector_value.Goals as goal

pub text_value-requires : goal.text_value-requires
text_value-requires c = subst IsUtf8 (sym (c.as_slice.ensures ∙ c.in_ok-text.ensures)) (vector_utf8 c.args.conditions c.args.vector)
