use Rattle.std.proofs.Common.{◌∙◌, ap, ap₂, codes}
use Rattle.std.proofs.lemmas.Result.{IfOk-weaker}
use Rattle.clap.specs.Words.{App, new_app, with_rule}
use Rattle.command_words.specs.Lines.{output_option, required_option}
use Rattle.command_words.proofs.commands.compile_line.compile_line.Goals as goal

pub returns : goal.returns
returns c =
    let first : App = with_rule (new_app (codes "compile")) (required_option (codes "main")) in
    let one = IfOk-weaker c.arg-line.result _ _ (λ line added. added.shape c.required_option.ensures.local ∙ ap₂ with_rule c.new.ensures.app c.required_option.ensures.rule) c.arg-line.ensures in
    let two = IfOk-weaker c.with_argument-line.result _ _ (λ line added. added ∙ ap (with_rule first) c.output_option.ensures.rule) (c.with_argument-line.ensures first one) in
    let second : App = with_rule first (output_option (codes "object")) in
    IfOk-weaker c.with_argument.result _ _ (λ line added. added ∙ ap (with_rule second) c.required_names.ensures.rule) (c.with_argument.ensures second two)
