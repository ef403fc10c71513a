use Rattle.std.proofs.Common.{◌∙◌, ap, ap₂, codes}
use Rattle.std.proofs.lemmas.Result.{IfOk-weaker}
use Rattle.clap.specs.Words.{App, new_app, with_rule}
use Rattle.command_words.specs.Lines.{budget_option, output_option, required_option}
use Rattle.command_words.proofs.commands.run_line.run_line.Goals as goal

pub returns : goal.returns
returns c =
    let first : App = with_rule (new_app (codes "run")) (required_option (codes "input")) in
    let one = IfOk-weaker c.arg-line.result _ _ (λ line added. added.shape c.required_option.ensures.local ∙ ap₂ with_rule c.new.ensures.app c.required_option.ensures.rule) c.arg-line.ensures in
    let two = IfOk-weaker c.with_argument-line.result _ _ (λ line added. added ∙ ap (with_rule first) c.budget_option.ensures.rule) (c.with_argument-line.ensures first one) in
    let second : App = with_rule first budget_option in
    let three = IfOk-weaker c.with_argument-line-2.result _ _ (λ line added. added ∙ ap (with_rule second) c.output_option.ensures.rule) (c.with_argument-line-2.ensures second two) in
    let third : App = with_rule second (output_option (codes "trace")) in
    IfOk-weaker c.with_argument.result _ _ (λ line added. added ∙ ap (with_rule third) c.required_name.ensures.rule) (c.with_argument.ensures third three)
