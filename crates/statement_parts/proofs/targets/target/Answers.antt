use Rattle.std.proofs.Common.{rules, option_map, sym, ap, ◌∙◌}
use Rattle.ada_rules.specs.Plan.{answer_at}
use Rattle.ada_rules.specs.Environment.{typed_rule, given}
use Rattle.ada_rules.specs.Statements.{any_variable, writable}
use Rattle.ada_judged.specs.JudgedView.{variable_of}
use Rattle.ada_phrases.specs.Answers.{counted}
use Rattle.ada_phrases.specs.DenotedView.{denotes}
use Rattle.ada_phrases.proofs.Parts.{answers_as}
use Rattle.statement_parts.proofs.Ends.{gives_as}
use Rattle.statement_parts.proofs.Plans.{target_refused, target_passes}
use Rattle.statement_parts.proofs.targets.target.Goals as goal

pub returns-in_err-denoted : goal.returns-in_err-denoted
returns-in_err-denoted c k env s h =
    let r = target_refused env (counted c.args.decisions.now s) c.args.name.now c.in_err-denoted.field-0.0 (c.in_err-denoted.ensures k env s h) in
    search (rules, r)

pub returns : goal.returns
returns c k env s h =
    let d = given (denotes k c.in_ok-denoted.denoted) (counted c.denoted.new.decisions s) in
    answers_as (λ v. given (variable_of k v) d.next) _ _ c.typed.result
    (target_passes env (counted c.args.decisions.now s) c.args.name.now d (c.in_ok-denoted.ensures k env s h)
    ∙ ap (λ p. answer_at p (typed_rule env.step (given any_variable d.next) (option_map (λ v. given v d.next) (writable d.value))).outcome) (sym c.pos.ensures))
    (gives_as (variable_of k) (λ v. v) d.next c.pos.result env.step c.args.site.now.step c.any_variable.result c.writable.result any_variable (writable d.value)
    c.typed.result h.step (c.any_variable.ensures k) (c.writable.ensures k) c.typed.ensures)
