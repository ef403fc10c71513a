use Rattle.std.proofs.Common.{rules, option_map, sym, ap, ◌∙◌}
use Rattle.ada_rules.specs.Plan.{answer_at}
use Rattle.ada_rules.specs.Environment.{typed_rule, given}
use Rattle.ada_rules.specs.Statements.{any_selector, selector_of}
use Rattle.ada_judged.specs.JudgedView.{judged_of}
use Rattle.ada_phrases.specs.Answers.{counted}
use Rattle.ada_phrases.proofs.Parts.{answers_as}
use Rattle.statement_parts.specs.Selectors.{selector_in}
use Rattle.statement_parts.proofs.Ends.{gives_as}
use Rattle.statement_parts.proofs.Plans.{selector_refused, selector_passes}
use Rattle.statement_parts.proofs.selectors.find_selector.Goals as goal

pub returns-in_err-value : goal.returns-in_err-value
returns-in_err-value c k env s h =
    let r = selector_refused env (counted c.args.decisions.now s) c.args.expr.now c.in_err-value.field-0.0 (c.in_err-value.ensures k env s h) in
    search (rules, r)

pub returns : goal.returns
returns c k env s h =
    let x = given (judged_of k c.in_ok-value.value) (counted c.judged.new.decisions s) in
    answers_as (λ y. given (selector_in k y) x.next) _ _ c.typed.result
    (selector_passes env (counted c.args.decisions.now s) c.args.expr.now x (c.in_ok-value.ensures k env s h)
    ∙ ap (λ p. answer_at p (typed_rule env.step (given any_selector x.next) (option_map (λ y. given y x.next) (selector_of x.value))).outcome) (sym c.pos.ensures))
    (gives_as (selector_in k) (λ y. y) x.next c.pos.result env.step c.args.site.now.step c.any_selector.result c.in_ok-found.found any_selector (selector_of x.value)
    c.typed.result h.step (c.any_selector.ensures k) (c.in_ok-found.ensures k) c.typed.ensures)
