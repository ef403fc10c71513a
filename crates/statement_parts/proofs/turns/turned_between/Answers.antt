use Rattle.std.proofs.Common.{rules, sym, ap, ◌∙◌}
use Rattle.ada_rules.specs.Plan.{answer_at}
use Rattle.ada_rules.specs.Environment.{given}
use Rattle.ada_rules.specs.Expressions.{itself, judged}
use Rattle.ada_rules.specs.Statements.{any_turns}
use Rattle.ada_judged.specs.declared.judged.Judged.{Judged}
use Rattle.ada_judged.specs.JudgedView.{judged_of}
use Rattle.ada_phrases.specs.Answers.{counted}
use Rattle.ada_phrases.proofs.Parts.{answers_as}
use Rattle.statement_parts.specs.Turns.{turns_in, range_between}
use Rattle.statement_parts.proofs.Handed.{pair_first, pair_passes, pair_refuses}
use Rattle.statement_parts.proofs.Ends.{gives_as}
use Rattle.statement_parts.proofs.TurnLaws.{then_turned, low_refused, high_refused, both_pass}
use Rattle.statement_parts.proofs.turns.turned_between.Goals as goal

pub returns-in_err-low-clause-turned : goal.returns-in_err-low-clause-turned
returns-in_err-low-clause-turned c k env s h b =
    let r = low_refused env (counted c.args.decisions.now s) c.args.bounds.now c.in_err-low.field-0.0 (c.in_err-low.ensures k env s h) in
    search (rules, r)

pub returns-in_err-low-2-clause-turned : goal.returns-in_err-low-2-clause-turned
returns-in_err-low-2-clause-turned c k env s h b =
    let x = given (judged_of k c.in_ok-low.low) (counted c.judged.new.decisions s) in
    let f = c.in_err-low-2.field-0.0 in
    let r = high_refused env (counted c.args.decisions.now s) c.args.bounds.now x (c.in_ok-low.ensures k env s h) f
    (pair_refuses c.in_ok-low.low (λ y. given (judged_of k y) (counted c.judged-high.new.decisions s)) (judged env itself x.next c.args.bounds.now.high).answer c.judged-high.result f
    c.in_err-low-2.ensures (c.judged-high.ensures k env s h)) in
    search (rules, r)

pub returns-clause-turned : goal.returns-clause-turned
returns-clause-turned c k env s h b =
    let s0 = counted c.args.decisions.now s in
    let low = c.in_ok-low.low in
    let both : Judged × Judged = (c.in_ok-low-2.low, c.in_ok-low-2.high) in
    let x = given (judged_of k low) (counted c.judged.new.decisions s) in
    let y = given (judged_of k both.1) (counted c.judged-high.new.decisions s) in
    let passed = pair_passes low (λ v. given (judged_of k v) y.next) (judged env itself x.next c.args.bounds.now.high).answer c.judged-high.result both c.in_ok-low-2.ensures
    (c.judged-high.ensures k env s h) in
    answers_as (λ t. given (turns_in k t) y.next) _ _ c.typed.result
    (both_pass env s0 c.args.bounds.now x (c.in_ok-low.ensures k env s h) y passed
    ∙ ap (λ p. answer_at p (then_turned env s0 x y).outcome) (sym c.pos.ensures))
    (gives_as (turns_in k) (λ t. t) y.next c.pos.result env.step c.args.site.now.step c.any.result c.in_ok-found.found any_turns (range_between x.value y.value)
    c.typed.result h.step (c.any.ensures k)
    (c.in_ok-found.ensures.turns k b ∙ ap (λ l. range_between (judged_of k l) y.value) (pair_first low c.judged-high.result both c.in_ok-low-2.ensures)) c.typed.ensures)
