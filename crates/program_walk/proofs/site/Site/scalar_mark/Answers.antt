use Rattle.std.proofs.Common.{rules, option_map, unwrap_or, sym, ap, ◌∙◌}
use Rattle.std.specs.Option.{option_and_then}
use Rattle.ada_rules.specs.Plan.{answer_at}
use Rattle.ada_rules.specs.Environment.{typed_rule, given}
use Rattle.ada_rules.specs.Expressions.{any_mark, marked, scalar_only}
use Rattle.ada_phrases.specs.Answers.{counted}
use Rattle.ada_phrases.specs.DenotedView.{denotes}
use Rattle.ada_phrases.specs.Scopes.{step_of}
use Rattle.ada_phrases.proofs.Parts.{answers_as}
use Rattle.program_walk.specs.Marks.{marked_of}
use Rattle.program_walk.proofs.MarkLaws.{scalar_passes, scalar_refused}
use Rattle.program_walk.proofs.site.Site.scalar_mark.Goals as goal

pub returns-in_err-denoted : goal.returns-in_err-denoted
returns-in_err-denoted c k env s h =
    let r = scalar_refused env (counted c.args.decisions.now s) c.args.name.now c.in_err-denoted.field-0.0 (c.in_err-denoted.ensures k env s h) in
    search (rules, r)

pub returns : goal.returns
returns c k env s h =
    let st = step_of c.args.self.now.step in
    let d = given (denotes k c.in_ok-denoted.denoted) (counted c.denoted.new.decisions s) in
    let o = marked d.value in
    answers_as (λ m. given (marked_of k m) d.next) _ _ c.scalar_mark-found.result
    (scalar_passes env (counted c.args.decisions.now s) c.args.name.now st d h.step (c.in_ok-denoted.ensures k env s h)
    ∙ ap (λ p. answer_at p (typed_rule st (given (unwrap_or o any_mark) d.next) (option_map (λ m. given m d.next) (option_and_then scalar_only o))).outcome)
    (sym c.pos.ensures))
    (c.scalar_mark-found.ensures k d.next)
