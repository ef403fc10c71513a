use Rattle.std.proofs.Common.{rules, option_map, sym, ap, ◌∙◌}
use Rattle.ada_rules.specs.Plan.{ruled, answer_at}
use Rattle.ada_rules.specs.Environment.{given}
use Rattle.ada_rules.specs.Expressions.{mark_or_any}
use Rattle.ada_phrases.specs.Answers.{counted}
use Rattle.ada_phrases.specs.DenotedView.{denotes}
use Rattle.ada_phrases.specs.Scopes.{step_of}
use Rattle.ada_phrases.proofs.Parts.{answers_as}
use Rattle.program_walk.specs.Marks.{marked_of}
use Rattle.program_walk.proofs.MarkLaws.{mark_passes, mark_refused}
use Rattle.program_walk.proofs.site.Site.mark.Goals as goal

pub returns-in_err-denoted : goal.returns-in_err-denoted
returns-in_err-denoted c k env s h =
    let r = mark_refused env (counted c.args.decisions.now s) c.args.name.now c.in_err-denoted.field-0.0 (c.in_err-denoted.ensures k env s h) in
    search (rules, r)

pub returns : goal.returns
returns c k env s h =
    let st = step_of c.args.self.now.step in
    let d = given (denotes k c.in_ok-denoted.denoted) (counted c.denoted.new.decisions s) in
    answers_as (λ m. given (marked_of k m) d.next) _ _ c.mark-found.result
    (mark_passes env (counted c.args.decisions.now s) c.args.name.now st d h.step (c.in_ok-denoted.ensures k env s h)
    ∙ ap (λ p. answer_at p (ruled (option_map (λ m. given m d.next) (mark_or_any st d.value)))) (sym c.pos.ensures))
    (c.mark-found.ensures k d.next)
