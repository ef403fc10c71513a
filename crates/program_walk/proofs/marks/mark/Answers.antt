use Rattle.std.proofs.Common.{Ok, unwrap_or, option_map, sym, ap, ◌∙◌}
use Rattle.std.specs.Option.{ok_or}
use Rattle.ada_rules.specs.Plan.{ruled, answer_at}
use Rattle.ada_rules.specs.Environment.{given}
use Rattle.ada_rules.specs.Expressions.{any_mark, marked, mark_or_any}
use Rattle.ada_phrases.specs.DenotedView.{denotes}
use Rattle.ada_phrases.specs.Scopes.{step_of}
use Rattle.ada_phrases.proofs.Parts.{answers_as}
use Rattle.program_walk.specs.Marks.{marked_of}
use Rattle.program_walk.proofs.MarkLaws.{asked_for}
use Rattle.program_walk.proofs.marks.mark.Goals as goal

pub returns-in-Naming : goal.returns-in-Naming
returns-in-Naming c k s =
    let d = denotes k c.args.denoted.now in
    ap (λ st. answer_at c.args.pos (ruled (option_map (λ m. given m s) (mark_or_any (step_of st) d)))) c.in-Naming.is
    ∙ ap (λ m. Ok (given m s)) (sym (c.or_any.ensures k ∙ ap (λ o. unwrap_or o any_mark) (c.of-found.ensures k)))

pub returns-in-Typing : goal.returns-in-Typing
returns-in-Typing c k s =
    let d = denotes k c.args.denoted.now in
    let found = c.of-found.result in
    answers_as (λ m. given (marked_of k m) s) _ _ c.ok_or.result
    (ap (λ st. answer_at c.args.pos (ruled (option_map (λ m. given m s) (mark_or_any (step_of st) d)))) c.in-Typing.is)
    (asked_for (marked_of k) s c.args.pos found (marked d) c.ok_or.result (c.of-found.ensures k) (c.ok_or.ensures.value ∙ ap (ok_or found) c.refused.ensures))
