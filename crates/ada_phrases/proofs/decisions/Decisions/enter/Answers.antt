use Rattle.std.proofs.Common.{◌≡◌, true, Some, sym, ap, ◌∙◌}
use Rattle.ada_rules.specs.Expressions.{entered}
use Rattle.ada_phrases.specs.Answers.{counted}
use Rattle.ada_phrases.specs.Closing.{label_if}
use Rattle.ada_phrases.proofs.decisions.Decisions.enter.Goals as goal

pub returns-clause-label : goal.returns-clause-label
returns-clause-label c s =
    let opens : c.args.opens ≡ true = c.if-not-opens.false in
    ap (λ l. Some l) (c.in_ok-number.ensures.label s) ∙ ap (λ b. label_if b (counted c.args.self.now s) c.args.pos) (sym opens)

pub returns-clause-entered : goal.returns-clause-entered
returns-clause-entered c s =
    let opens : c.args.opens ≡ true = c.if-not-opens.false in
    c.in_ok-number.ensures.taken s ∙ ap (λ b. entered b (counted c.args.self.now s)) (sym opens)
