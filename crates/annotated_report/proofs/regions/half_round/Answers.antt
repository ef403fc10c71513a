use Rattle.std.proofs.Common.{◌≡◌, ◌+◌, true, false, sym, subst, ap, ◌∙◌, rules, arith}
use Rattle.annotated_report.specs.Held.{number_round}
use Rattle.annotated_report.specs.Rising.{rise, begins_before}
use Rattle.annotated_report.proofs.Halving.{earlier_rise, later_rise, earlier_answers, later_answer}
use Rattle.annotated_report.proofs.regions.half_round.Goals as goal

pub returns-then-begins_before-clause-risen : goal.returns-then-begins_before-clause-risen
returns-then-begins_before-clause-risen c up =
    later_rise c.split_at.result.0.now c.split_at.result.1.now (subst (λ l. rise l ≡ true) c.split_at.ensures.by_index.0 up)

pub returns-then-begins_before-clause-same : goal.returns-then-begins_before-clause-same
returns-then-begins_before-clause-same c before up =
    let begun : begins_before c.args.pos c.split_at.result.1.now ≡ true = search rules in
    ap (λ k. number_round c.args.pos (before + k) c.split_at.result.1.now) (sym c.split_at.ensures.front_len)
    ∙ later_answer c.args.pos before c.split_at.result.0.now c.split_at.result.1.now begun
    (subst (λ l. rise l ≡ true) c.split_at.ensures.by_index.0 up)
    ∙ sym (ap (number_round c.args.pos before) c.split_at.ensures.by_index.0)

pub returns-clause-risen : goal.returns-clause-risen
returns-clause-risen c up =
    earlier_rise c.split_at.result.0.now c.split_at.result.1.now (subst (λ l. rise l ≡ true) c.split_at.ensures.by_index.0 up)

pub returns-clause-same : goal.returns-clause-same
returns-clause-same c before up =
    let later : begins_before c.args.pos c.split_at.result.1.now ≡ false = search rules in
    let same : before + 0 ≡ before = omega arith in
    ap (λ k. number_round c.args.pos k c.split_at.result.0.now) same
    ∙ earlier_answers c.args.pos before c.split_at.result.0.now c.split_at.result.1.now later
    (subst (λ l. rise l ≡ true) c.split_at.ensures.by_index.0 up)
    ∙ sym (ap (number_round c.args.pos before) c.split_at.ensures.by_index.0)
