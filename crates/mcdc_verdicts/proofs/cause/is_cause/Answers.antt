use Rattle.std.proofs.Common.{◌≡◌, true, false, not, sym, ap, subst, ◌∙◌}
use Rattle.cov_base.specs.Marks.{marks, same, outcome}
use Rattle.cov_base.specs.Path.{IsPathVector}
use Rattle.mcdc_verdicts.proofs.Causing.{TurnsOnly, cause_by_outcomes, no_cause, path-unseen, beq-same, same-swap}
use Rattle.mcdc_verdicts.proofs.cause.is_cause.Goals as goal

pub returns-then-has_only : goal.returns-then-has_only
returns-then-has_only c = λ e is.
    let v = marks c.args.v in
    let w = marks c.args.w in
    let only : TurnsOnly c.args.c.0 v w = λ d. sym (c.turned.ensures d) ∙ c.has_only.ensures.0 c.if-has_only.true d in
    let outcomes : same c.outcome.result c.args.given ≡ same (outcome e v) (outcome e w) =
    ap (λ b. same b c.args.given) (c.outcome.ensures e is)
    ∙ ap (λ b. same (outcome e w) b) (c.requires.given e is)
    ∙ same-swap (outcome e w) (outcome e v) in
    ap not (beq-same c.outcome.result c.args.given ∙ outcomes)
    ∙ sym (cause_by_outcomes e c.args.c.0 v w only)

pub returns-else-has_only : goal.returns-else-has_only
returns-else-has_only c = λ e is.
    let v = marks c.args.v in
    let w = marks c.args.w in
    let unseen = path-unseen e c.args.v (subst (λ es. IsPathVector es c.args.v) is c.requires.first) in
    let never : TurnsOnly c.args.c.0 v w → ⊥ = λ only.
    let yes : c.has_only.result ≡ true = c.has_only.ensures.1 (λ d. c.turned.ensures d ∙ only d) in
    let no : c.has_only.result ≡ false = c.if-has_only.false in
    cc in
    c.if-has_only.false
    ∙ sym (no_cause e c.args.c.0 v w unseen never)
