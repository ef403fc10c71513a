use Rattle.std.proofs.Common.{Some, None, if◌then◌else◌, sym, ap, ◌∙◌}
use Rattle.std.proofs.lemmas.Result.{err_from_is_err_and}
use Rattle.ada_rules.specs.Plan.{ruled, answer_at}
use Rattle.ada_rules.specs.Subprograms as subprograms
use Rattle.ada_entities.specs.Answers.{refused_at, no_memory}
use Rattle.specifications.proofs.closing.closed_by.Goals as goal

pub returns-in_err-repeats : goal.returns-in_err-repeats
returns-in_err-repeats c p =
    let e = err_from_is_err_and c.from_residual.result c.from_residual.ensures.1 in
    rw (e.1, e.2) no_memory

pub returns-then-not-branch : goal.returns-then-not-branch
returns-then-not-branch c p =
    let q = c.in-Some.end_name.pos in
    rw c.refused.ensures (refused_at (ap (λ end. (subprograms.closed_by p c.args.name.now end).answer) c.in-Some.is
    ∙ ap (λ b. answer_at q (ruled (if b then Some tt else None))) (sym c.in_ok-repeats.ensures ∙ c.if-not-branch.true)))
