use Rattle.std.proofs.Common.{◌≡◌, false, List, sym, subst, ◌∙◌}
use Rattle.cov_base.specs.Graph.{Edges}
use Rattle.cov_base.specs.Marks.{marks}
use Rattle.decision_meaning.specs.Unmasked.{unmasked}
use Rattle.cov_base.specs.Lists.{Everywhere}
use Rattle.decision_meaning.specs.Pair.{is_unique_cause}
use Rattle.cov_base.specs.Path.{IsPathVector}
use Rattle.mcdc_verdicts.specs.View.{pair_view}
use Rattle.mcdc_verdicts.proofs.Searching.{behind_row, masked_row}
use Rattle.mcdc_verdicts.proofs.cause.best_with.Goals as goal

pub returns-then-is_behind-clause-least : goal.returns-then-is_behind-clause-least
returns-then-is_behind-clause-least c = λ e is.
    behind_row (is_unique_cause e c.args.c.0) c.args.v c.args.vectors.now (pair_view c.args.before)
    (sym c.is_behind.ensures ∙ c.if-is_behind.true)

pub returns-then-not-has-clause-least : goal.returns-then-not-has-clause-least
returns-then-not-has-clause-least c = λ e is.
    let masked : unmasked e (marks c.args.v) c.args.c.0 ≡ false =
    sym (c.unmasked.ensures e is c.requires.first c.args.c.0) ∙ sym c.has.ensures ∙ c.if-not-has.true in
    masked_row e c.args.c.0 c.args.v c.args.vectors.now (pair_view c.args.before)
    (subst (λ (es : List Edges). IsPathVector es c.args.v) is c.requires.first)
    (subst (λ (es : List Edges). Everywhere (IsPathVector es) c.args.vectors.now) is c.requires.vectors) masked
