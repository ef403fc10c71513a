use Rattle.std.proofs.Common.{List, Option, subst}
use Rattle.cov_base.specs.declared.event.Vector.{Vector}
use Rattle.cov_base.specs.Expr.{size}
use Rattle.cov_base.specs.Graph.{Edges}
use Rattle.cov_base.specs.Lists.{Everywhere}
use Rattle.decision_meaning.specs.Pair.{IsLeastPair, is_masking}
use Rattle.cov_base.specs.Path.{IsPathVector}
use Rattle.mcdc_verdicts.specs.View.{pair_view}
use Rattle.mcdc_verdicts.proofs.Searching.{no_cause_pair}
use Rattle.mcdc_verdicts.proofs.pair.unique_cause.Goals as goal

pub returns-in-None : goal.returns-in-None
returns-in-None c = record {
  least = λ e is.
      let vectors = c.args.vectors.now in
      no_cause_pair e c.args.c.0 vectors (subst (λ (es : List Edges). Everywhere (IsPathVector es) vectors) is c.requires)
      (subst (λ (answer : Option (Vector × Vector)). IsLeastPair (size e) (is_masking e c.args.c.0) vectors (pair_view answer)) c.in-None.is
      (c.masking.ensures.least e is));
}
