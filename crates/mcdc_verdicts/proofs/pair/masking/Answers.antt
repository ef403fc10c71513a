use Rattle.std.proofs.Common.{◌≡◌, List, Option, true, false, None, ap, sym, subst, ◌∙◌}
use Rattle.cov_base.specs.declared.event.Vector.{Vector}
use Rattle.cov_base.specs.Expr.{size}
use Rattle.cov_base.specs.Graph.{Edges}
use Rattle.cov_base.specs.Lists.{Everywhere}
use Rattle.decision_meaning.specs.Pair.{Pair, IsLeastPair, is_masking}
use Rattle.cov_base.specs.Path.{IsPathVector}
use Rattle.mcdc_verdicts.specs.Search.{shows, lowest, pair_of}
use Rattle.mcdc_verdicts.specs.View.{pair_view}
use Rattle.mcdc_verdicts.proofs.Lowest.{lowest_pair}
use Rattle.mcdc_verdicts.proofs.pair.masking.Goals as goal

pub returns : goal.returns
returns c = record {
  least = λ e is.
      let vectors = c.args.vectors.now in
      let low : Option Vector = lowest (shows e c.args.c.0 false) vectors None in
      let high : Option Vector = lowest (shows e c.args.c.0 true) vectors None in
      let found : pair_view c.pair_of.result ≡ pair_of low high =
      c.pair_of.ensures
      ∙ ap (λ (v : Option Vector). pair_of v c.lowest-2.result) (c.lowest.ensures.lowest e is)
      ∙ ap (λ (w : Option Vector). pair_of low w) (c.lowest-2.ensures.lowest e is) in
      subst (λ (answer : Option Pair). IsLeastPair (size e) (is_masking e c.args.c.0) vectors answer) (sym found)
      (lowest_pair e c.args.c.0 vectors (subst (λ (es : List Edges). Everywhere (IsPathVector es) vectors) is c.requires) c.lowest.ensures.words);
}
