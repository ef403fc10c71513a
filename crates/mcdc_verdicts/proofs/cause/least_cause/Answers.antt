use Rattle.std.proofs.Common.{arith}
use Rattle.std.proofs.lemmas.Grind.{common_steps}
use Rattle.std.proofs.Common.{◌≡◌, [], None, drop, sym, ap, subst, ◌∙◌}
use Rattle.std.proofs.lemmas.List.{drop_all}
use Rattle.cov_base.specs.Expr.{size}
use Rattle.cov_base.specs.Lists.{Everywhere}
use Rattle.decision_meaning.specs.Pair.{IsLeastPair, is_unique_cause}
use Rattle.cov_base.specs.Path.{IsPathVector}
use Rattle.mcdc_verdicts.specs.Search.{IsWord, best_of}
use Rattle.mcdc_verdicts.specs.View.{pair_view}
use Rattle.mcdc_verdicts.proofs.Searching.{search_finds}
use Rattle.mcdc_verdicts.proofs.cause.least_cause.Goals as goal

pub returns : goal.returns
returns c = λ e is.
    let test = is_unique_cause e c.args.c.0 in
    let vectors = c.args.vectors.now in
    let none : drop c.loop-v.v-index vectors ≡ [] = drop_all c.loop-v.v-index vectors c.loop-v-test.false in
    let words : Everywhere IsWord vectors = c.loop-v.invariant.2 (subst (λ vs. Everywhere IsWord vs) (sym none) tt) in
    let found : pair_view c.loop-v.best ≡ best_of test vectors vectors None =
    ap (λ vs. best_of test vs vectors (pair_view c.loop-v.best)) (sym none) ∙ c.loop-v.invariant.1 e is in
    subst (λ answer. IsLeastPair (size e) test vectors answer) (sym found)
    (search_finds e test vectors (subst (λ es. Everywhere (IsPathVector es) vectors) is c.requires) words)

pub loop-v-preserved : goal.loop-v-preserved
loop-v-preserved c = grind (arith, common_steps) steps 2000000
