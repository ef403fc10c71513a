use Rattle.std.proofs.lemmas.Grind.{common_steps}
use Rattle.std.proofs.Common.{◌≡◌, true, sym, subst, arith}
use Rattle.std.proofs.lemmas.Bool.Decides.{nat_tests}
use Rattle.decision_map.specs.Decisions.{expression_at}
use Rattle.cov_base.specs.Path.{IsPathVector}
use Rattle.coverage_set.proofs.consolidated.is_possible.Goals as goal

pub returns-then-not-has : goal.returns-then-not-has
returns-then-not-has c = (
  λ no. absurd (cc no),
  λ is. let here : c.has.result ≡ true = c.has.ensures.1 ((c.requires _).1 is.decided) in
      let no = c.if-not-has.true in
      absurd cc,
)

pub returns : goal.returns
returns c =
    let v = c.args.entry.now.vector in (
      λ yes. record {
        known = grind (arith, nat_tests, c.len.ensures, c.if-decision-len.false);
        decided = (c.requires _).0 (c.has.ensures.0 c.if-not-has.false);
        path = subst (λ g. IsPathVector g v) c.graph.ensures.exact (c.is_path.ensures.path yes);
      },
      λ is. (c.is_path.ensures.exact (expression_at c.args.map.now c.args.entry.now.decision.0) c.graph.ensures.exact).1 (subst (λ g. IsPathVector g v) (sym c.graph.ensures.exact) is.path),
    )

pub graph-requires : goal.graph-requires
graph-requires c = grind (arith, common_steps)

pub returns-then-decision-len : goal.returns-then-decision-len
returns-then-decision-len c = grind (arith, common_steps)
