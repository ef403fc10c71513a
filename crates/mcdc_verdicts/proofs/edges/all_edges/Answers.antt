use Rattle.std.proofs.Common.{◌≡◌, ◌<◌, true, false, List, length, ap, subst, arith, refl}
use Rattle.cov_base.specs.Expr.{Expr, size}
use Rattle.cov_base.specs.Graph.{Edges, graph, IsTree}
use Rattle.cov_base.specs.Path.{IsPathVector}
use Rattle.cov_base.specs.Lists.{Everywhere}
use Rattle.decision_meaning.specs.Verdict.{PathsTakeAllEdges}
use Rattle.cov_base.proofs.Edges.{length_graph}
use Rattle.mcdc_verdicts.proofs.Taking.{both_are_all, pairs_of_paths, takes_all}
use Rattle.mcdc_verdicts.proofs.edges.all_edges.Goals as goal

-- an edge that isn't taken is one of all
not_all : (c : goal.Then-not-takes_both) → (e : Expr) → c.args.dec.now ≡ graph e → PathsTakeAllEdges e c.args.vectors.now → ⊥
not_all c e is all =
    let below : c.loop-number.number < size e =
    omega (arith, ap length is, length_graph e, c.conditions-number-end.ensures.count, c.loop-number-test.true) in
    let taken : c.takes_both.result ≡ true =
    (c.takes_both.ensures e is).1 (all c.loop-number.number false below, all c.loop-number.number true below) in
    cc (taken, c.if-not-takes_both.true)

all_taken : (c : goal.After-loop-number) → (e : Expr) → c.args.dec.now ≡ graph e → PathsTakeAllEdges e c.args.vectors.now
all_taken c e is k value below =
    c.loop-number.invariant e is k value
    (omega (arith, ap length is, length_graph e, c.conditions-number-end.ensures.count, c.loop-number-test.false, below))

pub returns-then-not-takes_both-clause-exact : goal.returns-then-not-takes_both-clause-exact
returns-then-not-takes_both-clause-exact c = λ e is. (λ never. absurd (cc never), λ all. absurd (not_all c e is all))

pub returns-then-not-takes_both-clause-of_paths : goal.returns-then-not-takes_both-clause-of_paths
returns-then-not-takes_both-clause-of_paths c = λ e is paths.
    let of_graph = subst (λ (es : List Edges). Everywhere (IsPathVector es) c.args.vectors.now) is paths in
    (λ never. absurd (cc never), λ all. absurd (not_all c e is ((takes_all e c.args.vectors.now of_graph).1 all)))

pub loop-number-preserved : goal.loop-number-preserved
loop-number-preserved c = λ e is.
    both_are_all e c.args.vectors.now c.loop-number.number (c.loop-number.invariant e is) ((c.takes_both.ensures e is).0 c.if-not-takes_both.false)

pub returns-clause-exact : goal.returns-clause-exact
returns-clause-exact c = λ e is. (λ yes. all_taken c e is, λ all. refl)

pub returns-clause-of_paths : goal.returns-clause-of_paths
returns-clause-of_paths c = λ e is paths.
    let of_graph = subst (λ (es : List Edges). Everywhere (IsPathVector es) c.args.vectors.now) is paths in
    (λ yes. (takes_all e c.args.vectors.now of_graph).0 (all_taken c e is), λ all. refl)

pub returns-clause-unique_cause : goal.returns-clause-unique_cause
returns-clause-unique_cause c = λ e is yes tree k below.
    (pairs_of_paths e (subst IsTree is tree) c.args.vectors.now (all_taken c e is) k below).0

pub returns-clause-masking : goal.returns-clause-masking
returns-clause-masking c = λ e is yes tree k below.
    (pairs_of_paths e (subst IsTree is tree) c.args.vectors.now (all_taken c e is) k below).1
