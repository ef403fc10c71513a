use Rattle.std.proofs.Common.{◌≡◌, List, sym, subst, ◌∙◌}
use Rattle.cov_base.specs.Lists.{Somewhere}
use Rattle.coverage_set.proofs.Members.{same_at, equal_by}
use Rattle.coverage_set.proofs.gathered.Gathered.has_at.Goals as goal

pub returns-in-Some : goal.returns-in-Some
returns-in-Some g c same =
    let x = c.in-Some.known.now in
    let y = c.args.item.now in
    let one : x ≡ y = g.met.T.Exact.exact x y (equal_by g.T.Ord.cmp x y (sym (g.met.T.Ord.matches_eq x y) ∙ (sym c.eq.ensures ∙ same))) in
    let found = c.in-Some.ensures.lookup in
    subst (λ (ys : List g.row.T.Denot). Somewhere (λ z. z ≡ y) ys) (c.deref.ensures.value ∙ c.self.view_is)
    (same_at c.deref.result.now c.args.place x y found.1 found.3.0 one)
