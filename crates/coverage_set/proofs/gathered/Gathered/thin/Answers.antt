use Rattle.std.proofs.Common.{List, IsPermutation, sym, subst, ◌∙◌}
use Rattle.std.proofs.lemmas.List.Filters.{dedup_is}
use Rattle.coverage_set.proofs.Members.{kept_all, equal_by}
use Rattle.coverage_set.proofs.gathered.Gathered.thin.Goals as goal

pub returns : goal.returns
returns g c =
    rw (dedup_is g.T.PartialEq.eq c.sort_unstable.new.self.items c.dedup.new.self.items c.dedup.ensures.filtered)
    (kept_all g.T.PartialEq.eq g.met.T.Eq.laws
    (λ x y same. g.met.T.Exact.exact x y (equal_by g.T.Ord.cmp x y (sym (g.met.T.Ord.matches_eq x y) ∙ same)))
    c.args.self.now c.sort_unstable.new.self.items
    (subst (λ (xs : List g.row.T.Denot). IsPermutation xs c.sort_unstable.new.self.items) c.self.view_is c.sort_unstable.ensures.permutation))
