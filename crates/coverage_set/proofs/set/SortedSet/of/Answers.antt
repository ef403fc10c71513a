use Rattle.std.proofs.Common.{sym, ◌∙◌}
use Rattle.std.proofs.lemmas.List.Filters.{dedup_is}
use Rattle.std.proofs.lemmas.List.Kept.{IsStrictlySortedBy-dedup}
use Rattle.coverage_set.proofs.Members.{kept_all, equal_by}
use Rattle.coverage_set.proofs.set.SortedSet.of.Goals as goal

pub invariant_of-result : goal.invariant_of-result
invariant_of-result g c =
    rw (dedup_is g.T.PartialEq.eq c.sort_unstable.new.self.items c.dedup.new.self.items c.dedup.ensures.filtered)
    (IsStrictlySortedBy-dedup g.met.T.Ord.total g.met.T.Ord.matches_eq c.sort_unstable.new.self.items c.sort_unstable.ensures.sorted)

pub returns : goal.returns
returns g c =
    rw (dedup_is g.T.PartialEq.eq c.sort_unstable.new.self.items c.dedup.new.self.items c.dedup.ensures.filtered)
    (kept_all g.T.PartialEq.eq g.met.T.Eq.laws
    (λ x y same. g.met.T.Exact.exact x y (equal_by g.T.Ord.cmp x y (sym (g.met.T.Ord.matches_eq x y) ∙ same)))
    c.args.list.items c.sort_unstable.new.self.items c.sort_unstable.ensures.permutation)
