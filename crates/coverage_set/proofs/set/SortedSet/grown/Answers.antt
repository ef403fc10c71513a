use Rattle.coverage_set.proofs.Merged.{sorted_merged, has_both}
use Rattle.std.proofs.Common.{inl, inr}
use Rattle.coverage_set.proofs.set.SortedSet.grown.Goals as goal

pub invariant_of-result : goal.invariant_of-result
invariant_of-result g c =
    rw (c.in_ok-items.ensures, c.as_slice.ensures.value, c.as_slice-2.ensures.value)
    (sorted_merged g.T.Ord.cmp g.met.T.Ord.total c.self.inside.items.items c.more.inside.items.items c.self.invariant c.more.invariant)

pub returns : goal.returns
returns g c = λ x.
    rw (c.in_ok-items.ensures, c.as_slice.ensures.value, c.as_slice-2.ensures.value, ← c.self.view_is, ← c.more.view_is)
    (has_both g.T.Ord.cmp (λ y z same. g.met.T.Exact.exact y z same) x c.self.inside.items.items c.more.inside.items.items)

pub returns-then-has_all : goal.returns-then-has_all
returns-then-has_all g c = λ x. (λ some. inl some, λ either. elim either [ inl own ↦ own | inr other ↦ c.has_all.ensures c.if-has_all.true x other ])
