use Rattle.std.proofs.Common.{sym, ◌∙◌}
use Rattle.coverage_set.proofs.Members.{stands_found}
use Rattle.coverage_set.proofs.Searched.{is_found}
use Rattle.coverage_set.proofs.set.SortedSet.has.Goals as goal

pub returns : goal.returns
returns g c =
    rw (← c.self.view_is, ← c.as_slice.ensures.value) (
      (λ yes. stands_found g.T.Ord.cmp g.met.T.Exact.exact c.as_slice.result.now c.args.item.now c.binary_search.result c.binary_search.ensures.bound c.binary_search.ensures.ok
          (sym c.is_ok.ensures.value ∙ yes)),
      (λ some. c.is_ok.ensures.value ∙ is_found g.T.Ord.cmp g.met.T.Ord.total c.args.item.now c.as_slice.result.now (rw c.as_slice.ensures.value c.self.invariant) c.binary_search.result
          c.binary_search.ensures.bound c.binary_search.ensures.position some),
    )
