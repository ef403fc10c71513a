use Rattle.std.proofs.Common.{◌≡◌, List, sym, subst, ◌∙◌}
use Rattle.std.proofs.lemmas.Result.{IfOk-weaker}
use Rattle.std.specs.List.Sorted.{IsStrictlySortedBy}
use Rattle.cov_base.specs.declared.event.Event.{Event}
use Rattle.coverage_set.specs.Exact.{event_cmp}
use Rattle.coverage_set.proofs.Order.{ordered}
use Rattle.coverage_set.proofs.coverage.Coverage.events.Goals as goal

pub returns-clause-order : goal.returns-clause-order
returns-clause-order c =
    IfOk-weaker c.from_slice.result (λ v. v.items ≡ c.as_slice.result.now) (λ v. IsStrictlySortedBy event_cmp v.items)
    (λ v is. subst (λ (es : List Event). IsStrictlySortedBy event_cmp es) (sym (is ∙ c.as_slice.ensures.items)) (ordered c.self.inside.events c.as_slice.ensures.sorted))
    c.from_slice.ensures.items

pub returns-clause-possible : goal.returns-clause-possible
returns-clause-possible c = rw (← c.self.view_is) c.self.invariant
