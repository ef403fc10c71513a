use Rattle.std.proofs.Common.{◌≡◌, drop}
use Rattle.cov_base.specs.Lists.{Somewhere}
use Rattle.coverage_set.proofs.set.SortedSet.has_all.Given as goal

-- it is enough that the items that are left stand here
abbrev pub invariant-loop-item : goal.invariant-loop-item
invariant-loop-item g l =
    ((x : g.row.T.Denot) → Somewhere (λ y. y ≡ x) (drop l.item-index l.item-items) → Somewhere (λ y. y ≡ x) l.self)
    → (x : g.row.T.Denot) → Somewhere (λ y. y ≡ x) l.more → Somewhere (λ y. y ≡ x) l.self
