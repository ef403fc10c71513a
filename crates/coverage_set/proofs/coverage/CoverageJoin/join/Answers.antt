use Rattle.std.proofs.Common.{◌≡◌, refl, sym, ap, subst, ◌∙◌}
use Rattle.object_format.specs.declared.object.Object.{Object}
use Rattle.coverage_set.specs.Consolidated.{ArePossible}
use Rattle.coverage_set.specs.Covered.{Covered}
use Rattle.coverage_set.proofs.Possible.{union_possible}
use Rattle.coverage_set.proofs.coverage.CoverageJoin.join.Goals as goal

pub invariant_of-self : goal.invariant_of-self
invariant_of-self c =
    let same : c.other.inside.object.now ≡ c.self.inside.object.now =
    ap (λ (k : Covered). k.object) c.other.view_is ∙ c.requires ∙ sym (ap (λ (k : Covered). k.object) c.self.view_is) in
    rw c.take.ensures
    (union_possible c.self.inside.object.now c.self.inside.events c.other.inside.events _ c.in_ok-events.ensures c.self.invariant
    (subst (λ (o : Object). ArePossible o c.other.inside.events) same c.other.invariant))

pub returns-clause-ok : goal.returns-clause-ok
returns-clause-ok c =
    rw (← c.self.view_is, ← c.other.view_is, c.take.ensures, c.take-2.ensures) (record { object = refl; runs = c.in_ok-runs.ensures; events = c.in_ok-events.ensures })
