use Rattle.std.proofs.Common.{rules, arith}
use Rattle.std.proofs.lemmas.Grind.{common_steps}
use Rattle.std.proofs.Common.{sym, ap, subst, unwrap_or}
use Rattle.object_format.specs.declared.object.Object.{Object}
use Rattle.coverage_set.specs.Consolidated.{ArePossible}
use Rattle.coverage_set.specs.Covered.{Covered}
use Rattle.coverage_set.proofs.Members.{in_one_more}
use Rattle.coverage_set.proofs.Possible.{union_possible}
use Rattle.coverage_set.proofs.coverage.Coverage.grow.Goals as goal

pub invariant_of-self : goal.invariant_of-self
invariant_of-self c =
    rw c.take.ensures
    (union_possible c.self.inside.object.now c.self.inside.events c.args.found.now _ c.in_ok-events.ensures c.self.invariant
    (subst (λ (o : Object). ArePossible o c.args.found.now) (sym (ap (λ (k : Covered). k.object) c.self.view_is)) c.requires))

pub returns-clause-events : goal.returns-clause-events
returns-clause-events c = rw (← c.self.view_is, c.take.ensures) c.in_ok-events.ensures

pub returns-clause-runs : goal.returns-clause-runs
returns-clause-runs c =
    rw (← c.self.view_is, c.take-2.ensures) (λ digest. in_one_more c.self.inside.runs c.in_ok-single.single (unwrap_or c.in_ok-runs.runs c.self.inside.runs) c.args.closing digest
    c.in_ok-single.ensures (c.in_ok-runs.ensures digest))

pub returns-in_err-events : goal.returns-in_err-events
returns-in_err-events c = search rules

pub returns-in_err-runs : goal.returns-in_err-runs
returns-in_err-runs c = search rules

pub returns-clause-object : goal.returns-clause-object
returns-clause-object c = grind (arith, common_steps)
