use Rattle.std.proofs.Common.{◌≡◌, true, false, is_none, ap, sym, ◌∙◌, subst}
use Rattle.std.proofs.lemmas.Result.{err_from_is_err_and}
use Rattle.ada_rules.specs.Entities as rules
use Rattle.ada_rules.specs.Entities.{key}
use Rattle.ada_entities.specs.Answers.{Refuses, refused_at, no_memory}
use Rattle.ada_entities.specs.EntityViews.{entity_of, region_of}
use Rattle.ada_entities.specs.RegionCode.{declaration, with_entry}
use Rattle.ada_entities.proofs.RegionLaws.{found_none, declared_twice, declared_last}
use Rattle.ada_entities.proofs.region.Region.declare.Goals as goal

pub returns-in_err-lower-clause-refused : goal.returns-in_err-lower-clause-refused
returns-in_err-lower-clause-refused c =
    let p = err_from_is_err_and c.from_residual.result c.from_residual.ensures.1 in
    rw (p.1, p.2) (λ k. no_memory)

pub returns-then-is_some-clause-refused : goal.returns-then-is_some-clause-refused
returns-then-is_some-clause-refused c k =
    let i = c.args.name.now in
    let r = region_of k c.args.self.now in
    let x = entity_of k c.args.entity in
    let found = c.find.ensures k ∙ ap (λ n. rules.entity_of n r) (c.as_slice.ensures.value ∙ c.in_ok-lower.ensures) in
    let taken : is_none (rules.entity_of (key i) r) ≡ false = found_none (entity_of k) c.find.result _ true found (sym c.is_some.ensures ∙ c.if-is_some.true) in
    subst (λ f. Refuses (declaration r i x) f) (sym c.refused.ensures) (refused_at (declared_twice r i x taken))

pub returns-in_err-put-clause-refused : goal.returns-in_err-put-clause-refused
returns-in_err-put-clause-refused c =
    let p = err_from_is_err_and c.from_residual-in_err-put.result c.from_residual-in_err-put.ensures.1 in
    rw (p.1, p.2) (λ k. no_memory)

pub returns-clause-declared : goal.returns-clause-declared
returns-clause-declared c k =
    let i = c.args.name.now in
    let r = region_of k c.args.self.now in
    let named = c.in_ok-lower.ensures in
    let found = c.find.ensures k ∙ ap (λ n. rules.entity_of n r) (c.as_slice.ensures.value ∙ named) in
    let new : is_none (rules.entity_of (key i) r) ≡ true = found_none (entity_of k) c.find.result _ false found (sym c.is_some.ensures ∙ c.if-is_some.false) in
    let last = c.in_ok-put.ensures ∙ ap (λ n. with_entry n c.args.entity c.args.self.now) named in
    declared_last k i c.args.entity c.args.self.now c.put.new.self last new
