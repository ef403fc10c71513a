use Rattle.std.proofs.Common.{◌≡◌, true, false, not, is_none, ap, sym, ◌∙◌}
use Rattle.ada_rules.specs.Entities as rules
use Rattle.ada_rules.specs.Entities.{key}
use Rattle.ada_entities.specs.EntityViews.{entity_of, region_of}
use Rattle.ada_entities.proofs.RegionLaws.{found_none, redefined_absent, put_redefines}
use Rattle.ada_entities.proofs.region.Region.redefine.Goals as goal

pub returns-then-is_none : goal.returns-then-is_none
returns-then-is_none c k =
    let i = c.args.name.now in
    let r = region_of k c.args.self.now in
    let found = c.find.ensures k ∙ ap (λ n. rules.entity_of n r) (c.as_slice.ensures.value ∙ c.in_ok-lower.ensures) in
    let absent : is_none (rules.entity_of (key i) r) ≡ true = found_none (entity_of k) c.find.result _ false found (c.is_none.ensures ∙ ap not c.if-is_none.true) in
    sym (redefined_absent (key i) (entity_of k c.args.entity) r absent)

pub returns : goal.returns
returns c =
    let old = c.args.self.now in
    let named = c.in_ok-lower.ensures in
    put_redefines (key c.args.name.now) c.args.entity old c.put.new.self c.in_ok-lower.lower.items named c.put.result c.put.ensures
    (λ k.
    let found = c.find.ensures k ∙ ap (λ n. rules.entity_of n (region_of k old)) (c.as_slice.ensures.value ∙ named) in
    found_none (entity_of k) c.find.result _ true found (c.is_none.ensures ∙ ap not c.if-is_none.false))
