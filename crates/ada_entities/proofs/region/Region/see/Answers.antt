use Rattle.std.proofs.Common.{◌≡◌, true, false, is_none, sym, ap, ◌∙◌}
use Rattle.ada_rules.specs.Entities as rules
use Rattle.ada_entities.specs.EntityViews.{entity_of, region_of}
use Rattle.ada_entities.proofs.RegionLaws.{found_none, seen_before, seen_last}
use Rattle.ada_entities.proofs.region.Region.see.Goals as goal

pub returns-then-is_some : goal.returns-then-is_some
returns-then-is_some c k =
    let name = c.args.name.items in
    let r = region_of k c.args.self.now in
    let found = c.find.ensures k ∙ ap (λ n. rules.entity_of n r) c.as_slice.ensures.value in
    let taken : is_none (rules.entity_of name r) ≡ false = found_none (entity_of k) c.find.result _ true found (sym c.is_some.ensures ∙ c.if-is_some.true) in
    sym (seen_before name (entity_of k c.args.entity) r taken)

pub returns : goal.returns
returns c =
    let old = c.args.self.now in
    seen_last c.args.name.items c.args.entity old c.put.new.self c.put.result c.put.ensures
    (λ k.
    let found = c.find.ensures k ∙ ap (λ n. rules.entity_of n (region_of k old)) c.as_slice.ensures.value in
    found_none (entity_of k) c.find.result _ false found (sym c.is_some.ensures ∙ c.if-is_some.false))
