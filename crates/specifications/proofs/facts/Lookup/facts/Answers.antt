use Rattle.std.proofs.Common.{map, sym, ap, ◌∙◌}
use Rattle.ada_rules.specs.Instances as rules
use Rattle.specifications.specs.Actuals.{actual_of, actuals_of}
use Rattle.specifications.proofs.Listing.{map_map}
use Rattle.specifications.proofs.facts.Lookup.facts.Goals as goal

pub returns : goal.returns
returns c k w h =
    let xs = c.args.actuals.now in
    let formals = c.in_ok-all_facts.ensures h.units.known k h.units.begins h.spans
    ∙ sym (map_map (rules.fact_of c.args.self.now.instances.now) (actual_of k) xs)
    ∙ ap (λ fs. map (rules.fact_of fs) (actuals_of k xs)) (sym h.instances) in
    λ z. record { generic = c.in_ok-generic_unit.ensures k w h.units z; formals = formals z; constants = (c.from.ensures ∙ c.new.ensures.items) z }
