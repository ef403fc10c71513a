use Rattle.std.proofs.Common.{map, sym, ap, ◌∙◌}
use Rattle.ada_rules.specs.Entities.{key}
use Rattle.ada_rules.specs.Instances as rules
use Rattle.specifications.specs.Actuals.{actual_of, actuals_of}
use Rattle.specifications.proofs.Listing.{map_map}
use Rattle.specifications.proofs.facts.Lookup.instance.Goals as goal

pub returns : goal.returns
returns c k w i h same =
    let xs = c.args.actuals.now in
    let actuals = c.in_ok-all_typed.ensures h.units.known k h.units.begins h.spans
    ∙ sym (map_map (rules.typed_actual c.args.self.now.instances.now) (actual_of k) xs)
    ∙ ap (λ fs. map (rules.typed_actual fs) (actuals_of k xs)) (sym h.instances) in
    λ z. record {
      name = (c.from.ensures ∙ c.in_ok-key.ensures ∙ ap key (sym same)) z;
      place = c.args.pos;
      generic = c.in_ok-generic_unit.ensures k w h.units z;
      actuals = actuals z;
      constants = (c.from-2.ensures ∙ c.new.ensures.items) z;
    }
