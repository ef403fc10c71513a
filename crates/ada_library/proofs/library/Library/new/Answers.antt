use Rattle.std.proofs.Common.{nat_eq, length, refl, ap, ◌∙◌}
use Rattle.ada_rules.specs.Library.{names_from, units_but_bodies, dependency_order}
use Rattle.ada_library.specs.UnitNaming.{AreNames}
use Rattle.ada_library.proofs.GraphLaws.{graph_alike}
use Rattle.ada_library.proofs.NameLaws.{made}
use Rattle.ada_library.proofs.library.Library.new.Goals as goal

pub returns : goal.returns
returns c standard =
    let us = c.args.units.now in
    let parts = c.in_ok-names-2.ensures in
    let names = c.in_ok-names.ensures in
    let d = made _ c.new-dependencies.result c.in_ok-names-2.dependencies (made _ c.both-graph.result _ parts.first c.both-graph.ensures.second) c.new-dependencies.ensures in
    let alike = graph_alike c.in_ok-names.names.units (names_from 0 us) names.named us in
    let order = d.ordered ∙ ap (λ g. dependency_order g (units_but_bodies 0 us)) alike in
    let kept = made (AreNames us) _ c.in_ok-names-2.names (made _ c.both-graph.result _ parts.first c.both-graph.ensures.first) names in
    record {
      of_units = refl;
      named = kept.named;
      package_bodies = kept.bodies;
      leads = d.leads ∙ alike;
      ordered = order;
      complete = d.complete ∙ ap (λ ns. nat_eq (length ns) (length (units_but_bodies 0 us))) order;
      numbered = made _ c.new-bodies.result c.in_ok-names-2.bodies (made _ c.both-numbers.result _ parts.second c.both-numbers.ensures.first) c.new-bodies.ensures;
      instances = made _ c.new-2.result c.in_ok-names-2.instances (made _ c.both-numbers.result _ parts.second c.both-numbers.ensures.second) c.new-2.ensures;
    }
