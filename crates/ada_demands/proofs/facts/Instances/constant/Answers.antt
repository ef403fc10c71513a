use Rattle.std.proofs.Common.{sym, ap, ◌∙◌}
use Rattle.ada_meaning.specs.Resolved.{owner_in}
use Rattle.ada_meaning.specs.Statics.{static_value}
use Rattle.ada_tree.specs.View.{owner_of, static_by, static_value_of}
use Rattle.ada_rules.specs.Statics.{instance_values, value_in}
use Rattle.ada_judged.specs.ada_entities.specs.EntityViews.{value_or}
use Rattle.ada_demands.specs.KnownViews.{known_values}
use Rattle.ada_demands.proofs.TreeLaws.{value_by}
use Rattle.ada_demands.proofs.facts.Instances.constant.Goals as goal

pub returns : goal.returns
returns c =
    let instances = c.args.self.now in
    let e = static_value_of c.in_ok-value.value in
    let o = c.args.constant.owner in
    c.value.ensures
    ∙ (ap (λ n. static_value (known_values c.of.result) n e) c.owner_in.ensures
    ∙ (ap (λ v. static_value v (owner_in c.args.instance (owner_of o)) e) c.of.ensures.values
    ∙ (sym (value_by (instance_values instances) c.args.instance o e)
    ∙ ap (λ w. value_in instances c.args.instance (static_by o (value_or w))) (sym c.in_ok-value.was))))
