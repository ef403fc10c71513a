use Rattle.std.proofs.Common.{map, option_map, sym, ap, ◌∙◌}
use Rattle.ada_tree.specs.Programs.{bounds_of}
use Rattle.ada_tree.specs.View.{choice_of}
use Rattle.ada_rules.specs.Statics.{is_covered, named_once, sorted}
use Rattle.ada_demands.specs.DemandViews.{is_present}
use Rattle.ada_demands.proofs.facts.Instances.is_covered.Goals as goal

pub returns : goal.returns
returns c =
    let instances = c.args.self.now in
    let others = is_present c.args.others in
    let values = c.in-Some.values in
    c.named_once.ensures instances
    ∙ (ap (λ xs. named_once instances others values.first values.last (map bounds_of xs)) c.as_slice.ensures.value
    ∙ (ap (named_once instances others values.first values.last) (c.in_ok-sort_by_first.ensures instances ∙ ap (sorted instances) c.in_ok-named.ensures)
    ∙ ap (λ v. is_covered instances c.args.instance others (map choice_of c.args.choices.now) (option_map bounds_of v)) (sym c.in-Some.is)))
