use Rattle.std.proofs.Common.{map, reverse, ap, ◌∙◌}
use Rattle.std.proofs.lemmas.List.{map_push}
use Rattle.ada_tree.specs.Programs.{constant_of}
use Rattle.ada_tree.specs.View.{scalar_range_of, static_of}
use Rattle.ada_demands.specs.DemandViews.{asked_of}
use Rattle.ada_demands.proofs.NamedLaws.{entered_is}
use Rattle.ada_demands.proofs.statics.Statics.enter_constant.Goals as goal

pub returns : goal.returns
returns c k s =
    let old = c.args.self.now in
    entered_is (record s { demands = reverse (map (asked_of k) old.demands.items) }) c.args.generic (scalar_range_of c.args.range) (static_of c.args.value)
    (map constant_of old.constants) (map constant_of c.add.new.self) c.in_ok-number.number c.in_ok-number.ensures.number
    (ap (map constant_of) c.in_ok-number.ensures.added
    ∙ map_push constant_of old.constants (record { generic = c.args.generic; value = c.args.value; range = c.args.range }))
