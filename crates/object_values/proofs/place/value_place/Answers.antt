use Rattle.std.proofs.Common.{option_map, refl, sym, ap, ◌∙◌}
use Rattle.std.proofs.lemmas.List.{drop_all}
use Rattle.ada_rules.specs.Declarations.{value_place}
use Rattle.ada_entities.specs.Tables.{parts_of}
use Rattle.ada_entities.specs.Views.{subtype_of}
use Rattle.object_values.proofs.PlaceLaws.{at_end, turn_in, stops_in}
use Rattle.object_values.proofs.place.value_place.Goals as goal

pub loop-other-init : goal.loop-other-init
loop-other-init c known k b = refl

pub loop-other-preserved : goal.loop-other-preserved
loop-other-preserved c known k b =
    let parts = sym (c.in_ok-within.ensures known k b) ∙ ap (option_map (parts_of k.types)) c.in-Some.is in
    sym (turn_in c.loop-other.place (subtype_of k.types c.loop-other.component) c.args.others.now c.loop-other.other-index _ _ _ c.loop-other-test.true parts)
    ∙ c.loop-other.invariant known k b

pub returns-in_default : goal.returns-in_default
returns-in_default c known k b =
    let parts = sym (c.in_ok-within.ensures known k b) ∙ ap (option_map (parts_of k.types)) c.in_default.is in
    sym (stops_in c.loop-other.place (subtype_of k.types c.loop-other.component) c.args.others.now c.loop-other.other-index c.loop-other-test.true parts)
    ∙ c.loop-other.invariant known k b

pub returns : goal.returns
returns c known k b =
    sym (at_end c.loop-other.place (subtype_of k.types c.loop-other.component))
    ∙ (ap (value_place c.loop-other.place (subtype_of k.types c.loop-other.component)) (sym (drop_all c.loop-other.other-index c.args.others.now c.loop-other-test.false))
    ∙ c.loop-other.invariant known k b)
