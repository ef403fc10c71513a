use Rattle.std.proofs.Common.{◌≡◌, option_map, refl, sym, ap, ◌∙◌}
use Rattle.std.proofs.lemmas.List.{drop_all}
use Rattle.ada_tree.specs.View.{others_of}
use Rattle.ada_rules.specs.Declarations.{value_for}
use Rattle.ada_entities.specs.Tables.{parts_of}
use Rattle.ada_entities.specs.Views.{subtype_of}
use Rattle.object_values.proofs.ValueLaws.{alone, turn_in, stops_in}
use Rattle.object_values.proofs.reach.reached.Goals as goal

pub loop-init : goal.loop-init
loop-init c known k b e =
    rw c.new-indices.ensures.items (sym (alone (value_for (subtype_of k.types c.args.subtype) c.args.others.now e)))

pub loop-preserved : goal.loop-preserved
loop-preserved c known k b e =
    let parts = sym (c.in_ok-index.ensures known k b) ∙ ap (option_map (parts_of k.types)) c.in-Some.is in
    rw c.in_ok-push.ensures.items (c.loop.invariant known k b e
    ∙ turn_in (subtype_of k.types c.loop.component) c.args.others.now c.loop.index e c.loop.indices.items c.in-Some.index.range
    (subtype_of k.types c.in-Some.index) (subtype_of k.types c.in-Some.within) c.loop-test.true parts refl)

pub returns-in_default : goal.returns-in_default
returns-in_default c known k b e =
    let parts = sym (c.in_ok-index.ensures known k b) ∙ ap (option_map (parts_of k.types)) c.in_default.is in
    c.loop.invariant known k b e
    ∙ stops_in (subtype_of k.types c.loop.component) c.args.others.now c.loop.index e c.loop.indices.items c.loop-test.true parts

pub returns : goal.returns
returns c known k b e =
    c.loop.invariant known k b e
    ∙ ap (λ ps. option_map (others_of c.loop.indices.items) (value_for (subtype_of k.types c.loop.component) ps e))
    (drop_all c.loop.index c.args.others.now c.loop-test.false)
