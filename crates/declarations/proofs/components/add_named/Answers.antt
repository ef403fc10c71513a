use Rattle.std.proofs.Common.{sym, ◌∙◌}
use Rattle.ada_entities.specs.Views.{subtype_of}
use Rattle.declarations.proofs.FieldLaws.{turn_named, all_named}
use Rattle.declarations.proofs.components.add_named.Goals as goal

pub loop-name-preserved : goal.loop-name-preserved
loop-name-preserved c k rest =
    turn_named k c.loop-name.fields.items c.push.new.self.items c.from-name.result c.args.subtype rest c.args.names.now c.loop-name.name-index _ c.loop-name-test.true
    c.name-item.is (c.from-name.ensures ∙ c.in_ok-key.ensures) c.in_ok-push.ensures.items
    ∙ c.loop-name.invariant k rest

pub returns : goal.returns
returns c k rest =
    sym (all_named k c.loop-name.fields.items (subtype_of k c.args.subtype) rest c.args.names.now c.loop-name.name-index c.loop-name-test.false)
    ∙ c.loop-name.invariant k rest
