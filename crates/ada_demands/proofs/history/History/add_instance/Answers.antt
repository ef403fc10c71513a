use Rattle.ada_demands.specs.Past.{nothing, past_of, past_at, with_instance}
use Rattle.ada_demands.proofs.GroupLaws.{at_grown}
use Rattle.ada_demands.proofs.PastLaws.{one_instance}
use Rattle.ada_demands.proofs.history.History.add_instance.Goals as goal

pub returns : goal.returns
returns c =
    let groups = c.make_room.new.self.groups.items in
    let x = c.index_mut-group.result.now in
    at_grown past_of nothing groups c.args.generic _ (with_instance c.args.instance) (past_at c.args.self.now) c.in_ok-make_room.ensures.there c.make_room.ensures.same
    (one_instance groups c.args.generic x c.push.new.self c.args.instance c.in_ok-make_room.ensures.there c.index_mut-group.ensures.value c.in_ok-push.ensures.items)
