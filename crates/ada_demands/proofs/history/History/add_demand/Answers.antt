use Rattle.ada_demands.specs.Past.{nothing, past_of, past_at, with_demand}
use Rattle.ada_demands.proofs.GroupLaws.{at_grown}
use Rattle.ada_demands.proofs.PastLaws.{one_demand}
use Rattle.ada_demands.proofs.history.History.add_demand.Goals as goal

pub returns : goal.returns
returns c =
    let groups = c.make_room.new.self.groups.items in
    let x = c.index_mut-group.result.now in
    at_grown past_of nothing groups c.args.generic _ (with_demand c.args.demand.now) (past_at c.args.self.now) c.in_ok-make_room.ensures.there c.make_room.ensures.same
    (one_demand groups c.args.generic x c.push.new.self c.args.demand c.in_ok-make_room.ensures.there c.index_mut-group.ensures.value c.in_ok-push.ensures.items)
