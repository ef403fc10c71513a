use Rattle.std.proofs.Common.{false, ap, ◌∙◌, slice_get, unwrap_or}
use Rattle.ada_tree.specs.View.{owner_of}
use Rattle.ada_entities.specs.EntityViews.{no_routine, awaits_body, awaiting, routine_by}
use Rattle.ada_entities.proofs.RoutineLaws.{routine_after}
use Rattle.ada_entities.proofs.entity.RoutineName.seen.Goals as goal

pub returns : goal.returns
returns c k =
    let r = unwrap_or (slice_get k.routines c.args.self.number) no_routine in
    ap (λ o. awaiting false (routine_by k o r)) c.owner_seen.ensures
    ∙ routine_after k c.args.instance (awaits_body c.args.self.completion) (owner_of c.args.self.seen) r
