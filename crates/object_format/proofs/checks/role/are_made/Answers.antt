use Rattle.std.proofs.Common.{length, refl}
use Rattle.object_format.proofs.Cycles.{complete}
use Rattle.object_format.proofs.checks.role.are_made.Goals as goal

pub returns : goal.returns
returns c =
    complete c.args.decisions.now c.args.conditions.now c.args.present.now c.len.result (length c.args.conditions.now) c.are_followed.result
    c.requires.made c.len.ensures.len refl c.are_followed.ensures c.requires.known
