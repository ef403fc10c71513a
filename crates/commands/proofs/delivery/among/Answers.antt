use Rattle.std.proofs.Common.{map}
use Rattle.commands.proofs.RunLaws.{behind_first}
use Rattle.commands.proofs.delivery.among.Goals as goal

pub returns-in-Some : goal.returns-in-Some
returns-in-Some c =
    behind_first c.args.first.now (map (λ name. name.now) c.args.later.now) c.args.place c.in-Some.place c.one_of.result.now
    c.in-Some.ensures.0 c.in-Some.ensures.1 c.one_of.ensures
