use Rattle.std.proofs.Common.{refl}
use Rattle.commands.proofs.RunLaws.{named_at}
use Rattle.commands.proofs.delivery.one_of.Goals as goal

pub returns : goal.returns
returns c =
    named_at (λ name. name.now) c.args.names.now c.args.place _ _ _ c.unwrap_or.result
    c.unwrap_or.ensures c.copied.ensures c.get.ensures.lookup.4 refl
